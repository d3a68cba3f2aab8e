-- What the told file holds, by what was read of it and by the next answer.
use Rattle.std.proofs.Common.{arith, refl, sym, ap, subst, ◌∙◌, ◌≡◌, ℕ, ◌≤◌, false, List, [], ◌++◌, length, take, drop, Option, Some, None, append_assoc}
use Rattle.std.proofs.lemmas.List.{length-append, append-nil, take-append-le, drop-append-le}
use Rattle.am_base.specs.Shelves.{Told, Takes, IsAtEnd}
use Rattle.am_base.specs.Files.{OnFile, IsPartRead, KeepsFiles}
use Rattle.am_pcap.specs.Packets.{Packet, HoldsPackets}
use Rattle.am_pcap.specs.Heads.{IsHead}
use Rattle.am_pcap.specs.Captures.{Summary, HasSummary, HasRecords, IsCapture, IsRefusedAfter}
use Rattle.am_pcap.specs.Seeking.{reading_with}
use Rattle.am_pcap.specs.Readings.{Reading, HasGiven, IsCut, AreRefused}
use Rattle.am_pcap.specs.declared.seeking.TheConstants.{MAX_READ}
use Rattle.am_pcap.specs.CaptureFiles.{HasHead, Begins, BeginsWith, IsWholeCapture, IsLong, IsRefusedIn, IsRefusedBehind, IsReadWhole, ReadsOn, WhyStopped}
use Rattle.am_pcap.specs.Answers.{GivesEnd, GivesFault, GivesRefusal, GivesError, EndsReading, StopsReading}
use Rattle.am_pcap.specs.declared.refusal.CapError.{CapError}
use Rattle.am_pcap.specs.declared.head.Head.{Head}
use Rattle.am_pcap.specs.declared.capture.FileError.{FileError}
use Rattle.am_pcap.specs.declared.capture.FileError.TheVariants.{Missing, ReadFault, TooLong, Bad, Memory}
use Rattle.am_pcap.proofs.Judged.{head-unique, head-not_refused}
use Rattle.am_pcap.proofs.Shelved.{part-more, part-keeps}
use Rattle.am_pcap.proofs.Splitting.{packets-append}

-- the named file begins with the bytes that were read, and has no others where the shelf is at its end
pub on-part :
    (P : List ℕ → Type 0) (before now : Option Told) (name bytes : List ℕ) → IsPartRead before now name bytes
    → ((rest : List ℕ) → (IsAtEnd now → rest ≡ []) → P (bytes ++ rest)) → OnFile before name P
on-part P None now name bytes p f = tt
on-part P (Some t) now name bytes p f = (bytes ++ p.0, p.1, f p.0 (λ e. subst (λ x. IsAtEnd x) p.2 e))

-- bytes that begin so still do with more behind them
pub begins-append :
    (bytes more : List ℕ) (h : Head) (ps : List Packet) (rest : List ℕ) → Begins bytes h ps rest → Begins (bytes ++ more) h ps (rest ++ more)
begins-append bytes more h ps rest b =
    let a : take 24 (bytes ++ more) ≡ take 24 bytes = take-append-le 24 bytes more b.whole in
    let d : drop 24 (bytes ++ more) ≡ drop 24 bytes ++ more = drop-append-le 24 bytes more b.whole in
    record {
      whole = omega (arith, b.whole, length-append bytes more);
      head = subst (λ x. IsHead h x) (sym a) b.head;
      records = subst (λ x. HoldsPackets h.form.big x ps (rest ++ more)) (sym d) (packets-append h.form.big (drop 24 bytes) ps rest more b.records);
    }

begins-parts :
    (bytes : List ℕ) (ps : List Packet) (head : Option Head) (count : ℕ) (u : List ℕ) (taken : ℕ) (e : Option CapError) (h : Head)
    → HasSummary bytes ps (record { head = head; count = count; unfinished = u; taken = taken; error = e }) → head ≡ Some h → Begins bytes h ps u
begins-parts bytes ps None count u taken e h s is = absurd (cc (is))
begins-parts bytes ps (Some k) count u taken e h s is =
    let same : k ≡ h = cc (is) in
    subst (λ x. Begins bytes x ps u) same (record { whole = s.split.whole; head = s.split.head; records = s.split.records })

begins-summary : (bytes : List ℕ) (ps : List Packet) (s : Summary) (h : Head) → HasSummary bytes ps s → s.head ≡ Some h → Begins bytes h ps s.unfinished
begins-summary bytes ps s h p is = begins-parts bytes ps s.head s.count s.unfinished s.taken s.error h p is

-- bytes that were read, and more behind them, begin with what was given
given-begins :
    (c : Reading) (h : Head) (bytes rest : List ℕ) (ps : List Packet)
    → HasGiven c bytes ps → c.decoded.summary.head ≡ Some h → c.read ≤ MAX_READ → BeginsWith (bytes ++ rest) h ps
given-begins c h bytes rest ps g head short =
    let first : Begins g.taken h ps c.decoded.summary.unfinished = begins-summary g.taken ps c.decoded.summary h g.summary head in
    let split : bytes ++ rest ≡ g.taken ++ (c.held ++ rest) = ap (λ x. x ++ rest) g.split ∙ append_assoc g.taken c.held rest in
    record {
      front = g.taken;
      rest = c.held ++ rest;
      behind = c.decoded.summary.unfinished;
      split = split;
      short = omega (arith, short, g.read, ap length g.split, length-append g.taken c.held);
      begins = first;
      all = subst (λ x. Begins x h ps (c.decoded.summary.unfinished ++ (c.held ++ rest))) (sym split)
          (begins-append g.taken (c.held ++ rest) h ps c.decoded.summary.unfinished first);
    }

-- a capture is read on, of which these bytes were read
pub reads-on :
    (before now : Option Told) (name bytes : List ℕ) (c : Reading) (h : Head) (ps : List Packet)
    → IsPartRead before now name bytes → HasGiven c bytes ps → c.over ≡ false → c.decoded.summary.head ≡ Some h → c.read ≤ MAX_READ
    → ReadsOn before now name c h ps
reads-on before now name bytes c h ps part given goes_on head short = record {
  bytes = bytes;
  part = part;
  given = given;
  goes_on = goes_on;
  head = head;
  short = short;
  counted = given.summary.count;
  kept = part-keeps before now name bytes part;
  begins = on-part (λ x. BeginsWith x h ps) before now name bytes part (λ rest end. given-begins c h bytes rest ps given head short);
}

-- and more bytes of the file were
read-more :
    (first before after : Option Told) (name : List ℕ) (c : Reading) (h : Head) (ps : List Packet) (more : List ℕ)
    → (on : ReadsOn first before name c h ps) → Takes before after more → IsPartRead first after name (on.bytes ++ more)
read-more first before after name c h ps more on took = part-more first before after name on.bytes more on.part took

ends-reading : (old : Reading) (before after : Option Told) → GivesEnd old before after → EndsReading old before after
ends-reading old before after e = λ first name h ps on.
    let part = read-more first before after name old h ps e.more on e.took in
    let w = e.whole on.bytes ps on.given in
    let same : w.0 ≡ h = cc (w.1, on.head) in
    let whole : IsWholeCapture (on.bytes ++ e.more) h ps =
    record { short = w.3; capture = subst (λ x. IsCapture (on.bytes ++ e.more) x ps) same w.2 } in (
      on-part (λ x. IsWholeCapture x h ps) first after name (on.bytes ++ e.more) part (λ rest end.
          let all : (on.bytes ++ e.more) ++ rest ≡ on.bytes ++ e.more = ap (λ x. (on.bytes ++ e.more) ++ x) (end e.at_end) ∙ append-nil (on.bytes ++ e.more) in
          subst (λ x. IsWholeCapture x h ps) (sym all) whole),
      e.at_end,
      part-keeps first after name (on.bytes ++ e.more) part,
    )

records-parts :
    (bytes : List ℕ) (ps : List Packet) (head : Option Head) (count : ℕ) (u : List ℕ) (taken : ℕ) (e : Option CapError) (h : Head)
    → HasSummary bytes ps (record { head = head; count = count; unfinished = u; taken = taken; error = e }) → HasHead bytes h
    → HasRecords bytes ps u h e
records-parts bytes ps None count u taken None h s is = absurd (omega (arith, is.whole, s.split.short))
records-parts bytes ps None count u taken (Some e) h s is = absurd (head-not_refused (take 24 bytes) h e is.head s.split.bad)
records-parts bytes ps (Some k) count u taken e h s is =
    let same : k ≡ h = head-unique (take 24 bytes) k h s.split.head is.head in subst (λ x. HasRecords bytes ps u x e) same s.split

-- a read failed: behind the file header stand the records that were given, and then no other whole one
stops-fault :
    (old : Reading) (first before after : Option Told) (name : List ℕ) (h : Head) (ps : List Packet)
    → ReadsOn first before name old h ps → GivesFault old before after → IsReadWhole first after name h ps
stops-fault old first before after name h ps on g =
    let w = g.all on.bytes ps on.given in
    let b = given-begins old h on.bytes g.more ps on.given on.head on.short in
    record {
      bytes = on.bytes ++ g.more;
      part = read-more first before after name old h ps g.more on g.took;
      unfinished = w.0.unfinished;
      error = w.0.error;
      records = records-parts (on.bytes ++ g.more) ps w.0.head w.0.count w.0.unfinished w.0.taken w.0.error h w.1
          (record { whole = b.all.whole; head = b.all.head });
    }

-- bytes that are refused so are so with more behind them
refused-in :
    (bytes rest : List ℕ) (e : CapError) (ps : List Packet) → AreRefused e bytes ps → (IsCut e → rest ≡ []) → length bytes ≤ MAX_READ
    → IsRefusedIn (bytes ++ rest) e ps
refused-in bytes rest e ps refused cut short = record {
  front = bytes;
  rest = rest;
  split = refl;
  short = short;
  all = cut;
  refused = subst (λ x. IsRefusedAfter e x ps) (append-nil bytes) (refused [] (λ c. refl));
}

stops-refused :
    (old : Reading) (first before after : Option Told) (name : List ℕ) (h : Head) (ps : List Packet) (e : CapError)
    → ReadsOn first before name old h ps → GivesRefusal old before after e → OnFile first name (λ bytes. IsRefusedBehind bytes h ps e)
stops-refused old first before after name h ps e on r =
    let w = r.refused on.bytes ps on.given in
    on-part (λ x. IsRefusedBehind x h ps e) first after name (on.bytes ++ r.more) (read-more first before after name old h ps r.more on r.took)
    (λ rest end.
    let b : BeginsWith ((on.bytes ++ r.more) ++ rest) h ps =
    subst (λ x. BeginsWith x h ps) (sym (append_assoc on.bytes r.more rest)) (given-begins old h on.bytes (r.more ++ rest) ps on.given on.head on.short) in
    record {
      begins = b;
      refused = refused-in (on.bytes ++ r.more) rest e ps w.0 (λ cut. end (w.1 cut)) w.2;
      only = λ k is. head-unique (take 24 ((on.bytes ++ r.more) ++ rest)) k h is.head b.all.head;
    })

stops-so :
    (old : Reading) (first before after : Option Told) (name : List ℕ) (h : Head) (ps : List Packet) (e : FileError)
    → ReadsOn first before name old h ps → GivesError old before after e → WhyStopped first after name h ps e
stops-so old first before after name h ps Missing on g = g
stops-so old first before after name h ps ReadFault on g = stops-fault old first before after name h ps on g
stops-so old first before after name h ps TooLong on g =
    on-part IsLong first after name (on.bytes ++ g.more) (read-more first before after name old h ps g.more on g.took)
    (λ rest end. omega (arith, g.long on.bytes ps on.given, length-append (on.bytes ++ g.more) rest))
stops-so old first before after name h ps (Bad e) on g = stops-refused old first before after name h ps e on g
stops-so old first before after name h ps Memory on g = g

stops-kept :
    (old : Reading) (first before after : Option Told) (name : List ℕ) (h : Head) (ps : List Packet) (e : FileError)
    → ReadsOn first before name old h ps → GivesError old before after e → KeepsFiles first after
stops-kept old first before after name h ps Missing on g = absurd g
stops-kept old first before after name h ps ReadFault on g =
    part-keeps first after name (on.bytes ++ g.more) (read-more first before after name old h ps g.more on g.took)
stops-kept old first before after name h ps TooLong on g =
    part-keeps first after name (on.bytes ++ g.more) (read-more first before after name old h ps g.more on g.took)
stops-kept old first before after name h ps (Bad e) on g =
    part-keeps first after name (on.bytes ++ g.more) (read-more first before after name old h ps g.more on g.took)
stops-kept old first before after name h ps Memory on g = absurd g

stops-reading : (old : Reading) (before after : Option Told) (e : FileError) → GivesError old before after e → StopsReading old before after e
stops-reading old before after e g = λ first name h ps on.
    (stops-so old first before after name h ps e on g, stops-kept old first before after name h ps e on g)

-- a capture that goes on is that of its parts
going : (c old : Reading) → c ≡ old → old.over ≡ false → reading_with c.decoded c.held c.read ≡ old
going c old view is =
    let on : c.over ≡ false = ap (λ x. x.over) view ∙ is in
    ap (λ o. record { decoded = c.decoded; held = c.held; read = c.read; over = o }) (sym on) ∙ view

-- what is answered at the end, in the words of the capture
pub record Ends (old : Reading) (before after : Option Told) : Type 0 where
  pub ended : EndsReading old before after
  pub at_end : GivesEnd old before after

pub ends-so :
    (old : Reading) {c : Reading} (before after : Option Told) → c ≡ old → old.over ≡ false
    → GivesEnd (reading_with c.decoded c.held c.read) before after → Ends old before after
ends-so old {c} before after view is e =
    let gives : GivesEnd old before after = subst (λ x. GivesEnd x before after) (going c old view is) e in
    record { ended = ends-reading old before after gives; at_end = gives }

-- and at an error
pub record Stops (old : Reading) (before after : Option Told) (e : FileError) : Type 0 where
  pub refused : StopsReading old before after e
  pub error : GivesError old before after e

pub stops-at :
    (old : Reading) {c : Reading} (before after : Option Told) (e : FileError) → c ≡ old → old.over ≡ false
    → GivesError (reading_with c.decoded c.held c.read) before after e → Stops old before after e
stops-at old {c} before after e view is g =
    let gives : GivesError old before after e = subst (λ x. GivesError x before after e) (going c old view is) g in
    record { refused = stops-reading old before after e gives; error = gives }
