-- How a capture comes to its file header, step by step.
use Rattle.std.proofs.Common.{arith, refl, sym, ap, subst, ◌∙◌, ◌≡◌, ℕ, ◌+◌, ◌<◌, ◌≤◌, Bool, false, List, [], ◌∷◌, ◌++◌, length, take, drop, Option, Some, None, append_assoc, inl, inr}
use Rattle.std.proofs.lemmas.List.{length-append, append-nil, take-append-drop, take-append-le, length-drop, length-take}
use Rattle.std.proofs.lemmas.Bool.{cases_lt}
use Rattle.std.specs.Prelude.{IsSome, min}
use Rattle.am_base.specs.Shelves.{Told, Takes, Opens}
use Rattle.am_pcap.specs.Packets.{Packet, IsWhole, HoldsPackets}
use Rattle.am_pcap.specs.Heads.{IsRefusedHead}
use Rattle.am_pcap.specs.Captures.{Summary, HasSummary, IsTooLong}
use Rattle.am_pcap.specs.Decoded.{Decoded, Took, Refused, Counts, nothing_taken}
use Rattle.am_pcap.specs.Readings.{Reading, IsCut}
use Rattle.am_pcap.specs.declared.seeking.TheConstants.{MAX_READ}
use Rattle.am_pcap.specs.CaptureFiles.{ReadsOn, RefusesOpen, IsRefusedHeader, WhyNotOpened}
use Rattle.am_pcap.specs.Seeking.{WereRead, HeadUnread, HeadFed, HeadBad, HeadFound, HeadGrown, HeadFault, HeadRefused, HeadFails, waiting_packets}
use Rattle.am_pcap.specs.declared.refusal.CapError.{CapError}
use Rattle.am_pcap.specs.declared.head.Head.{Head}
use Rattle.am_pcap.specs.declared.capture.FileError.{FileError}
use Rattle.am_pcap.specs.declared.capture.FileError.TheVariants.{Missing, ReadFault, TooLong, Bad, Memory}
use Rattle.am_pcap.proofs.Steps.{take-whole, drop-whole, summary-none}
use Rattle.am_pcap.proofs.Feeding.{front_length}
use Rattle.am_pcap.proofs.Refusals.{took-holds, refused-holds, not-cut}
use Rattle.am_pcap.proofs.SeekSteps.{holds-given}
use Rattle.am_pcap.proofs.Shelved.{takes-none, takes-join, part-none, part-more}
use Rattle.am_pcap.proofs.ReadFiles.{reads-on, on-part}

no-records : (big : Bool) (bytes : List ℕ) (ps : List Packet) (rest : List ℕ) → length bytes < 16 → HoldsPackets big bytes ps rest → ps ≡ []
no-records big bytes [] rest few h = refl
no-records big bytes (p ∷ ps) rest few h = let w : IsWhole big bytes = h.0 in absurd (omega (arith, w.head, few))

none-parts :
    (bytes : List ℕ) (ps : List Packet) (head : Option Head) (count : ℕ) (u : List ℕ) (taken : ℕ) (e : Option CapError)
    → HasSummary bytes ps (record { head = head; count = count; unfinished = u; taken = taken; error = e }) → length bytes ≤ 24 → ps ≡ []
none-parts bytes ps None count u taken None s few = s.split.none
none-parts bytes ps None count u taken (Some e) s few = s.split.none
none-parts bytes ps (Some h) count u taken e s few =
    no-records h.form.big (drop 24 bytes) ps u (omega (arith, length-drop 24 bytes, few)) s.split.records

-- a file header alone has no record
pub short-none : (bytes : List ℕ) (ps : List Packet) (s : Summary) → HasSummary bytes ps s → length bytes ≤ 24 → ps ≡ []
short-none bytes ps s h few = none-parts bytes ps s.head s.count s.unfinished s.taken s.error h few

unread-parts :
    (bytes : List ℕ) (ps : List Packet) (head : Option Head) (count : ℕ) (u : List ℕ) (taken : ℕ) (e : Option CapError)
    → HasSummary bytes ps (record { head = head; count = count; unfinished = u; taken = taken; error = e }) → head ≡ None → e ≡ None → length bytes < 24
unread-parts bytes ps None count u taken None s h k = s.split.short
unread-parts bytes ps None count u taken (Some e) s h k = absurd (cc (k))
unread-parts bytes ps (Some p) count u taken e s h k = absurd (cc (h))

-- where there is no file header yet, there are few bytes
pub unread-short : (bytes : List ℕ) (ps : List Packet) (s : Summary) → HasSummary bytes ps s → s.head ≡ None → s.error ≡ None → length bytes < 24
unread-short bytes ps s h head error = unread-parts bytes ps s.head s.count s.unfinished s.taken s.error h head error

none-of : (w : Option Packet) → waiting_packets w ≡ [] → w ≡ None
none-of None e = refl
none-of (Some p) e = absurd (cc (e))

not-some : (w : Option Packet) → w ≡ None → IsSome w → ⊥
not-some None e h = absurd (cc (h))
not-some (Some p) e h = absurd (cc (e))

-- the decoder took bytes of the file header alone
pub head-fed :
    (d d' : Decoded) (held : List ℕ) (missing k n : ℕ) (some : (bytes : List ℕ) × HasSummary bytes [] d.summary)
    → d.waiting ≡ None → d.summary.taken + missing ≡ 24 → k ≡ min missing (length held)
    → Took d d' (take k held) n → Counts d d' → d'.summary.error ≡ None → (n < length (take k held) → IsSome d'.waiting)
    → HeadFed d held d' (drop n held)
head-fed d d' held missing k n some none left is took counts clean all =
    let within : k ≤ length held = omega (arith, is) in
    let front : length (take k held) ≡ k = front_length k held within in
    let most : n ≤ k = omega (arith, took.within, front) in
    let grown : (bytes : List ℕ) → HasSummary bytes [] d.summary → HasSummary (bytes ++ take n (take k held)) (waiting_packets d'.waiting) d'.summary =
    λ bytes h. took-holds d d' (take k held) n took counts none bytes [] h in
    let first = grown some.0 some.1 in
    let few : length (some.0 ++ take n (take k held)) ≤ 24 =
    omega (arith, length-append some.0 (take n (take k held)), length-take n (take k held), some.1.taken, left, most, is) in
    let waits : d'.waiting ≡ None = none-of d'.waiting (short-none (some.0 ++ take n (take k held)) (waiting_packets d'.waiting) d'.summary first few) in
    let n_is : n ≡ k = elim (cases_lt n (length (take k held))) [
      | inl a ↦ absurd (not-some d'.waiting waits (all a))
      | inr a ↦ omega (arith, a, front, most)
    ] in
    let whole : take n (take k held) ≡ take k held = take-whole n (take k held) (omega (arith, front, n_is)) in
    let rest : drop n held ≡ drop k held = ap (λ m. drop m held) n_is in
    let summary : (bytes : List ℕ) → HasSummary bytes [] d.summary → HasSummary (bytes ++ take k held) [] d'.summary =
    λ bytes h. subst (λ x. HasSummary (bytes ++ x) [] d'.summary) whole
    (subst (λ w. HasSummary (bytes ++ take n (take k held)) (waiting_packets w) d'.summary) waits (grown bytes h)) in
    let here = summary some.0 some.1 in
    record {
      clean = clean;
      none_waits = waits;
      count = here.count;
      all = omega (arith, took.taken, n_is, within, length-drop n held);
      missing = λ head.
          let short = unread-short (some.0 ++ take k held) [] d'.summary here head clean in
          let many : k ≡ length held = omega (arith, short, length-append some.0 (take k held), front, some.1.taken, left, is) in
          (rest ∙ drop-whole k held (sym many), omega (arith, here.taken, short));
      moves = λ bytes h. record {
        taken = bytes ++ take k held;
        split = ap (λ x. bytes ++ x) (sym (take-append-drop k held)) ∙ sym (append_assoc bytes (take k held) (drop k held))
            ∙ ap (λ x. (bytes ++ take k held) ++ x) (sym rest);
        summary = summary bytes h;
      };
    }

bad-parts :
    (bytes : List ℕ) (head : Option Head) (count : ℕ) (u : List ℕ) (taken : ℕ) (error : Option CapError) (e : CapError) (rest : List ℕ)
    → HasSummary bytes [] (record { head = head; count = count; unfinished = u; taken = taken; error = error }) → error ≡ Some e
    → length bytes ≤ 24 → IsRefusedHeader (bytes ++ rest) e
bad-parts bytes None count u taken None e rest s is few = absurd (cc (is))
bad-parts bytes None count u taken (Some d) e rest s is few =
    let a : take 24 (bytes ++ rest) ≡ take 24 bytes = take-append-le 24 bytes rest s.split.whole in
    let same : d ≡ e = cc (is) in
    inl (omega (arith, s.split.whole, length-append bytes rest), subst (λ x. IsRefusedHead x (take 24 (bytes ++ rest))) same (subst (λ x. IsRefusedHead d x) (sym a) s.split.bad))
bad-parts bytes (Some h) count u taken None e rest s is few = absurd (cc (is))
bad-parts bytes (Some h) count u taken (Some d) e rest s is few =
    let long : IsTooLong h.form.big u = s.split.refused.0 in
    absurd (omega (arith, long.head, length-drop 24 bytes, ap length s.split.records, few))

-- of 24 bytes and no record only the file header can be refused, and it is, whatever bytes follow
bad-header :
    (bytes : List ℕ) (s : Summary) (e : CapError) (rest : List ℕ) → HasSummary bytes [] s → s.error ≡ Some e → length bytes ≤ 24
    → IsRefusedHeader (bytes ++ rest) e
bad-header bytes s e rest h is few = bad-parts bytes s.head s.count s.unfinished s.taken s.error e rest h is few

-- the decoder refused the file header
pub head-bad :
    (d d' : Decoded) (held : List ℕ) (missing k : ℕ) (e : CapError) (some : (bytes : List ℕ) × HasSummary bytes [] d.summary)
    → d.waiting ≡ None → d.summary.taken + missing ≡ 24 → k ≡ min missing (length held)
    → Refused d d' (take k held) e → HeadBad d held e
head-bad d d' held missing k e some none left is r =
    let grown : (bytes : List ℕ) → HasSummary bytes [] d.summary → HasSummary (bytes ++ take r.n (take k held)) [] d'.summary =
    λ bytes h. refused-holds d d' (take k held) e r none bytes [] h in
    let most : r.n ≤ missing = omega (arith, r.took.within, front_length k held (omega (arith, is)), is) in
    record {
      not_cut = not-cut (some.0 ++ take r.n (take k held)) [] d'.summary e (grown some.0 some.1) r.kept;
      refused = λ bytes rest h.
          let few : length (bytes ++ take r.n (take k held)) ≤ 24 =
          omega (arith, length-append bytes (take r.n (take k held)), length-take r.n (take k held), h.taken, left, most) in
          let a : IsRefusedHeader ((bytes ++ take r.n (take k held)) ++ (drop r.n (take k held) ++ (drop k held ++ rest))) e =
          bad-header (bytes ++ take r.n (take k held)) d'.summary e (drop r.n (take k held) ++ (drop k held ++ rest)) (grown bytes h) r.kept few in
          let all : (bytes ++ take r.n (take k held)) ++ (drop r.n (take k held) ++ (drop k held ++ rest)) ≡ (bytes ++ held) ++ rest =
          append_assoc bytes (take r.n (take k held)) (drop r.n (take k held) ++ (drop k held ++ rest))
          ∙ ap (λ x. bytes ++ x) (sym (append_assoc (take r.n (take k held)) (drop r.n (take k held)) (drop k held ++ rest))
          ∙ ap (λ x. x ++ (drop k held ++ rest)) (take-append-drop r.n (take k held))
          ∙ sym (append_assoc (take k held) (drop k held) rest) ∙ ap (λ x. x ++ rest) (take-append-drop k held))
          ∙ sym (append_assoc bytes held rest) in
          subst (λ x. IsRefusedHeader x e) all a;
    }

-- what was read of the file header is refused
pub head-refused :
    (old : Reading) (before after : Option Told) (more : List ℕ) (e : CapError)
    → HeadUnread old → HeadBad old.decoded more e → Takes before after more → length more ≤ 65536 → HeadRefused old.decoded before after e
head-refused old before after more e u bad took small = record {
  more = more;
  took = took;
  at_end = λ cut. absurd (bad.not_cut cut);
  refused = λ bytes rest h cut. bad.refused bytes rest h;
  short = λ bytes h. omega (arith, h.taken, u.all, u.few, small, length-append bytes more);
}

-- nothing was read yet
pub grown-none : (old : Reading) (told : Option Told) → HeadUnread old → HeadGrown old old told told
grown-none old told u = record {
  unread = u;
  more = [];
  took = takes-none told;
  moves = λ bytes h. subst (λ x. HasSummary x [] old.decoded.summary) (sym (append-nil bytes)) h;
}

pub grown-join : (old mid new : Reading) (a b c : Option Told) → HeadGrown old mid a b → HeadGrown mid new b c → HeadGrown old new a c
grown-join old mid new a b c p q = record {
  unread = q.unread;
  more = p.more ++ q.more;
  took = takes-join a b c p.more q.more p.took q.took;
  moves = λ bytes h. subst (λ x. HasSummary x [] new.decoded.summary) (append_assoc bytes p.more q.more) (q.moves (bytes ++ p.more) (p.moves bytes h));
}

pub found-join : (old mid new : Reading) (a b c : Option Told) (h : Head) → HeadGrown old mid a b → HeadFound mid new b c h → HeadFound old new a c h
found-join old mid new a b c h p q = record {
  order = q.order;
  head = q.head;
  count = q.count;
  more = p.more ++ q.more;
  took = takes-join a b c p.more q.more p.took q.took;
  moves = λ bytes s. subst (λ x. WereRead new.decoded new.held x []) (append_assoc bytes p.more q.more) (q.moves (bytes ++ p.more) (p.moves bytes s));
}

fault-join : (old mid : Reading) (a b c : Option Told) → HeadGrown old mid a b → HeadFault mid.decoded b c → HeadFault old.decoded a c
fault-join old mid a b c p q = record {
  more = p.more ++ q.more;
  took = takes-join a b c p.more q.more p.took q.took;
  few = λ bytes h. subst (λ x. length x < 24) (append_assoc bytes p.more q.more) (q.few (bytes ++ p.more) (p.moves bytes h));
}

refused-join :
    (old mid : Reading) (a b c : Option Told) (e : CapError)
    → HeadGrown old mid a b → HeadRefused mid.decoded b c e → HeadRefused old.decoded a c e
refused-join old mid a b c e p q = record {
  more = p.more ++ q.more;
  took = takes-join a b c p.more q.more p.took q.took;
  at_end = q.at_end;
  refused = λ bytes rest h cut.
      subst (λ x. IsRefusedHeader (x ++ rest) e) (append_assoc bytes p.more q.more) (q.refused (bytes ++ p.more) rest (p.moves bytes h) cut);
  short = λ bytes h. subst (λ x. length x ≤ MAX_READ) (append_assoc bytes p.more q.more) (q.short (bytes ++ p.more) (p.moves bytes h));
}

pub fails-join :
    (old mid : Reading) (a b c : Option Told) (e : FileError)
    → HeadGrown old mid a b → HeadFails mid.decoded b c e → HeadFails old.decoded a c e
fails-join old mid a b c Missing p q = q
fails-join old mid a b c ReadFault p q = fault-join old mid a b c p q
fails-join old mid a b c TooLong p q = q
fails-join old mid a b c (Bad e) p q = refused-join old mid a b c e p q
fails-join old mid a b c Memory p q = q

-- the summary of no bytes is that of a new decoder
new-summary : (d : Decoded) → d ≡ nothing_taken → HasSummary [] [] d.summary
new-summary d is = subst (λ x. HasSummary [] [] x.summary) (sym is) summary-none

-- a file that was opened, whose header was read
pub head-opened :
    (old new : Reading) (before mid after : Option Told) (name : List ℕ) (h : Head)
    → old.decoded ≡ nothing_taken → new.over ≡ false → Opens before mid name → HeadFound old new mid after h
    → (k : Head) × (new.decoded.summary.head ≡ Some k) × ReadsOn before after name new k []
head-opened old new before mid after name h is going opens f =
    let part = part-more before mid after name [] f.more (part-none before mid name opens) f.took in
    let given = holds-given new f.more [] f.order (f.moves [] (new-summary old.decoded is)) in
    (h, f.head, reads-on before after name f.more new h [] part given going f.head f.order.short)

-- a file that was opened, whose header can't be had
pub head-not_opened :
    (d : Decoded) (before mid after : Option Told) (name : List ℕ) (e : FileError)
    → d ≡ nothing_taken → Opens before mid name → HeadFails d mid after e → WhyNotOpened before after name e
head-not_opened d before mid after name Missing is opens f = absurd f
head-not_opened d before mid after name ReadFault is opens f = inr (record {
  bytes = f.more;
  part = part-more before mid after name [] f.more (part-none before mid name opens) f.took;
  few = f.few [] (new-summary d is);
})
head-not_opened d before mid after name TooLong is opens f = f
head-not_opened d before mid after name (Bad e) is opens f =
    let part = part-more before mid after name [] f.more (part-none before mid name opens) f.took in
    let bad : (rest : List ℕ) → (IsCut e → rest ≡ []) → IsRefusedHeader (f.more ++ rest) e =
    λ rest cut. f.refused [] rest (new-summary d is) cut in
    let r : RefusesOpen before after name e = record {
      bytes = f.more;
      part = part;
      at_end = f.at_end;
      refused = bad;
      short = f.short [] (new-summary d is);
      file = on-part (λ x. IsRefusedHeader x e) before after name f.more part (λ rest end. bad rest (λ cut. end (f.at_end cut)));
    } in
    r
head-not_opened d before mid after name Memory is opens f = absurd f
