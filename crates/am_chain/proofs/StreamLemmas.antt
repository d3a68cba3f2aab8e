-- A capture that is printed record by record: what was printed so far, and what each exit of the loop leaves.
use Rattle.std.proofs.Common.{arith, refl, sym, ap, subst, ◌∙◌, ◌≡◌, ℕ, ◌≤◌, ◌+◌, Bool, min, List, [], ◌∷◌, ◌++◌, length, take, drop, Option, None, Some, Ok, inl, inr, append_assoc}
use Rattle.std.specs.Prelude.{Result, IfOk, IfSome}
use Rattle.std.proofs.Math.Seq.{take-append-add}
use Rattle.std.proofs.lemmas.List.{append-nil, length-append, length-take}
use Rattle.std.specs.Io.KnownBytes.{append_known}
use Rattle.am_base.specs.Counts.{Rose}
use Rattle.am_base.specs.Shelves.{Told}
use Rattle.am_base.specs.Sinks.{AppendsFront, IsWrittenOf, WritesAll, WritesFront}
use Rattle.am_pcap.specs.Packets.{Packet, HoldsPackets, word, behind_first}
use Rattle.am_pcap.specs.declared.decoder.TheConstants.{MAX_CAPTURED}
use Rattle.am_pcap.specs.Captures.{HasRecords, IsSplit}
use Rattle.am_pcap.specs.declared.refusal.CapError.{CapError}
use Rattle.am_pcap.specs.Answers.{GivesRecord, EndsReading, StopsReading}
use Rattle.am_pcap.specs.CaptureFiles.{ReadsOn, WhyNotOpened}
use Rattle.am_pcap.specs.Readings.{Reading}
use Rattle.am_pcap.specs.declared.head.Head.{Head}
use Rattle.am_pcap.specs.declared.record.Record.{Record}
use Rattle.am_pcap.specs.declared.capture.FileError.{FileError}
use Rattle.am_pcap.specs.declared.capture.FileError.TheVariants as fault
use Rattle.am_chain.specs.Answers.{Reason, Answer}
use Rattle.am_chain.specs.Answers.Ending.{Done, Refused}
use Rattle.am_chain.specs.Answers.Answer.{Ended, WriteFault, NoMemory}
use Rattle.am_chain.specs.Chains.{Inputs, Output, Stream, StreamsSo, IsTextOfFirst, IsTextOfAll}
use Rattle.am_chain.specs.Shown.{IsAnswered, OnRefused, reason_shown, capture_answer, record_answer}
use Rattle.am_chain.specs.declared.answer.Unprinted.{Unprinted}
use Rattle.am_chain.specs.declared.answer.Unprinted.TheVariants as unprinted
use Rattle.am_chain.proofs.FrontLemmas.{rose-later, whole-front, nothing}
use Rattle.am_chain.specs.Printing.{Known, MovesOn, Flushes}

-- the capture was read on, and what is printed of the packets that were given was written
pub record Streaming (before now : Inputs) (old out : Output) (name : List ℕ) (stream : Stream) (c : Reading) (h : Head) : Type 0 where
  pub packets : List Packet
  pub text : List ℕ
  pub on : ReadsOn before.told now.told name c h packets
  pub printed : stream.text_of h packets text
  pub appended : out.written ≡ append_known old.written text
  pub faults : before.faults ≤ now.faults
  pub missed : before.missed ≤ now.missed
  pub out_faults : old.faults ≤ out.faults

-- the same, where the last of it may still be held
pub record Gathering (before now : Inputs) (old out : Output) (held name : List ℕ) (stream : Stream) (c : Reading) (h : Head) : Type 0 where
  pub packets : List Packet
  pub text : List ℕ
  pub on : ReadsOn before.told now.told name c h packets
  pub printed : stream.text_of h packets text
  pub gathered : IsWrittenOf old.written out.written held text
  pub faults : before.faults ≤ now.faults
  pub missed : before.missed ≤ now.missed
  pub out_faults : old.faults ≤ out.faults

-- all that was held was written
pub handed-on :
    (before now : Inputs) (old out new : Output) (held name : List ℕ) (stream : Stream) (c : Reading) (h : Head)
    → Gathering before now old out held name stream c h
    → WritesAll out.written held new.written → out.faults ≤ new.faults
    → Streaming before now old new name stream c h
handed-on before now old out new held name stream c h s all faults = record {
  packets = s.packets;
  text = s.text;
  on = s.on;
  printed = s.printed;
  appended = all old.written s.text s.gathered;
  faults = s.faults;
  missed = s.missed;
  out_faults = omega (arith, s.out_faults, faults);
}

-- the output failed where the rest was to be written
pub stream-unflushed :
    (before now after : Inputs) (old out new : Output) (held name : List ℕ) (stream : Stream) (c : Reading) (h : Head)
    → Gathering before now old out held name stream c h
    → WritesFront out.written held new.written → Rose out.faults new.faults
    → StreamsSo before after old new name stream WriteFault
stream-unflushed before now after old out new held name stream c h s front rose = (
  rose-later old.faults out.faults new.faults s.out_faults rose,
  (
    s.text,
    inr (inl (record { head = h; packets = s.packets; begins = s.on.begins; printed = s.printed })),
    front old.written s.text s.gathered,
  ),
)

-- an answer that follows where all was written, after the flush before it
pub stream-flushed :
    (before now after : Inputs) (old out new : Output) (held name : List ℕ) (stream : Stream) (c : Reading) (h : Head) (wanted answer : Answer)
    → Gathering before now old out held name stream c h
    → Flushes out held new wanted answer
    → (Streaming before now old new name stream c h → StreamsSo before after old new name stream wanted)
    → StreamsSo before after old new name stream answer
stream-flushed before now after old out new held name stream c h wanted answer s flushes follows =
    elim flushes [
      | inl f ↦ subst (λ a. StreamsSo before after old new name stream a) (sym f.0)
          (follows (handed-on before now old out new held name stream c h s f.1 f.2))
      | inr f ↦ subst (λ a. StreamsSo before after old new name stream a) (sym f.0)
          (stream-unflushed before now after old out new held name stream c h s f.1 f.2)
    ]

first :
    (before now : Inputs) (old out : Output) (name : List ℕ) (stream : Stream) (c : Reading) (h : Head) → (s : Streaming before now old out name stream c h)
    → IsTextOfFirst before.told name stream s.text
first before now old out name stream c h s = record { head = h; packets = s.packets; begins = s.on.begins; printed = s.printed }

-- where memory runs out, all that was printed stays
pub stream-memory :
    (before now after : Inputs) (old out : Output) (name : List ℕ) (stream : Stream) (c : Reading) (h : Head) → Streaming before now old out name stream c h
    → StreamsSo before after old out name stream NoMemory
stream-memory before now after old out name stream c h s =
    (s.text, inr (inl (first before now old out name stream c h s)), whole-front old.written out.written s.text s.appended)

answered :
    (before after : Inputs) (old new : Output) (name : List ℕ) (stream : Stream) (wanted answer : Answer)
    → StreamsSo before after old new name stream wanted → StreamsSo before after old new name stream NoMemory → IsAnswered wanted answer
    → StreamsSo before after old new name stream answer
answered before after old new name stream wanted answer h none is =
    elim is [
      | inl e ↦ subst (λ a. StreamsSo before after old new name stream a) (sym e) h
      | inr e ↦ subst (λ a. StreamsSo before after old new name stream a) (sym e) none
    ]

-- why a capture is not opened: nothing was printed
not-opened :
    (before after : Inputs) (out : Output) (name : List ℕ) (stream : Stream) (e : FileError)
    → WhyNotOpened before.told after.told name e
    → (e ≡ fault.Missing → Rose before.missed after.missed)
    → (e ≡ fault.ReadFault → Rose before.faults after.faults)
    → StreamsSo before after out out name stream (capture_answer name e)
not-opened before after out name stream fault.Missing why missed failed = (missed refl, ([], (refl, why.1, refl), nothing out.written))
not-opened before after out name stream fault.ReadFault why missed failed = (refl, failed refl, inl (why, refl))
not-opened before after out name stream fault.TooLong why missed failed = absurd why
not-opened before after out name stream (fault.Bad error) why missed failed =
    ([], (refl, inr (inl (error, refl, inl (why.file, refl)))), nothing out.written)
not-opened before after out name stream fault.Memory why missed failed =
    ([], inl refl, whole-front out.written out.written [] (nothing out.written))

pub stream-not-opened :
    (before after : Inputs) (out : Output) (name : List ℕ) (stream : Stream) (e : FileError) (answer : Answer)
    → WhyNotOpened before.told after.told name e
    → (e ≡ fault.Missing → Rose before.missed after.missed)
    → (e ≡ fault.ReadFault → Rose before.faults after.faults)
    → IsAnswered (capture_answer name e) answer
    → StreamsSo before after out out name stream answer
stream-not-opened before after out name stream e answer why missed failed is =
    answered before after out out name stream (capture_answer name e) answer (not-opened before after out name stream e why missed failed)
    ([], inl refl, whole-front out.written out.written [] (nothing out.written)) is

-- why there is no next record: what was printed is what is printed of the packets before
stopped :
    (before now after : Inputs) (old out : Output) (name : List ℕ) (stream : Stream) (c : Reading) (h : Head) (e : FileError) → Streaming before now old out name stream c h
    → StopsReading c now.told after.told e → (e ≡ fault.ReadFault → Rose now.faults after.faults)
    → StreamsSo before after old out name stream (capture_answer name e)
stopped before now after old out name stream c h fault.Missing s stops failed = absurd ((stops before.told name h s.packets s.on).0)
stopped before now after old out name stream c h fault.ReadFault s stops failed = (
  refl,
  rose-later before.faults now.faults after.faults s.faults (failed refl),
  inr (record {
    head = h;
    packets = s.packets;
    begins = s.on.begins;
    read = (stops before.told name h s.packets s.on).0;
    printed = (s.text, s.printed, s.appended);
  }),
)
stopped before now after old out name stream c h fault.TooLong s stops failed =
    (s.text, (refl, inl (refl, (stops before.told name h s.packets s.on).0, first before now old out name stream c h s)), s.appended)
stopped before now after old out name stream c h (fault.Bad error) s stops failed = (
  s.text,
  (
    refl,
    inr (inl (error, refl, inr (record { head = h; packets = s.packets; refused = (stops before.told name h s.packets s.on).0; printed = s.printed }))),
  ),
  s.appended,
)
stopped before now after old out name stream c h fault.Memory s stops failed = absurd ((stops before.told name h s.packets s.on).0)

pub stream-stopped :
    (before now after : Inputs) (old out : Output) (name : List ℕ) (stream : Stream) (c : Reading) (h : Head) (e : FileError) (answer : Answer)
    → Streaming before now old out name stream c h
    → StopsReading c now.told after.told e → (e ≡ fault.ReadFault → Rose now.faults after.faults) → IsAnswered (capture_answer name e) answer
    → StreamsSo before after old out name stream answer
stream-stopped before now after old out name stream c h e answer s stops failed is =
    answered before after old out name stream (capture_answer name e) answer (stopped before now after old out name stream c h e s stops failed)
    (stream-memory before now after old out name stream c h s) is

-- a piece is held behind the other bytes
held-more :
    (start written : Option (List ℕ)) (held piece grown text : List ℕ)
    → IsWrittenOf start written held text → grown ≡ held ++ piece → IsWrittenOf start written grown (text ++ piece)
held-more start written held piece grown text w e = record {
  moved = w.moved;
  appended = w.appended;
  handed = ap (λ x. x ++ piece) w.handed ∙ append_assoc w.moved held piece ∙ ap (λ x. w.moved ++ x) (sym e);
}

append_known-twice : (w : Option (List ℕ)) (a b : List ℕ) → append_known (append_known w a) b ≡ append_known w (a ++ b)
append_known-twice None a b = refl
append_known-twice (Some xs) a b = ap Some (append_assoc xs a b)

-- all that was held was appended
pub wrote-all : (old new : Option (List ℕ)) (held : List ℕ) → new ≡ append_known old held → WritesAll old held new
wrote-all old new held e start text w =
    e ∙ ap (λ x. append_known x held) w.appended ∙ append_known-twice start w.moved held ∙ ap (λ x. append_known start x) (sym w.handed)

-- a front of it was
pub wrote-front : (old new : Option (List ℕ)) (held : List ℕ) → AppendsFront old new held → WritesFront old held new
wrote-front old new held f start text w = (
  length w.moved + f.0,
  omega (arith, f.1, ap length w.handed, length-append w.moved held),
  f.2 ∙ ap (λ x. append_known x (take f.0 held)) w.appended ∙ append_known-twice start w.moved (take f.0 held)
      ∙ ap (λ x. append_known start x) (sym (ap (λ x. take (length w.moved + f.0) x) w.handed ∙ take-append-add w.moved held f.0)),
)

-- all that was held was appended, and nothing is held
pub moved-all : (old new : Option (List ℕ)) (held kept : List ℕ) → new ≡ append_known old held → kept ≡ [] → MovesOn old held new kept
moved-all old new held kept e none start text w = record {
  moved = text;
  appended = wrote-all old new held e start text w;
  handed = sym (append-nil text) ∙ ap (λ x. text ++ x) (sym none);
}

-- one more record was given; its line is held behind the others, and what is held was written, or is held still
pub stream-more :
    (before now after : Inputs) (old out new : Output) (held grown kept name : List ℕ) (stream : Stream) (c n : Reading) (h : Head) (p : Packet) (line : List ℕ)
    → (s : Gathering before now old out held name stream c h)
    → ReadsOn before.told after.told name n h (s.packets ++ p ∷ []) → stream.text_of h (s.packets ++ p ∷ []) (s.text ++ line)
    → grown ≡ held ++ line → MovesOn out.written grown new.written kept
    → now.faults ≤ after.faults → now.missed ≤ after.missed → out.faults ≤ new.faults
    → (known : Known) → known h (s.packets ++ p ∷ [])
    → (t : Gathering before after old new kept name stream n h) × known h t.packets
stream-more before now after old out new held grown kept name stream c n h p line s on printed grew moves faults missed out_faults known k = (
  record {
    packets = s.packets ++ p ∷ [];
    text = s.text ++ line;
    on = on;
    printed = printed;
    gathered = moves old.written (s.text ++ line) (held-more old.written out.written held line grown s.text s.gathered grew);
    faults = omega (arith, s.faults, faults);
    missed = omega (arith, s.missed, missed);
    out_faults = omega (arith, s.out_faults, out_faults);
  },
  k,
)

-- the output failed where what is held, with the line of one more record, was to be written
pub stream-unwritten :
    (before now after : Inputs) (old out new : Output) (held grown name : List ℕ) (stream : Stream) (c n : Reading) (h : Head) (p : Packet) (line : List ℕ)
    → (s : Gathering before now old out held name stream c h)
    → ReadsOn before.told after.told name n h (s.packets ++ p ∷ []) → stream.text_of h (s.packets ++ p ∷ []) (s.text ++ line)
    → grown ≡ held ++ line → WritesFront out.written grown new.written → Rose out.faults new.faults
    → StreamsSo before after old new name stream WriteFault
stream-unwritten before now after old out new held grown name stream c n h p line s on printed grew front rose = (
  rose-later old.faults out.faults new.faults s.out_faults rose,
  (
    s.text ++ line,
    inr (inl (record { head = h; packets = s.packets ++ p ∷ []; begins = on.begins; printed = printed })),
    front old.written (s.text ++ line) (held-more old.written out.written held line grown s.text s.gathered grew),
  ),
)

-- no memory for what is held: nothing was printed
pub stream-unbegun :
    (before after : Inputs) (out : Output) (name : List ℕ) (stream : Stream) → StreamsSo before after out out name stream NoMemory
stream-unbegun before after out name stream = ([], inl refl, whole-front out.written out.written [] (nothing out.written))

-- the file header was read, and what stands before all records is held
pub stream-begun :
    (before now : Inputs) (old : Output) (fresh held piece name : List ℕ) (stream : Stream) (c : Reading) (h : Head)
    → ReadsOn before.told now.told name c h [] → stream.text_of h [] piece
    → fresh ≡ [] → held ≡ fresh ++ piece
    → before.faults ≤ now.faults → before.missed ≤ now.missed
    → (known : Known) → known h []
    → (s : Gathering before now old old held name stream c h) × known h s.packets
stream-begun before now old fresh held piece name stream c h on printed none grew faults missed known k = (
  record {
    packets = [];
    text = piece;
    on = on;
    printed = printed;
    gathered = record {
      moved = [];
      appended = nothing old.written;
      handed = sym (grew ∙ ap (λ x. x ++ piece) none);
    };
    faults = faults;
    missed = missed;
    out_faults = omega arith;
  },
  k,
)

-- the next record is not printed: what was printed is what is printed of the records before
pub stream-unprinted :
    (before now after : Inputs) (old out : Output) (name : List ℕ) (stream : Stream) (c n : Reading) (h : Head) (p : Packet) (e : Unprinted) (answer : Answer)
    → (s : Streaming before now old out name stream c h)
    → ReadsOn before.told after.told name n h (s.packets ++ p ∷ [])
    → OnRefused e (λ reason. stream.refuses h s.packets p reason) → IsAnswered (record_answer name e) answer
    → StreamsSo before after old out name stream answer
stream-unprinted before now after old out name stream c n h p (unprinted.Refused reason) answer s on refused is =
    answered before after old out name stream (Ended (Refused (Some name) (reason_shown reason))) answer (
      s.text,
      (
        refl,
        inr (inr (record {
          head = h;
          packets = s.packets;
          packet = p;
          begins = s.on.begins;
          next = on.begins;
          refused = refused;
          printed = s.printed;
        })),
      ),
      s.appended,
    )
    (stream-memory before now after old out name stream c h s) is
stream-unprinted before now after old out name stream c n h p unprinted.NoMemory answer s on refused is =
    answered before after old out name stream NoMemory answer (stream-memory before now after old out name stream c h s)
    (stream-memory before now after old out name stream c h s) is

-- the same, after the flush before it
pub stream-unprinted-flushed :
    (before now after : Inputs) (old out new : Output) (held name : List ℕ) (stream : Stream) (c n : Reading) (h : Head) (p : Packet) (e : Unprinted)
    (wanted answer : Answer)
    → (s : Gathering before now old out held name stream c h)
    → ReadsOn before.told after.told name n h (s.packets ++ p ∷ [])
    → OnRefused e (λ reason. stream.refuses h s.packets p reason) → IsAnswered (record_answer name e) wanted → Flushes out held new wanted answer
    → StreamsSo before after old new name stream answer
unfolding handed-on
stream-unprinted-flushed before now after old out new held name stream c n h p e wanted answer s on refused is flushes =
    elim flushes [
      | inl f ↦ subst (λ a. StreamsSo before after old new name stream a) (sym f.0)
          (stream-unprinted before now after old new name stream c n h p e wanted (handed-on before now old out new held name stream c h s f.1 f.2) on refused is)
      | inr f ↦ subst (λ a. StreamsSo before after old new name stream a) (sym f.0)
          (stream-unflushed before now after old out new held name stream c h s f.1 f.2)
    ]

-- what is said of the reason of a refusal, said of it weaker
pub on-refused : (e : Unprinted) (P Q : Reason → Type 0) → OnRefused e P → ((reason : Reason) → P reason → Q reason) → OnRefused e Q
on-refused (unprinted.Refused reason) P Q p f = f (reason_shown reason) p
on-refused unprinted.NoMemory P Q p f = tt

-- there is no next record, and what stands behind all records is held, and was then written
pub stream-ended :
    (before now after : Inputs) (old out last : Output) (held grown piece name : List ℕ) (stream : Stream) (c : Reading) (h : Head) (answer : Answer)
    → (s : Gathering before now old out held name stream c h)
    → EndsReading c now.told after.told → stream.all_of h s.packets (s.text ++ piece)
    → grown ≡ held ++ piece → Flushes out grown last (Ended Done) answer
    → now.faults ≤ after.faults → now.missed ≤ after.missed
    → StreamsSo before after old last name stream answer
stream-ended before now after old out last held grown piece name stream c h answer s ends all grew flushes faults missed =
    let e = ends before.told name h s.packets s.on in
    let whole : IsTextOfAll before.told name stream (s.text ++ piece) = record { head = h; packets = s.packets; whole = e.0; printed = all } in
    let gathered = held-more old.written out.written held piece grown s.text s.gathered grew in
    elim flushes [
      | inl f ↦ subst (λ a. StreamsSo before after old last name stream a) (sym f.0) (
        record { kept = e.2; faults = omega (arith, s.faults, faults); missed = omega (arith, s.missed, missed); at_end = e.1 },
        (s.text ++ piece, whole, f.1 old.written (s.text ++ piece) gathered),
      )
      | inr f ↦ subst (λ a. StreamsSo before after old last name stream a) (sym f.0) (
        rose-later old.faults out.faults last.faults s.out_faults f.2,
        (s.text ++ piece, inr (inr whole), f.1 old.written (s.text ++ piece) gathered),
      )
    ]

-- the file header that was read is the one that the capture tells
pub reads-of :
    (before now : Option Told) (name : List ℕ) (c : Reading) (k : Head) (ps : List Packet)
    → (h : Head) × (c.decoded.summary.head ≡ Some h) × ReadsOn before now name c h ps → c.decoded.summary.head ≡ Some k → ReadsOn before now name c k ps
reads-of before now name c k ps r e = let same : r.0 ≡ k = cc (r.1, e) in subst (λ x. ReadsOn before now name c x ps) same r.2

-- the last packet of whole records has no more bytes than a record may have
last-short :
    (big : Bool) (bytes : List ℕ) (ps : List Packet) (p : Packet) (rest : List ℕ) → HoldsPackets big bytes (ps ++ p ∷ []) rest
    → length p.bytes ≤ MAX_CAPTURED
last-short big bytes [] p rest h =
    let same : length p.bytes ≡ min (word big bytes 8) (length (drop 16 bytes)) =
    ap (λ x. length x.bytes) h.1 ∙ length-take (word big bytes 8) (drop 16 bytes) in
    omega (arith, same, h.0.not_long)
last-short big bytes (q ∷ qs) p rest h = last-short big (behind_first big bytes) qs p rest h.2

split-short :
    (bytes : List ℕ) (ps : List Packet) (p : Packet) (unfinished : List ℕ) (o : Option Head) (error : Option CapError) (h : Head)
    → o ≡ Some h → IsSplit o error bytes (ps ++ p ∷ []) unfinished → length p.bytes ≤ MAX_CAPTURED
split-short bytes ps p unfinished o error h e s =
    let records : HasRecords bytes (ps ++ p ∷ []) unfinished h error = subst (λ x. IsSplit x error bytes (ps ++ p ∷ []) unfinished) e s in
    last-short h.form.big (drop 24 bytes) ps p unfinished records.records

-- nor has the last record that was read
pub read-short :
    (before now : Option Told) (name : List ℕ) (n : Reading) (h : Head) (ps : List Packet) (p : Packet)
    → ReadsOn before now name n h (ps ++ p ∷ []) → length p.bytes ≤ MAX_CAPTURED
read-short before now name n h ps p on =
    split-short on.given.taken ps p n.decoded.summary.unfinished n.decoded.summary.head n.decoded.summary.error h on.head on.given.summary.split

-- what is said of an answer with a record
pub gave-record :
    (r : Result (Option Record) FileError) (o : Option Record) (x : Record) (c n : Reading) (now after : Option Told)
    → r ≡ Ok o → o ≡ Some x → IfOk r (λ a. IfSome a (λ y. GivesRecord c n now after y)) → GivesRecord c n now after x
gave-record r o x c n now after e f h =
    subst (λ (a : Option Record). IfSome a (λ y. GivesRecord c n now after y)) f
    (subst (λ (a : Result (Option Record) FileError). IfOk a (λ b. IfSome b (λ y. GivesRecord c n now after y))) e h)
