-- What stands in bytes, and what stands in longer ones that begin with them: the refusals, and the packets before them.
use Rattle.std.proofs.Common.{arith, refl, sym, ap, subst, ◌∙◌, ◌≡◌, ℕ, ◌+◌, List, [], ◌∷◌, ◌++◌, length, take, drop, Option, Some, None, Result, Ok, Err, inl, inr, ◌⊎◌}
use Rattle.std.proofs.lemmas.List.{length-append, take-append-le, drop-append-le, append-nil}
use Rattle.std.specs.Prelude.{IsSome}
use Rattle.am_pcap.specs.Packets.{word, Packet, IsWhole, HoldsPackets}
use Rattle.am_pcap.specs.Heads.{IsHead, IsRefusedHead}
use Rattle.am_pcap.specs.Captures.{Summary, HasSummary, IsCapture, IsTooLong, IsRefused, IsRefusedAfter, HasBadRecord, verdict, unless_cut, unless_refused}
use Rattle.am_pcap.specs.Decoded.{Decoded, StandsFor, IsLast, Took, Refused, Counts}
use Rattle.am_pcap.specs.Readings.{IsCut}
use Rattle.am_pcap.specs.Seeking.{waiting_packets}
use Rattle.am_pcap.specs.declared.refusal.CapError.{CapError}
use Rattle.am_pcap.specs.declared.refusal.CapError.TheVariants.{BadMagic, BadVersion, UnknownLink, CutFile, RecordTooLong}
use Rattle.am_pcap.specs.declared.head.Head.{Head}
use Rattle.am_pcap.proofs.Splitting.{word-append, packets-append}
use Rattle.am_pcap.proofs.Summaries.{summaries-grow}
use Rattle.am_pcap.proofs.Verdicts.{verdict-unique}

-- two lists that are one have one last packet
last-one : (xs ys : List Packet) (x y : Packet) → xs ++ x ∷ [] ≡ ys ++ y ∷ [] → x ≡ y
last-one [] [] x y e = cc (e)
last-one [] (b ∷ ys) x y e = absurd (omega (arith, ap length e, length-append ys (y ∷ [])))
last-one (a ∷ xs) [] x y e = absurd (omega (arith, ap length e, length-append xs (x ∷ [])))
last-one (a ∷ xs) (b ∷ ys) x y e = let t : xs ++ x ∷ [] ≡ ys ++ y ∷ [] = cc (e) in last-one xs ys x y t

none-added : (added : List Packet) → length added ≡ 0 → added ≡ []
none-added [] h = refl
none-added (x ∷ xs) h = absurd (omega (arith, h))

-- what was added is what waits
waits-added :
    (w : Option Packet) (ps added : List Packet) → (w ≡ None → length added ≡ 0) → (IsSome w → length added ≡ 1) → IsLast w (ps ++ added)
    → ps ++ added ≡ ps ++ waiting_packets w
waits-added None ps added zero one last = ap (λ x. ps ++ x) (none-added added (zero refl))
waits-added (Some p) ps [] zero one last = absurd (omega (arith, one refl))
waits-added (Some p) ps (x ∷ []) zero one last = ap (λ y. ps ++ y ∷ []) (last-one ps last.0 x p last.1)
waits-added (Some p) ps (x ∷ y ∷ r) zero one last = absurd (omega (arith, one refl))

-- a decoder that took bytes: the packets are those from before, and the one that waits
pub took-holds :
    (old new : Decoded) (piece : List ℕ) (n : ℕ) → Took old new piece n → Counts old new → old.waiting ≡ None
    → (bytes : List ℕ) (ps : List Packet) → HasSummary bytes ps old.summary
    → HasSummary (bytes ++ take n piece) (ps ++ waiting_packets new.waiting) new.summary
took-holds old new piece n t k none bytes ps h =
    let s : StandsFor old bytes = record { packets = ps; summary = h; waiting = subst (λ w. IsLast w ps) (sym none) tt } in
    let g : StandsFor new (bytes ++ take n piece) = t.goes bytes s in
    let grown = summaries-grow bytes bytes (take n piece) ps ps g.packets g.packets old.summary new.summary new.summary h h g.summary g.summary in
    let added : List Packet = grown.1.0 in
    let is : g.packets ≡ ps ++ added = grown.1.1 in
    let many : new.summary.count ≡ length ps + length added = omega (arith, g.summary.count, ap length is, length-append ps added) in
    let same : ps ++ added ≡ ps ++ waiting_packets new.waiting =
    waits-added new.waiting ps added (λ e. omega (arith, k.same e, h.count, many)) (λ e. omega (arith, k.risen e, h.count, many))
    (subst (λ x. IsLast new.waiting x) is g.waiting) in
    subst (λ x. HasSummary (bytes ++ take n piece) x new.summary) (is ∙ same) g.summary

-- a decoder that refused: the packets are those from before
pub refused-holds :
    (old new : Decoded) (piece : List ℕ) (e : CapError) (r : Refused old new piece e) → old.waiting ≡ None
    → (bytes : List ℕ) (ps : List Packet) → HasSummary bytes ps old.summary → HasSummary (bytes ++ take r.n piece) ps new.summary
refused-holds old new piece e r none bytes ps h =
    let s : StandsFor old bytes = record { packets = ps; summary = h; waiting = subst (λ w. IsLast w ps) (sym none) tt } in
    let g : StandsFor new (bytes ++ take r.n piece) = r.took.goes bytes s in
    let grown = summaries-grow bytes bytes (take r.n piece) ps ps g.packets g.packets old.summary new.summary new.summary h h g.summary g.summary in
    let added : List Packet = grown.1.0 in
    let is : g.packets ≡ ps ++ added = grown.1.1 in
    let empty : added ≡ [] = none-added added (omega (arith, r.same, h.count, g.summary.count, ap length is, length-append ps added)) in
    let all : g.packets ≡ ps = is ∙ ap (λ x. ps ++ x) empty ∙ append-nil ps in
    subst (λ x. HasSummary (bytes ++ take r.n piece) x new.summary) all g.summary

after-parts :
    (bytes : List ℕ) (ps : List Packet) (head : Option Head) (count : ℕ) (u : List ℕ) (taken : ℕ) (e : CapError) (rest : List ℕ)
    → HasSummary bytes ps (record { head = head; count = count; unfinished = u; taken = taken; error = Some e })
    → IsRefusedAfter e (bytes ++ rest) ps
after-parts bytes ps None count u taken e rest s =
    let a : take 24 (bytes ++ rest) ≡ take 24 bytes = take-append-le 24 bytes rest s.split.whole in
    inr (inl (omega (arith, s.split.whole, length-append bytes rest), subst (λ x. IsRefusedHead e x) (sym a) s.split.bad, s.split.none))
after-parts bytes ps (Some h) count u taken e rest s =
    let a : take 24 (bytes ++ rest) ≡ take 24 bytes = take-append-le 24 bytes rest s.split.whole in
    let b : drop 24 (bytes ++ rest) ≡ drop 24 bytes ++ rest = drop-append-le 24 bytes rest s.split.whole in
    let long : IsTooLong h.form.big u = s.split.refused.0 in
    let same : word h.form.big (u ++ rest) 8 ≡ word h.form.big u 8 = word-append h.form.big u rest 8 (omega (arith, long.head)) in
    let bad : HasBadRecord (bytes ++ rest) e = record {
      whole = omega (arith, s.split.whole, length-append bytes rest);
      h = h;
      head = subst (λ x. IsHead h x) (sym a) s.split.head;
      packets = ps;
      rest = u ++ rest;
      records = subst (λ x. HoldsPackets h.form.big x ps (u ++ rest)) (sym b) (packets-append h.form.big (drop 24 bytes) ps u rest s.split.records);
      stuck = λ (w : IsWhole h.form.big (u ++ rest)). omega (arith, w.not_long, same, long.long);
      why = inl (
        record { head = omega (arith, long.head, length-append u rest); long = omega (arith, long.long, same) },
        s.split.refused.1 ∙ ap (λ n. RecordTooLong (length ps + 1) n) (sym same),
      );
    } in
    inr (inr (bad, refl))

with-error : (bytes : List ℕ) (ps : List Packet) (s : Summary) (e : Option CapError) → s.error ≡ e → HasSummary bytes ps s
    → HasSummary bytes ps (record { head = s.head; count = s.count; unfinished = s.unfinished; taken = s.taken; error = e })
with-error bytes ps s e is h = subst (λ x. HasSummary bytes ps (record { head = s.head; count = s.count; unfinished = s.unfinished; taken = s.taken; error = x })) is h

-- what is refused stays refused, whatever bytes follow
pub refused-after :
    (bytes : List ℕ) (ps : List Packet) (s : Summary) (e : CapError) → HasSummary bytes ps s → s.error ≡ Some e
    → (rest : List ℕ) → IsRefusedAfter e (bytes ++ rest) ps
refused-after bytes ps s e h is rest =
    after-parts bytes ps s.head s.count s.unfinished s.taken e rest (with-error bytes ps s (Some e) is h)

pub head-not-cut : (bytes : List ℕ) (e : CapError) → IsRefusedHead e bytes → IsCut e → ⊥
head-not-cut bytes (CutFile number) is cut = is
head-not-cut bytes _ is cut = cut

not-cut-parts :
    (bytes : List ℕ) (ps : List Packet) (head : Option Head) (count : ℕ) (u : List ℕ) (taken : ℕ) (e : CapError)
    → HasSummary bytes ps (record { head = head; count = count; unfinished = u; taken = taken; error = Some e })
    → IsCut e → ⊥
not-cut-parts bytes ps None count u taken e s cut = head-not-cut (take 24 bytes) e s.split.bad cut
not-cut-parts bytes ps (Some h) count u taken e s cut = subst (λ x. IsCut x) s.split.refused.1 cut

-- and is not for want of more bytes
pub not-cut : (bytes : List ℕ) (ps : List Packet) (s : Summary) (e : CapError) → HasSummary bytes ps s → s.error ≡ Some e → IsCut e → ⊥
not-cut bytes ps s e h is = not-cut-parts bytes ps s.head s.count s.unfinished s.taken e (with-error bytes ps s (Some e) is h)

-- what the bytes are at their end, behind these packets
abbrev pub IsVerdictAfter : Result (Unit {0}) CapError → Option Head → List ℕ → List Packet → Type 0
IsVerdictAfter (Ok u) head bytes ps = (h : Head) × (head ≡ Some h) × IsCapture bytes h ps
IsVerdictAfter (Err e) head bytes ps = IsCut e × IsRefusedAfter e bytes ps

ends-parts :
    (bytes : List ℕ) (ps : List Packet) (head : Option Head) (count : ℕ) (u : List ℕ) (taken : ℕ)
    → HasSummary bytes ps (record { head = head; count = count; unfinished = u; taken = taken; error = None })
    → IsVerdictAfter (unless_cut head count u) head bytes ps
ends-parts bytes ps None count u taken s = (tt, inl (s.split.short, refl, s.split.none))
ends-parts bytes ps (Some h) count [] taken s = (h, refl, record { whole = s.split.whole; head = s.split.head; records = s.split.records })
ends-parts bytes ps (Some h) count (b ∷ bs) taken s =
    let bad : HasBadRecord bytes (CutFile (count + 1)) = record {
      whole = s.split.whole;
      h = h;
      head = s.split.head;
      packets = ps;
      rest = b ∷ bs;
      records = s.split.records;
      stuck = s.split.no_more;
      why = inr (s.split.refused, (λ e. cc (e)), ap (λ n. CutFile (n + 1)) s.count);
    } in
    (tt, inr (inr (bad, refl)))

-- where nothing is refused yet, the verdict says what the bytes are if none follow
pub ends-after :
    (bytes : List ℕ) (ps : List Packet) (s : Summary) (r : Result (Unit {0}) CapError) → HasSummary bytes ps s → s.error ≡ None → r ≡ verdict s
    → IsVerdictAfter r s.head bytes ps
ends-after bytes ps s r h is says =
    let v : verdict s ≡ unless_cut s.head s.count s.unfinished = ap (λ e. unless_refused e (unless_cut s.head s.count s.unfinished)) is in
    subst (λ x. IsVerdictAfter x s.head bytes ps) (sym (says ∙ v))
    (ends-parts bytes ps s.head s.count s.unfinished s.taken (with-error bytes ps s None is h))

-- a refusal behind some packets is a refusal
pub after-refused : (e : CapError) (bytes : List ℕ) (ps : List Packet) → IsRefusedAfter e bytes ps → IsRefused e bytes
after-refused e bytes ps (inl p) = inl (p.0, p.1)
after-refused e bytes ps (inr (inl p)) = inr (inl (p.0, p.1))
after-refused e bytes ps (inr (inr p)) = inr (inr p.0)

-- a capture isn't refused
pub capture-not_refused : (bytes : List ℕ) (h : Head) (ps : List Packet) (e : CapError) → IsCapture bytes h ps → IsRefused e bytes → ⊥
capture-not_refused bytes h ps e c r =
    let same : Ok tt ≡ Err e = verdict-unique bytes (Ok tt) (Err e) (h, ps, c) r in absurd (cc (same))

-- a refusal is for want of more bytes, or it isn't
pub cut-or_not : (e : CapError) → IsCut e ⊎ (IsCut e → ⊥)
cut-or_not (CutFile number) = inl tt
cut-or_not BadMagic = inr (λ x. x)
cut-or_not BadVersion = inr (λ x. x)
cut-or_not (UnknownLink link) = inr (λ x. x)
cut-or_not (RecordTooLong number length) = inr (λ x. x)
