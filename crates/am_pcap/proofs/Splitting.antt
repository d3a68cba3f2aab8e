-- Records one after another: more bytes behind them, more records behind them, and that there is one way to split.
use Rattle.std.proofs.Common.{arith, refl, sym, ap, subst, ◌∙◌, ◌≡◌, ℕ, zero, suc, ◌+◌, ◌≤◌, Bool, true, false, List, [], ◌∷◌, ◌++◌, length, take, drop, get_or, ◌⊎◌, inl, inr}
use Rattle.std.proofs.lemmas.List.{get_or_append_left, length-append, take-append-le, drop-append-le, length-drop}
use Rattle.std.proofs.lemmas.Bool.{cases_lt}
use Rattle.am_pcap.specs.Packets.{word, Packet, IsWhole, first_packet, behind_first, HoldsPackets}
use Rattle.am_pcap.specs.declared.decoder.TheConstants.{MAX_CAPTURED}

-- a number stays the same where bytes are added behind it
pub word-append : (big : Bool) (bytes more : List ℕ) (at : ℕ) → at + 4 ≤ length bytes → word big (bytes ++ more) at ≡ word big bytes at
unfolding word
word-append false bytes more at h =
    let a : get_or (bytes ++ more) at 0 ≡ get_or bytes at 0 = get_or_append_left bytes more 0 at (omega arith) in
    let b : get_or (bytes ++ more) (at + 1) 0 ≡ get_or bytes (at + 1) 0 = get_or_append_left bytes more 0 (at + 1) (omega arith) in
    let c : get_or (bytes ++ more) (at + 2) 0 ≡ get_or bytes (at + 2) 0 = get_or_append_left bytes more 0 (at + 2) (omega arith) in
    let d : get_or (bytes ++ more) (at + 3) 0 ≡ get_or bytes (at + 3) 0 = get_or_append_left bytes more 0 (at + 3) (omega arith) in
    cc (a, b, c, d)
word-append true bytes more at h =
    let a : get_or (bytes ++ more) at 0 ≡ get_or bytes at 0 = get_or_append_left bytes more 0 at (omega arith) in
    let b : get_or (bytes ++ more) (at + 1) 0 ≡ get_or bytes (at + 1) 0 = get_or_append_left bytes more 0 (at + 1) (omega arith) in
    let c : get_or (bytes ++ more) (at + 2) 0 ≡ get_or bytes (at + 2) 0 = get_or_append_left bytes more 0 (at + 2) (omega arith) in
    let d : get_or (bytes ++ more) (at + 3) 0 ≡ get_or bytes (at + 3) 0 = get_or_append_left bytes more 0 (at + 3) (omega arith) in
    cc (a, b, c, d)

-- a whole record stays one
pub whole-append : (big : Bool) (bytes more : List ℕ) → IsWhole big bytes → IsWhole big (bytes ++ more)
whole-append big bytes more w =
    let e = word-append big bytes more 8 (omega (arith, w.head)) in
    record {
      head = omega (arith, length-append bytes more, w.head);
      not_long = omega (arith, e, w.not_long);
      body = omega (arith, e, w.body, length-append bytes more);
    }

pub same_packet : (p q : Packet) → p.seconds ≡ q.seconds → p.fraction ≡ q.fraction → p.original ≡ q.original → p.bytes ≡ q.bytes → p ≡ q
same_packet p q a b c d = grind arith

-- with the same packet
pub first-append : (big : Bool) (bytes more : List ℕ) → IsWhole big bytes → first_packet big (bytes ++ more) ≡ first_packet big bytes
first-append big bytes more w =
    let a = word-append big bytes more 0 (omega (arith, w.head)) in
    let b = word-append big bytes more 4 (omega (arith, w.head)) in
    let c = word-append big bytes more 8 (omega (arith, w.head)) in
    let d = word-append big bytes more 12 (omega (arith, w.head)) in
    let e : drop 16 (bytes ++ more) ≡ drop 16 bytes ++ more = drop-append-le 16 bytes more w.head in
    let f : take (word big bytes 8) (drop 16 bytes ++ more) ≡ take (word big bytes 8) (drop 16 bytes) =
    take-append-le (word big bytes 8) (drop 16 bytes) more (omega (arith, length-drop 16 bytes, w.body)) in
    let g : take (word big (bytes ++ more) 8) (drop 16 (bytes ++ more)) ≡ take (word big bytes 8) (drop 16 bytes) =
    rw (c, e) f in
    same_packet (first_packet big (bytes ++ more)) (first_packet big bytes) a b d g

-- and what stands behind it grows
pub behind-append : (big : Bool) (bytes more : List ℕ) → IsWhole big bytes → behind_first big (bytes ++ more) ≡ behind_first big bytes ++ more
behind-append big bytes more w =
    let c = word-append big bytes more 8 (omega (arith, w.head)) in
    rw c (drop-append-le (16 + word big bytes 8) bytes more w.body)

-- more bytes behind the records are more of the rest
pub packets-append :
    (big : Bool) (bytes : List ℕ) (ps : List Packet) (rest more : List ℕ) → HoldsPackets big bytes ps rest
    → HoldsPackets big (bytes ++ more) ps (rest ++ more)
packets-append big bytes [] rest more h = ap (λ x. x ++ more) h
packets-append big bytes (p ∷ ps) rest more h =
    let again : HoldsPackets big (behind_first big bytes ++ more) ps (rest ++ more) =
    packets-append big (behind_first big bytes) ps rest more h.2 in (
      whole-append big bytes more h.0,
      h.1 ∙ sym (first-append big bytes more h.0),
      subst (λ x. HoldsPackets big x ps (rest ++ more)) (sym (behind-append big bytes more h.0)) again,
    )

-- records, and records of the rest
pub packets-join :
    (big : Bool) (bytes : List ℕ) (ps : List Packet) (mid : List ℕ) (qs : List Packet) (rest : List ℕ)
    → HoldsPackets big bytes ps mid → HoldsPackets big mid qs rest → HoldsPackets big bytes (ps ++ qs) rest
packets-join big bytes [] mid qs rest h k = subst (λ x. HoldsPackets big x qs rest) (sym h) k
packets-join big bytes (p ∷ ps) mid qs rest h k =
    (h.0, h.1, packets-join big (behind_first big bytes) ps mid qs rest h.2 k)

-- there is one way to split
pub split-unique :
    (big : Bool) (bytes : List ℕ) (ps : List Packet) (rest : List ℕ) (qs : List Packet) (left : List ℕ)
    → HoldsPackets big bytes ps rest → (IsWhole big rest → ⊥) → HoldsPackets big bytes qs left → (IsWhole big left → ⊥)
    → (ps ≡ qs) × (rest ≡ left)
split-unique big bytes [] rest [] left h stuck k none = (refl, sym h ∙ k)
split-unique big bytes [] rest (q ∷ qs) left h stuck k none = absurd (stuck (subst (λ x. IsWhole big x) h k.0))
split-unique big bytes (p ∷ ps) rest [] left h stuck k none = absurd (none (subst (λ x. IsWhole big x) k h.0))
split-unique big bytes (p ∷ ps) rest (q ∷ qs) left h stuck k none =
    let again = split-unique big (behind_first big bytes) ps rest qs left h.2 stuck k.2 none in
    let same : p ≡ q = h.1 ∙ sym k.1 in
    let both : p ∷ ps ≡ q ∷ qs = cc (same, again.0) in
    (both, again.1)

-- a whole record stands in front, or it doesn't
pub whole-or_not : (big : Bool) (bytes : List ℕ) → IsWhole big bytes ⊎ (IsWhole big bytes → ⊥)
whole-or_not big bytes = elim (cases_lt (length bytes) 16) [
  | inl a ↦ inr (λ (w : IsWhole big bytes). omega (arith, a, w.head))
  | inr a ↦ elim (cases_lt MAX_CAPTURED (word big bytes 8)) [
    | inl b ↦ inr (λ (w : IsWhole big bytes). omega (arith, b, w.not_long))
    | inr b ↦ elim (cases_lt (length bytes) (16 + word big bytes 8)) [
      | inl d ↦ inr (λ (w : IsWhole big bytes). omega (arith, d, w.body))
      | inr d ↦ inl (record { head = a; not_long = b; body = d })
    ]
  ]
]

-- and there is a way to split
pub split-exists :
    (most : ℕ) (big : Bool) (bytes : List ℕ) → length bytes ≤ most
    → (ps : List Packet) × (rest : List ℕ) × HoldsPackets big bytes ps rest × (IsWhole big rest → ⊥)
split-exists zero big bytes h = ([], bytes, refl, λ (w : IsWhole big bytes). omega (arith, h, w.head))
split-exists (suc most) big bytes h = elim (whole-or_not big bytes) [
  | inl w ↦
      let small : length (behind_first big bytes) ≤ most = omega (arith, h, length-drop (16 + word big bytes 8) bytes, w.head) in
      let again = split-exists most big (behind_first big bytes) small in
      (first_packet big bytes ∷ again.0, again.1, (w, refl, again.2), again.3)
  | inr stuck ↦ ([], bytes, refl, stuck)
]
