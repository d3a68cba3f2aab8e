-- A text stands for one address alone, and for one prefix alone.
use Rattle.std.proofs.Common.{arith, refl, ap, sym, subst, ◌∙◌, inl, inr, ◌≡◌, ℕ, suc, ◌+◌, ◌*◌, ◌<◌, List, [], ◌∷◌, ◌++◌, length, get_or}
use Rattle.am_addr.specs.Text.{IsList, IsGapped, IsAddressText, IsTextOf, bytes_of}
use Rattle.am_addr.specs.Bits.{Span, Decimal, IsPrefixText, cleared}
use Rattle.am_addr.specs.Walk.{GoesOn}
use Rattle.am_addr.proofs.Walk.{digit_no_colon, one_digit, list_goes, list_empty, list_no_gap, list_no_end}
use Rattle.am_addr.proofs.Slash.{no_slash}

-- ---- addresses

goes-alone : (text vs ws : List ℕ) (n v : ℕ) → GoesOn n v text vs → GoesOn n v text ws → vs ≡ ws
unfolding GoesOn
goes-alone [] vs ws n v a b = a.1 ∙ sym b.1
goes-alone (c ∷ cs) vs ws n v (inl p) (inl q) =
    p.2.1 ∙ ap (λ (x : List ℕ). v ∷ x) (goes-alone cs p.2.0 q.2.0 0 0 p.2.2 q.2.2) ∙ sym q.2.1
goes-alone (c ∷ cs) vs ws n v (inl p) (inr q) = absurd (digit_no_colon c q.0 p.0 q.1)
goes-alone (c ∷ cs) vs ws n v (inr p) (inl q) = absurd (digit_no_colon c p.0 q.0 p.1)
goes-alone (c ∷ cs) vs ws n v (inr p) (inr q) =
    let same : q.0 ≡ p.0 = one_digit c q.0 p.0 q.1 p.1 in
    goes-alone cs vs ws (n + 1) (v * 16 + p.0) p.3 (subst (λ (d : ℕ). GoesOn (n + 1) (v * 16 + d) cs ws) same q.3)

list-alone : (text vs ws : List ℕ) → IsList vs text → IsList ws text → vs ≡ ws
list-alone [] vs ws a b = sym (list_empty vs [] refl a) ∙ list_empty ws [] refl b
list-alone (c ∷ cs) vs ws a b =
    goes-alone (c ∷ cs) vs ws 0 0 (list_goes vs (c ∷ cs) a (omega arith)) (list_goes ws (c ∷ cs) b (omega arith))

-- the text has no `::`, and doesn't end with `:`
record IsPlain (text : List ℕ) : Type 0 where
  gap : (a b : List ℕ) → text ≡ a ++ 58 ∷ 58 ∷ b → ⊥
  end : (a : List ℕ) → text ≡ a ++ 58 ∷ [] → ⊥

list-plain : (vs text : List ℕ) → IsList vs text → IsPlain text
list-plain vs text l = record {
  gap = λ a b e. list_no_gap a b vs (subst (λ (t : List ℕ). IsList vs t) e l);
  end = λ a e. list_no_end a vs (subst (λ (t : List ℕ). IsList vs t) e l);
}

plain-tail : (c : ℕ) (cs : List ℕ) → IsPlain (c ∷ cs) → IsPlain cs
plain-tail c cs h = record {
  gap = λ a b e. h.gap (c ∷ a) b (ap (λ (l : List ℕ). c ∷ l) e);
  end = λ a e. h.end (c ∷ a) (ap (λ (l : List ℕ). c ∷ l) e);
}

-- a text is split at a `::` between plain texts in one way alone
gap-alone :
    (front back before behind : List ℕ) → front ++ 58 ∷ 58 ∷ back ≡ before ++ 58 ∷ 58 ∷ behind → IsPlain front → IsPlain before
    → (front ≡ before) × (back ≡ behind)
gap-alone [] back [] behind e p q = (refl, cc)
gap-alone [] back (b ∷ []) behind e p q = absurd (q.end [] (cc))
gap-alone [] back (b ∷ c ∷ bs) behind e p q = absurd (q.gap [] bs (cc))
gap-alone (f ∷ []) back [] behind e p q = absurd (p.end [] (cc))
gap-alone (f ∷ g ∷ fs) back [] behind e p q = absurd (p.gap [] fs (cc))
gap-alone (f ∷ fs) back (b ∷ bs) behind e p q =
    let heads : f ≡ b = cc in
    let tails : fs ++ 58 ∷ 58 ∷ back ≡ bs ++ 58 ∷ 58 ∷ behind = cc in
    let rest = gap-alone fs back bs behind tails (plain-tail f fs p) (plain-tail b bs q) in
    (cc (heads, rest.0), rest.1)

short-alone : (front back vs ws : List ℕ) → IsGapped front back vs → IsGapped front back ws → vs ≡ ws
short-alone front back vs ws a b =
    let before = list-alone front a.before b.before a.list_before b.list_before in
    let behind = list-alone back a.behind b.behind a.list_behind b.list_behind in
    a.filled ∙ rw (before, behind) (sym b.filled)

stands-alone : (text vs ws : List ℕ) → IsAddressText text vs → IsAddressText text ws → vs ≡ ws
stands-alone text vs ws (inl a) (inl b) = list-alone text vs ws a.list b.list
stands-alone text vs ws (inl a) (inr b) = absurd ((list-plain vs text a.list).gap b.front b.back b.split)
stands-alone text vs ws (inr a) (inl b) = absurd ((list-plain ws text b.list).gap a.front a.back a.split)
stands-alone text vs ws (inr a) (inr b) =
    let same = gap-alone a.front a.back b.front b.back (sym a.split ∙ b.split)
    (list-plain a.short.before a.front a.short.list_before) (list-plain b.short.before b.front b.short.list_before) in
    let short : IsGapped b.front b.back vs =
    subst (λ (t : List ℕ). IsGapped b.front t vs) same.1 (subst (λ (t : List ℕ). IsGapped t a.back vs) same.0 a.short) in
    short-alone b.front b.back vs ws short b.short

pub address-alone : (text a b : List ℕ) → IsTextOf text a → IsTextOf text b → a ≡ b
address-alone text a b p q = p.spelled ∙ ap bytes_of (stands-alone text p.values q.values p.stands q.stands) ∙ sym q.spelled

-- ---- prefixes

decimal-alone : (text : List ℕ) (before m n : ℕ) → Decimal before text m → Decimal before text n → m ≡ n
decimal-alone [] before m n a b = a ∙ sym b
decimal-alone (c ∷ cs) before m n a b =
    let same : b.0 ≡ a.0 = omega (arith, a.2, b.2) in
    decimal-alone cs (before * 10 + a.0) m n a.3 (subst (λ (d : ℕ). Decimal (before * 10 + d) cs n) same b.3)

-- a text is split at a `/` behind a text without one in one way alone
slash-alone :
    (front back before behind : List ℕ) → front ++ 47 ∷ back ≡ before ++ 47 ∷ behind
    → ((i : ℕ) → i < length front → get_or front i 0 ≡ 47 → ⊥) → ((i : ℕ) → i < length before → get_or before i 0 ≡ 47 → ⊥)
    → (front ≡ before) × (back ≡ behind)
slash-alone [] back [] behind e p q = (refl, cc)
slash-alone [] back (b ∷ bs) behind e p q = absurd (q 0 (omega arith) (cc))
slash-alone (f ∷ fs) back [] behind e p q = absurd (p 0 (omega arith) (cc))
slash-alone (f ∷ fs) back (b ∷ bs) behind e p q =
    let heads : f ≡ b = cc in
    let tails : fs ++ 47 ∷ back ≡ bs ++ 47 ∷ behind = cc in
    let rest = slash-alone fs back bs behind tails (λ i h. p (suc i) (omega arith)) (λ i h. q (suc i) (omega arith)) in
    (cc (heads, rest.0), rest.1)

pub prefix-alone : (text : List ℕ) (a b : Span) → IsPrefixText text a → IsPrefixText text b → a ≡ b
prefix-alone text a b p q =
    let at = slash-alone p.address p.number q.address q.number (sym p.split ∙ q.split)
    (no_slash p.address p.whole p.text_of) (no_slash q.address q.whole q.text_of) in
    let whole : p.whole ≡ q.whole =
    address-alone q.address p.whole q.whole (subst (λ (t : List ℕ). IsTextOf t p.whole) at.0 p.text_of) q.text_of in
    let size : a.length ≡ b.length =
    decimal-alone q.number 0 a.length b.length (subst (λ (t : List ℕ). Decimal 0 t a.length) at.1 p.length_of.digits) q.length_of.digits in
    let bytes : a.bytes ≡ b.bytes =
    p.front ∙ ap (λ n. cleared n p.whole) size ∙ ap (cleared b.length) whole ∙ sym q.front in
    λ i. record { bytes = bytes i; length = size i }
