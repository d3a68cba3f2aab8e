-- Where a text is split at its first `::`, and that a text in either form stands split there.
use Rattle.std.proofs.Common.{arith, refl, ap, sym, subst, ◌∙◌, inl, inr, ◌≡◌, ℕ, suc, ◌+◌, ◌<◌, ◌≤◌, List, [], ◌∷◌, ◌++◌, length, take, drop, Some}
use Rattle.std.specs.Str.Pattern.{FindsText}
use Rattle.am_addr.specs.Text.{IsList, IsFull, IsGapped, IsAddressText}
use Rattle.am_addr.proofs.Walk.{list_no_end, list_no_gap}

-- no `::` begins in the front
abbrev pub IsFirst : List ℕ → List ℕ → Type 0
IsFirst front text = (i : ℕ) → i < length front → (rest : List ℕ) → drop i text ≡ 58 ∷ 58 ∷ rest → ⊥

same_split :
    (front back before behind : List ℕ) → front ++ 58 ∷ 58 ∷ back ≡ before ++ 58 ∷ 58 ∷ behind
    → IsFirst front (front ++ 58 ∷ 58 ∷ back)
    → ((a b : List ℕ) → before ≡ a ++ 58 ∷ 58 ∷ b → ⊥) → ((a : List ℕ) → before ≡ a ++ 58 ∷ [] → ⊥)
    → (front ≡ before) × (back ≡ behind)
same_split [] back [] behind e first gap end = (refl, cc)
same_split [] back (b ∷ []) behind e first gap end = absurd (end [] (cc))
same_split [] back (b ∷ c ∷ bs) behind e first gap end = absurd (gap [] bs (cc))
same_split (f ∷ fs) back [] behind e first gap end = absurd (first 0 (omega arith) behind e)
same_split (f ∷ fs) back (b ∷ bs) behind e first gap end =
    let heads : f ≡ b = cc in
    let tails : fs ++ 58 ∷ 58 ∷ back ≡ bs ++ 58 ∷ 58 ∷ behind = cc in
    let rest = same_split fs back bs behind tails
    (λ i h more g. first (suc i) (omega arith) more g)
    (λ x y g. gap (b ∷ x) y (ap (λ (l : List ℕ). b ∷ l) g))
    (λ x g. end (b ∷ x) (ap (λ (l : List ℕ). b ∷ l) g)) in
    (cc (heads, rest.0), rest.1)

-- what stands for values has a `::` or is full
pub stands_full :
    (text values : List ℕ) → ((a b : List ℕ) → text ≡ a ++ 58 ∷ 58 ∷ b → ⊥) → IsAddressText text values → IsFull text values
stands_full text values lacks (inl f) = f
stands_full text values lacks (inr s) = absurd (lacks s.front s.back s.split)

pub stands_short :
    (text front back values : List ℕ) → text ≡ front ++ 58 ∷ 58 ∷ back → IsFirst front text → IsAddressText text values
    → IsGapped front back values
stands_short text front back values e first (inl f) =
    absurd (list_no_gap front back values (subst (λ (t : List ℕ). IsList values t) e f.list))
stands_short text front back values e first (inr s) =
    let same = same_split front back s.front s.back (sym e ∙ s.split)
    (subst (λ (t : List ℕ). IsFirst front t) e first)
    (λ a b g. list_no_gap a b s.short.before (subst (λ (t : List ℕ). IsList s.short.before t) g s.short.list_before))
    (λ a g. list_no_end a s.short.before (subst (λ (t : List ℕ). IsList s.short.before t) g s.short.list_before)) in
    subst (λ (t : List ℕ). IsGapped t back values) (sym same.0) (subst (λ (t : List ℕ). IsGapped s.front t values) (sym same.1) s.short)

-- what the search for the first `::` gives, in these words
pub is_first :
    (text front back : List ℕ)
    → ((i : ℕ) × (j : ℕ) × FindsText (58 ∷ 58 ∷ []) text (Some (i, j)) × (front ≡ take i text) × (back ≡ drop j text) × (i ≤ j) × (length front ≡ i) × (length back + j ≡ length text))
    → IsFirst front text
is_first text front back h i l rest e = h.2.0 i (omega (arith, l, h.6)) rest e
