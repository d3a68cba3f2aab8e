-- A text has one list of rows, and the rows that it begins with are the first of them.
use Rattle.std.proofs.Common.{◌≡◌, ◌⊎◌, ◌∙◌, ℕ, List, [], ◌∷◌, ◌++◌, length, Option, Some, None, refl, sym, ap, subst, arith, inl, inr}
use Rattle.std.proofs.lemmas.List.{append-nil, length-append}
use Rattle.csv.specs.Machine.{Read, next_record}
use Rattle.csv.specs.Reading.{AreRecords, Reached}
use Rattle.csv.specs.declared.parser.Config.{Config}
use Rattle.csv.specs.declared.parser.State.{State}
use Rattle.am_report.specs.Rows.{column_names}
use Rattle.am_report.specs.Reports.{AreRows, BeginsWithRows, LacksHeader}

one-read : (p q : Read) → Some p ≡ Some q → p ≡ q
one-read p q e = cc

none-and-some : (o : Option Read) (p : Read) → o ≡ None → o ≡ Some p → ⊥
none-and-some o p none some = cc (sym none ∙ some)

-- all rows begin with those that the text begins with
begins-all : (cfg : Config) (s : State) (xs : List ℕ) (a b : List (List (List ℕ))) (s' : State) (ys : List ℕ)
    → AreRecords cfg s xs a → Reached cfg s xs b s' ys → (more : List (List (List ℕ))) × (a ≡ b ++ more)
unfolding Reached
begins-all cfg s xs a [] s' ys all h = (a, refl)
begins-all cfg s xs [] (r ∷ rs) s' ys all h =
    let here : next_record cfg s [] [] xs ≡ None = rw (all.2.0, all.2.1) all.3 in
    absurd (none-and-some _ h.0 here h.1)
begins-all cfg s xs (q ∷ qs) (r ∷ rs) s' ys all h =
    let same = one-read _ _ (sym all.2.1 ∙ h.1) in
    let left = subst (λ (p : Read). Reached cfg p.1 p.2 qs all.0 all.1) same all.2.3 in
    let rest = begins-all cfg h.0.1 h.0.2 qs rs s' ys (all.0, all.1, left, all.3) h.3 in
    let first : q ≡ r = all.2.2 ∙ ap (λ (p : Read). p.0) same ∙ sym h.2 in
    (rest.0, rw first (ap (λ (t : List (List (List ℕ))). r ∷ t) rest.1))

-- of two lists of rows that a text begins with, one begins with the other
begins-both : (cfg : Config) (s : State) (xs : List ℕ) (a b : List (List (List ℕ))) (s1 s2 : State) (y1 y2 : List ℕ)
    → Reached cfg s xs a s1 y1 → Reached cfg s xs b s2 y2
    → ((more : List (List (List ℕ))) × (a ++ more ≡ b)) ⊎ ((more : List (List (List ℕ))) × (b ++ more ≡ a))
unfolding Reached
begins-both cfg s xs [] b s1 s2 y1 y2 h k = inl (b, refl)
begins-both cfg s xs (q ∷ qs) [] s1 s2 y1 y2 h k = inr (q ∷ qs, refl)
begins-both cfg s xs (q ∷ qs) (r ∷ rs) s1 s2 y1 y2 h k =
    let same = one-read _ _ (sym h.1 ∙ k.1) in
    let left = subst (λ (p : Read). Reached cfg p.1 p.2 qs s1 y1) same h.3 in
    let first : q ≡ r = h.2 ∙ ap (λ (p : Read). p.0) same ∙ sym k.2 in
    elim (begins-both cfg k.0.1 k.0.2 qs rs s1 s2 y1 y2 left k.3) [
      | inl m ↦ inl (m.0, rw first (ap (λ (t : List (List (List ℕ))). r ∷ t) m.1))
      | inr m ↦ inr (m.0, rw first (ap (λ (t : List (List (List ℕ))). r ∷ t) m.1))
    ]

pub all-begin : (bytes : List ℕ) (a b : List (List (List ℕ))) → AreRows bytes a → BeginsWithRows bytes b
    → (more : List (List (List ℕ))) × (a ≡ b ++ more)
all-begin bytes a b all h = begins-all _ _ _ a b h.0 h.1 all h.2

pub both-begin : (bytes : List ℕ) (a b : List (List (List ℕ))) → BeginsWithRows bytes a → BeginsWithRows bytes b
    → ((more : List (List (List ℕ))) × (a ++ more ≡ b)) ⊎ ((more : List (List (List ℕ))) × (b ++ more ≡ a))
both-begin bytes a b h k = begins-both _ _ _ a b h.0 k.0 h.1 k.1 h.2 k.2

nothing-more : (a b more : List (List (List ℕ))) → a ≡ b ++ more → length a ≡ length b → a ≡ b
nothing-more a b [] e long = e ∙ append-nil b
nothing-more a b (m ∷ ms) e long = absurd (omega (arith, ap length e, length-append b (m ∷ ms), long))

pub one-rows : (bytes : List ℕ) (a b : List (List (List ℕ))) → AreRows bytes a → AreRows bytes b → a ≡ b
one-rows bytes a b p q =
    let m = all-begin bytes a b p (q.0, q.1, q.2) in
    let n = all-begin bytes b a q (p.0, p.1, p.2) in
    nothing-more a b m.0 m.1 (omega (arith, ap length m.1, ap length n.1, length-append b m.0, length-append a n.0))

-- a text whose rows begin with that of the columns' names doesn't lack it
pub has-header : (bytes : List ℕ) (others : List (List (List ℕ))) → BeginsWithRows bytes (column_names ∷ others)
    → LacksHeader bytes → ⊥
has-header bytes others h (inl none) =
    let m = all-begin bytes [] (column_names ∷ others) none h in
    cc (m.1)
has-header bytes others h (inr w) = elim (both-begin bytes (w.0 ∷ []) (column_names ∷ others) w.1 h) [
  | inl m ↦ w.2 (cc m.1)
  | inr m ↦ w.2 (cc m.1)
]
