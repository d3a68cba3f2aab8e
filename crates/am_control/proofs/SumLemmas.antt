-- Sums over lists of numbers, and over parts of a list.
use Rattle.std.proofs.Common.{◌≡◌, ◌≢◌, ◌∙◌, ℕ, zero, suc, ◌+◌, ◌<◌, ◌≤◌, Bool, true, false, cond, eqb, List, [], ◌∷◌, get_or, refl, sym, ap, arith, inl, inr}
use Rattle.std.specs.Prelude.{sum_by, filter, Contains}
use Rattle.std.specs.List.{list_any, range_with_len}
use Rattle.std.proofs.lemmas.Bool.{false≢true, eqb-true, eq-eqb, ne_eqb, cases_Bool, false_from_ne_true, or_left, or_right}
use Rattle.std.proofs.lemmas.List.{get_or_default}
use Rattle.std.proofs.lemmas.List.FromFn.{length-range_with_len, get_or-range_with_len}
use Rattle.std.proofs.lemmas.List.Sums.{sum_by-cons}
use Rattle.am_graph.specs.Lists.{Ascends}

-- a sum of sums of two terms
pub sum-both : (f g : ℕ → ℕ) (xs : List ℕ) → sum_by (λ x. f x + g x) xs ≡ sum_by f xs + sum_by g xs
sum-both f g [] = refl
sum-both f g (x ∷ xs) =
    rw (sum_by-cons (λ x. f x + g x) x xs, sum_by-cons f x xs, sum_by-cons g x xs) (omega (arith, sum-both f g xs))

-- sums of equal terms
pub sum-same : (f g : ℕ → ℕ) (xs : List ℕ) → ((x : ℕ) → Contains xs x → f x ≡ g x) → sum_by f xs ≡ sum_by g xs
sum-same f g [] each = refl
sum-same f g (x ∷ xs) each =
    let here : f x ≡ g x = each x (0, omega arith, refl) in
    let there = sum-same f g xs (λ y h. each y (suc h.0, omega (arith, h.1), h.2)) in
    rw (sum_by-cons f x xs, sum_by-cons g x xs) (omega arith)

-- a sum of nothing
pub sum-none : (xs : List ℕ) → sum_by (λ _. 0) xs ≡ 0
sum-none [] = refl
sum-none (x ∷ xs) = rw (sum_by-cons (λ _. 0) x xs) (omega (arith, sum-none xs))

-- the terms of a table, added up by rows or by columns
pub sum-turned : (h : ℕ → ℕ → ℕ) (xs ys : List ℕ)
    → sum_by (λ x. sum_by (λ y. h x y) ys) xs ≡ sum_by (λ y. sum_by (λ x. h x y) xs) ys
sum-turned h [] ys = sym (sum-none ys)
sum-turned h (x ∷ xs) ys =
    let e = sum-turned h xs ys in
    let b = sum-both (λ y. h x y) (λ y. sum_by (λ x. h x y) xs) ys in
    let s = sum-same (λ y. sum_by (λ x. h x y) (x ∷ xs)) (λ y. h x y + sum_by (λ x. h x y) xs) ys
    (λ y _. sum_by-cons (λ x. h x y) x xs) in
    sum_by-cons (λ x. sum_by (λ y. h x y) ys) x xs ∙ omega (arith, e, b, s)

-- a term that one number alone has, in a run that begins behind it
one-past : (f : ℕ → ℕ) (x a n : ℕ) → x < a → sum_by (λ v. cond (eqb v x) (f v) 0) (range_with_len a n) ≡ 0
one-past f x a zero past = refl
one-past f x a (suc n) past =
    let other : eqb a x ≡ false = ne_eqb a x (λ e. absurd (omega (arith, e))) in
    let rest = one-past f x (a + 1) n (omega arith) in
    sum_by-cons (λ v. cond (eqb v x) (f v) 0) a (range_with_len (a + 1) n) ∙ rw other (omega (arith, rest))

-- and in one that has it
pub one-there : (f : ℕ → ℕ) (x a n : ℕ) → a ≤ x → x < a + n → sum_by (λ v. cond (eqb v x) (f v) 0) (range_with_len a n) ≡ f x
one-there f x a zero from until = absurd (omega arith)
one-there f x a (suc n) from until = elim (cases_Bool (eqb a x)) [
  | inl here ↦
      let e : a ≡ x = eqb-true a x here in
      let rest = one-past f x (a + 1) n (omega arith) in
      sum_by-cons (λ v. cond (eqb v x) (f v) 0) a (range_with_len (a + 1) n) ∙ rw here (omega (arith, rest, ap f e))
  | inr other ↦
      let apart : a ≢ x = λ e. false≢true (rw other at (eq-eqb a x e)) in
      let rest = one-there f x (a + 1) n (omega (arith, apart)) (omega arith) in
      sum_by-cons (λ v. cond (eqb v x) (f v) 0) a (range_with_len (a + 1) n) ∙ rw other (omega (arith, rest))
]

-- whether the number is in the list
abbrev pub has_item : List ℕ → ℕ → Bool
has_item xs v = list_any (λ x. eqb v x) xs

pub has-from : (xs : List ℕ) (v : ℕ) → Contains xs v → has_item xs v ≡ true
has-from [] v h = absurd (omega (arith, h.1))
has-from (x ∷ xs) v (zero, below, here) = or_left (eqb v x) (has_item xs v) (eq-eqb v x (sym here))
has-from (x ∷ xs) v (suc k, below, here) = or_right (eqb v x) (has_item xs v) (has-from xs v (k, omega (arith, below), here))

pub from-has : (xs : List ℕ) (v : ℕ) → has_item xs v ≡ true → Contains xs v
from-has [] v h = absurd (cc h)
from-has (x ∷ xs) v h = elim (cases_Bool (eqb v x)) [
  | inl here ↦ (0, omega arith, sym (eqb-true v x here))
  | inr other ↦ let r = from-has xs v (rw other at h) in (suc r.0, omega (arith, r.1), r.2)
]

pub has-not : (xs : List ℕ) (v : ℕ) → (Contains xs v → ⊥) → has_item xs v ≡ false
has-not xs v none = false_from_ne_true (has_item xs v) (λ h. none (from-has xs v h))

-- of an ascending list, the items after the first ascend, and are above it
ascends-rest : (x : ℕ) (xs : List ℕ) → Ascends (x ∷ xs) → Ascends xs
ascends-rest x xs up i j less below = up (suc i) (suc j) (omega arith) (omega arith)

first-below : (x v : ℕ) (xs : List ℕ) → Ascends (x ∷ xs) → Contains xs v → x < v
first-below x v xs up h =
    let less : x < get_or xs h.0 0 = up 0 (suc h.0) (omega arith) (omega (arith, h.1)) in
    let same : get_or xs h.0 0 ≡ v = get_or_default xs h.0 0 v h.1 ∙ h.2 in
    omega arith

-- of the terms of the items, the first has its own
apart : (f : ℕ → ℕ) (x : ℕ) (xs : List ℕ) → Ascends (x ∷ xs) → (v : ℕ)
    → cond (has_item (x ∷ xs) v) (f v) 0 ≡ cond (eqb v x) (f v) 0 + cond (has_item xs v) (f v) 0
apart f x xs up v = elim (cases_Bool (eqb v x)) [
  | inl here ↦
      let e : v ≡ x = eqb-true v x here in
      let gone : has_item xs v ≡ false = has-not xs v (λ h. absurd (omega (arith, first-below x v xs up h))) in
      rw (here, gone) (omega arith)
  | inr other ↦ rw other (omega arith)
]

-- a sum over an ascending list of numbers below some, as one over all of these
pub sum-listed : (f : ℕ → ℕ) (n : ℕ) (xs : List ℕ) → Ascends xs → ((v : ℕ) → Contains xs v → v < n)
    → sum_by f xs ≡ sum_by (λ v. cond (has_item xs v) (f v) 0) (range_with_len 0 n)
sum-listed f n [] up below = sym (sum-none (range_with_len 0 n))
sum-listed f n (x ∷ xs) up below =
    let rest = sum-listed f n xs (ascends-rest x xs up) (λ v h. below v (suc h.0, omega (arith, h.1), h.2)) in
    let first = one-there f x 0 n (omega arith) (omega (arith, below x (0, omega arith, refl))) in
    let both = sum-both (λ v. cond (eqb v x) (f v) 0) (λ v. cond (has_item xs v) (f v) 0) (range_with_len 0 n) in
    let each = sum-same (λ v. cond (has_item (x ∷ xs) v) (f v) 0) (λ v. cond (eqb v x) (f v) 0 + cond (has_item xs v) (f v) 0)
    (range_with_len 0 n) (λ v _. apart f x xs up v) in
    sum_by-cons f x xs ∙ omega (arith, rest, first, both, each)

-- a sum over the numbers that pass a test
pub sum-passing : (f : ℕ → ℕ) (has : ℕ → Bool) (xs : List ℕ) → sum_by f (filter has xs) ≡ sum_by (λ v. cond (has v) (f v) 0) xs
sum-passing f has [] = refl
sum-passing f has (x ∷ xs) = elim (cases_Bool (has x)) [
  | inl there ↦
      rw (sum_by-cons (λ v. cond (has v) (f v) 0) x xs, there, sum_by-cons f x (filter has xs))
      (omega (arith, sum-passing f has xs))
  | inr away ↦ rw (sum_by-cons (λ v. cond (has v) (f v) 0) x xs, away) (omega (arith, sum-passing f has xs))
]

-- what stands in a run from 0 is below its length
pub in-run : (n v : ℕ) → Contains (range_with_len 0 n) v → v < n
in-run n v h =
    let below : h.0 < n = omega (arith, h.1, length-range_with_len 0 n) in
    omega (arith, h.2, get_or-range_with_len 0 n h.0 v below)

-- lists of numbers, in one of which each number that passes a test stands
pub record ArePartsOf (has : ℕ → Bool) (n count : ℕ) (side : ℕ → List ℕ) : Type 0 where
  pub ascend : (k : ℕ) → k < count → Ascends (side k)
  pub passes : (v k : ℕ) → k < count → Contains (side k) v → (v < n) × (has v ≡ true)
  pub stands : (v : ℕ) → v < n → has v ≡ true
      → (k : ℕ) × (k < count) × Contains (side k) v × ((j : ℕ) → j < count → Contains (side j) v → j ≡ k)

-- the term of a number is added once, where it passes
one-side : (f : ℕ → ℕ) (has : ℕ → Bool) (n count : ℕ) (side : ℕ → List ℕ) → ArePartsOf has n count side → (v : ℕ) → v < n
    → sum_by (λ k. cond (has_item (side k) v) (f v) 0) (range_with_len 0 count) ≡ cond (has v) (f v) 0
one-side f has n count side parts v below = elim (cases_Bool (has v)) [
  | inl there ↦
      let k = parts.stands v below there in
      let same = sum-same (λ j. cond (has_item (side j) v) (f v) 0) (λ j. cond (eqb j k.0) (f v) 0) (range_with_len 0 count)
      (λ j h. in-one j (in-run count j h) k.0 k.1 k.2 k.3) in
      rw there (same ∙ one-there (λ _. f v) k.0 0 count (omega arith) (omega (arith, k.1)))
  | inr away ↦
      let same = sum-same (λ j. cond (has_item (side j) v) (f v) 0) (λ j. 0) (range_with_len 0 count)
      (λ j h. in-none j (in-run count j h) away) in
      rw away (same ∙ sum-none (range_with_len 0 count))
]
  where
    in-one : (j : ℕ) → j < count → (k : ℕ) → k < count → Contains (side k) v
        → ((j : ℕ) → j < count → Contains (side j) v → j ≡ k)
        → cond (has_item (side j) v) (f v) 0 ≡ cond (eqb j k) (f v) 0
    in-one j within k k-within here only = elim (cases_Bool (eqb j k)) [
      | inl same ↦
          let e : j ≡ k = eqb-true j k same in
          let there : has_item (side j) v ≡ true = rw e (has-from (side k) v here) in
          rw (there, same) refl
      | inr other ↦
          let none : has_item (side j) v ≡ false
          = has-not (side j) v (λ h. false≢true (rw other at (eq-eqb j k (only j within h)))) in
          rw (none, other) refl
    ]

    in-none : (j : ℕ) → j < count → has v ≡ false → cond (has_item (side j) v) (f v) 0 ≡ 0
    in-none j within away =
        let none : has_item (side j) v ≡ false
        = has-not (side j) v (λ h. false≢true (rw away at (parts.passes v j within h).1)) in
        rw none refl

-- so the sums over the lists add up to the sum over the numbers that pass
pub sum-of-parts : (f : ℕ → ℕ) (has : ℕ → Bool) (n count : ℕ) (side : ℕ → List ℕ) → ArePartsOf has n count side
    → sum_by (λ k. sum_by f (side k)) (range_with_len 0 count) ≡ sum_by f (filter has (range_with_len 0 n))
sum-of-parts f has n count side parts =
    let listed = sum-same (λ k. sum_by f (side k)) (λ k. sum_by (λ v. cond (has_item (side k) v) (f v) 0) (range_with_len 0 n))
    (range_with_len 0 count)
    (λ k h. let within = in-run count k h in
    sum-listed f n (side k) (parts.ascend k within) (λ v c. (parts.passes v k within c).0)) in
    let turned = sum-turned (λ k v. cond (has_item (side k) v) (f v) 0) (range_with_len 0 count) (range_with_len 0 n) in
    let each = sum-same (λ v. sum_by (λ k. cond (has_item (side k) v) (f v) 0) (range_with_len 0 count)) (λ v. cond (has v) (f v) 0)
    (range_with_len 0 n) (λ v h. one-side f has n count side parts v (in-run n v h)) in
    listed ∙ turned ∙ each ∙ sym (sum-passing f has (range_with_len 0 n))
