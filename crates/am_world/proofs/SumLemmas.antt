-- Sums over lists, taken apart and turned.
use Rattle.std.proofs.Common.{◌≡◌, ◌≢◌, ◌∙◌, ℕ, zero, suc, ◌+◌, ◌*◌, ◌<◌, ◌≤◌, Bool, true, false, cond, eqb, ◌&&◌, List, [], ◌∷◌, length, get_or, refl, sym, ap, arith, inl, inr}
use Rattle.std.specs.Prelude.{sum_by, count_by, filter, Contains}
use Rattle.std.specs.List.{range_with_len}
use Rattle.std.proofs.lemmas.Bool.{false≢true, eqb-true, eq-eqb, ne_eqb, cases_Bool}
use Rattle.std.proofs.lemmas.List.Sums.{sum_by-cons}

-- the sum of the weights of those that pass a test
abbrev pub weigh : {X : Type 0} → (X → ℕ) → (X → Bool) → List X → ℕ
weigh weight test xs = sum_by (λ x. cond (test x) (weight x) 0) xs

-- a sum of sums of two terms
pub sum-both : {X : Type 0} (f g : X → ℕ) (xs : List X) → sum_by (λ x. f x + g x) xs ≡ sum_by f xs + sum_by g xs
sum-both f g [] = refl
sum-both f g (x ∷ xs) =
    rw (sum_by-cons (λ x. f x + g x) x xs, sum_by-cons f x xs, sum_by-cons g x xs) (omega (arith, sum-both f g xs))

-- sums of terms that are equal at each item
pub sum-same : {X : Type 0} (f g : X → ℕ) (xs : List X) → ((x : X) → Contains xs x → f x ≡ g x) → sum_by f xs ≡ sum_by g xs
sum-same f g [] each = refl
sum-same f g (x ∷ xs) each =
    let here : f x ≡ g x = each x (0, omega arith, refl) in
    let there = sum-same f g xs (λ y h. each y (suc h.0, omega (arith, h.1), h.2)) in
    rw (sum_by-cons f x xs, sum_by-cons g x xs) (omega arith)

-- a sum of nothing
pub sum-none : {X : Type 0} (xs : List X) → sum_by (λ _. 0) xs ≡ 0
sum-none [] = refl
sum-none (x ∷ xs) = rw (sum_by-cons (λ _. 0) x xs) (omega (arith, sum-none xs))

-- the terms of a table, added up by rows or by columns
pub sum-turned : {X Y : Type 0} (h : X → Y → ℕ) (xs : List X) (ys : List Y)
    → sum_by (λ x. sum_by (λ y. h x y) ys) xs ≡ sum_by (λ y. sum_by (λ x. h x y) xs) ys
sum-turned h [] ys = sym (sum-none ys)
sum-turned h (x ∷ xs) ys =
    let e = sum-turned h xs ys in
    let b = sum-both (λ y. h x y) (λ y. sum_by (λ x. h x y) xs) ys in
    let s = sum-same (λ y. sum_by (λ x. h x y) (x ∷ xs)) (λ y. h x y + sum_by (λ x. h x y) xs) ys
    (λ y _. sum_by-cons (λ x. h x y) x xs) in
    sum_by-cons (λ x. sum_by (λ y. h x y) ys) x xs ∙ omega (arith, e, b, s)

-- a term that one number alone has, in a run that begins after it
one-past : (a x start n : ℕ) → x < start → sum_by (λ v. cond (eqb x v) a 0) (range_with_len start n) ≡ 0
one-past a x start zero past = refl
one-past a x start (suc n) past =
    let other : eqb x start ≡ false = ne_eqb x start (λ e. absurd (omega (arith, e))) in
    let rest = one-past a x (start + 1) n (omega arith) in
    sum_by-cons (λ v. cond (eqb x v) a 0) start (range_with_len (start + 1) n) ∙ rw other (omega (arith, rest))

-- and in one that has it
pub one-there : (a x start n : ℕ) → start ≤ x → x < start + n → sum_by (λ v. cond (eqb x v) a 0) (range_with_len start n) ≡ a
one-there a x start zero from until = absurd (omega arith)
one-there a x start (suc n) from until = elim (cases_Bool (eqb x start)) [
  | inl here ↦
      let e : x ≡ start = eqb-true x start here in
      let rest = one-past a x (start + 1) n (omega arith) in
      sum_by-cons (λ v. cond (eqb x v) a 0) start (range_with_len (start + 1) n) ∙ rw here (omega (arith, rest))
  | inr other ↦
      let apart : x ≢ start = λ e. false≢true (rw other at (eq-eqb x start e)) in
      let rest = one-there a x (start + 1) n (omega (arith, apart)) (omega arith) in
      sum_by-cons (λ v. cond (eqb x v) a 0) start (range_with_len (start + 1) n) ∙ rw other (omega (arith, rest))
]

-- each term is at most the sum
pub item-le-sum : {X : Type 0} (f : X → ℕ) (xs : List X) (x : X) → Contains xs x → f x ≤ sum_by f xs
item-le-sum f [] x h = absurd (omega (arith, h.1))
item-le-sum f (y ∷ ys) x (zero, below, here) = omega (arith, sum_by-cons f y ys, ap f here)
item-le-sum f (y ∷ ys) x (suc k, below, here) =
    omega (arith, sum_by-cons f y ys, item-le-sum f ys x (k, omega arith, here))

-- a sum taken apart by a key of the items
pub sum-keys : {X : Type 0} (key f : X → ℕ) (xs : List X) (n : ℕ) → ((x : X) → Contains xs x → key x < n)
    → sum_by f xs ≡ sum_by (λ v. sum_by (λ x. cond (eqb (key x) v) (f x) 0) xs) (range_with_len 0 n)
sum-keys key f xs n below =
    let turned = sum-turned (λ v x. cond (eqb (key x) v) (f x) 0) (range_with_len 0 n) xs in
    let each = sum-same (λ x. sum_by (λ v. cond (eqb (key x) v) (f x) 0) (range_with_len 0 n)) f xs
    (λ x h. one-there (f x) (key x) 0 n (omega arith) (omega (arith, below x h))) in
    sym (turned ∙ each)

-- a sum over those that pass a test
pub sum-passing : {X : Type 0} (f : X → ℕ) (test : X → Bool) (xs : List X)
    → sum_by f (filter test xs) ≡ sum_by (λ x. cond (test x) (f x) 0) xs
sum-passing f test [] = refl
sum-passing f test (x ∷ xs) = elim (cases_Bool (test x)) [
  | inl there ↦
      rw (sum_by-cons (λ x. cond (test x) (f x) 0) x xs, there, sum_by-cons f x (filter test xs))
      (omega (arith, sum-passing f test xs))
  | inr away ↦ rw (sum_by-cons (λ x. cond (test x) (f x) 0) x xs, away) (omega (arith, sum-passing f test xs))
]

-- what stands in a list after a test stood in the list, and passes
pub from-filter : {X : Type 0} (test : X → Bool) (xs : List X) (x : X) → Contains (filter test xs) x
    → Contains xs x × (test x ≡ true)
from-filter test [] x h = absurd (omega (arith, h.1))
from-filter test (y ∷ ys) x h = elim (cases_Bool (test y)) [
  | inl there ↦ kept there (λ k below here. from-filter test ys x (k, below, here)) (rw there at h)
  | inr away ↦
      let r = from-filter test ys x (rw away at h) in
      ((suc r.0.0, omega (arith, r.0.1), r.0.2), r.1)
]
  where
    kept : test y ≡ true
        → ((k : ℕ) → k < length (filter test ys) → get_or (filter test ys) k x ≡ x → Contains ys x × (test x ≡ true))
        → Contains (y ∷ filter test ys) x → Contains (y ∷ ys) x × (test x ≡ true)
    kept there rest (zero, below, here) = ((0, omega arith, here), sym (ap test here) ∙ there)
    kept there rest (suc k, below, here) =
        let r = rest k (omega (arith, below)) here in
        ((suc r.0.0, omega (arith, r.0.1), r.0.2), r.1)

-- what stands in a list and passes a test stands in what is left after it
pub to-filter : {X : Type 0} (test : X → Bool) (xs : List X) (x : X) → Contains xs x → test x ≡ true
    → Contains (filter test xs) x
to-filter test [] x h pass = absurd (omega (arith, h.1))
to-filter test (y ∷ ys) x (zero, below, here) pass =
    let there : test y ≡ true = ap test here ∙ pass in
    rw there (0, omega arith, here)
to-filter test (y ∷ ys) x (suc k, below, here) pass =
    let r = to-filter test ys x (k, omega (arith, below), here) pass in
    elim (cases_Bool (test y)) [
      | inl there ↦ rw there (suc r.0, omega (arith, r.1), r.2)
      | inr away ↦ rw away r
    ]

-- equal weights are a count times the weight
pub weigh-one : {X : Type 0} (n : ℕ) (test : X → Bool) (xs : List X)
    → sum_by (λ x. cond (test x) n 0) xs ≡ count_by test xs * n
weigh-one n test [] = omega arith
weigh-one n test (x ∷ xs) = elim (cases_Bool (test x)) [
  | inl there ↦
      rw (sum_by-cons (λ x. cond (test x) n 0) x xs, sum_by-cons (λ x. cond (test x) 1 0) x xs, there)
      (omega (arith, weigh-one n test xs))
  | inr away ↦
      rw (sum_by-cons (λ x. cond (test x) n 0) x xs, sum_by-cons (λ x. cond (test x) 1 0) x xs, away)
      (omega (arith, weigh-one n test xs))
]

-- the weights of those of one key
at-key : {X : Type 0} (key : X → ℕ) (test : X → Bool) (xs : List X) (weight : ℕ → ℕ) (v : ℕ)
    → sum_by (λ x. cond (eqb (key x) v) (cond (test x) (weight (key x)) 0) 0) xs
    ≡ count_by (λ x. eqb (key x) v && test x) xs * weight v
at-key {X = X} key test xs weight v =
    sum-same (λ x. cond (eqb (key x) v) (cond (test x) (weight (key x)) 0) 0)
    (λ x. cond (eqb (key x) v && test x) (weight v) 0) xs (λ x _. one x)
    ∙ weigh-one (weight v) (λ x. eqb (key x) v && test x) xs
  where
    one : (x : X) → cond (eqb (key x) v) (cond (test x) (weight (key x)) 0) 0 ≡ cond (eqb (key x) v && test x) (weight v) 0
    one x = elim (cases_Bool (eqb (key x) v)) [
      | inl here ↦ rw (here, eqb-true (key x) v here) refl
      | inr other ↦ rw other refl
    ]

-- where of two lists as many pass at each key, equal weights of the keys add up to the same
pub same-by-keys : {X Y : Type 0} (key : X → ℕ) (test : X → Bool) (xs : List X) (other : Y → ℕ) (check : Y → Bool) (ys : List Y)
    → ((v : ℕ) → count_by (λ x. eqb (key x) v && test x) xs ≡ count_by (λ y. eqb (other y) v && check y) ys)
    → (weight : ℕ → ℕ)
    → sum_by (λ x. cond (test x) (weight (key x)) 0) xs ≡ sum_by (λ y. cond (check y) (weight (other y)) 0) ys
same-by-keys key test xs other check ys same weight =
    let n = 1 + (sum_by key xs + sum_by other ys) in
    let left = sum-keys key (λ x. cond (test x) (weight (key x)) 0) xs n (λ x h. omega (arith, item-le-sum key xs x h)) in
    let right = sum-keys other (λ y. cond (check y) (weight (other y)) 0) ys n
    (λ y h. omega (arith, item-le-sum other ys y h)) in
    let each = sum-same (λ v. sum_by (λ x. cond (eqb (key x) v) (cond (test x) (weight (key x)) 0) 0) xs)
    (λ v. sum_by (λ y. cond (eqb (other y) v) (cond (check y) (weight (other y)) 0) 0) ys) (range_with_len 0 n)
    (λ v _. at-key key test xs weight v ∙ ap (λ n. n * weight v) (same v) ∙ sym (at-key other check ys weight v)) in
    left ∙ each ∙ sym right
