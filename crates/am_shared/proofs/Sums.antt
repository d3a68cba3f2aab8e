-- A number of each view, added up: what the sum becomes where one view changes, and what it says of each.
use Rattle.std.proofs.Common.{◌≡◌, ℕ, zero, suc, ◌+◌, ◌*◌, ◌≤◌, List, [], ◌∷◌, ◌++◌, set, sym, refl, ap, arith, add-mul}
use mathlib.Core.Option.{some, some-injective, some-ne-none}
use lib.ListN.{get_elem?}
use Rattle.am_shared.specs.declared.rule.View.{View}
use Rattle.am_shared.specs.Rule.{total}

pub total-set : (f : View → ℕ) (views : List View) (i : ℕ) (v w : View) → get_elem? views i ≡ some v
    → total f (set views i w) + f v ≡ total f views + f w
total-set f [] i v w at = absurd (some-ne-none v (sym at))
total-set f (x ∷ xs) zero v w at = let same : f x ≡ f v = ap f (some-injective x v at) in omega arith
total-set f (x ∷ xs) (suc i) v w at = let r = total-set f xs i v w at in omega arith

pub total-snoc : (f : View → ℕ) (views : List View) (v : View) → total f (views ++ v ∷ []) ≡ total f views + f v
total-snoc f [] v = omega arith
total-snoc f (x ∷ xs) v = let r = total-snoc f xs v in omega arith

-- a part is at most the sum
pub part-le : (f : View → ℕ) (views : List View) (i : ℕ) (v : View) → get_elem? views i ≡ some v → f v ≤ total f views
part-le f [] i v at = absurd (some-ne-none v (sym at))
part-le f (x ∷ xs) zero v at = let same : f x ≡ f v = ap f (some-injective x v at) in omega arith
part-le f (x ∷ xs) (suc i) v at = let r = part-le f xs i v at in omega arith

pub total-le : (f g : View → ℕ) (views : List View) → ((v : View) → f v ≤ g v) → total f views ≤ total g views
total-le f g [] each = omega arith
total-le f g (x ∷ xs) each = let r = total-le f g xs each in let here = each x in omega arith

-- where each part is at most a number of it times c, the sum is at most the sum of these times c
pub total-le-times : (f g : View → ℕ) (c : ℕ) (views : List View)
    → ((j : ℕ) (v : View) → get_elem? views j ≡ some v → f v ≤ g v * c) → total f views ≤ total g views * c
total-le-times f g c [] each = omega arith
total-le-times f g c (x ∷ xs) each =
    let r = total-le-times f g c xs (λ j v at. each (suc j) v at) in
    let here = each 0 x refl in
    omega (arith, add-mul (g x) (total g xs) c)

-- where the sum is 0, and f is 0 wherever g is, the sum of f is 0
total-none : (f g : View → ℕ) (views : List View)
    → ((j : ℕ) (v : View) → get_elem? views j ≡ some v → g v ≡ 0 → f v ≡ 0) → total g views ≡ 0 → total f views ≡ 0
total-none f g [] each none = refl
total-none f g (x ∷ xs) each none =
    let r = total-none f g xs (λ j v at. each (suc j) v at) (omega arith) in
    let here = each 0 x refl (omega arith) in
    omega arith

-- where one view has all of g, it has all of f
pub sole : (f g : View → ℕ) (views : List View) (i : ℕ) (v : View) → get_elem? views i ≡ some v
    → ((j : ℕ) (u : View) → get_elem? views j ≡ some u → g u ≡ 0 → f u ≡ 0) → total g views ≡ g v → total f views ≡ f v
sole f g [] i v at each all = absurd (some-ne-none v (sym at))
sole f g (x ∷ xs) zero v at each all =
    let same : f x ≡ f v = ap f (some-injective x v at) in
    let same' : g x ≡ g v = ap g (some-injective x v at) in
    let r = total-none f g xs (λ j u at'. each (suc j) u at') (omega arith) in
    omega arith
sole f g (x ∷ xs) (suc i) v at each all =
    let part = part-le g xs i v at in
    let none : g x ≡ 0 = omega arith in
    let here = each 0 x refl none in
    let r = sole f g xs i v at (λ j u at'. each (suc j) u at') (omega arith) in
    omega arith
