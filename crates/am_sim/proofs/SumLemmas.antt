-- Sums and counts over the rows of a loss table.
use Rattle.std.proofs.Common.{◌≡◌, ◌∙◌, ℕ, ◌+◌, ◌<◌, Bool, true, cond, List, [], ◌∷◌, ◌++◌, length, get_or, take, map, refl, ap, arith}
use Rattle.std.specs.Prelude.{All, sum_by, count_by, fold, ℤ, pos, ◌+ℤ◌}
use Rattle.std.proofs.lemmas.Int.{ints}
use Rattle.std.proofs.lemmas.List.{take_more, length-append, map-append}
use Rattle.std.proofs.lemmas.List.Elements.{All-head, All-tail}
use Rattle.std.proofs.lemmas.List.Sums.{sum_by-cons, sum_by-append, fold-append}
use Rattle.am_control.specs.declared.row.Scope.{Scope}
use Rattle.am_control.specs.declared.row.LossRow.{LossRow}
use Rattle.am_world.specs.Delays.{signed_sum}
use Rattle.am_sim.specs.Comparing.{with_pair}
use Rattle.am_sim.specs.Simulating.{agree, row_of}

-- sums and counts that are equal at each item
pub sum-agree : {X : Type 0} (f g : X → ℕ) (xs : List X) → All (λ x. f x ≡ g x) xs → sum_by f xs ≡ sum_by g xs
sum-agree f g [] each = refl
sum-agree f g (x ∷ xs) each =
    let here : f x ≡ g x = All-head (λ y. f y ≡ g y) x xs each in
    let there = sum-agree f g xs (All-tail (λ y. f y ≡ g y) x xs each) in
    rw (sum_by-cons f x xs, sum_by-cons g x xs) (omega (arith, here, there))

-- what an item counts
abbrev one-if : Bool → ℕ
one-if b = cond b 1 0

pub count-agree : {X : Type 0} (p q : X → Bool) (xs : List X) → All (λ x. p x ≡ q x) xs → count_by p xs ≡ count_by q xs
count-agree p q [] each = refl
count-agree p q (x ∷ xs) each =
    let here = ap one-if (All-head (λ y. p y ≡ q y) x xs each) in
    let there : sum_by (λ y. cond (p y) 1 0) xs ≡ sum_by (λ y. cond (q y) 1 0) xs = count-agree p q xs (All-tail (λ y. p y ≡ q y) x xs each) in
    rw (sum_by-cons (λ y. cond (p y) 1 0) x xs, sum_by-cons (λ y. cond (q y) 1 0) x xs) (omega (arith, here, there))

-- all items pass
pub count-all : {X : Type 0} (p : X → Bool) (xs : List X) → All (λ x. p x ≡ true) xs → count_by p xs ≡ length xs
count-all p [] each = refl
count-all p (x ∷ xs) each =
    let here = ap one-if (All-head (λ y. p y ≡ true) x xs each) in
    let there : sum_by (λ y. cond (p y) 1 0) xs ≡ length xs = count-all p xs (All-tail (λ y. p y ≡ true) x xs each) in
    rw (sum_by-cons (λ y. cond (p y) 1 0) x xs) (omega (arith, here, there))

-- a signed sum of numbers
signed-from : {X : Type 0} (f : X → ℤ) (g : X → ℕ) (xs : List X) (z : ℕ) → All (λ x. f x ≡ pos (g x)) xs
    → fold ◌+ℤ◌ (pos z) (map f xs) ≡ pos (z + sum_by g xs)
signed-from f g [] z each = omega (arith, ints)
signed-from f g (x ∷ xs) z each =
    let first : pos z +ℤ f x ≡ pos (z + g x) = ap (λ l. pos z +ℤ l) (All-head (λ y. f y ≡ pos (g y)) x xs each) ∙ omega (arith, ints) in
    let rest = signed-from f g xs (z + g x) (All-tail (λ y. f y ≡ pos (g y)) x xs each) in
    ap (λ a. fold ◌+ℤ◌ a (map f xs)) first ∙ rest ∙ omega (arith, ints, sum_by-cons g x xs)

pub signed-all : {X : Type 0} (f : X → ℤ) (g : X → ℕ) (xs : List X) → All (λ x. f x ≡ pos (g x)) xs → signed_sum f xs ≡ pos (sum_by g xs)
signed-all f g xs each = signed-from f g xs 0 each ∙ omega (arith, ints)

-- a row over one more row of the loss table
pub row-more : (scope : Scope) (dropped : LossRow → ℕ) (rows : List LossRow) (i : ℕ) (r : LossRow) → i < length rows
    → row_of scope dropped (take (i + 1) rows)
    ≡ with_pair (row_of scope dropped (take i rows)) (get_or rows i r).lost (dropped (get_or rows i r))
row-more scope dropped rows i r below =
    let x = get_or rows i r in
    let so_far = take i rows in
    let more : take (i + 1) rows ≡ so_far ++ x ∷ [] = take_more rows i r below in
    let sums : sum_by dropped (so_far ++ x ∷ []) ≡ sum_by dropped so_far + dropped x
    = sum_by-append dropped so_far (x ∷ []) ∙ omega (arith, sum_by-cons dropped x []) in
    let losts : signed_sum (λ q. q.lost) (so_far ++ x ∷ []) ≡ signed_sum (λ q. q.lost) so_far +ℤ x.lost
    = ap (λ ls. fold ◌+ℤ◌ (pos 0) ls) (map-append (λ (q : LossRow). q.lost) so_far (x ∷ []))
    ∙ fold-append ◌+ℤ◌ (pos 0) (map (λ (q : LossRow). q.lost) so_far) (x.lost ∷ []) in
    let long : length (so_far ++ x ∷ []) ≡ length so_far + 1 = length-append so_far (x ∷ []) in
    let same : count_by (λ q. agree q.lost (dropped q)) (so_far ++ x ∷ [])
    ≡ count_by (λ q. agree q.lost (dropped q)) so_far + cond (agree x.lost (dropped x)) 1 0
    = sum_by-append (λ q. cond (agree q.lost (dropped q)) 1 0) so_far (x ∷ [])
    ∙ omega (arith, sum_by-cons (λ q. cond (agree q.lost (dropped q)) 1 0) x []) in
    ap (λ rs. row_of scope dropped rs) more ∙ cc (sums, losts, long, same)
