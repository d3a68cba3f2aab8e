-- One more item of a list, and one of its items.
use Rattle.std.proofs.Common.{◌≡◌, ℕ, ◌+◌, ◌<◌, List, [], ◌∷◌, ◌++◌, length, get_or, slice_get, take, zero, suc, Some, subst, sym, below_more, arith}
use Rattle.std.proofs.lemmas.List.{take_more, get_or_read}
use Rattle.std.proofs.lemmas.Option.{same_Some}
use Rattle.std.specs.List.{AllByRecursion, AllZip}
use Rattle.am_domain.specs.Lists.{AllBelow}

-- one more at the end of both lists
pub zip_more : {A B : Type 0} (R : A → B → Type 0) (xs : List A) (ys : List B) (x : A) (y : B) → AllZip R xs ys → R x y → AllZip R (xs ++ x ∷ []) (ys ++ y ∷ [])
zip_more R [] [] x y all here = (here, tt)
zip_more R [] (b ∷ ys) x y all here = absurd all
zip_more R (a ∷ xs) [] x y all here = absurd all
zip_more R (a ∷ xs) (b ∷ ys) x y all here = (all.0, zip_more R xs ys x y all.1 here)

-- the next of the list beside one more
pub zip_taken : {A B : Type 0} (R : A → B → Type 0) (xs : List A) (i : ℕ) (x : A) (ys : List B) (y : B) → i < length xs → x ≡ get_or xs i x → AllZip R (take i xs) ys → R x y
    → AllZip R (take (i + 1) xs) (ys ++ y ∷ [])
zip_taken R xs i x ys y within is all here = rw (take_more xs i x within) (rw (← is) (zip_more R (take i xs) ys x y all here))

-- what each of the first i has, and the next has, each of the first i + 1 has
pub more_below : {X : Type 0} (P : X → Type 0) (xs : List X) (i : ℕ) (x : X) → i < length xs → x ≡ get_or xs i x → AllBelow P i xs → P x → AllBelow P (i + 1) xs
more_below P xs i x within is all here = λ k d h.
    below_more (λ k. (e : _) → P (get_or xs k e)) i (λ k h e. all k e h) (λ e. subst P (get_or_read xs i x within is e) here) k h d

-- what each of the list has, one of them has
pub one-of-all : {X : Type 0} (P : X → Type 0) (xs : List X) (i : ℕ) (x : X) → AllByRecursion P xs → slice_get xs i ≡ Some x → P x
one-of-all P [] i x all e = cc e
one-of-all P (y ∷ ys) zero x all e = subst P (same_Some _ _ e) all.0
one-of-all P (y ∷ ys) (suc i) x all e = one-of-all P ys i x all.1 e

-- what each of the first n has, one of them has
pub one-of-first : {X : Type 0} (P : X → Type 0) (xs : List X) (n i : ℕ) (x : X) → AllByRecursion P (take n xs) → i < n → slice_get xs i ≡ Some x → P x
one-of-first P [] n i x all h e = cc e
one-of-first P (y ∷ ys) zero i x all h e = absurd (omega (arith, h))
one-of-first P (y ∷ ys) (suc n) zero x all h e = subst P (same_Some _ _ e) all.0
one-of-first P (y ∷ ys) (suc n) (suc i) x all h e = one-of-first P ys n i x all.1 (omega arith) e

-- what each of the first i has, and the next has, each of the first i + 1 has
pub first-and-next : {X : Type 0} (P : X → Type 0) (xs : List X) (i : ℕ) (x : X) → AllByRecursion P (take i xs) → slice_get xs i ≡ Some x → P x → AllByRecursion P (take (suc i) xs)
first-and-next P [] i x all e next = tt
first-and-next P (y ∷ ys) zero x all e next = (subst P (sym (same_Some _ _ e)) next, tt)
first-and-next P (y ∷ ys) (suc i) x all e next = (all.0, first-and-next P ys i x all.1 e next)
