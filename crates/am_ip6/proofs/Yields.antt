-- What an iterator has yielded, and what is still to come.
use Rattle.std.proofs.Common.{map, ap, ◌∙◌, ◌≡◌, List, [], ◌∷◌, ◌++◌}
use Rattle.std.proofs.lemmas.List.{append-nil}
use Rattle.std.specs.Iterator.{Yields, YieldsFirstBy}

-- together they are what was to come
pub yields-rest :
    {S A B : Type 0} (v : A → B) (rest : S → List B) (s : S) (xs : List A) (t : S) → Yields (YieldsFirstBy v rest) s xs t
    → rest s ≡ map v xs ++ rest t
yields-rest v rest s [] t y = ap rest y
yields-rest v rest s (x ∷ xs) t y = let e = yields-rest v rest y.0 xs t y.2 in y.1 ∙ ap (λ (l : List _). v x ∷ l) e

-- and it has yielded all where nothing is still to come
pub yields-all :
    {S A B : Type 0} (v : A → B) (rest : S → List B) (s : S) (xs : List A) (t : S) → Yields (YieldsFirstBy v rest) s xs t
    → rest t ≡ [] → rest s ≡ map v xs
yields-all v rest s xs t y e =
    yields-rest v rest s xs t y ∙ ap (λ (r : List _). map v xs ++ r) e ∙ append-nil (map v xs)
