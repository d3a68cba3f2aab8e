-- Facts on the values that groups hold, with the lengths written out.
use Rattle.std.proofs.Common.{◌≡◌, ℕ, ◌+◌, ◌<◌, ◌≤◌, List, [], ◌∷◌, ◌++◌, length, take, set}
use Rattle.std.proofs.lemmas.List.{take_more_set, length-take-le}

pub more_set : (xs : List ℕ) (i y : ℕ) → i < length xs → take (i + 1) (set xs i y) ≡ take i xs ++ y ∷ []
more_set xs i y h = take_more_set xs i y h

pub taken_length : (i : ℕ) (xs : List ℕ) → i ≤ length xs → length (take i xs) ≡ i
taken_length i xs h = length-take-le i xs h
