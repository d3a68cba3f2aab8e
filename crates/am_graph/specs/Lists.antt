-- Lists of numbers.
use Rattle.std.specs.Prelude.{ℕ, ◌<◌, ◌↔◌, List, [], ◌∷◌, ◌++◌, length, Contains, slice_index, slice_index_or, slice_set}

-- the list at this place
abbrev pub list_at : List (List ℕ) → ℕ → List ℕ
list_at lists place = slice_index_or lists place []

-- the lists, with one more item at the end of the one at this place
abbrev pub with_item : List (List ℕ) → ℕ → ℕ → List (List ℕ)
with_item lists place item = slice_set lists place (list_at lists place ++ item ∷ [])

-- each item is below all later ones
abbrev pub Ascends : List ℕ → Type 0
Ascends xs = (i j : ℕ) → i < j → j < length xs → slice_index xs i < slice_index xs j

-- the ascending list of the numbers that have P
pub record IsListOf (P : ℕ → Type 0) (xs : List ℕ) : Type 0 where
  pub ascends : Ascends xs
  pub has : (x : ℕ) → Contains xs x ↔ P x
