-- Words on lists: the first place of something, and pairs that are the same.
use Rattle.std.specs.Prelude.{ℕ, ◌<◌, List, length, slice_index_or}

-- each of the first n has it
abbrev pub AllBelow : {X : Type 0} → (X → Type 0) → ℕ → List X → Type 0
AllBelow {X} P n xs = (k : ℕ) (d : X) → k < n → P (slice_index_or xs k d)

-- this is the first place whose item lacks P, and it has Q instead
pub record IsFirstPlace {X : Type 0} (P Q : X → Type 0) (xs : List X) (place : ℕ) : Type 0 where
  pub within : place < length xs
  pub before : AllBelow P place xs
  pub here : (d : X) → Q (slice_index_or xs place d)

-- no two of the first n are the same
abbrev pub DistinctBelow : {X : Type 0} → (X → X → Type 0) → ℕ → List X → Type 0
DistinctBelow {X} Same n xs =
    (j : ℕ) (d : X) → j < n → AllBelow (λ x. ¬ Same x (slice_index_or xs j d)) j xs

-- the least place whose item is the same as an earlier one, and that earlier one's place
pub record IsFirstPair {X : Type 0} (Same : X → X → Type 0) (xs : List X) (first second : ℕ)
    : Type 0 where
  pub order : first < second
  pub within : second < length xs
  pub before : DistinctBelow Same second xs
  pub same : (d : X) → Same (slice_index_or xs first d) (slice_index_or xs second d)
