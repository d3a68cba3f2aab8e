-- A list of groups, seen from within it: what it may still go on with.
use Rattle.std.specs.Prelude.{◌≡◌, ℕ, ◌+◌, ◌*◌, ◌<◌, ◌⊎◌, List, [], ◌∷◌, ◌++◌, take}
use Rattle.am_addr.specs.declared.groups.Groups.{Groups}
use Rattle.am_addr.specs.Text.{IsDigit}

-- the values that groups hold
unfoldable pub listed : Groups → List ℕ
listed g = take g.count g.items

-- behind so many digits of a group, which stand for this value, the text ends the group and goes on with others; these are the values of all of them
unfoldable pub GoesOn : ℕ → ℕ → List ℕ → List ℕ → Type 0
GoesOn digits value [] values = (0 < digits) × (values ≡ value ∷ [])
GoesOn digits value (c ∷ cs) values =
    ((c ≡ 58) × (0 < digits) × ((others : List ℕ) × (values ≡ value ∷ others) × GoesOn 0 0 cs others))
    ⊎ ((d : ℕ) × IsDigit c d × (digits < 4) × GoesOn (digits + 1) (value * 16 + d) cs values)

-- the same behind groups that have ended
pub record Reads (ended : List ℕ) (digits value : ℕ) (text values : List ℕ) : Type 0 where
  pub others : List ℕ
  pub all : values ≡ ended ++ others
  pub goes : GoesOn digits value text others
