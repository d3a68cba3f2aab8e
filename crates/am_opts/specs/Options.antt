-- Option lists, as they stand in a Hop-by-Hop Options or a Destination Options header (RFC 8200, section 4.2).
use Rattle.std.specs.Prelude.{◌≡◌, ℕ, ◌+◌, ◌<◌, List, [], ◌∷◌, ◌++◌, length, flat_map}

-- these bytes are one option: a single byte 0, which is Pad1; or a type that isn't 0, a length, and as many bytes
abbrev pub IsOption : List ℕ → Type 0
IsOption [] = ⊥
IsOption (kind ∷ []) = kind ≡ 0
IsOption (kind ∷ size ∷ body) = (0 < kind) × (length body ≡ size)

-- an option, and where it begins
pub record Placed : Type 0 where
  pub at : ℕ
  pub bytes : List ℕ

-- the bytes of options, one after another
abbrev pub joined : List Placed → List ℕ
joined options = flat_map (λ o. o.bytes) options

-- these are options, each of which begins where the one before it ends, the first of them at this place
abbrev pub Follow : ℕ → List Placed → Type 0
Follow at [] = Unit {0}
Follow at (o ∷ os) = (o.at ≡ at) × IsOption o.bytes × Follow (at + length o.bytes) os

-- the bytes are an option list: these options and nothing else
pub record IsOptionsOf (area : List ℕ) (options : List Placed) : Type 0 where
  pub whole : area ≡ joined options
  pub follow : Follow 0 options

-- the bytes are an option list
abbrev pub IsOptionList : List ℕ → Type 0
IsOptionList area = (options : List Placed) × IsOptionsOf area options

-- the bytes are a list of so many options
pub record HasOptionsSoMany (area : List ℕ) (n : ℕ) : Type 0 where
  pub options : List Placed
  pub list : IsOptionsOf area options
  pub count : n ≡ length options

-- the bytes begin with no option
abbrev pub BeginsWithNone : List ℕ → Type 0
BeginsWithNone bytes = (option after : List ℕ) → IsOption option → bytes ≡ option ++ after → ⊥

-- the options of the longest front of an area that is an option list, the first of which begins at this place: those of each other front that is one come first among them
pub record IsLongest (begin : ℕ) (area : List ℕ) (options : List Placed) : Type 0 where
  pub rest : List ℕ
  pub split : area ≡ joined options ++ rest
  pub follow : Follow begin options
  pub longest : (others : List Placed) (after : List ℕ) → Follow begin others → area ≡ joined others ++ after → (tail : List Placed) × (options ≡ others ++ tail)

-- the longest front of the bytes that is an option list has so many bytes
pub record StopsAt (area : List ℕ) (place : ℕ) : Type 0 where
  pub options : List Placed
  pub longest : IsLongest 0 area options
  pub place_is : place ≡ length (joined options)
