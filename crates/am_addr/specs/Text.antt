-- The texts that stand for an address (RFC 4291, section 2.2). A text is the list of its bytes.
use Rattle.std.specs.Prelude.{◌≡◌, ℕ, ◌+◌, ◌-◌, ◌*◌, ◌/◌, ◌%◌, ◌<◌, ◌≤◌, ◌⊎◌, List, [], ◌∷◌, ◌++◌, length, replicate}

-- the byte c is a hexadecimal digit, in either case, and stands for d: the digits begin at 48, the letters at 65 and at 97
abbrev pub IsDigit : ℕ → ℕ → Type 0
IsDigit c d = ((d < 10) × (c ≡ 48 + d)) ⊎ ((10 ≤ d) × (d < 16) × ((c ≡ 65 + (d - 10)) ⊎ (c ≡ 97 + (d - 10))))

-- these are hexadecimal digits, and behind digits that stand for `before` they make it stand for the value
abbrev pub Digits : ℕ → List ℕ → ℕ → Type 0
Digits before [] value = value ≡ before
Digits before (c ∷ cs) value = (d : ℕ) × IsDigit c d × Digits (before * 16 + d) cs value

-- a group: one to four hexadecimal digits, which stand for the value
pub record IsGroup (text : List ℕ) (value : ℕ) : Type 0 where
  pub some : 0 < length text
  pub few : length text ≤ 4
  pub digits : Digits 0 text value

-- the text is a list of groups that have these values, joined by `:`, which is the byte 58; without values it is empty
abbrev pub IsList : List ℕ → List ℕ → Type 0
IsList [] text = text ≡ []
IsList (v ∷ []) text = IsGroup text v
IsList (v ∷ w ∷ vs) text = (group : List ℕ) × (rest : List ℕ) × (text ≡ group ++ 58 ∷ rest) × IsGroup group v × IsList (w ∷ vs) rest

-- eight groups joined by `:`
pub record IsFull (text values : List ℕ) : Type 0 where
  pub list : IsList values text
  pub eight : length values ≡ 8

-- two lists, either of which may be empty, of at most seven groups together, and 0 for each value that is missing between them
pub record IsGapped (front back values : List ℕ) : Type 0 where
  pub before : List ℕ
  pub behind : List ℕ
  pub list_before : IsList before front
  pub list_behind : IsList behind back
  pub few : length before + length behind ≤ 7
  pub filled : values ≡ before ++ replicate (8 - (length before + length behind)) 0 ++ behind

-- the text has a `::`, with a list before it and a list behind it
pub record IsShortened (text values : List ℕ) : Type 0 where
  pub front : List ℕ
  pub back : List ℕ
  pub split : text ≡ front ++ 58 ∷ 58 ∷ back
  pub short : IsGapped front back values

-- the text stands for an address that has these values, in one of the two ways
abbrev pub IsAddressText : List ℕ → List ℕ → Type 0
IsAddressText text values = IsFull text values ⊎ IsShortened text values

-- the bytes of values: two each, the higher first
abbrev pub bytes_of : List ℕ → List ℕ
bytes_of [] = []
bytes_of (v ∷ vs) = (v / 256) ∷ (v % 256) ∷ bytes_of vs

-- the text stands for the address that has these bytes
pub record IsTextOf (text bytes : List ℕ) : Type 0 where
  pub values : List ℕ
  pub stands : IsAddressText text values
  pub spelled : bytes ≡ bytes_of values
