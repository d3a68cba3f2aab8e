-- The text of an address that is printed (RFC 5952, section 4).
use Rattle.std.specs.Prelude.{◌≡◌, ℕ, ◌+◌, ◌*◌, ◌/◌, ◌%◌, ◌<◌, ◌≤◌, ◌⊎◌, cond, nat_lt, nat_le, List, [], ◌∷◌, ◌++◌, length, replicate, slice_index_or}

-- the digit of a value below 16, in lower case: the digits begin at 48, the letters at 97
abbrev pub glyph : ℕ → ℕ
glyph d = cond (nat_lt d 10) (48 + d) (87 + d)

-- a value in hexadecimal without leading zeros, of one to four digits
unfoldable pub group_of : ℕ → List ℕ
group_of v =
    cond (nat_le 4096 v) (glyph (v / 4096) ∷ []) [] ++ cond (nat_le 256 v) (glyph (v / 256 % 16) ∷ []) []
    ++ cond (nat_le 16 v) (glyph (v / 16 % 16) ∷ []) [] ++ glyph (v % 16) ∷ []

-- values, joined by `:`
abbrev pub list_of : List ℕ → List ℕ
list_of [] = []
list_of (v ∷ []) = group_of v
list_of (v ∷ w ∷ vs) = group_of v ++ 58 ∷ list_of (w ∷ vs)

-- a run of zeros among values, so many, with these values before and behind it
pub record IsRun (values before : List ℕ) (count : ℕ) (behind : List ℕ) : Type 0 where
  pub some : 0 < count
  pub parts : values ≡ before ++ replicate count 0 ++ behind

-- the longest run, and of several longest the first: each run is shorter, or as long and no earlier
pub record IsBest (values before : List ℕ) (count : ℕ) : Type 0 where
  pub behind : List ℕ
  pub run : IsRun values before count behind
  pub best : (front : List ℕ) (n : ℕ) (back : List ℕ) → IsRun values front n back → (n < count) ⊎ ((n ≡ count) × (length before ≤ length front))

-- the longest run, of two values or more, is written as `::`
pub record IsCompressed (text values : List ℕ) : Type 0 where
  pub before : List ℕ
  pub count : ℕ
  pub longest : IsBest values before count
  pub two : 2 ≤ count
  pub spelled : text ≡ list_of before ++ 58 ∷ 58 ∷ list_of longest.behind

-- there is no run of two values or more, and all are written
pub record IsUncompressed (text values : List ℕ) : Type 0 where
  pub short : (front : List ℕ) (n : ℕ) (back : List ℕ) → IsRun values front n back → n < 2
  pub spelled : text ≡ list_of values

-- the printed text of an address with these values
abbrev pub IsPrinted : List ℕ → List ℕ → Type 0
IsPrinted text values = IsCompressed text values ⊎ IsUncompressed text values

-- the values of bytes: two bytes each, the higher first
abbrev pub values_of : List ℕ → List ℕ
values_of [] = []
values_of (x ∷ []) = []
values_of (x ∷ y ∷ rest) = (x * 256 + y) ∷ values_of rest

-- each run before a place is shorter than this one, or as long and no earlier
abbrev pub IsBestBelow : List ℕ → ℕ → ℕ → ℕ → Type 0
IsBestBelow values place at count =
    (front : List ℕ) (n : ℕ) (back : List ℕ) → IsRun values front n back → length front < place → (n < count) ⊎ ((n ≡ count) × (at ≤ length front))

-- each is below 256
abbrev pub AreBytes : List ℕ → Type 0
AreBytes xs = (i : ℕ) → slice_index_or xs i 0 < 256
