-- The first bits of an address, and the texts that stand for them (RFC 4291, section 2.3).
use Rattle.std.specs.Prelude.{◌≡◌, ℕ, ◌+◌, ◌-◌, ◌*◌, ◌/◌, ◌^◌, ◌<◌, ◌≤◌, min, List, [], ◌∷◌, ◌++◌, length, replicate}
use Rattle.am_addr.specs.Text.{IsTextOf}

-- the byte with each bit past the first ones, so many, set to 0
abbrev pub kept : ℕ → ℕ → ℕ
kept count byte = byte / 2 ^ (8 - count) * 2 ^ (8 - count)

-- the bytes with each bit past the first ones, so many, set to 0
abbrev pub cleared : ℕ → List ℕ → List ℕ
cleared count [] = []
cleared count (b ∷ bs) = kept (min count 8) b ∷ cleared (count - 8) bs

-- sixteen bytes whose first bits, so many, are 1, and whose others are 0
abbrev pub ones : ℕ → List ℕ
ones count = cleared count (replicate 16 255)

-- the first bits, so many, are the same
abbrev pub BeginAlike : ℕ → List ℕ → List ℕ → Type 0
BeginAlike count xs ys = cleared count xs ≡ cleared count ys

-- what a prefix says: the bits, as the bytes of an address whose further bits are 0, and how many count
pub record Span : Type 0 where
  pub bytes : List ℕ
  pub length : ℕ

-- these are decimal digits, and behind digits that stand for `before` they make it stand for the number
abbrev pub Decimal : ℕ → List ℕ → ℕ → Type 0
Decimal before [] n = n ≡ before
Decimal before (c ∷ cs) n = (d : ℕ) × (d < 10) × (c ≡ 48 + d) × Decimal (before * 10 + d) cs n

-- a number of bits: decimal digits, of which the first is 0 only where there is no other, for at most 128
pub record IsLength (text : List ℕ) (n : ℕ) : Type 0 where
  pub some : 0 < length text
  pub plain : (rest : List ℕ) → text ≡ 48 ∷ rest → rest ≡ []
  pub digits : Decimal 0 text n
  pub most : n ≤ 128

-- the text is one of an address, `/`, which is the byte 47, and a number of bits, and this is what it stands for
pub record IsPrefixText (text : List ℕ) (span : Span) : Type 0 where
  pub address : List ℕ
  pub number : List ℕ
  pub split : text ≡ address ++ 47 ∷ number
  pub whole : List ℕ
  pub text_of : IsTextOf address whole
  pub length_of : IsLength number span.length
  pub front : span.bytes ≡ cleared span.length whole
