-- Numbers in text and in bytes.
use Rattle.std.specs.Prelude.{◌≡◌, ℕ, ◌+◌, ◌*◌, ◌^◌, ◌<◌, List, length, slice_index}
use Rattle.std.specs.Str.Parse.{IsNumeral, digits_value}

-- a decimal number as it is written: one digit or more, a 0 alone or none in front, and small enough for 128 bits
pub record IsDecimal (text : List ℕ) : Type 0 where
  pub digits : IsNumeral 10 text
  pub no_zero_in_front : slice_index text 0 ≡ 48 → length text ≡ 1
  pub fits : digits_value 10 text < 2 ^ 128

-- the number that two or four bytes give in network order
abbrev pub big_16 : List ℕ → ℕ
big_16 bytes = slice_index bytes 0 * 2 ^ 8 + slice_index bytes 1

abbrev pub big_32 : List ℕ → ℕ
big_32 bytes = slice_index bytes 0 * 2 ^ 24 + slice_index bytes 1 * 2 ^ 16 + slice_index bytes 2 * 2 ^ 8 + slice_index bytes 3

-- and with the lowest byte first
abbrev pub little_16 : List ℕ → ℕ
little_16 bytes = slice_index bytes 0 + slice_index bytes 1 * 2 ^ 8

abbrev pub little_32 : List ℕ → ℕ
little_32 bytes = slice_index bytes 0 + slice_index bytes 1 * 2 ^ 8 + slice_index bytes 2 * 2 ^ 16 + slice_index bytes 3 * 2 ^ 24
