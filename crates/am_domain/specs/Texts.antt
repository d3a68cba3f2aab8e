-- The values that stand at the keys of a domain file.
use Rattle.std.specs.Prelude.{◌≡◌, ℕ, pos, codes, ◌≤◌, ◌⊎◌, Bool, ◌||◌, ◌&&◌, ◌==◌, nat_le, not, IsTrue, List, length, Option, Some, None, String}
use Rattle.std.specs.List.{list_all}
use Rattle.std.specs.BTreeMap.{BTreeMap}
use Rattle.std.specs.declared.alloc.Global.{Global}
use Rattle.toml.specs.Data.{Data, string, integer, get_member}
use Rattle.toml.specs.View.{table_view}
use Rattle.toml.specs.declared.value.Value.{Value}
use Rattle.am_addr.specs.Bits.{Span, IsPrefixText}
use Rattle.am_domain.specs.declared.table.TheConstants.{MAX_NAME, MAX_FILE_NAME, MAX_FLOW, MAX_READING}
use Rattle.am_ip6.specs.declared.marks.Place.{Place}
use Rattle.am_ip6.specs.declared.marks.Place.TheVariants.{HopByHop, Destination}

-- a table of the crate `toml`
abbrev pub Table : Type 0
Table = BTreeMap (String Global) Value

-- a byte that a name may have: A to Z, a to z, 0 to 9, '.', '_' and '-'
unfoldable pub is_name_byte : ℕ → Bool
is_name_byte c =
    (nat_le 65 c && nat_le c 90) || (nat_le 97 c && nat_le c 122) || (nat_le 48 c && nat_le c 57)
    || (c == 46) || (c == 95) || (c == 45)

-- a name: 1 to 32 such characters
pub record IsName (text : List ℕ) : Type 0 where
  pub some : 1 ≤ length text
  pub most : length text ≤ MAX_NAME
  pub plain : IsTrue (list_all is_name_byte text)

-- a byte of a file's name: no control character, so none of U+0000 to U+001F, and not U+007F
unfoldable pub is_file_byte : ℕ → Bool
is_file_byte c = nat_le 32 c && not (c == 127)

-- a file's name: 1 to 255 bytes without control characters
pub record IsFileName (text : List ℕ) : Type 0 where
  pub some : 1 ≤ length text
  pub most : length text ≤ MAX_FILE_NAME
  pub plain : IsTrue (list_all is_file_byte text)

-- what stands at a key of a table
abbrev pub at_text : Table → List ℕ → Option Data
at_text table key = get_member key (table_view table)

-- the whole number of 0 or more that stands there
abbrev pub natural : Option Data → Option ℕ
natural (Some (integer (pos n))) = Some n
natural _ = None

-- the text that stands there
abbrev pub text_of : Option Data → Option (List ℕ)
text_of (Some (string text)) = Some text
text_of _ = None

-- a whole number of 0 or more stands there
abbrev pub IsNumberAt : Option Data → ℕ → Type 0
IsNumberAt at n = at ≡ Some (integer (pos n))

-- a name stands there
abbrev pub IsNameAt : Option Data → List ℕ → Type 0
IsNameAt at text = (at ≡ Some (string text)) × IsName text

-- the name of a file stands there
abbrev pub IsFileNameAt : Option Data → List ℕ → Type 0
IsFileNameAt at text = (at ≡ Some (string text)) × IsFileName text

-- the text of a prefix stands there (RFC 4291, section 2.3)
abbrev pub IsPrefixAt : Option Data → Span → Type 0
IsPrefixAt at span = (text : List ℕ) × (at ≡ Some (string text)) × IsPrefixText text span

-- the number of a flow stands there, which has 20 bits (RFC 9343, section 3)
abbrev pub IsIdAt : Option Data → ℕ → Type 0
IsIdAt at n = (at ≡ Some (integer (pos n))) × (n ≤ MAX_FLOW)

-- a reading that a capture can have, in nanoseconds: at most 2^32 seconds
abbrev pub IsReading : ℕ → Type 0
IsReading n = n ≤ MAX_READING

-- a reading stands there
abbrev pub IsReadingAt : Option Data → ℕ → Type 0
IsReadingAt at n = (at ≡ Some (integer (pos n))) × IsReading n

-- a number of workers stands there, 1 to 64, or nothing, which means 1
abbrev pub IsWorkersAt : Option Data → ℕ → Type 0
IsWorkersAt at n =
    ((at ≡ None) × (n ≡ 1)) ⊎ ((at ≡ Some (integer (pos n))) × (1 ≤ n) × (n ≤ 64))

-- the kind of header that marks stand in stands there
abbrev pub IsPlaceAt : Option Data → Place → Type 0
IsPlaceAt at HopByHop = at ≡ Some (string (codes "hop-by-hop"))
IsPlaceAt at Destination = at ≡ Some (string (codes "destination"))
