-- What stands in a file header: which form and link type it tells, or why it is refused.
use Rattle.std.specs.Prelude.{◌≡◌, ◌≢◌, ℕ, ◌+◌, ◌*◌, ◌%◌, ◌^◌, Bool, true, false, List, take, Option, Some, None, Result, Ok, Err, slice_index, cond}
use Rattle.std.specs.Int.{w32, to_be_bytes, to_le_bytes}
use Rattle.am_pcap.specs.Packets.{word}
use Rattle.am_pcap.specs.declared.record.Form.{Form}
use Rattle.am_pcap.specs.declared.frame.LinkKind.{LinkKind}
use Rattle.am_pcap.specs.declared.frame.LinkKind.TheVariants.{Ethernet, RawIp, RawIp6}
use Rattle.am_pcap.specs.declared.refusal.CapError.{CapError}
use Rattle.am_pcap.specs.declared.refusal.CapError.TheVariants.{BadMagic, BadVersion, UnknownLink}
use Rattle.am_pcap.specs.declared.head.Head.{Head}

-- the 16-bit number at a place of the bytes, in the file's byte order
unfoldable pub half_word : Bool → List ℕ → ℕ → ℕ
half_word false bytes at = slice_index bytes at + slice_index bytes (at + 1) * 2 ^ 8
half_word true bytes at = slice_index bytes at * 2 ^ 8 + slice_index bytes (at + 1)

-- the magic that files begin with, by the unit of their fractions
abbrev pub magic_of : Bool → ℕ
magic_of true = 0xa1b23c4d
magic_of false = 0xa1b2c3d4

-- the number of a link type
abbrev pub link_number : LinkKind → ℕ
link_number Ethernet = 1
link_number RawIp = 101
link_number RawIp6 = 229

-- the lower 16 bits of the word for the link type
abbrev pub link_bits : Bool → List ℕ → ℕ
link_bits big bytes = word big bytes 20 % 2 ^ 16

-- the four bytes of the magic of a form, in its byte order
abbrev pub magic_bytes : Form → List ℕ
magic_bytes form = cond form.big (to_be_bytes w32 (magic_of form.nano)) (to_le_bytes w32 (magic_of form.nano))

-- the bytes begin with the magic of this form
abbrev pub HasMagic : Form → List ℕ → Type 0
HasMagic form bytes = take 4 bytes ≡ magic_bytes form

-- the version behind the magic is 2.4
abbrev pub HasVersion : Form → List ℕ → Type 0
HasVersion form bytes = (half_word form.big bytes 4 ≡ 2) × (half_word form.big bytes 6 ≡ 4)

-- the 24 bytes are the file header that tells this form and link type
pub record IsHead (h : Head) (bytes : List ℕ) : Type 0 where
  pub magic : HasMagic h.form bytes
  pub version : HasVersion h.form bytes
  pub link : link_bits h.form.big bytes ≡ link_number h.link
  pub raw : h.raw ≡ bytes

-- why the 24 bytes are refused as a file header: the magic is that of no form; or the version is another; or the link type is none that is known
abbrev pub IsRefusedHead : CapError → List ℕ → Type 0
IsRefusedHead BadMagic bytes = (form : Form) → HasMagic form bytes → ⊥
IsRefusedHead BadVersion bytes = (form : Form) × HasMagic form bytes × (HasVersion form bytes → ⊥)
IsRefusedHead (UnknownLink link) bytes =
    (form : Form) × HasMagic form bytes × HasVersion form bytes × (link ≡ link_bits form.big bytes) × ((kind : LinkKind) → link ≢ link_number kind)
IsRefusedHead _ bytes = ⊥

-- what 24 bytes are as a file header: that header, or a refusal
abbrev pub IsJudged : Result Head CapError → List ℕ → Type 0
IsJudged (Ok h) bytes = IsHead h bytes
IsJudged (Err e) bytes = IsRefusedHead e bytes

-- the form whose magic stands at the front, if there is one
abbrev pub SomeMagic : Option Form → List ℕ → Type 0
SomeMagic (Some form) bytes = HasMagic form bytes
SomeMagic None bytes = (form : Form) → HasMagic form bytes → ⊥
