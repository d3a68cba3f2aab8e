-- A packet with its mark taken out, where that stands in a shape in which marks are put in (RFC 9343, section 4).
use Rattle.std.specs.Prelude.{◌≡◌, ◌⊎◌, ℕ, ◌-◌, List, [], ◌∷◌, ◌++◌, slice_index}
use Rattle.am_opts.specs.Marking.{Marking}
use Rattle.am_opts.specs.Options.{Placed}
use Rattle.am_ip6.specs.declared.marks.Place.{Place}
use Rattle.am_ip6.specs.Chains.{Lent, HasHeaders, first_spot, spot_after}
use Rattle.am_ip6.specs.Marks.{MarksChain}
use Rattle.am_insert.specs.Changes.{kind_of, without_eight, shortened, size_place, header_end}

-- the packet without this header of eight bytes: the byte that announced it, at this place, announces what the header did
abbrev pub without_header : List ℕ → ℕ → Lent → List ℕ
without_header packet told_at h = without_eight (shortened packet told_at (slice_index packet h.at)) h.at

-- the packet without the last eight bytes of this header, whose Hdr Ext Len is 1 less
abbrev pub with_shorter_header : List ℕ → Lent → List ℕ
with_shorter_header packet h =
    without_eight (shortened packet (size_place h) (slice_index packet (size_place h) - 1)) (header_end h - 8)

-- the last of these options is a PadN without data (RFC 8200, section 4.2)
pub record EndsInPad (options : List Placed) : Type 0 where
  pub front : List Placed
  pub pad : Placed
  pub split : options ≡ front ++ pad ∷ []
  pub is_pad : pad.bytes ≡ 1 ∷ 0 ∷ []

-- the header of the mark has eight bytes, and goes
pub record LosesHeader {kind : ℕ} (packet : List ℕ) {hs : List Lent} {mark : Marking} {at : ℕ} (found : MarksChain kind hs mark at) (stripped : List ℕ) : Type 0 where
  pub lone : slice_index packet (size_place found.header) ≡ 0
  pub stripped_is : stripped ≡ without_header packet (spot_after packet (first_spot packet) found.before).told_at found.header

-- the mark is the last option of its header, the one before it is a PadN without data, and both go
pub record GetsShorter {kind : ℕ} (packet : List ℕ) {hs : List Lent} {mark : Marking} {at : ℕ} (found : MarksChain kind hs mark at) (stripped : List ℕ) : Type 0 where
  pub last : found.marked.has.behind ≡ []
  pub padded : EndsInPad found.marked.has.before
  pub stripped_is : stripped ≡ with_shorter_header packet found.header

-- the first mark of the packet in this kind of header is this one, it stands in a shape in which marks are put in, and this is the packet without it
pub record Stripped (packet : List ℕ) (mark : Marking) (place : Place) (stripped : List ℕ) : Type 0 where
  pub headers : List Lent
  pub chain : HasHeaders packet headers
  pub at : ℕ
  pub found : MarksChain (kind_of place) headers mark at
  pub taken : LosesHeader packet found stripped ⊎ GetsShorter packet found stripped
