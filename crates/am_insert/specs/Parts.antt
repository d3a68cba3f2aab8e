-- What the parts of a plan say, in the words of the definitions.
use Rattle.std.specs.Prelude.{◌≡◌, ◌≢◌, ◌⊎◌, slice_index, IfSome, ◌≤◌, ◌<◌, ◌+◌, ◌*◌, ℕ, length, Bool, true, false, List, ◌∷◌, ◌++◌, drop, All, Option, MatchOption}
use Rattle.am_opts.specs.Marking.{Marking, IsCanonical}
use Rattle.am_ip6.specs.declared.marks.Place.{Place}
use Rattle.am_ip6.specs.declared.chain.Header.{Header}
use Rattle.am_ip6.specs.Fixed.{IsFixed, payload_of}
use Rattle.am_ip6.specs.Chains.{Lent, Spot, HasHeaders, Stands, first_spot, spot_after}
use Rattle.am_ip6.specs.Marks.{HasMark, IsPassed}
use Rattle.am_ip6.specs.Shown.{lent}
use Rattle.am_insert.specs.Changes.{kind_of, spot_of_new}
use Rattle.am_insert.specs.Inserting.{IsFirstOf, HasNoneOf, HindersFirst}
use Rattle.am_insert.specs.declared.insert.InsertError.{InsertError}
use Rattle.am_insert.specs.Stripping.{EndsInPad, without_header, with_shorter_header}
use Rattle.am_insert.specs.declared.insert.Announced.{Announced}
use Rattle.am_insert.specs.declared.insert.Room.{Room}
use Rattle.am_insert.specs.declared.strip.MarkOption.{MarkOption}
use Rattle.am_insert.specs.declared.strip.MarkedHeader.{MarkedHeader}

-- what is announced, as a spot of the walk
abbrev pub announced_spot : Announced → Spot
announced_spot s = record { kind = s.next; at = s.at; told_at = s.told_at }

-- the first header of the kind, if the packet has one
abbrev pub FindsFirst : List ℕ → Place → Option Header → Type 0
FindsFirst packet place found =
    (hs : List Lent) → HasHeaders packet hs
    → MatchOption found (HasNoneOf (kind_of place) hs) (λ h. IsFirstOf (kind_of place) hs (lent h))

-- this byte, a 0, and the spelling of the mark that is written
pub record IsEight (first : ℕ) (mark : Marking) (eight : List ℕ) : Type 0 where
  pub spelling : List ℕ
  pub canonical : IsCanonical spelling mark
  pub eight_is : eight ≡ first ∷ 0 ∷ spelling

-- this follows the headers of the packet, which has a fixed header
pub record FollowsHeaders (packet : List ℕ) (s : Announced) : Type 0 where
  pub fixed : IsFixed packet
  pub spot : (hs : List Lent) → HasHeaders packet hs → spot_after packet (first_spot packet) hs ≡ announced_spot s

-- a new header of the kind goes here
pub record IsNewSpot (packet : List ℕ) (place : Place) (s : Announced) : Type 0 where
  pub far : 40 ≤ s.at
  pub before : s.told_at < s.at
  pub behind : 6 ≤ s.told_at
  pub within : s.at ≤ length packet
  pub spot : (hs : List Lent) → HasHeaders packet hs → spot_of_new place packet hs ≡ announced_spot s

-- the header stands in the packet behind its fixed header
pub record StandsIn (packet : List ℕ) (h : Lent) : Type 0 where
  pub fixed : IsFixed packet
  pub spot : Spot
  pub far : 40 ≤ spot.at
  pub stands : Stands packet spot h

-- what is known of the places of a header that stands in the packet
pub record Bounds (packet : List ℕ) (h : Lent) : Type 0 where
  pub far : 40 ≤ h.at
  pub size : length h.bytes ≡ 8 + 8 * slice_index packet (h.at + 1)
  pub within : h.at + length h.bytes ≤ length packet
  pub payload : h.at + length h.bytes ≤ 40 + payload_of packet

-- the first mark among the options of an area, and whether the option before it is a PadN without data
pub record ShowsFirst (area : List ℕ) (o : MarkOption) : Type 0 where
  pub has : HasMark area o.mark o.at
  pub padded : o.padded ≡ true → EndsInPad has.before
  pub bare : o.padded ≡ false → EndsInPad has.before → ⊥

-- the mark ends its header, and the option before it is a PadN without data
abbrev pub IsPadded : MarkedHeader → Type 0
IsPadded m = (m.option.padded ≡ true) × (m.option.at + 8 ≡ length m.header.bytes.now)

-- the header of the mark has eight bytes
abbrev pub IsLoneMark : List ℕ → MarkedHeader → Type 0
IsLoneMark packet m = slice_index packet (m.header.at + 1) ≡ 0

-- this is the packet without the mark: without its header, or without the last eight bytes of it
abbrev pub CutsOut : List ℕ → MarkedHeader → List ℕ → Type 0
CutsOut packet m stripped =
    (IsLoneMark packet m × (stripped ≡ without_header packet m.told_at (lent m.header)))
    ⊎ (IsPadded m × (stripped ≡ with_shorter_header packet (lent m.header)))

-- the mark stands in none of the shapes in which marks are put in
abbrev pub IsInNoShape : List ℕ → MarkedHeader → Type 0
IsInNoShape packet m = (IsLoneMark packet m → ⊥) × (IsPadded m → ⊥)

-- the first of these headers that has a mark among those of the kind, and the byte that announces it
pub record IsFirstMarked (kind : ℕ) (packet : List ℕ) (hs : List Lent) (m : MarkedHeader) : Type 0 where
  pub before : List Lent
  pub behind : List Lent
  pub chain : hs ≡ before ++ lent m.header ∷ behind
  pub passed : All (IsPassed kind) before
  pub of_kind : m.header.kind ≡ kind
  pub shows : ShowsFirst (drop 2 m.header.bytes.now) m.option
  pub told : m.told_at ≡ (spot_after packet (first_spot packet) before).told_at

-- the first mark of the kind, if the packet has one
abbrev pub FindsMark : List ℕ → Place → Option MarkedHeader → Type 0
FindsMark packet place found =
    (hs : List Lent) → HasHeaders packet hs
    → MatchOption found (All (IsPassed (kind_of place)) hs) (λ m. IsFirstMarked (kind_of place) packet hs m)

-- the packet has room for a mark in this kind of header
pub record HasRoom (packet : List ℕ) (place : Place) (r : Room) : Type 0 where
  pub first : FindsFirst packet place r.first
  pub stands : IfSome r.first (λ h. Bounds packet (lent h))
  pub more : IfSome r.first (λ h. slice_index packet (h.at + 1) ≢ 255)
  pub follows : FollowsHeaders packet r.end
  pub payload : r.payload ≡ payload_of packet + 8

-- this hinders first that a mark is put in, whatever kind of header it is for
abbrev pub HindersEach : List ℕ → Bool → InsertError → Type 0
HindersEach packet whole error = (place : Place) → HindersFirst packet whole place error
