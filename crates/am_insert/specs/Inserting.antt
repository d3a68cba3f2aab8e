-- A packet with a mark put into it (RFC 9343, section 4), and what hinders that.
use Rattle.std.specs.Prelude.{◌≡◌, ◌≢◌, ◌⊎◌, ℕ, ◌+◌, ◌<◌, Bool, true, List, ◌∷◌, ◌++◌, length, All, slice_index}
use Rattle.am_opts.specs.Marking.{Marking, IsCanonical}
use Rattle.am_ip6.specs.declared.marks.Place.{Place}
use Rattle.am_ip6.specs.Fixed.{IsFixed, payload_of, parts_of}
use Rattle.am_ip6.specs.Chains.{Lent, Spot, HasHeaders}
use Rattle.am_ip6.specs.Endings.{Ended, EndsSo, IsOtherVersion}
use Rattle.am_ip6.specs.Endings.Ended.{AtNumber, WasCut, IsMalformed}
use Rattle.am_ip6.specs.Marks.Seen.{Marks, NoMark}
use Rattle.am_ip6.specs.Seen.{IsSeen}
use Rattle.am_insert.specs.declared.insert.InsertError.{InsertError}
use Rattle.am_insert.specs.declared.insert.InsertError.TheVariants.{NotIp6, Malformed, Cut, AlreadyMarked, Protected, HeaderFull, PacketFull}
use Rattle.am_insert.specs.Changes.{kind_of, put_in, lengthened, size_place, header_end, spot_of_new}

-- the first of these headers that is of this kind
pub record IsFirstOf (kind : ℕ) (hs : List Lent) (h : Lent) : Type 0 where
  pub before : List Lent
  pub behind : List Lent
  pub split : hs ≡ before ++ h ∷ behind
  pub others : All (λ x. x.kind ≢ kind) before
  pub of_kind : h.kind ≡ kind

-- none of these headers is of this kind
abbrev pub HasNoneOf : ℕ → List Lent → Type 0
HasNoneOf kind hs = All (λ x. x.kind ≢ kind) hs

-- the packet with a new header of this kind at this spot: its number is announced there, it announces what stood there, and its one option is spelled so
abbrev pub with_new_header : List ℕ → Spot → ℕ → List ℕ → List ℕ
with_new_header packet s kind spelling = put_in (lengthened packet s.told_at kind) s.at (s.kind ∷ 0 ∷ spelling)

-- the packet with this header eight bytes longer: a PadN without data and an option that is spelled so come directly behind it, and its Hdr Ext Len is 1 more
abbrev pub with_longer_header : List ℕ → Lent → List ℕ → List ℕ
with_longer_header packet h spelling =
    put_in (lengthened packet (size_place h) (slice_index packet (size_place h) + 1)) (header_end h) (1 ∷ 0 ∷ spelling)

-- this is the packet with the mark in a new header of this kind at this spot
pub record PutsHeader (packet : List ℕ) (s : Spot) (kind : ℕ) (mark : Marking) (marked : List ℕ) : Type 0 where
  pub spelling : List ℕ
  pub canonical : IsCanonical spelling mark
  pub marked_is : marked ≡ with_new_header packet s kind spelling

-- this is the packet with the mark at the end of this header
pub record Lengthens (packet : List ℕ) (h : Lent) (mark : Marking) (marked : List ℕ) : Type 0 where
  pub spelling : List ℕ
  pub canonical : IsCanonical spelling mark
  pub marked_is : marked ≡ with_longer_header packet h spelling

-- the packet has no header of the kind, and gets a new one
pub record GetsHeader (packet : List ℕ) (hs : List Lent) (mark : Marking) (place : Place) (marked : List ℕ) : Type 0 where
  pub none : HasNoneOf (kind_of place) hs
  pub puts : PutsHeader packet (spot_of_new place packet hs) (kind_of place) mark marked

-- the packet has a header of the kind, and the first one gets longer
pub record GetsLonger (packet : List ℕ) (hs : List Lent) (mark : Marking) (place : Place) (marked : List ℕ) : Type 0 where
  pub header : Lent
  pub first : IsFirstOf (kind_of place) hs header
  pub longer : Lengthens packet header mark marked

-- this is the packet with the mark put in: in a new header, or at the end of the first that it has
pub record Inserted (packet : List ℕ) (mark : Marking) (place : Place) (marked : List ℕ) : Type 0 where
  pub headers : List Lent
  pub chain : HasHeaders packet headers
  pub put : GetsHeader packet headers mark place marked ⊎ GetsLonger packet headers mark place marked

-- the packet with the mark begins with a fixed header too, and has the addresses that it had (RFC 8200, section 3)
pub record KeepsAddresses (packet marked : List ℕ) : Type 0 where
  pub fixed : IsFixed marked
  pub source : (parts_of marked).source ≡ (parts_of packet).source
  pub destination : (parts_of marked).destination ≡ (parts_of packet).destination

-- the walk of the packet ends so
pub record WalkEnds (packet : List ℕ) (whole : Bool) (ended : Ended) : Type 0 where
  pub headers : List Lent
  pub chain : HasHeaders packet headers
  pub ends : EndsSo packet whole headers ended

-- the bytes are no packet of version 6: a first byte says another version, or the whole packet is shorter than the fixed header
abbrev pub IsNoPacket : List ℕ → Bool → Type 0
IsNoPacket packet whole = IsOtherVersion packet ⊎ ((length packet < 40) × (whole ≡ true))

-- the walk of the packet ends at this number
abbrev pub WalkEndsWith : List ℕ → Bool → ℕ → Type 0
WalkEndsWith packet whole next = (at told_at : ℕ) × WalkEnds packet whole (AtNumber next at told_at)

-- the headers of the packet end at a number, and none of the kind has a mark
pub record IsUnmarked (packet : List ℕ) (whole : Bool) (place : Place) : Type 0 where
  pub next : ℕ
  pub ends : WalkEndsWith packet whole next
  pub none : IsSeen packet whole place NoMark

-- the packet has a mark in this kind of header, at this place
abbrev pub IsMarkedAt : List ℕ → Bool → Place → ℕ → Type 0
IsMarkedAt packet whole place at = (mark : Marking) × IsSeen packet whole place (Marks mark at)

-- the packet has a header of the kind, and the first one can't get longer: its Hdr Ext Len is the greatest
pub record IsFullHeader (packet : List ℕ) (place : Place) : Type 0 where
  pub headers : List Lent
  pub chain : HasHeaders packet headers
  pub header : Lent
  pub first : IsFirstOf (kind_of place) headers header
  pub full : slice_index packet (size_place header) ≡ 255

-- the number of an Authentication Header, which protects the headers before it (RFC 4302, section 3.3.3.1)
abbrev pub authentication : ℕ
authentication = 51

-- this hinders that a mark is put in
abbrev pub Hinders : List ℕ → Bool → Place → InsertError → Type 0
Hinders packet whole place NotIp6 = IsNoPacket packet whole
Hinders packet whole place (Malformed at) = WalkEnds packet whole (IsMalformed at)
Hinders packet whole place Cut = WalkEnds packet whole WasCut
Hinders packet whole place (AlreadyMarked at) = IsMarkedAt packet whole place at
Hinders packet whole place Protected = WalkEndsWith packet whole authentication
Hinders packet whole place HeaderFull = IsFullHeader packet place
Hinders packet whole place PacketFull = 65527 < payload_of packet

-- which comes first of what hinders
abbrev pub rank : InsertError → ℕ
rank NotIp6 = 0
rank (Malformed at) = 1
rank Cut = 2
rank (AlreadyMarked at) = 3
rank Protected = 4
rank HeaderFull = 5
rank PacketFull = 6

-- this hinders first
pub record HindersFirst (packet : List ℕ) (whole : Bool) (place : Place) (error : InsertError) : Type 0 where
  pub hinders : Hinders packet whole place error
  pub first : (other : InsertError) → rank other < rank error → Hinders packet whole place other → ⊥

-- nothing hinders
abbrev pub IsOpen : List ℕ → Bool → Place → Type 0
IsOpen packet whole place = (error : InsertError) → Hinders packet whole place error → ⊥
