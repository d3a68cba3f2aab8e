-- The mark that a packet carries in one kind of header (RFC 9343, section 4).
use Rattle.std.specs.Prelude.{◌≡◌, ◌≢◌, ◌⊎◌, ℕ, ◌+◌, ◌<◌, ◌≤◌, Bool, List, ◌∷◌, ◌++◌, length, take, drop, All, slice_index, Option, MatchOption}
use Rattle.am_opts.specs.Marking.{Marking, Spells}
use Rattle.am_opts.specs.Options.{Placed, IsOptionsOf, StopsAt}
use Rattle.am_ip6.specs.Fixed.{payload_of}
use Rattle.am_ip6.specs.Chains.{Lent, HasOptions}
use Rattle.am_ip6.specs.Endings.{Ended}
use Rattle.am_ip6.specs.Endings.Ended.{WasCut}

-- an option is no mark: its bytes spell none
abbrev pub IsNoMark : Placed → Type 0
IsNoMark o = (m : Marking) → Spells o.bytes m → ⊥

-- the first mark among the options of an area, and its place there
pub record HasMark (area : List ℕ) (mark : Marking) (place : ℕ) : Type 0 where
  pub before : List Placed
  pub option : Placed
  pub behind : List Placed
  pub options : IsOptionsOf area (before ++ option ∷ behind)
  pub none_before : All IsNoMark before
  pub spelled : Spells option.bytes mark
  pub place_is : place ≡ option.at

-- no option of an area is a mark
pub record HasNoMark (area : List ℕ) : Type 0 where
  pub options : List Placed
  pub list : IsOptionsOf area options
  pub none : All IsNoMark options

-- the first mark among the options of a header, and its place in the packet
pub record MarksHeader (h : Lent) (mark : Marking) (at : ℕ) : Type 0 where
  pub place : ℕ
  pub has : HasMark (drop 2 h.bytes) mark place
  pub at_is : at ≡ h.at + 2 + place

-- no option of a header is a mark
abbrev pub IsUnmarkedHeader : Lent → Type 0
IsUnmarkedHeader h = HasNoMark (drop 2 h.bytes)

-- the first mark in a header, if it has one; in a Routing header, which has no options, none is looked for
abbrev pub ShowsMark : Lent → Option (Marking × ℕ) → Type 0
ShowsMark h found = h.kind ≢ 43 → MatchOption found (IsUnmarkedHeader h) (λ m. MarksHeader h m.0 m.1)

-- a header of options, which are an option list no further than this place in the packet
pub record BreaksAt (h : Lent) (place : ℕ) : Type 0 where
  pub kind : h.kind ≢ 43
  pub fault : ℕ
  pub stops : StopsAt (drop 2 h.bytes) fault
  pub bad : HasOptions h.bytes → ⊥
  pub place_is : place ≡ h.at + 2 + fault

-- the first header of a packet has eight bytes, and its one option is this mark
pub record HasLoneMark (packet : List ℕ) (mark : Marking) : Type 0 where
  pub there : 48 ≤ length packet
  pub payload : 8 ≤ payload_of packet
  pub size : slice_index packet 41 ≡ 0
  pub spelled : Spells (take 6 (drop 42 packet)) mark

-- a header that isn't of this kind, or has no mark
abbrev pub IsPassed : ℕ → Lent → Type 0
IsPassed kind h = (h.kind ≢ kind) ⊎ ((h.kind ≡ kind) × IsUnmarkedHeader h)

-- the first mark in the headers of this kind
pub record MarksChain (kind : ℕ) (hs : List Lent) (mark : Marking) (at : ℕ) : Type 0 where
  pub before : List Lent
  pub header : Lent
  pub behind : List Lent
  pub chain : hs ≡ before ++ header ∷ behind
  pub passed : All (IsPassed kind) before
  pub of_kind : header.kind ≡ kind
  pub marked : MarksHeader header mark at

-- what is found of a mark: this one at this place, none, or nobody knows since the packet was cut
pub data Seen : Type 0 where
  Marks : (mark : Marking) (at : ℕ) → Seen
  NoMark : Seen
  CutOff : Seen

-- the header that marks are looked for in: Hop-by-Hop Options is 0, Destination Options is 60
abbrev pub hop_by_hop : ℕ
hop_by_hop = 0

abbrev pub destination : ℕ
destination = 60

-- a cut chain hides the Hop-by-Hop header only where that isn't among the headers and may yet come: the fixed header isn't whole, or announces it
abbrev pub HidesHopByHop : List ℕ → Type 0
HidesHopByHop packet = (length packet < 40) ⊎ (slice_index packet 6 ≡ 0)

-- what is found in the Hop-by-Hop header
abbrev pub SeenInHopByHop : List ℕ → Bool → List Lent → Ended → Seen → Type 0
SeenInHopByHop packet whole hs ended (Marks mark at) = MarksChain hop_by_hop hs mark at
SeenInHopByHop packet whole hs ended NoMark =
    All (IsPassed hop_by_hop) hs × (((h : Lent) × (rest : List Lent) × (hs ≡ h ∷ rest) × (h.kind ≡ hop_by_hop)) ⊎ ((ended ≡ WasCut) × HidesHopByHop packet → ⊥))
SeenInHopByHop packet whole hs ended CutOff =
    All (λ h. h.kind ≢ hop_by_hop) hs × (ended ≡ WasCut) × HidesHopByHop packet

-- what is found in the Destination Options headers
abbrev pub SeenInDestination : List ℕ → Bool → List Lent → Ended → Seen → Type 0
SeenInDestination packet whole hs ended (Marks mark at) = MarksChain destination hs mark at
SeenInDestination packet whole hs ended NoMark = All (IsPassed destination) hs × (ended ≢ WasCut)
SeenInDestination packet whole hs ended CutOff = All (IsPassed destination) hs × (ended ≡ WasCut)
