-- How the chain of a packet ends: at a number that isn't walked, because the packet was cut, or because it is malformed.
use Rattle.std.specs.Prelude.{◌≡◌, ◌≢◌, ◌⊎◌, ℕ, ◌+◌, ◌/◌, ◌<◌, Bool, true, false, List, length, drop, take, slice_index}
use Rattle.am_opts.specs.Options.{Placed, IsLongest, joined}
use Rattle.am_ip6.specs.Fixed.{IsFixed, claimed_length, limit_of}
use Rattle.am_ip6.specs.Chains.{Lent, Spot, IsWalked, FitsAt, HasOptions, header_length, first_spot, spot_after}

-- how a walk ends: at this number, which stands at the byte `told_at` and announces what begins at `at`; or because bytes that the packet has were not captured; or because what stands at this place can't be
pub data Ended : Type 0 where
  AtNumber : (next at told_at : ℕ) → Ended
  WasCut : Ended
  IsMalformed : (place : ℕ) → Ended

-- there is a first byte, and its upper four bits are not 6
pub record IsOtherVersion (packet : List ℕ) : Type 0 where
  pub some : 0 < length packet
  pub other : slice_index packet 0 / 16 ≢ 6

-- the fixed header isn't there whole, and nothing else is wrong
pub record IsShort (packet : List ℕ) : Type 0 where
  pub short : length packet < 40
  pub version : IsOtherVersion packet → ⊥

-- the header at this spot has bytes that aren't there
pub record LacksBytes (packet : List ℕ) (s : Spot) : Type 0 where
  pub walked : IsWalked s
  pub lacks : FitsAt packet s.at → ⊥

-- the header at this spot is there, and its options are an option list no further than this place in it
pub record HasBadOptions (packet : List ℕ) (s : Spot) (place : ℕ) : Type 0 where
  pub walked : IsWalked s
  pub kind : s.kind ≢ 43
  pub fits : FitsAt packet s.at
  pub options : List Placed
  pub longest : IsLongest 0 (drop 2 (take (header_length packet s.at) (drop s.at packet))) options
  pub bad : HasOptions (take (header_length packet s.at) (drop s.at packet)) → ⊥
  pub place_is : place ≡ s.at + 2 + length (joined options)

-- bytes that the packet says it has were not captured
abbrev pub MayBeCut : List ℕ → Bool → Type 0
MayBeCut packet whole = (whole ≡ false) × (limit_of packet < claimed_length packet)

-- a packet whose fixed header is there ends so at this spot, behind its headers
abbrev pub EndsAt : List ℕ → Bool → Spot → Ended → Type 0
EndsAt packet whole s (AtNumber next at told_at) =
    (s ≡ record { kind = next; at = at; told_at = told_at }) × (IsWalked s → ⊥)
EndsAt packet whole s WasCut = LacksBytes packet s × MayBeCut packet whole
EndsAt packet whole s (IsMalformed place) =
    (LacksBytes packet s × (MayBeCut packet whole → ⊥) × (place ≡ s.at)) ⊎ HasBadOptions packet s place

-- a packet without a fixed header of version 6 ends so: another version is malformed, also where the packet was cut
abbrev pub EndsEarly : List ℕ → Bool → Ended → Type 0
EndsEarly packet whole (AtNumber next at told_at) = ⊥
EndsEarly packet whole WasCut = IsShort packet × (whole ≡ false)
EndsEarly packet whole (IsMalformed place) =
    (IsOtherVersion packet × (place ≡ 0)) ⊎ (IsShort packet × (whole ≡ true) × (place ≡ length packet))

-- the walk of a packet, of which all bytes were captured or not, ends so behind its headers
pub record EndsSo (packet : List ℕ) (whole : Bool) (hs : List Lent) (ended : Ended) : Type 0 where
  pub fixed : IsFixed packet → EndsAt packet whole (spot_after packet (first_spot packet) hs) ended
  pub other : (IsFixed packet → ⊥) → EndsEarly packet whole ended
