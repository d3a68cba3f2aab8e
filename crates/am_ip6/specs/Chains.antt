-- The chain of extension headers of a packet (RFC 8200, sections 4.1 to 4.4 and 4.6).
use Rattle.std.specs.Prelude.{◌≡◌, ◌≢◌, ◌⊎◌, ℕ, ◌+◌, ◌*◌, ◌≤◌, List, [], ◌∷◌, ◌++◌, length, take, drop, slice_index}
use Rattle.am_opts.specs.Options.{IsOptionList}
use Rattle.am_ip6.specs.Fixed.{IsFixed, limit_of}

-- an extension header: its number, the place of its first byte in the packet, and its bytes
pub record Lent : Type 0 where
  pub kind : ℕ
  pub at : ℕ
  pub bytes : List ℕ

-- where a header may begin: the number that announces it, its place, and the place of the byte that has the number
pub record Spot : Type 0 where
  pub kind : ℕ
  pub at : ℕ
  pub told_at : ℕ

-- behind the fixed header, whose byte 6 announces what follows
abbrev pub first_spot : List ℕ → Spot
first_spot packet = record { kind = slice_index packet 6; at = 40; told_at = 6 }

-- behind a header, whose first byte announces what follows
abbrev pub spot_behind : List ℕ → Lent → Spot
spot_behind packet h = record { kind = slice_index packet h.at; at = h.at + length h.bytes; told_at = h.at }

-- the numbers of the headers that are walked: Routing and Destination Options, and Hop-by-Hop Options directly behind the fixed header
abbrev pub IsWalked : Spot → Type 0
IsWalked s = (s.kind ≡ 43) ⊎ (s.kind ≡ 60) ⊎ ((s.kind ≡ 0) × (s.at ≡ 40))

-- how long a header at this place is: eight bytes, and eight for each that its second byte counts
abbrev pub header_length : List ℕ → ℕ → ℕ
header_length packet at = 8 + 8 * slice_index packet (at + 1)

-- a header that begins here ends where headers must
pub record FitsAt (packet : List ℕ) (at : ℕ) : Type 0 where
  pub first_two : at + 2 ≤ limit_of packet
  pub whole : at + header_length packet at ≤ limit_of packet

-- what stands behind a header's first two bytes is an option list
abbrev pub HasOptions : List ℕ → Type 0
HasOptions header = IsOptionList (drop 2 header)

-- a header stands at this spot of the packet
pub record Stands (packet : List ℕ) (s : Spot) (h : Lent) : Type 0 where
  pub walked : IsWalked s
  pub kind : h.kind ≡ s.kind
  pub at : h.at ≡ s.at
  pub fits : FitsAt packet s.at
  pub bytes : h.bytes ≡ take (header_length packet s.at) (drop s.at packet)
  pub options : s.kind ≢ 43 → HasOptions h.bytes

-- headers stand one after another, the first of them at this spot
abbrev pub IsChain : List ℕ → Spot → List Lent → Type 0
IsChain packet s [] = Unit {0}
IsChain packet s (h ∷ hs) = Stands packet s h × IsChain packet (spot_behind packet h) hs

-- the spot behind a chain
abbrev pub spot_after : List ℕ → Spot → List Lent → Spot
spot_after packet s [] = s
spot_after packet s (h ∷ hs) = spot_after packet (spot_behind packet h) hs

-- the longest chain of a packet: each other one is a front of it
pub record IsLongestChain (packet : List ℕ) (s : Spot) (hs : List Lent) : Type 0 where
  pub chain : IsChain packet s hs
  pub longest : (others : List Lent) → IsChain packet s others → (tail : List Lent) × (hs ≡ others ++ tail)

-- the headers of a packet: its longest chain, and none where the fixed header isn't there whole or isn't of version 6
pub record HasHeaders (packet : List ℕ) (hs : List Lent) : Type 0 where
  pub fixed : IsFixed packet → IsLongestChain packet (first_spot packet) hs
  pub other : (IsFixed packet → ⊥) → hs ≡ []
