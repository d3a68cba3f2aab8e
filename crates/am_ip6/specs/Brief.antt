-- Packets of few headers, whose whole walk one look at their first bytes tells.
use Rattle.std.specs.Prelude.{◌≡◌, ℕ, Bool, List, [], ◌∷◌, take, drop, slice_index, Option, Some, None, MatchOption}
use Rattle.am_opts.specs.Marking.{Marking}
use Rattle.am_ip6.specs.Fixed.{IsFixed}
use Rattle.am_ip6.specs.Chains.{Lent, Spot, IsWalked, HasHeaders, first_spot}
use Rattle.am_ip6.specs.Endings.{Ended, EndsSo}
use Rattle.am_ip6.specs.Endings.Ended.{AtNumber}
use Rattle.am_ip6.specs.Marks.{Seen, SeenInHopByHop, SeenInDestination, HasLoneMark}
use Rattle.am_ip6.specs.Marks.Seen.{Marks, NoMark}

-- a first header of eight bytes
abbrev pub lone_header : List ℕ → Lent
lone_header packet = record { kind = 0; at = 40; bytes = take 8 (drop 40 packet) }

-- behind no header, or behind a first one of eight bytes with a mark
abbrev pub brief_spot : List ℕ → Option Marking → Spot
brief_spot packet None = first_spot packet
brief_spot packet (Some mark) = record { kind = slice_index packet 40; at = 48; told_at = 40 }

-- a packet has no header, or one, whose one option is this mark; and behind that a number that isn't walked
pub record IsBrief (packet : List ℕ) (mark : Option Marking) (next : ℕ) : Type 0 where
  pub fixed : IsFixed packet
  pub lone : MatchOption mark (Unit {0}) (λ m. (slice_index packet 6 ≡ 0) × HasLoneMark packet m)
  pub announced : next ≡ (brief_spot packet mark).kind
  pub stops : IsWalked (brief_spot packet mark) → ⊥

-- its headers
abbrev pub brief_headers : List ℕ → Option Marking → List Lent
brief_headers packet None = []
brief_headers packet (Some mark) = lone_header packet ∷ []

-- how its walk ends
abbrev pub brief_ending : Option Marking → ℕ → Ended
brief_ending None next = AtNumber next 40 6
brief_ending (Some mark) next = AtNumber next 48 40

-- what is found in its Hop-by-Hop header
abbrev pub brief_seen : Option Marking → Seen
brief_seen None = NoMark
brief_seen (Some mark) = Marks mark 42

-- these are its headers, its ending and its marks, whether all of its bytes were captured or not
pub record WalksBriefly (packet : List ℕ) (mark : Option Marking) (next : ℕ) (whole : Bool) : Type 0 where
  pub has : HasHeaders packet (brief_headers packet mark)
  pub ends : EndsSo packet whole (brief_headers packet mark) (brief_ending mark next)
  pub in_hop : SeenInHopByHop packet whole (brief_headers packet mark) (brief_ending mark next) (brief_seen mark)
  pub in_destination : SeenInDestination packet whole (brief_headers packet mark) (brief_ending mark next) NoMark
