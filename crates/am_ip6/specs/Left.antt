-- The headers that a walk has still to lend.
use Rattle.std.specs.Prelude.{ℕ, zero, suc, ◌+◌, ◌==◌, ◌&&◌, ◌||◌, Bool, nat_le, cond, List, [], ◌∷◌, length, take, drop, Option, Some, None}
use Rattle.am_opts.specs.Options.{joined}
use Rattle.am_opts.specs.Lent.{options_behind}
use Rattle.am_ip6.specs.Fixed.{limit_of}
use Rattle.am_ip6.specs.Chains.{Lent, Spot, header_length, spot_behind}
use Rattle.am_ip6.specs.Shown.{spot_shown}
use Rattle.am_ip6.specs.declared.chain.Announced.{Announced}
use Rattle.am_ip6.specs.declared.headers.Walk.{Walk}

-- the header at a spot, if one stands there
abbrev pub header_at : List ℕ → Spot → Lent
header_at packet s = record { kind = s.kind; at = s.at; bytes = take (header_length packet s.at) (drop s.at packet) }

-- the number of a spot is walked there
unfoldable pub walked_at : Spot → Bool
walked_at s = (s.kind == 43) || ((s.kind == 60) || ((s.kind == 0) && (s.at == 40)))

-- a header that begins here ends where headers must
unfoldable pub fits_at : List ℕ → ℕ → Bool
fits_at packet at = (nat_le (at + 2) (limit_of packet)) && (nat_le (at + header_length packet at) (limit_of packet))

-- what stands behind a header's first two bytes is an option list
unfoldable pub has_options : List ℕ → Bool
has_options header = length (joined (options_behind (drop 2 header) 0)) == length (drop 2 header)

-- a header stands at a spot
unfoldable pub stands_at : List ℕ → Spot → Bool
stands_at packet s = (walked_at s) && ((fits_at packet s.at) && ((s.kind == 43) || (has_options (header_at packet s).bytes)))

-- at most so many headers from a spot on
unfoldable pub headers_from : ℕ → List ℕ → Spot → List Lent
headers_from zero packet s = []
headers_from (suc more) packet s =
    cond (stands_at packet s) (header_at packet s ∷ headers_from more packet (spot_behind packet (header_at packet s))) []

-- the headers from where the walk is, if it goes on
abbrev pub left_from : List ℕ → Option Announced → List Lent
left_from packet None = []
left_from packet (Some s) = headers_from (length packet) packet (spot_shown s)

abbrev pub headers_left : Walk → List Lent
headers_left w = left_from w.bytes.now w.spot
