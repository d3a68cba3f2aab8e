-- The walk stands at a spot that each longest chain comes to, and the bytes behind it get fewer.
use Rattle.std.proofs.Common.{◌≤◌, ◌-◌, List, length}
use Rattle.am_ip6.specs.Fixed.{IsFixed, limit_of}
use Rattle.am_ip6.specs.Chains.{Lent, IsLongestChain, first_spot}
use Rattle.am_ip6.specs.Shown.{spot_shown}
use Rattle.am_ip6.proofs.ChainLemmas.{Reaches}
use Rattle.am_ip6.proofs.headers.walk_ending.Given as goal

abbrev pub invariant-loop-behind : goal.invariant-loop-behind
invariant-loop-behind l =
    IsFixed l.bytes × (l.spot.at ≤ limit_of l.bytes)
    × ((hs : List Lent) → IsLongestChain l.bytes (first_spot l.bytes) hs → Reaches (λ _. Unit {0}) l.bytes (first_spot l.bytes) (spot_shown l.spot) hs)

abbrev pub decreases-loop-behind : goal.decreases-loop-behind
decreases-loop-behind l = length l.bytes - l.spot.at
