-- The walk stands at a spot that each longest chain comes to behind headers without a mark, and the bytes behind it get fewer.
use Rattle.std.proofs.Common.{◌≤◌, ◌-◌, List, length}
use Rattle.am_ip6.specs.Fixed.{IsFixed, limit_of}
use Rattle.am_ip6.specs.Chains.{Lent, IsLongestChain, first_spot}
use Rattle.am_ip6.specs.Marks.{IsPassed}
use Rattle.am_ip6.specs.Shown.{spot_shown}
use Rattle.am_ip6.proofs.ChainLemmas.{Reaches}
use Rattle.am_ip6.proofs.marks.find_in_destination.Given as goal

abbrev pub invariant-loop-header : goal.invariant-loop-header
invariant-loop-header l =
    IsFixed l.bytes × (l.spot.at ≤ limit_of l.bytes)
    × ((hs : List Lent) → IsLongestChain l.bytes (first_spot l.bytes) hs → Reaches (IsPassed 60) l.bytes (first_spot l.bytes) (spot_shown l.spot) hs)

abbrev pub decreases-loop-header : goal.decreases-loop-header
decreases-loop-header l = length l.bytes - l.spot.at
