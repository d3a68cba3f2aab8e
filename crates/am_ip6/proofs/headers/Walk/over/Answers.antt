-- The headers from the first spot on are the longest chain, and there are no more of them than bytes.
use Rattle.am_ip6.specs.Shown.{spot_shown}
use Rattle.am_ip6.proofs.LeftLemmas.{has-some, from_few}
use Rattle.am_ip6.proofs.headers.Walk.over.Goals as goal

pub returns-clause-headers : goal.returns-clause-headers
returns-clause-headers c = has-some c.longest_front_law.ensures _ (spot_shown c.in-Ok.spot) c.in-Ok.ensures.fixed c.in-Ok.ensures.first

pub returns-clause-few : goal.returns-clause-few
returns-clause-few c = from_few _ _ (spot_shown c.in-Ok.spot)
