-- The walk of a packet is one, and each walk shows one thing.
use Rattle.am_ip6.proofs.SeenOnce.{seen-one}
use Rattle.am_ip6.proofs.laws.seen_law.Goals as goal

pub returns : goal.returns
returns c = λ packet whole place a b.
    seen-one c.longest_front_law.ensures c.mark_law.ensures packet whole place a b (c.walk_law.ensures packet whole)
