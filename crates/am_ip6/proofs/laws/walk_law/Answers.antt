-- What is known of walks, from what is known of the longest front of options.
use Rattle.am_ip6.proofs.Exists.{one_walk}
use Rattle.am_ip6.proofs.laws.walk_law.Goals as goal

pub returns : goal.returns
returns c = λ packet whole. one_walk c.longest_front_law.ensures packet whole
