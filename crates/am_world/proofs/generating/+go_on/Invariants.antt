use Rattle.std.proofs.Common.{◌-◌}
use Rattle.am_world.proofs.generating.+go_on.Given as goal

abbrev pub decreases-go_on : goal.decreases-go_on
decreases-go_on l = 16 - l.way.hops
