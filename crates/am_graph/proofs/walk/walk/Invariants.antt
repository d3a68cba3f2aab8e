use Rattle.std.proofs.Common.{◌+◌, length}
use Rattle.am_graph.specs.Walks.{unreached}
use Rattle.am_graph.proofs.WalkLemmas.{IsWalking}
use Rattle.am_graph.proofs.walk.walk.Given as goal

-- each start of the cluster waits, or has passed it on
abbrev pub invariant-waves : goal.invariant-waves
invariant-waves l = IsWalking l.graph.links l.link l.cluster l.fn.starts l.fn.ends l.starts l.ends l.wave.items

abbrev pub decreases-waves : goal.decreases-waves
decreases-waves l = unreached l.starts + length l.wave.items
