use Rattle.am_sim.proofs.ComparingLemmas.{ComparesFirst}
use Rattle.am_sim.proofs.compare.compare_each.Given as goal

abbrev pub invariant-loop-cluster : goal.invariant-loop-cluster
invariant-loop-cluster l = ComparesFirst l.domain l.closed l.world l.clusters l.cluster l.all.items l.rows.items
