use Rattle.std.proofs.Common.{◌≡◌, None}
use Rattle.am_graph.specs.Walks.{cluster_at}
use Rattle.am_graph.proofs.ReachLemmas.{reaches-one, none-from}
use Rattle.am_graph.proofs.walk.reach.Goals as goal

pub returns-in_ok-push : goal.returns-in_ok-push
returns-in_ok-push c =
    let none : cluster_at c.args.clusters.now c.args.node ≡ None = none-from _ c.if-is_none.ensures in
    rw c.in_ok-push.ensures.items (reaches-one c.args.cluster c.args.node c.args.clusters.now c.args.wave.now.items c.requires none)
