use Rattle.std.proofs.Common.{arith}
use Rattle.am_domain.specs.Network.{HasLink}
use Rattle.am_domain.proofs.ListLemmas.{more_below}
use Rattle.am_domain.proofs.network.lone_node.Goals as goal

pub loop-i-preserved : goal.loop-i-preserved
loop-i-preserved c =
    let has : HasLink c.args.links.now c.index-nodes-i.result = record { number = c.in-Some._number; within = c.in-Some.ensures.within; here = rw c.name.ensures at c.in-Some.ensures.found } in
    more_below (HasLink c.args.links.now) c.args.nodes.now c.loop-i.i c.index-nodes-i.result (omega arith) c.index-nodes-i.is c.loop-i.invariant has
