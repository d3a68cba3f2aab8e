use Rattle.std.proofs.Common.{◌<◌, arith, get_or, length}
use Rattle.std.proofs.lemmas.List.{get_or_default}
use Rattle.std.proofs.lemmas.List.Elements.{Contains-get_or}
use Rattle.am_graph.proofs.ReachLemmas.{reaches-next}
use Rattle.am_graph.proofs.walk.reach_all.Goals as goal

pub reach-requires : goal.reach-requires
reach-requires c =
    let within : c.loop-node.node-index < length c.args.nodes.now = omega arith in
    let node = get_or c.args.nodes.now c.loop-node.node-index 0 in
    omega (arith, c.requires node (Contains-get_or c.args.nodes.now c.loop-node.node-index 0 within), c.loop-node.invariant.same)

pub loop-node-preserved : goal.loop-node-preserved
loop-node-preserved c =
    let within : c.loop-node.node-index < length c.args.nodes.now = omega arith in
    reaches-next c.args.cluster c.loop-node.node-index (get_or c.args.nodes.now c.loop-node.node-index 0) c.args.nodes.now
    c.args.clusters.now c.loop-node.clusters c.reach.new.clusters c.args.wave.now.items c.loop-node.wave.items c.reach.new.wave.items
    within (get_or_default c.args.nodes.now c.loop-node.node-index 0 _ within) c.loop-node.invariant c.in_ok-reach.ensures
