use Rattle.std.proofs.Common.{◌<◌, [], Contains, arith, get_or, length, subst}
use Rattle.std.proofs.lemmas.List.{get_or_default}
use Rattle.std.proofs.lemmas.List.Elements.{Contains-get_or}
use Rattle.am_graph.specs.Walks.{Reaches}
use Rattle.am_graph.proofs.ReachLemmas.{reaches-beside}
use Rattle.am_graph.proofs.walk.next_wave.Goals as goal

pub at-requires : goal.at-requires
at-requires c =
    let within : c.loop-node.node-index < length c.args.wave.now = omega arith in
    c.requires.wave_within (get_or c.args.wave.now c.loop-node.node-index 0) (Contains-get_or c.args.wave.now c.loop-node.node-index 0 within)

pub reach_all-requires : goal.reach_all-requires
reach_all-requires c = λ node h.
    omega (
      arith,
      c.requires.lists_within (get_or c.args.wave.now c.loop-node.node-index 0) node (subst (λ xs. Contains xs node) c.at.ensures h),
      c.loop-node.invariant.same,
    )

pub loop-node-preserved : goal.loop-node-preserved
loop-node-preserved c =
    let within : c.loop-node.node-index < length c.args.wave.now = omega arith in
    reaches-beside c.args.cluster c.loop-node.node-index (get_or c.args.wave.now c.loop-node.node-index 0) c.args.lists.now c.args.wave.now
    c.args.clusters.now c.loop-node.clusters c.reach_all.new.clusters [] c.loop-node.next.items c.reach_all.new.wave.items
    within (get_or_default c.args.wave.now c.loop-node.node-index 0 _ within) c.loop-node.invariant
    (subst (λ xs. Reaches (Contains xs) c.args.cluster c.loop-node.clusters c.reach_all.new.clusters c.loop-node.next.items c.reach_all.new.wave.items)
    c.at.ensures c.in_ok-reach_all.ensures)
