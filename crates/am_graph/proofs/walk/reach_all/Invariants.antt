use Rattle.std.proofs.Common.{Contains, take}
use Rattle.am_graph.specs.Walks.{Reaches}
use Rattle.am_graph.proofs.walk.reach_all.Given as goal

-- the nodes so far are reached
abbrev pub invariant-loop-node : goal.invariant-loop-node
invariant-loop-node l = Reaches (Contains (take l.node-index l.nodes)) l.cluster l.fn.clusters l.clusters l.fn.wave.items l.wave.items
