use Rattle.std.proofs.Common.{[], take}
use Rattle.am_graph.specs.Walks.{Reaches, IsBeside}
use Rattle.am_graph.proofs.walk.next_wave.Given as goal

-- the lists of the wave's nodes so far are gone through
abbrev pub invariant-loop-node : goal.invariant-loop-node
invariant-loop-node l = Reaches (IsBeside l.lists (take l.node-index l.wave)) l.cluster l.fn.clusters l.clusters [] l.next.items
