use Rattle.am_graph.specs.Graphs.{IsTable, start_of, end_of}
use Rattle.am_graph.proofs.GraphLemmas.{IsPair}
use Rattle.am_graph.proofs.graph.Graph.of.Given as goal

-- the links so far are tabulated
abbrev pub invariant-loop-link : goal.invariant-loop-link
invariant-loop-link l = record {
  ahead : IsTable (IsPair (start_of l.link-items) (end_of l.link-items) l.link-index) l.nodes l.ahead;
  back : IsTable (IsPair (end_of l.link-items) (start_of l.link-items) l.link-index) l.nodes l.back;
}
