use Rattle.std.proofs.Common.{◌≡◌, ◌≤◌, take, flat_map}
use Rattle.std.specs.Prelude.{vec_capacity}
use Rattle.am_base.specs.Sinks.{HandsIn}
use Rattle.am_graph.specs.Clusters.{count_of}
use Rattle.am_control.specs.Rows.{scope_rows, scopes}
use Rattle.am_control.specs.Texts.{loss_line}
use Rattle.am_control.proofs.write.write_rows.Given as goal

-- the lines of the clusters so far were handed in, and there is as much room as before
abbrev pub invariant-loop-cluster : goal.invariant-loop-cluster
invariant-loop-cluster g l = record {
  handed : HandsIn (g.O.Sink.written l.fn.out) l.fn.buffer
      (flat_map (λ scope. flat_map (loss_line l.flows) (scope_rows l.closed scope)) (take l.cluster (scopes (count_of l.closed.plan.clusters))))
      (g.O.Sink.written l.out) l.buffer;
  wide : vec_capacity l.passages ≡ vec_capacity l.fn.passages;
  room : vec_capacity l.rows ≡ vec_capacity l.fn.rows;
  faults_stay : g.O.Sink.faults l.fn.out ≤ g.O.Sink.faults l.out;
}
