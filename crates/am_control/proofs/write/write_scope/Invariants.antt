use Rattle.std.proofs.Common.{◌≡◌, ◌≤◌, take, flat_map}
use Rattle.std.specs.Prelude.{vec_capacity}
use Rattle.std.specs.List.{range_with_len}
use Rattle.am_base.specs.Sinks.{HandsIn}
use Rattle.am_control.specs.Rows.{flow_rows}
use Rattle.am_control.specs.Texts.{loss_line}
use Rattle.am_control.proofs.write.write_scope.Given as goal

-- the lines of the flows so far were handed in, and there is as much room for rows as before
abbrev pub invariant-loop-flow : goal.invariant-loop-flow
invariant-loop-flow g l = record {
  handed : HandsIn (g.O.Sink.written l.fn.out) l.fn.buffer
      (flat_map (λ flow. flat_map (loss_line l.flows) (flow_rows l.closed l.scope flow)) (take l.flow (range_with_len 0 l.closed.plan.flows)))
      (g.O.Sink.written l.out) l.buffer;
  room : vec_capacity l.rows ≡ vec_capacity l.fn.rows;
  faults_stay : g.O.Sink.faults l.fn.out ≤ g.O.Sink.faults l.out;
}
