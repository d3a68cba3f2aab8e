use Rattle.std.proofs.Common.{◌≤◌, ◌++◌, take, flat_map}
use Rattle.am_base.specs.Sinks.{HandsIn}
use Rattle.am_control.specs.Texts.{line_rest}
use Rattle.am_control.proofs.write.write_flow.Given as goal

-- the lines of the rows so far were handed in
abbrev pub invariant-loop-row : goal.invariant-loop-row
invariant-loop-row g l = record {
  handed : HandsIn (g.O.Sink.written l.fn.out) l.fn.buffer (flat_map (λ r. l.start ++ line_rest r) (take l.row-index l.rows))
      (g.O.Sink.written l.out) l.buffer;
  faults_stay : g.O.Sink.faults l.fn.out ≤ g.O.Sink.faults l.out;
}
