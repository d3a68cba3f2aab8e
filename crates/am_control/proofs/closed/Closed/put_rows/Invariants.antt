use Rattle.std.proofs.Common.{◌≡◌, ◌-◌, map}
use Rattle.std.specs.Prelude.{vec_capacity}
use Rattle.std.specs.List.{range_with_len}
use Rattle.am_control.specs.Rows.{loss_row}
use Rattle.am_control.proofs.closed.Closed.put_rows.Given as goal

-- the rows of the blocks so far were put
abbrev pub invariant-loop-block : goal.invariant-loop-block
invariant-loop-block l = record {
  rows : l.rows.items ≡ map (loss_row l.self l.scope l.flow) (range_with_len l.self.plan.first (l.block - l.self.plan.first));
  room : vec_capacity l.rows ≡ vec_capacity l.fn.rows;
}
