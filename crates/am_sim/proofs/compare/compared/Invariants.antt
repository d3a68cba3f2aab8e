use Rattle.std.proofs.Common.{◌≡◌, take}
use Rattle.am_control.specs.Rows.{scope_rows}
use Rattle.am_sim.specs.Comparing.{IsBounded, loss_in}
use Rattle.am_sim.specs.Simulating.{row_of}
use Rattle.am_sim.proofs.compare.compared.Given as goal

-- the row is over the rows of the scope so far
abbrev pub invariant-loop-k : goal.invariant-loop-k
invariant-loop-k l = record {
  over : l.row ≡ row_of l.fn.scope (loss_in l.domain l.losses) (take l.k (scope_rows l.closed l.fn.scope));
  bounded : IsBounded l.row;
}
