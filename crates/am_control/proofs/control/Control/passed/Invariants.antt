use Rattle.std.proofs.Common.{◌≡◌, ◌≤◌, ◌*◌, ◌^◌, take}
use Rattle.am_control.specs.Controls.{measured_of}
use Rattle.am_control.specs.Rows.{sum_over}
use Rattle.am_control.proofs.control.Control.passed.Given as goal

-- the sums over the nodes so far, none of which counts more than it may
abbrev pub invariant-loop-node : goal.invariant-loop-node
invariant-loop-node l = record {
  count : l.all.count ≡ sum_over (λ c. c.count) (measured_of l.self).cells l.flow l.block (take l.node-index l.side);
  dcount : l.all.dcount ≡ sum_over (λ c. c.dcount) (measured_of l.self).cells l.flow l.block (take l.node-index l.side);
  sum : l.all.sum ≡ sum_over (λ c. c.sum) (measured_of l.self).cells l.flow l.block (take l.node-index l.side);
  dsum : l.all.dsum ≡ sum_over (λ c. c.dsum) (measured_of l.self).cells l.flow l.block (take l.node-index l.side);
  few : l.all.count ≤ l.node-index * 2 ^ 40;
  few_d : l.all.dcount ≤ l.node-index * 2 ^ 40;
  small : l.all.sum ≤ l.node-index * 2 ^ 82;
  small_d : l.all.dsum ≤ l.node-index * 2 ^ 82;
}
