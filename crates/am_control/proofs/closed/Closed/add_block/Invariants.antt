use Rattle.std.proofs.Common.{◌≡◌, ◌++◌, All}
use Rattle.std.specs.Prelude.{vec_capacity}
use Rattle.am_control.specs.Passages.{FitsBoth}
use Rattle.am_control.proofs.PassageLemmas.{flows-before}
use Rattle.am_control.proofs.closed.Closed.add_block.Given as goal

-- the passages of the flows so far were added
abbrev pub invariant-loop-flow : goal.invariant-loop-flow
invariant-loop-flow l = record {
  passages : l.passages.items ≡ l.fn.passages.items ++ flows-before l.self l.fn.scope l.block l.flow;
  fit : All FitsBoth l.passages.items;
  room : vec_capacity l.passages ≡ vec_capacity l.fn.passages;
}
