use Rattle.std.proofs.Common.{◌≡◌, All}
use Rattle.std.specs.Prelude.{vec_capacity}
use Rattle.am_control.specs.Passages.{FitsBoth}
use Rattle.am_control.proofs.PassageLemmas.{blocks-before}
use Rattle.am_control.proofs.closed.Closed.put_passages.Given as goal

-- the passages of the blocks so far were put
abbrev pub invariant-loop-block : goal.invariant-loop-block
invariant-loop-block l = record {
  passages : l.passages.items ≡ blocks-before l.self l.scope l.block;
  fit : All FitsBoth l.passages.items;
  room : vec_capacity l.passages ≡ vec_capacity l.fn.passages;
}
