use Rattle.std.proofs.Common.{arith, ap, ◌∙◌, ◌++◌, List, ℕ}
use Rattle.std.specs.String.{string_bytes}
use Rattle.am_addr.proofs.Runs.{more_first, more_later}
use Rattle.am_addr.proofs.printed.push_list.Goals as goal
use Rattle.am_addr.proofs.printed.push_list.Goals.{then-place-gt0+in_ok-push, else-place-gt0}

pub loop-place-preserved : goal.loop-place-preserved
loop-place-preserved c = elim c.if-place-gt0.branch [
  | then-place-gt0+in_ok-push w ↦
      more_later _ _ _ _ c.args.values.now c.loop-place.place (omega arith) (omega arith) c.loop-place.invariant
      (ap string_bytes w.text-is ∙ w.in_ok-push.ensures.bytes ∙ ap (λ (l : List ℕ). string_bytes c.loop-place.text ++ l) (w.in_ok-push.ensures.ascii (omega arith))) c.in_ok-push_group.ensures
  | else-place-gt0 w ↦
      more_first _ _ _ c.args.values.now c.loop-place.place (omega arith) (omega arith)
      (ap string_bytes w.text-is ∙ c.loop-place.invariant) c.in_ok-push_group.ensures
]
