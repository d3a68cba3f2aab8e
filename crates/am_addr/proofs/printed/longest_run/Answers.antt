use Rattle.std.proofs.Common.{arith, ap, sym, subst, ◌∙◌, List, ℕ, take}
use Rattle.am_addr.proofs.Runs.{AreMost, kept_best, new_best}
use Rattle.am_addr.proofs.printed.longest_run.Goals as goal
use Rattle.am_addr.proofs.printed.longest_run.Goals.{then-zeros-count, else-zeros-count}

pub loop-place-preserved : goal.loop-place-preserved
loop-place-preserved c =
    let h = c.loop-place.invariant in
    let rest = c.split_at.ensures.back in
    let most = subst (λ (l : List ℕ). AreMost l c.zeros_in-zeros.result) rest c.zeros_in-zeros.ensures.most in
    let zeros = ap (λ (l : List ℕ). take c.zeros_in-zeros.result l) (sym rest) ∙ c.zeros_in-zeros.ensures.zeros in
    elim c.if-zeros-count.branch [
      | then-zeros-count w ↦
          let at = w.at-is in
          let count = w.count-is in
          grind (arith, at, count, zeros, new_best c.args.values.now c.loop-place.place c.loop-place.at c.loop-place.count c.zeros_in-zeros.result h.3 most (omega arith))
      | else-zeros-count w ↦
          let at = w.at-is in
          let count = w.count-is in
          grind (arith, at, count, h.2, kept_best c.args.values.now c.loop-place.place c.loop-place.at c.loop-place.count c.zeros_in-zeros.result h.3 most (omega arith) h.0)
    ]
