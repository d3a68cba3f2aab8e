use Rattle.std.proofs.Common.{arith, length-drop}
use Rattle.std.proofs.lemmas.List.{take_rest}
use Rattle.am_base.proofs.Appends.{appended_more}
use Rattle.am_base.proofs.sink.put.Goals as goal

pub loop-at-preserved : goal.loop-at-preserved
loop-at-preserved g c = record {
  within = let h = simp take_rest at c.in-Ok.ensures.bound in omega (arith, h, length-drop c.loop-at.at c.args.bytes.now);
  appended = appended_more _ _ _ _ _ _ c.loop-at.invariant.appended c.in-Ok.ensures.appended;
  faults_stay = omega (arith, c.in-Ok.ensures.faults_stay);
}
