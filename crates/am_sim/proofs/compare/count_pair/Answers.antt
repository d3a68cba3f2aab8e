use Rattle.std.proofs.Common.{arith}
use Rattle.std.proofs.lemmas.Int.{ints}
use Rattle.am_sim.proofs.compare.count_pair.Goals as goal

pub returns-clause-bounded : goal.returns-clause-bounded
returns-clause-bounded c = record {
  equal = grind (arith, ints);
  dropped = omega (arith, ints);
  above = omega (arith, ints);
  below = omega (arith, ints);
}
