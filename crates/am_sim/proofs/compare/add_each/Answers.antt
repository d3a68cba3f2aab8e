use Rattle.std.proofs.Common.{arith, inl, inr}
use Rattle.std.proofs.lemmas.Bool.{cases_order}
use Rattle.am_sim.proofs.compare.add_each.Goals as goal

pub returns-clause-most : goal.returns-clause-most
returns-clause-most c = λ k. elim (cases_order k c.loop-k.k) [
  | inl at ↦ omega (arith, c.loop-k.invariant.same k (omega (arith, at)))
  | inr (inl before) ↦ omega (arith, c.loop-k.invariant.rose k before, c.type_inv.losses k)
  | inr (inr after) ↦ omega (arith, c.loop-k.invariant.same k (omega (arith, after)))
]
