-- All bytes are the same where none differs.
use Rattle.std.proofs.Common.{arith, ◌∙◌, sym}
use Rattle.std.proofs.lemmas.Grind.{same_number_lists}
use Rattle.am_addr.proofs.mask.are_same.Goals as goal

pub returns : goal.returns
returns c = (
  (λ same. same_number_lists c.args.bytes.now c.args.others.now (c.told-bytes ∙ sym c.told-others)
      (λ k low. c.loop-i.invariant.alike same k (omega arith))),
  c.loop-i.invariant.stays,
)
