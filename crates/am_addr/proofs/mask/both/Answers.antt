-- All bytes have the bits of both.
use Rattle.std.proofs.Common.{arith}
use Rattle.am_addr.proofs.MaskLemmas.{clears}
use Rattle.am_addr.proofs.mask.both.Goals as goal

pub returns : goal.returns
returns c = λ count is.
    clears count c.args.bytes.now c.args.bits.now c.loop-i.kept (omega arith) (λ k lt. c.loop-i.invariant.small k (omega arith)) c.loop-i.invariant.many
    (λ k lt. c.loop-i.invariant.done k (omega arith)) is
