use Rattle.std.proofs.Common.{arith, subst, ℕ, List}
use Rattle.std.proofs.lemmas.List.{drop_more}
use Rattle.am_addr.specs.Bits.{Decimal}
use Rattle.am_addr.proofs.Bytes.{decimal_stops}
use Rattle.am_addr.proofs.prefix.length_of.Goals as goal

pub returns-in_default-clause-found : goal.returns-in_default-clause-found
returns-in_default-clause-found c n is =
    let here = (c.loop-byte.invariant.1 n).0 is.digits in
    absurd (decimal_stops _ _ n _ c.in_default.ensures.none is.most
    (subst (λ (t : List ℕ). Decimal c.loop-byte.length t n) (drop_more c.args.text.now c.loop-byte.byte-index 0 (omega arith)) here))
