use Rattle.std.proofs.Common.{refl, ap, Some}
use Rattle.am_clock.proofs.Belonging.{belongs-one}
use Rattle.am_clock.proofs.timing.Timing.attribute_near.Goals as goal

pub returns-then-belongs-clause-found : goal.returns-then-belongs-clause-found
returns-then-belongs-clause-found c n belongs =
    ap (λ x. Some x) (belongs-one c.args.self.now c.args.reading c.args.colour c.args.shift c.args.likely n
    c.if-belongs.ensures.valid (c.if-belongs.ensures.belongs refl) belongs)
