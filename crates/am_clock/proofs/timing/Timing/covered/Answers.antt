use Rattle.am_clock.proofs.Covering.{starts-in, ends-in, covers}
use Rattle.am_clock.proofs.timing.Timing.covered.Goals as goal

pub returns-clause-first : goal.returns-clause-first
returns-clause-first c n = starts-in _ _ _ _ n c.first_from.ensures.valid c.first_from.ensures.first

pub returns-clause-count : goal.returns-clause-count
returns-clause-count c n = ends-in _ _ _ _ n c.count_until.ensures.valid c.count_until.ensures.count

pub returns-clause-covered : goal.returns-clause-covered
returns-clause-covered c n = covers c.args.self.now _ _ _ _ _ n (returns-clause-first c n) (returns-clause-count c n)
