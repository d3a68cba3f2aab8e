use Rattle.am_clock.proofs.Belonging.{belongs-means}
use Rattle.am_clock.proofs.timing.Timing.attribute.Goals as goal

pub returns-clause-found : goal.returns-clause-found
returns-clause-found c n belongs = belongs-means _ _ _ _ _ n _ c.in-Some.ensures.valid c.in-Some.ensures.epoch c.epoch_block.ensures belongs
