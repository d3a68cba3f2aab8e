-- The first mark is one, and so is what comes out with it.
use Rattle.am_insert.proofs.Alone.{stripped-one}
use Rattle.am_insert.proofs.laws.strip_law.Goals as goal

pub returns : goal.returns
returns c = stripped-one c.walk_law.ensures c.longest_front_law.ensures c.mark_law.ensures
