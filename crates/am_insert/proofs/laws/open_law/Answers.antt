-- The walk of each packet is one, and where nothing hinders it finds no mark.
use Rattle.am_insert.proofs.Opened.{open-unmarked}
use Rattle.am_insert.proofs.laws.open_law.Goals as goal

pub returns : goal.returns
returns c = open-unmarked c.walk_law.ensures
