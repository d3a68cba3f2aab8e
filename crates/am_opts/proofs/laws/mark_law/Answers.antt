-- The bytes of a spelling are the data of one mark.
use Rattle.am_opts.proofs.Spelling.{spells-unique}
use Rattle.am_opts.proofs.laws.mark_law.Goals as goal

pub returns : goal.returns
returns c = λ bytes a b. spells-unique bytes a b
