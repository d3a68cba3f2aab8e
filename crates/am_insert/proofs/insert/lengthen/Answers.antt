-- Eight bytes come in behind the header, which begin with a PadN.
use Rattle.std.proofs.Common.{refl}
use Rattle.am_ip6.specs.Shown.{lent}
use Rattle.am_insert.proofs.Planned.{lengthens}
use Rattle.am_insert.proofs.insert.lengthen.Goals as goal

pub returns-clause-longer : goal.returns-clause-longer
returns-clause-longer c =
    lengthens c.args.bytes.now (lent c.args.header) _ _ _ _ c.requires.payload refl c.eight.ensures
