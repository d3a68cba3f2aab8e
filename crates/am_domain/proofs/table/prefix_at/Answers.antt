use Rattle.std.proofs.Common.{sym}
use Rattle.am_domain.proofs.TextLemmas.{prefix_none}
use Rattle.am_domain.proofs.table.prefix_at.Goals as goal

pub returns-in_default-parse-clause-none : goal.returns-in_default-parse-clause-none
returns-in_default-parse-clause-none c =
    prefix_none _ c.in-Some.text.now (sym c.in-Some.ensures) (rw c.in_default-parse.is at c.parse.ensures.none)
