-- The file header stands before all records.
use Rattle.std.proofs.Common.{refl}
use Rattle.am_run.specs.commands.Mark.{marks}
use Rattle.am_run.proofs.RewriteLemmas.{is-rewritten-none}
use Rattle.am_run.proofs.commands.mark.MarkedRecordsPrinting.begin.Goals as goal

pub returns-clause-text : goal.returns-clause-text
returns-clause-text c =
    (c.args.head.now.raw, c.in_ok-extend_from_slice.ensures.items, is-rewritten-none (marks c.args.self.now.domain.now) c.args.head.now c.args.head.now.raw refl)
