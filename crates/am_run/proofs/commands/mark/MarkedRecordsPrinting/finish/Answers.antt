-- Nothing stands behind all records.
use Rattle.std.proofs.Common.{sym, append-nil, []}
use Rattle.am_run.specs.commands.Mark.{marked_records}
use Rattle.am_run.proofs.ChainLemmas.{all-behind}
use Rattle.am_run.proofs.commands.mark.MarkedRecordsPrinting.finish.Goals as goal

pub returns-clause-rest : goal.returns-clause-rest
returns-clause-rest c =
    ([], sym (append-nil c.args._held.now.items), λ ps text known is. all-behind (marked_records c.args.self.now.domain.now) c.args._head.now ps text is)
