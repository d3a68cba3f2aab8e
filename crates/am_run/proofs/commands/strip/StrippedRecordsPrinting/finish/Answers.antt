-- Nothing stands behind all records.
use Rattle.std.proofs.Common.{sym, append-nil, []}
use Rattle.am_run.specs.commands.Strip.{stripped_records}
use Rattle.am_run.proofs.ChainLemmas.{all-behind}
use Rattle.am_run.proofs.commands.strip.StrippedRecordsPrinting.finish.Goals as goal

pub returns-clause-rest : goal.returns-clause-rest
returns-clause-rest c =
    ([], sym (append-nil c.args._held.now.items), λ ps text known is. all-behind (stripped_records c.args.self.now.domain.now) c.args._head.now ps text is)
