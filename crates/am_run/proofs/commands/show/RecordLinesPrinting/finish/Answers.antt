-- Nothing stands behind all lines.
use Rattle.std.proofs.Common.{sym, append-nil, []}
use Rattle.am_run.specs.commands.Show.{record_lines}
use Rattle.am_run.proofs.ChainLemmas.{all-behind}
use Rattle.am_run.proofs.commands.show.RecordLinesPrinting.finish.Goals as goal

pub returns-clause-rest : goal.returns-clause-rest
returns-clause-rest c =
    ([], sym (append-nil c.args._held.now.items), λ ps text known is. all-behind record_lines c.args._head.now ps text is)
