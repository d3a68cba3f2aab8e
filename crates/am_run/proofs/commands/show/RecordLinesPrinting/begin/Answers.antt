-- Nothing stands before all lines.
use Rattle.std.proofs.Common.{refl, sym, []}
use Rattle.std.proofs.lemmas.List.{append-nil}
use Rattle.am_run.proofs.commands.show.RecordLinesPrinting.begin.Goals as goal

pub returns-clause-text : goal.returns-clause-text
returns-clause-text c = ([], sym (append-nil c.args._held.now.items), refl)
