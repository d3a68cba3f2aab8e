use Rattle.toml.specs.View.{table_view}
use Rattle.toml.proofs.Views.{view-Table}
use Rattle.am_domain.proofs.entries.read_item.Goals as goal

pub returns-in-Err-Bad-clause-bad : goal.returns-in-Err-Bad-clause-bad
returns-in-Err-Bad-clause-bad g c = (
  table_view c.in-Table.table,
  rw c.in-Table.is (view-Table c.in-Table.table),
  rw c.in-Err-Bad.field-0-is at c.in-Err-Bad.ensures.bad,
)
