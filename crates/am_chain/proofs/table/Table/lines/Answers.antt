use Rattle.am_chain.proofs.TableLemmas.{rows_are_table}
use Rattle.am_chain.proofs.table.Table.lines.Goals as goal

pub returns-clause-table : goal.returns-clause-table
returns-clause-table c = rows_are_table c.args.self.now c.len.ensures.ordered c.requires
