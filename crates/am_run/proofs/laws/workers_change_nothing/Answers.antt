use Rattle.am_run.proofs.AuditLemmas.{reports-alike, tables-alike}
use Rattle.am_run.proofs.laws.workers_change_nothing.Goals as goal

pub returns-clause-reports : goal.returns-clause-reports
returns-clause-reports c = reports-alike

pub returns-clause-tables : goal.returns-clause-tables
returns-clause-tables c = tables-alike
