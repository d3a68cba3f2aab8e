use Rattle.am_run.proofs.AgreeLemmas.{agreed}
use Rattle.am_run.proofs.laws.loss_is_audit.Goals as goal

pub returns : goal.returns
returns c = agreed (record { same = c.cells_law.ensures.same; read_back = c.report_law.ensures.read_back; fits = c.report_law.ensures.fits; more = c.reports_law.ensures })
