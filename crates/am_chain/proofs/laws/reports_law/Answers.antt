use Rattle.am_chain.proofs.ReportLemmas.{one-more}
use Rattle.am_chain.proofs.laws.reports_law.Goals as goal

pub returns : goal.returns
returns c = λ taken r node none. one-more taken r node none
