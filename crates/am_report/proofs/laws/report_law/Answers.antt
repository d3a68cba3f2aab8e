use Rattle.am_report.proofs.ReadBack.{read-back}
use Rattle.am_report.proofs.SizeLemmas.{fits}
use Rattle.am_report.proofs.ReportAlone.{one-report, one-refusal, either}
use Rattle.am_report.proofs.laws.report_law.Goals as goal

pub returns-clause-report : goal.returns-clause-report
returns-clause-report c = one-report

pub returns-clause-refusal : goal.returns-clause-refusal
returns-clause-refusal c = one-refusal

pub returns-clause-either : goal.returns-clause-either
returns-clause-either c = either

pub returns-clause-read_back : goal.returns-clause-read_back
returns-clause-read_back c = read-back

pub returns-clause-fits : goal.returns-clause-fits
returns-clause-fits c = fits
