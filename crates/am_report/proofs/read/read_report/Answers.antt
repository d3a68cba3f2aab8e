use Rattle.am_report.proofs.ReportAlone.{report-answered, refusal-answered}
use Rattle.am_report.proofs.read.read_report.Goals as goal

pub returns-clause-found : goal.returns-clause-found
returns-clause-found c =
    report-answered c.args.domain.now c.args.bytes.now c.said_by.result c.flows-flows.ensures.lawful c.said_by.ensures.ok c.said_by.ensures.err

pub returns-clause-refused : goal.returns-clause-refused
returns-clause-refused c =
    refusal-answered c.args.domain.now c.args.bytes.now c.said_by.result c.flows-flows.ensures.lawful c.said_by.ensures.ok c.said_by.ensures.err
