-- What is said of a report that is refused.
use Rattle.std.specs.Prelude.{ℕ, List, [], ◌++◌, codes, decimal}
use Rattle.am_domain.specs.Domains.{DomainValue}
use Rattle.am_report.specs.Rows.{flow_name}
use Rattle.am_report.specs.declared.error.ReportError.{ReportError}
use Rattle.am_report.specs.declared.error.ReportError.TheVariants.{BadHeader, BadRow, UnknownNode, OtherNode, UnknownFlow, NotInOrder, Short, Memory}

-- the name of the flow that the refusal names; nothing where it names none
abbrev pub refused_flow : DomainValue → ReportError → List ℕ
refused_flow d (Short flow block) = flow_name d flow
refused_flow d _ = []

-- what is said of a row
abbrev pub words_of_row : ℕ → List ℕ → List ℕ
words_of_row row what = codes "row " ++ (decimal row ++ (codes ": " ++ what))

-- what is said of a refusal; the flow that it names has this name
abbrev pub refusal_text : ReportError → List ℕ → List ℕ
refusal_text BadHeader flow = codes "bad header"
refusal_text (BadRow row) flow = codes "bad row " ++ decimal row
refusal_text (UnknownNode row) flow = words_of_row row (codes "unknown node")
refusal_text (OtherNode row) flow = words_of_row row (codes "other node")
refusal_text (UnknownFlow row) flow = words_of_row row (codes "unknown flow")
refusal_text (NotInOrder row) flow = words_of_row row (codes "out of order")
refusal_text (Short number block) flow =
    codes "short: flow " ++ (flow ++ (codes " block " ++ decimal block))
refusal_text Memory flow = codes "out of memory"
