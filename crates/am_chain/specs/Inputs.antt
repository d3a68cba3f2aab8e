-- The inputs that commands take whole: how the bytes of each are judged.
use Rattle.std.specs.Prelude.{◌≡◌, ◌⊎◌, ℕ, ◌<◌, ◌≤◌, List, length, IsSome, None, Result, Ok, Err}
use Rattle.am_ip6.specs.declared.marks.Place.{Place}
use Rattle.am_domain.specs.Domains.{DomainValue, IsDomainOf, IsDomainRefusal}
use Rattle.am_domain.specs.declared.domain.TheConstants.{MAX_DOMAIN}
use Rattle.am_domain.specs.declared.error.DomainError.{DomainError}
use Rattle.am_report.specs.Reports.{IsReportOf, IsReportRefusal}
use Rattle.am_report.specs.ReportTexts.{refused_flow}
use Rattle.am_report.specs.Rows.{node_name}
use Rattle.am_report.specs.declared.error.ReportError.{ReportError}
use Rattle.am_report.specs.declared.read.Report.{Report}
use Rattle.am_report.specs.declared.read.TheConstants.{MAX_REPORT}
use Rattle.am_meter.specs.Marks.{MarksRefusal, JudgesMarks}
use Rattle.am_meter.specs.declared.stream.Marked.{Marked}
use Rattle.am_meter.specs.Marks.MarksRefusal.{Long, BadCapture as RefusedMarks, HeadersCut as CutMarks}
use Rattle.am_chain.specs.Answers.{Reason}
use Rattle.am_chain.specs.Answers.Reason.{TooLong, BadCapture, HeadersCut, BadDomain, BadReport, ReportTwice}
use Rattle.am_chain.specs.Gathering.{cells_of}

-- a domain file: the domain that its bytes say, or their first refusal
abbrev pub JudgesDomain : List ℕ → Result DomainValue Reason → Type 0
JudgesDomain bytes (Ok d) = (length bytes ≤ MAX_DOMAIN) × IsDomainOf bytes d
JudgesDomain bytes (Err reason) =
    ((reason ≡ TooLong) × (MAX_DOMAIN < length bytes))
    ⊎ ((error : DomainError) × (reason ≡ BadDomain error) × (length bytes ≤ MAX_DOMAIN) × IsDomainRefusal bytes error)

-- why a capture is refused that is taken for its marked records
abbrev pub marks_reason : MarksRefusal → Reason
marks_reason Long = TooLong
marks_reason (RefusedMarks error) = BadCapture error
marks_reason (CutMarks number) = HeadersCut number

-- a capture that is taken for its marked records in this kind of header
abbrev pub JudgesCapture : Place → List ℕ → Result (List Marked) Reason → Type 0
JudgesCapture place bytes (Ok ms) = JudgesMarks place bytes (Ok ms)
JudgesCapture place bytes (Err reason) = (e : MarksRefusal) × JudgesMarks place bytes (Err e) × (reason ≡ marks_reason e)

-- a report of one of the domain's nodes, beside those that were taken: the node and the cells that its bytes say, or their
-- first refusal; where there is a report of the node already, the second is refused
abbrev pub JudgesReport : DomainValue → List Report → List ℕ → Result Report Reason → Type 0
JudgesReport d taken bytes (Ok r) = (length bytes ≤ MAX_REPORT) × IsReportOf d bytes r × (cells_of taken r.node ≡ None)
JudgesReport d taken bytes (Err reason) =
    ((reason ≡ TooLong) × (MAX_REPORT < length bytes))
    ⊎ ((error : ReportError) × (reason ≡ BadReport error (refused_flow d error)) × (length bytes ≤ MAX_REPORT) × IsReportRefusal d bytes error)
    ⊎ ((r : Report) × (reason ≡ ReportTwice (node_name d r.node)) × (length bytes ≤ MAX_REPORT) × IsReportOf d bytes r × IsSome (cells_of taken r.node))
