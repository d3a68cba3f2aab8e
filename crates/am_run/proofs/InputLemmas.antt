-- What is taken of an input isn't refused.
use Rattle.std.proofs.Common.{arith, sym, ◌≡◌, ℕ, List, [], Ok, Err, inl, inr}
use Rattle.std.proofs.lemmas.List.{append-nil}
use Rattle.am_pcap.specs.Packets.{Packet}
use Rattle.am_pcap.specs.CaptureFiles.{Begins, BeginsWith, IsWholeCapture}
use Rattle.am_pcap.specs.declared.head.Head.{Head}
use Rattle.am_domain.specs.Domains.{DomainValue, IsDomainOf, IsDomainRefusal}
use Rattle.am_domain.specs.declared.error.DomainError.{DomainError}
use Rattle.am_report.specs.Reports.{IsReportOf, IsReportRefusal}
use Rattle.am_report.specs.declared.error.ReportError.{ReportError}
use Rattle.am_report.specs.declared.read.Report.{Report}
use Rattle.am_chain.specs.Answers.{Reason}
use Rattle.am_chain.specs.Inputs.{JudgesDomain, JudgesReport}

-- a domain isn't refused
pub domain-excludes :
    ((bytes : List ℕ) (d : DomainValue) (e : DomainError) → IsDomainOf bytes d → IsDomainRefusal bytes e → ⊥)
    → (bytes : List ℕ) (d : DomainValue) (reason : Reason) → JudgesDomain bytes (Ok d) → JudgesDomain bytes (Err reason) → ⊥
domain-excludes law bytes d reason taken refused =
    elim refused [ inl x ↦ omega (arith, taken.0, x.1) | inr x ↦ law bytes d x.0 taken.1 x.3 ]

-- a report that is taken isn't refused
pub report-excludes :
    (d : DomainValue) (taken : List Report)
    → ((bytes : List ℕ) (a b : Report) → IsReportOf d bytes a → IsReportOf d bytes b → a ≡ b)
    → ((bytes : List ℕ) (r : Report) (e : ReportError) → IsReportOf d bytes r → IsReportRefusal d bytes e → ⊥)
    → (bytes : List ℕ) (r : Report) (reason : Reason) → JudgesReport d taken bytes (Ok r) → JudgesReport d taken bytes (Err reason) → ⊥
report-excludes d taken one law bytes r reason so refused =
    elim refused [
      | inl x ↦ omega (arith, so.0, x.1)
      | inr y ↦ elim y [
        | inl x ↦ law bytes r x.0 so.1 x.3
        | inr x ↦ let same : x.0 ≡ r = one bytes x.0 r x.3 so.1 in cc (so.2, x.4, same)
      ]
    ]

-- a whole capture begins with all its records
pub whole-begins : (bytes : List ℕ) (h : Head) (ps : List Packet) → IsWholeCapture bytes h ps → BeginsWith bytes h ps
whole-begins bytes h ps w =
    let begins : Begins bytes h ps [] = record { whole = w.capture.whole; head = w.capture.head; records = w.capture.records } in
    record {
      front = bytes;
      rest = [];
      behind = [];
      split = sym (append-nil bytes);
      short = w.short;
      begins = begins;
      all = begins;
    }
