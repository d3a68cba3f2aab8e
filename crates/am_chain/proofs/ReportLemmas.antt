-- A report that is taken beside others, and one that a controller refuses.
use Rattle.std.proofs.Common.{arith, refl, sym, ap, subst, ◌∙◌, ◌≡◌, ◌⊎◌, ℕ, ◌-◌, ◌*◌, ◌<◌, ◌≤◌, All, List, [], ◌∷◌, ◌++◌, length, get_or, Option, Some, None, inl, inr, zero-add, zero}
use Rattle.std.specs.Prelude.{Err, slice_set, ◌==◌, if◌then◌else◌, IsSome}
use Rattle.std.proofs.lemmas.Bool.Decides.{eqb_tells}
use Rattle.std.proofs.lemmas.List.{ext_get_or, get_or-set_same, get_or-set_other, length-set}
use Rattle.std.proofs.lemmas.List.FromFn.{get_or-map-range_with_len, length-map-range_with_len}
use Rattle.am_cells.specs.CellTables.{CellTable}
use Rattle.am_control.specs.Controls.{ControlValue, Accepts, RefusesReport}
use Rattle.am_control.specs.Plans.{IsPlanOf}
use Rattle.am_control.specs.declared.error.ControlError.{ControlError}
use Rattle.am_control.specs.declared.error.ControlError.TheVariants.{ReportTwice as SecondReport, MissingReport, Memory}
use Rattle.am_domain.specs.Domains.{DomainValue, IsLawful}
use Rattle.am_domain.specs.Network.{IsNumberOf}
use Rattle.am_report.specs.Reports.{IsReportOf, TellsReportRefusal}
use Rattle.am_report.specs.ReportTexts.{refused_flow}
use Rattle.am_report.specs.Rows.{RowValue, node_name}
use Rattle.am_report.specs.declared.error.ReportError.{ReportError}
use Rattle.am_report.specs.declared.error.ReportError.TheVariants as report
use Rattle.am_report.specs.declared.read.Report.{Report}
use Rattle.am_report.specs.declared.read.TheConstants.{MAX_REPORT}
use Rattle.am_chain.specs.Answers.{Answer}
use Rattle.am_chain.specs.Answers.Answer.{Ended}
use Rattle.am_chain.specs.Answers.Ending.{Refused}
use Rattle.am_chain.specs.Answers.Reason.{BadReport, ReportTwice}
use Rattle.am_base.specs.Files.{HasFile}
use Rattle.am_chain.specs.Chains.{Inputs, StopsHere}
use Rattle.am_chain.specs.Gathering.{cells_of, cells_of_each, HasReports}
use Rattle.am_chain.specs.Inputs.{JudgesReport}
use Rattle.am_chain.specs.Shown.{IsAnswered, report_answer}
use Rattle.am_chain.proofs.InputLemmas.{judged-of, stop-answer}

-- the cells of a node once there is one more report: those of that report, where it is of the node
pub one-more : (taken : List Report) (r : Report) (node : ℕ) → cells_of taken r.node ≡ None
    → cells_of (taken ++ r ∷ []) node ≡ (if r.node == node then Some r.cells else cells_of taken node)
one-more [] r node none = refl
one-more (x ∷ xs) r node none =
    elim (eqb_tells x.node r.node) [
      | inl same ↦ absurd (cc (none, same.0))
      | inr other ↦
          let later : cells_of xs r.node ≡ None = cc (none, other.0) in
          let rest = one-more xs r node later in
          elim (eqb_tells x.node node) [
            | inl here ↦ elim (eqb_tells r.node node) [
              | inl there ↦ absurd (other.1 (here.1 ∙ sym there.1))
              | inr not ↦ cc (here.0, not.0)
            ]
            | inr not ↦ cc (not.0, rest)
          ]
    ]

-- the cells of each node, with those of one more report
pub each-with : (d : DomainValue) (taken : List Report) (r : Report) → r.node < length d.nodes → cells_of taken r.node ≡ None
    → slice_set (cells_of_each d taken) r.node (Some r.cells) ≡ cells_of_each d (taken ++ r ∷ [])
each-with d taken r within none =
    let n = length d.nodes in
    let old = cells_of_each d taken in
    let new = cells_of_each d (taken ++ r ∷ []) in
    let many : length old ≡ n = length-map-range_with_len (cells_of taken) 0 n in
    let long : length (slice_set old r.node (Some r.cells)) ≡ n = length-set old r.node (Some r.cells) ∙ many in
    ext_get_or None (slice_set old r.node (Some r.cells)) new (long ∙ sym (length-map-range_with_len (cells_of (taken ++ r ∷ [])) 0 n))
    (λ i h.
    let inside : i < n = omega (arith, h, long) in
    let there : get_or new i None ≡ cells_of (taken ++ r ∷ []) i = get_or-map-range_with_len (cells_of (taken ++ r ∷ [])) 0 n i i None inside (zero-add i) in
    let here : get_or old i None ≡ cells_of taken i = get_or-map-range_with_len (cells_of taken) 0 n i i None inside (zero-add i) in
    let more = one-more taken r i none in
    elim (eqb_tells r.node i) [
      | inl same ↦
          let at : get_or (slice_set old r.node (Some r.cells)) i None ≡ Some r.cells =
          ap (λ k. get_or (slice_set old r.node (Some r.cells)) k None) (sym same.1) ∙ get_or-set_same old r.node (Some r.cells) None (omega (arith, within, many)) in
          let is : cells_of (taken ++ r ∷ []) i ≡ Some r.cells = more ∙ ap (λ b. if b then Some r.cells else cells_of taken i) same.0 in
          at ∙ sym is ∙ sym there
      | inr other ↦
          let at : get_or (slice_set old r.node (Some r.cells)) i None ≡ cells_of taken i =
          get_or-set_other old r.node i (Some r.cells) None (λ e. other.1 (sym e)) ∙ here in
          let is : cells_of (taken ++ r ∷ []) i ≡ cells_of taken i = more ∙ ap (λ b. if b then Some r.cells else cells_of taken i) other.0 in
          at ∙ sym is ∙ sym there
    ])

-- of which node there is a report, the controller knows
pub known-at : (d : DomainValue) (control : ControlValue) (taken : List Report) (node : ℕ) → HasReports d control taken → node < length d.nodes
    → get_or control.reports node None ≡ cells_of taken node
known-at d control taken node has within =
    ap (λ rs. get_or rs node None) has.reports ∙ get_or-map-range_with_len (cells_of taken) 0 (length d.nodes) node node None within (zero-add node)

-- a controller that accepted one more report has it beside the others
pub has-more :
    (d : DomainValue) (old new : ControlValue) (taken : List Report) (r : Report) → r.node < length d.nodes
    → HasReports d old taken → Accepts old new r.node r.cells → HasReports d new (taken ++ r ∷ [])
has-more d old new taken r within has accepts =
    let none : cells_of taken r.node ≡ None = sym (known-at d old taken r.node has within) ∙ accepts.before in
    record {
      plan = subst (λ (c : ControlValue). IsPlanOf d c.plan) (sym accepts.after) has.plan;
      reports = ap (λ (c : ControlValue). c.reports) accepts.after ∙ ap (λ rs. slice_set rs r.node (Some r.cells)) has.reports
          ∙ each-with d taken r within none;
    }

first-within : (d : DomainValue) (rows : List RowValue) (node : ℕ) → 1 ≤ length rows → All (λ r. IsNumberOf d.nodes r.node node) rows → node < length d.nodes
first-within d [] node some all = absurd (omega (arith, some))
first-within d (r ∷ rs) node some all = (all zero r (omega arith)).within

-- the node of a report is one of the domain's, since a report has a row
pub report-within : (d : DomainValue) (bytes : List ℕ) (r : Report) → IsLawful d → IsReportOf d bytes r → r.node < length d.nodes
report-within d bytes r lawful h =
    let rows : 1 ≤ length d.flows * (d.end - d.first) = grind (arith, lawful.some_flow, lawful.some_block) in
    first-within d h.taken r.node (omega (arith, h.whole, rows)) h.node

-- a report of the node is there already
pub told-twice :
    (d : DomainValue) (control : ControlValue) (taken : List Report) (r : Report) (e : ControlError)
    → HasReports d control taken → r.node < length d.nodes → RefusesReport control r.node e → (e ≡ Memory) ⊎ IsSome (cells_of taken r.node)
told-twice d control taken r (SecondReport node) has within refuses =
    inr (subst (λ (o : Option CellTable). IsSome o) (known-at d control taken r.node has within) refuses.1)
told-twice d control taken r (MissingReport node) has within refuses = absurd refuses
told-twice d control taken r Memory has within refuses = inl refl

-- a second report of a node is a stop at its file
pub second-stops :
    (before after : Inputs) (name bytes : List ℕ) (d : DomainValue) (control : ControlValue) (taken : List Report) (r : Report) (e : ControlError) (node : List ℕ) (answer : Answer)
    → HasFile before.told name bytes → length bytes ≤ MAX_REPORT → IsReportOf d bytes r → HasReports d control taken → r.node < length d.nodes
    → RefusesReport control r.node e → (e ≡ Memory → ⊥) → node ≡ node_name d r.node
    → IsAnswered (Ended (Refused (Some name) (ReportTwice node))) answer
    → StopsHere before after name (JudgesReport d taken) answer
second-stops before after name bytes d control taken r e node answer there short read has within refuses other named answers =
    elim (told-twice d control taken r e has within refuses) [
      | inl memory ↦ absurd (other memory)
      | inr some ↦
          stop-answer before after name (JudgesReport d taken) (Ended (Refused (Some name) (ReportTwice node))) answer
          (refl, judged-of before.told name (JudgesReport d taken) bytes (Err (ReportTwice node)) there (inr (inr (r, ap ReportTwice named, short, read, some)))) answers
    ]

-- bytes that aren't read as a report are a stop at their file
report-refused :
    (before after : Inputs) (name bytes : List ℕ) (d : DomainValue) (taken : List Report) (e : ReportError)
    → HasFile before.told name bytes → length bytes ≤ MAX_REPORT → TellsReportRefusal d bytes e
    → StopsHere before after name (JudgesReport d taken) (report_answer name d e)
report-refused before after name bytes d taken report.Memory there short h = tt
report-refused before after name bytes d taken e there short h =
    (refl, judged-of before.told name (JudgesReport d taken) bytes (Err (BadReport e (refused_flow d e))) there (inr (inl (e, refl, short, h))))

pub report-stops :
    (before after : Inputs) (name bytes : List ℕ) (d : DomainValue) (taken : List Report) (e : ReportError) (answer : Answer)
    → HasFile before.told name bytes → length bytes ≤ MAX_REPORT → TellsReportRefusal d bytes e → IsAnswered (report_answer name d e) answer
    → StopsHere before after name (JudgesReport d taken) answer
report-stops before after name bytes d taken e answer there short h is =
    stop-answer before after name (JudgesReport d taken) (report_answer name d e) answer
    (report-refused before after name bytes d taken e there short h) is
