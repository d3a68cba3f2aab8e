-- The reports of a domain's nodes, taken one after another, and what is printed of them.
use Rattle.std.proofs.Common.{arith, refl, sym, ap, subst, ◌∙◌, ◌≡◌, ℕ, ◌+◌, ◌<◌, List, [], ◌∷◌, ◌++◌, length, get_or, drop, map, Option, Some, None, true, cond, inl, inr, add-one, zero-add}
use Rattle.std.specs.Prelude.{Ok, replicate, is_none, is_some, IsSome}
use Rattle.std.specs.List.{position_or_len}
use Rattle.std.proofs.Math.Dec.{ltb}
use Rattle.std.proofs.Math.Seq.{drop-cons, drop-length}
use Rattle.std.proofs.lemmas.Bool.{cond_below, cond_above}
use Rattle.std.proofs.lemmas.List.{ext_get_or, get_or-map, get_or-replicate, length-replicate, length-map}
use Rattle.std.proofs.lemmas.List.FromFn.{get_or-map-range_with_len, length-map-range_with_len}
use Rattle.std.proofs.lemmas.List.Sums.{position_or_len_is}
use Rattle.am_cells.specs.CellTables.{CellTable}
use Rattle.am_control.specs.Controls.{ControlValue, IsMeasuredBy}
use Rattle.am_control.specs.Plans.{IsPlanOf}
use Rattle.am_control.specs.Rows.{Measured}
use Rattle.am_control.specs.Texts.{loss_text}
use Rattle.am_domain.specs.Domains.{DomainValue}
use Rattle.am_domain.specs.Lists.{IsFirstPlace}
use Rattle.am_report.specs.declared.read.Report.{Report}
use Rattle.am_chain.specs.Answers.{Answer}
use Rattle.am_chain.specs.Chains.{Inputs, Output, Judged, Follows, StopsHere, Performs}
use Rattle.am_chain.specs.Gathering.{cells_of, cells_of_each, node_without, HasReports}
use Rattle.am_run.specs.Gathered.{TakesReports, StopsAmongReports}
use Rattle.am_chain.specs.Inputs.{JudgesReport}
use Rattle.am_run.specs.commands.Loss.{IsTableOfReports, loss_from, loss_of_all}

-- a controller with reports has a place for each node
pub has-long : (d : DomainValue) (control : ControlValue) (taken : List Report) → HasReports d control taken → length control.reports ≡ length d.nodes
has-long d control taken has = ap length has.reports ∙ length-map-range_with_len (cells_of taken) 0 (length d.nodes)

-- a controller without reports
pub has-none : (d : DomainValue) (control : ControlValue) → IsPlanOf d control.plan → control.reports ≡ replicate (length d.nodes) None → HasReports d control []
has-none d control planned none =
    let n = length d.nodes in
    let all : List (Option CellTable) = replicate n None in
    record {
      plan = planned;
      reports = none ∙ ext_get_or None all (cells_of_each d []) (length-replicate n None ∙ sym (length-map-range_with_len (cells_of []) 0 n))
          (λ i h.
          let long : length all ≡ n = length-replicate n None in
          let inside : i < n = omega (arith, h, long) in
          get_or-replicate n i None None inside ∙ sym (get_or-map-range_with_len (cells_of []) 0 n i i None inside (zero-add i)));
    }

-- the names from this one on are it and those after it
names-from : (names : List (List ℕ)) (i : ℕ) → i < length names → drop i names ≡ get_or names i [] ∷ drop (i + 1) names
names-from names i h = drop-cons names i [] h ∙ ap (λ k. get_or names i [] ∷ drop k names) (sym (add-one i))

-- before the first report
pub takes-no-report :
    (d : DomainValue) (names : List (List ℕ)) (before : Inputs) (control : ControlValue)
    → IsPlanOf d control.plan → control.reports ≡ replicate (length d.nodes) None → TakesReports d names 0 before before control
takes-no-report d names before control planned none = record {
  taken = [];
  few = omega arith;
  has = has-none d control planned none;
  goes_on = λ after old new answer p. p;
}

-- a report that is taken
report-taken :
    (d : DomainValue) (names : List (List ℕ)) (i : ℕ) (taken : List Report) (r : Report) (before behind after : Inputs) (old new : Output) (answer : Answer)
    → i < length names → Judged before.told (get_or names i []) (JudgesReport d taken) (Ok r) → Follows before behind
    → Performs behind after old new (loss_from d (drop (i + 1) names) (taken ++ r ∷ [])) answer
    → Performs before after old new (loss_from d (drop i names) taken) answer
report-taken d names i taken r before behind after old new answer h judged follows p =
    subst (λ ns. Performs before after old new (loss_from d ns taken) answer) (sym (names-from names i h)) (inr (r, behind, judged, follows, p))

-- one more report
pub takes-report :
    (d : DomainValue) (names : List (List ℕ)) (i : ℕ) (before now behind : Inputs) (old new : ControlValue) (r : Report)
    (so : TakesReports d names i before now old)
    → i < length names → Judged now.told (get_or names i []) (JudgesReport d so.taken) (Ok r) → Follows now behind
    → HasReports d new (so.taken ++ r ∷ [])
    → TakesReports d names (i + 1) before behind new
takes-report d names i before now behind old new r so h judged follows has = record {
  taken = so.taken ++ r ∷ [];
  few = omega (arith, h);
  has = has;
  goes_on = λ after o p answer q. so.goes_on after o p answer (report-taken d names i so.taken r now behind after o p answer h judged follows q);
}

-- a stop at the next report is a stop among all
pub stops-at-report :
    (d : DomainValue) (names : List (List ℕ)) (i : ℕ) (before now after : Inputs) (control : ControlValue) (answer : Answer)
    (so : TakesReports d names i before now control)
    → i < length names → StopsHere now after (get_or names i []) (JudgesReport d so.taken) answer → StopsAmongReports d names before after answer
stops-at-report d names i before now after control answer so h stops = λ o.
    so.goes_on after o o answer (subst (λ ns. Performs now after o o (loss_from d ns so.taken) answer) (sym (names-from names i h)) (inl (stops, refl)))

-- what is performed once all reports were taken
pub all-reported :
    (d : DomainValue) (names : List (List ℕ)) (before now after : Inputs) (control : ControlValue) (old new : Output) (answer : Answer)
    (so : TakesReports d names (length names) before now control)
    → Performs now after old new (loss_of_all d so.taken (node_without d so.taken)) answer → Performs before after old new (loss_from d names []) answer
all-reported d names before now after control old new answer so p =
    so.goes_on after old new answer (subst (λ ns. Performs now after old new (loss_from d ns so.taken) answer) (sym (drop-length names)) p)

-- ---- the first node without a report

-- there is a report of each node
pub none-without : (d : DomainValue) (taken : List Report) (cells : List CellTable) → cells_of_each d taken ≡ map (λ t. Some t) cells → node_without d taken ≡ None
none-without d taken cells all =
    let each = cells_of_each d taken in
    let many : length each ≡ length cells = ap length all ∙ length-map cells (λ t. Some t) in
    let at : position_or_len (λ c. is_none c) each ≡ length each =
    position_or_len_is (λ c. is_none c) each (length each) None (omega arith)
    (λ k h.
    let inside : k < length cells = omega (arith, h, many) in
    let some : get_or each k None ≡ Some (get_or cells k (record { flows = 0; first = 0; end = 0; cells = [] })) =
    ap (λ (rs : List (Option CellTable)). get_or rs k None) all ∙ get_or-map (λ t. Some t) cells k _ None inside in
    ap (λ c. is_none c) some)
    (λ h. absurd (omega (arith, h))) in
    ap (λ k. cond (ltb k (length each)) (Some k) None) at ∙ sym (cond_above (length each) (length each) (Some (length each)) None None (omega arith) refl)

-- there is none of this node, the first such
pub first-without : (d : DomainValue) (control : ControlValue) (taken : List Report) (node : ℕ)
    → HasReports d control taken → IsFirstPlace IsSome (λ r. r ≡ None) control.reports node → node_without d taken ≡ Some node
first-without d control taken node has first =
    let each = cells_of_each d taken in
    let is : IsFirstPlace IsSome (λ r. r ≡ None) each node = subst (λ rs. IsFirstPlace IsSome (λ r. r ≡ None) rs node) has.reports first in
    let at : position_or_len (λ c. is_none c) each ≡ node =
    position_or_len_is (λ c. is_none c) each node None (omega (arith, is.within))
    (λ k h. let some : is_some (get_or each k None) ≡ true = is.before k None h in cc (some))
    (λ h. ap (λ c. is_none c) (is.here None)) in
    ap (λ k. cond (ltb k (length each)) (Some k) None) at ∙ sym (cond_below node (length each) (Some node) None is.within)

-- ---- what is printed

-- what was measured is the loss table of the reports
pub table-of-reports :
    (d : DomainValue) (control : ControlValue) (taken : List Report) (m : Measured) → HasReports d control taken → IsMeasuredBy control m
    → IsTableOfReports d taken (loss_text d.flows m)
table-of-reports d control taken m has measured = record {
  plan = m.plan;
  planned = subst (IsPlanOf d) (sym measured.plan) has.plan;
  cells = m.cells;
  each = sym measured.reports ∙ has.reports;
  printed = refl;
}

-- where there is a report of each node, the table is printed
pub printed-whole :
    (d : DomainValue) (control : ControlValue) (taken : List Report) (m : Measured) (before after : Inputs) (old new : Output) (answer : Answer)
    → HasReports d control taken → IsMeasuredBy control m
    → Performs before after old new (loss_of_all d taken None) answer
    → Performs before after old new (loss_of_all d taken (node_without d taken)) answer
printed-whole d control taken m before after old new answer has measured p =
    subst (λ o. Performs before after old new (loss_of_all d taken o) answer)
    (sym (none-without d taken m.cells (sym has.reports ∙ measured.reports))) p

-- where there is none of a node, the first is refused
pub refused-first :
    (d : DomainValue) (control : ControlValue) (taken : List Report) (node : ℕ) (before after : Inputs) (old new : Output) (answer : Answer)
    → HasReports d control taken → IsFirstPlace IsSome (λ r. r ≡ None) control.reports node
    → Performs before after old new (loss_of_all d taken (Some node)) answer
    → Performs before after old new (loss_of_all d taken (node_without d taken)) answer
refused-first d control taken node before after old new answer has first p =
    subst (λ o. Performs before after old new (loss_of_all d taken o) answer) (sym (first-without d control taken node has first)) p
