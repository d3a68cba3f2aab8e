-- The captures of a domain's nodes, taken one after another, and the loss table of what was taken.
use Rattle.std.proofs.Common.{arith, refl, sym, ap, subst, ◌∙◌, ◌≡◌, ℕ, ◌+◌, ◌-◌, ◌<◌, suc, List, [], ◌∷◌, ◌++◌, length, get_or, drop, map, Option, Some, None, inr, add-one, below_more, append_assoc}
use Rattle.std.specs.Prelude.{Ok, replicate, slice_set}
use Rattle.std.proofs.Math.Seq.{drop-cons, drop-length, set-append_seam, get_or-append_seam}
use Rattle.std.proofs.lemmas.List.{get_or_append_left, get_or-map, append-nil, length-append, length-map, map-append}
use Rattle.am_cells.specs.CellTables.{CellTable}
use Rattle.am_control.specs.Controls.{ControlValue, Accepts, IsMeasuredBy, TellsMissing}
use Rattle.am_control.specs.Plans.{LossPlan, IsPlanOf}
use Rattle.am_control.specs.Rows.{Measured, no_table}
use Rattle.am_control.specs.Texts.{loss_text}
use Rattle.am_control.specs.declared.error.ControlError.{ControlError}
use Rattle.am_control.specs.declared.error.ControlError.TheVariants.{ReportTwice, MissingReport, Memory}
use Rattle.am_domain.specs.Domains.{DomainValue}
use Rattle.am_domain.specs.Values.{no_node}
use Rattle.am_meter.specs.MeteredFiles.{capture_of}
use Rattle.am_meter.specs.declared.stream.Marked.{Marked}
use Rattle.am_chain.specs.Answers.{Answer}
use Rattle.am_chain.specs.Answers.Ending.{Done}
use Rattle.am_chain.specs.Chains.Chain.{Writes}
use Rattle.am_chain.specs.Chains.{Inputs, Output, Judged, Follows, Performs}
use Rattle.am_chain.specs.Inputs.{JudgesCapture}
use Rattle.am_chain.specs.NodeCells.{AreWholeCells}
use Rattle.am_run.specs.Auditing.{TakesFirst, ReportsIgnoreWorkers, TablesIgnoreWorkers, with_workers}
use Rattle.am_run.specs.commands.Audit.{HaveCells, IsLossTable, audit_from}

-- the nodes from this one on are it and those after it
nodes-from : (d : DomainValue) (i : ℕ) → i < length d.nodes → drop i d.nodes ≡ get_or d.nodes i no_node ∷ drop (i + 1) d.nodes
nodes-from d i h = drop-cons d.nodes i no_node h ∙ ap (λ k. get_or d.nodes i no_node ∷ drop k d.nodes) (sym (add-one i))

-- a node whose capture is taken
node-taken :
    (d : DomainValue) (i : ℕ) (taken : List (List Marked)) (ms : List Marked) (before behind after : Inputs) (old new : Output) (answer : Answer)
    → i < length d.nodes → Judged before.told (capture_of d i) (JudgesCapture d.kind) (Ok ms) → Follows before behind
    → Performs behind after old new (audit_from d (drop (i + 1) d.nodes) (taken ++ ms ∷ [])) answer
    → Performs before after old new (audit_from d (drop i d.nodes) taken) answer
node-taken d i taken ms before behind after old new answer h judged follows p =
    subst (λ ns. Performs before after old new (audit_from d ns taken) answer) (sym (nodes-from d i h)) (inr (ms, behind, judged, follows, p))

-- before the first node nothing was taken
pub takes-none :
    (d : DomainValue) (plan : LossPlan) (before : Inputs) (control : ControlValue)
    → control.plan ≡ plan → control.reports ≡ replicate (length d.nodes) None → TakesFirst d 0 plan before before control
takes-none d plan before control planned none = record {
  taken = [];
  cells = [];
  few = omega arith;
  each = refl;
  have = record { each = refl; metered = λ node h. absurd (omega (arith, h)) };
  plan_is = planned;
  reports = none ∙ ap (λ n. replicate n None) (let e : length d.nodes ≡ length d.nodes - 0 = omega arith in e);
  goes_on = λ after old new answer p. p;
}

-- the cells of one more node
more-cells :
    (d : DomainValue) (i : ℕ) (taken : List (List Marked)) (cells : List CellTable) (ms : List Marked) (table : CellTable)
    → length taken ≡ i → HaveCells d i taken cells → AreWholeCells d i ms table → HaveCells d (i + 1) (taken ++ ms ∷ []) (cells ++ table ∷ [])
more-cells d i taken cells ms table many have metered = record {
  each = length-append cells (table ∷ []) ∙ ap (λ n. n + 1) have.each;
  metered = below_more (λ node. AreWholeCells d node (get_or (taken ++ ms ∷ []) node []) (get_or (cells ++ table ∷ []) node no_table)) i
      (λ node h.
      let left : node < length taken = omega (arith, many, h) in
      let right : node < length cells = omega (arith, have.each, h) in
      subst (λ x. AreWholeCells d node x (get_or (cells ++ table ∷ []) node no_table)) (sym (get_or_append_left taken (ms ∷ []) [] node left))
      (subst (λ x. AreWholeCells d node (get_or taken node []) x) (sym (get_or_append_left cells (table ∷ []) no_table node right)) (have.metered node h)))
      (let there : get_or (taken ++ ms ∷ []) i [] ≡ ms = ap (λ k. get_or (taken ++ ms ∷ []) k []) (sym many) ∙ get_or-append_seam taken ms [] [] in
      let here : get_or (cells ++ table ∷ []) i no_table ≡ table = ap (λ k. get_or (cells ++ table ∷ []) k no_table) (sym have.each) ∙ get_or-append_seam cells table [] no_table in
      subst (λ x. AreWholeCells d i x (get_or (cells ++ table ∷ []) i no_table)) (sym there) (subst (λ x. AreWholeCells d i ms x) (sym here) metered));
}

-- the reports with that of one more node
more-reports :
    (n i : ℕ) (cells : List CellTable) (table : CellTable) → length cells ≡ i → i < n
    → slice_set (map (λ t. Some t) cells ++ replicate (n - i) None) i (Some table) ≡ map (λ t. Some t) (cells ++ table ∷ []) ++ replicate (n - (i + 1)) None
more-reports n i cells table many h =
    let some = map (λ (t : CellTable). Some t) cells in
    let rest : List (Option CellTable) = replicate (n - (i + 1)) None in
    let left : n - i ≡ suc (n - (i + 1)) = omega (arith, h) in
    let place : i ≡ length some = sym many ∙ sym (length-map cells (λ t. Some t)) in
    let step : slice_set (some ++ None ∷ rest) (length some) (Some table) ≡ some ++ Some table ∷ rest = set-append_seam some None rest (Some table) in
    let more : map (λ (t : CellTable). Some t) (cells ++ table ∷ []) ≡ some ++ Some table ∷ [] = map-append (λ t. Some t) cells (table ∷ []) in
    ap (λ k. slice_set (some ++ replicate k None) i (Some table)) left
    ∙ ap (λ k. slice_set (some ++ None ∷ rest) k (Some table)) place
    ∙ step ∙ sym (append_assoc some (Some table ∷ []) rest) ∙ ap (λ xs. xs ++ rest) (sym more)

-- the captures of one more node were taken
pub takes-one :
    (d : DomainValue) (i : ℕ) (plan : LossPlan) (before now behind : Inputs) (old new : ControlValue) (ms : List Marked) (table : CellTable)
    → i < length d.nodes → TakesFirst d i plan before now old
    → Judged now.told (capture_of d i) (JudgesCapture d.kind) (Ok ms) → Follows now behind → AreWholeCells d i ms table → Accepts old new i table
    → TakesFirst d (i + 1) plan before behind new
takes-one d i plan before now behind old new ms table h so judged follows metered accepts = record {
  taken = so.taken ++ ms ∷ [];
  cells = so.cells ++ table ∷ [];
  few = omega (arith, h);
  each = length-append so.taken (ms ∷ []) ∙ ap (λ n. n + 1) so.each;
  have = more-cells d i so.taken so.cells ms table so.each so.have metered;
  plan_is = ap (λ (c : ControlValue). c.plan) accepts.after ∙ so.plan_is;
  reports = ap (λ (c : ControlValue). c.reports) accepts.after ∙ ap (λ rs. slice_set rs i (Some table)) so.reports
      ∙ more-reports (length d.nodes) i so.cells table so.have.each h;
  goes_on = λ after o p answer q. so.goes_on after o p answer (node-taken d i so.taken ms now behind after o p answer h judged follows q);
}

-- the reports of all nodes are there
reports-of-all : (d : DomainValue) (plan : LossPlan) (before now : Inputs) (control : ControlValue) (so : TakesFirst d (length d.nodes) plan before now control) → control.reports ≡ map (λ t. Some t) so.cells
reports-of-all d plan before now control so =
    let none : length d.nodes - length d.nodes ≡ 0 = omega arith in
    so.reports ∙ ap (λ n. map (λ t. Some t) so.cells ++ replicate n None) none ∙ append-nil (map (λ t. Some t) so.cells)

some-injective : (xs ys : List CellTable) → map (λ t. Some t) xs ≡ map (λ t. Some t) ys → xs ≡ ys
some-injective [] [] e = refl
some-injective [] (y ∷ ys) e = absurd (cc e)
some-injective (x ∷ xs) [] e = absurd (cc e)
some-injective (x ∷ xs) (y ∷ ys) e =
    let heads : x ≡ y = cc (e) in
    let tails : map (λ t. Some t) xs ≡ map (λ t. Some t) ys = cc (e) in
    let rest = some-injective xs ys tails in
    cc (heads, rest)

-- what is performed once all captures were taken
pub all-taken :
    (d : DomainValue) (plan : LossPlan) (before now after : Inputs) (control : ControlValue) (old new : Output) (answer : Answer)
    (so : TakesFirst d (length d.nodes) plan before now control)
    → Performs now after old new (Writes Done (IsLossTable d so.taken)) answer → Performs before after old new (audit_from d d.nodes []) answer
all-taken d plan before now after control old new answer so p =
    so.goes_on after old new answer (subst (λ ns. Performs now after old new (audit_from d ns so.taken) answer) (sym (drop-length d.nodes)) p)

-- no node lacks its cells then
pub none-missing :
    (d : DomainValue) (plan : LossPlan) (before now : Inputs) (control : ControlValue) (e : ControlError)
    → TakesFirst d (length d.nodes) plan before now control → TellsMissing control e → ⊥
none-missing d plan before now control (MissingReport node) so missing =
    let all = reports-of-all d plan before now control so in
    let within : node < length (map (λ t. Some t) so.cells) = subst (λ rs. node < length rs) all missing.within in
    let many : length (map (λ t. Some t) so.cells) ≡ length so.cells = length-map so.cells (λ t. Some t) in
    let inside : node < length so.cells = omega (arith, within, many) in
    let here : get_or control.reports node None ≡ None = missing.here None in
    let there : get_or (map (λ t. Some t) so.cells) node None ≡ None = subst (λ rs. get_or rs node None ≡ None) all here in
    absurd (cc (get_or-map (λ t. Some t) so.cells node no_table None inside, there))
none-missing d plan before now control (ReportTwice node) so missing = missing
none-missing d plan before now control Memory so missing = missing

-- what was measured is the loss table of what was taken
pub table-of-all :
    (d : DomainValue) (plan : LossPlan) (before now : Inputs) (control : ControlValue) (m : Measured)
    (so : TakesFirst d (length d.nodes) plan before now control) → IsPlanOf d plan → IsMeasuredBy control m → IsLossTable d so.taken (loss_text d.flows m)
table-of-all d plan before now control m so planned measured =
    let same : so.cells ≡ m.cells = some-injective so.cells m.cells (sym (reports-of-all d plan before now control so) ∙ measured.reports) in
    let is : m.plan ≡ plan = measured.plan ∙ so.plan_is in
    record {
      plan = m.plan;
      planned = subst (IsPlanOf d) (sym is) planned;
      cells = m.cells;
      have = subst (λ cs. HaveCells d (length d.nodes) so.taken cs) same so.have;
      printed = refl;
    }

metered-alike :
    (d : DomainValue) (workers node : ℕ) (ms : List Marked) (t : CellTable) → AreWholeCells d node ms t → AreWholeCells (with_workers d workers) node ms t
metered-alike d workers node ms t h = record { table = h.table; metered = record { table = h.metered.table; cells = h.metered.cells } }

pub reports-alike : ReportsIgnoreWorkers
reports-alike d workers node ms text h =
    record { cells = h.cells; metered = metered-alike d workers node ms h.cells h.metered; printed = h.printed }

pub tables-alike : TablesIgnoreWorkers
tables-alike d workers taken text h = record {
  plan = h.plan;
  planned = record {
    clusters = h.planned.clusters;
    parted = h.planned.parted;
    entries = h.planned.entries;
    exits = h.planned.exits;
    flows = h.planned.flows;
    first = h.planned.first;
    end = h.planned.end;
  };
  cells = h.cells;
  have = record {
    each = h.have.each;
    metered = λ node within. metered-alike d workers node (get_or taken node []) (get_or h.cells node no_table) (h.have.metered node within);
  };
  printed = h.printed;
}
