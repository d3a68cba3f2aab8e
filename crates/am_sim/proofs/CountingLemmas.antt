-- What the nodes of a domain count of a world, one after another.
use Rattle.std.proofs.Common.{arith, refl, sym, ap, subst, ◌∙◌, ◌≡◌, ℕ, ◌+◌, ◌-◌, ◌<◌, suc, List, [], ◌∷◌, ◌++◌, length, get_or, map, Option, Some, None, below_more, append_assoc}
use Rattle.std.specs.Prelude.{replicate, slice_set}
use Rattle.std.proofs.Math.Seq.{set-append_seam, get_or-append_seam}
use Rattle.std.proofs.lemmas.List.{get_or_append_left, get_or-map, append-nil, length-append, length-map, length-replicate, map-append}
use Rattle.am_cells.specs.CellTables.{CellTable}
use Rattle.am_meter.specs.Metering.{HasDomainShape}
use Rattle.am_control.specs.Controls.{ControlValue, HasPlanShape, Accepts, IsMeasuredBy, TellsMissing}
use Rattle.am_control.specs.Plans.{LossPlan, IsPlanOf}
use Rattle.am_control.specs.Rows.{Measured, no_table}
use Rattle.am_control.specs.declared.error.ControlError.{ControlError}
use Rattle.am_control.specs.declared.error.ControlError.TheVariants.{ReportTwice, MissingReport, Memory}
use Rattle.am_domain.specs.Domains.{DomainValue}
use Rattle.am_meter.specs.declared.stream.Marked.{Marked}
use Rattle.am_world.specs.declared.event.Event.{Event}
use Rattle.am_sim.specs.Measuring.{CountsFirst}
use Rattle.am_sim.specs.Simulating.{AreSimulatedCells, IsMeasuredOf}

-- before the first node nothing was taken
pub counts-none :
    (d : DomainValue) (events : List Event) (plan : LossPlan) (control : ControlValue)
    → control.plan ≡ plan → control.reports ≡ replicate (length d.nodes) None → CountsFirst d events 0 plan control
counts-none d events plan control planned none = record {
  taken = [];
  cells = [];
  few = omega arith;
  each_taken = refl;
  each = refl;
  counted = λ node h. absurd (omega (arith, h));
  plan_is = planned;
  reports = none ∙ ap (λ n. replicate n None) (let e : length d.nodes ≡ length d.nodes - 0 = omega arith in e);
}

-- the cells of one more node
more-cells :
    (d : DomainValue) (events : List Event) (i : ℕ) (taken : List (List Marked)) (cells : List CellTable) (ms : List Marked) (table : CellTable)
    → length taken ≡ i → length cells ≡ i
    → ((node : ℕ) → node < i → AreSimulatedCells d events node (get_or taken node []) (get_or cells node no_table))
    → AreSimulatedCells d events i ms table
    → (node : ℕ) → node < i + 1
    → AreSimulatedCells d events node (get_or (taken ++ ms ∷ []) node []) (get_or (cells ++ table ∷ []) node no_table)
more-cells d events i taken cells ms table many each have metered =
    below_more (λ node. AreSimulatedCells d events node (get_or (taken ++ ms ∷ []) node []) (get_or (cells ++ table ∷ []) node no_table)) i
    (λ node h.
    let left : node < length taken = omega (arith, many, h) in
    let right : node < length cells = omega (arith, each, h) in
    subst (λ x. AreSimulatedCells d events node x (get_or (cells ++ table ∷ []) node no_table)) (sym (get_or_append_left taken (ms ∷ []) [] node left))
    (subst (λ x. AreSimulatedCells d events node (get_or taken node []) x) (sym (get_or_append_left cells (table ∷ []) no_table node right)) (have node h)))
    (let there : get_or (taken ++ ms ∷ []) i [] ≡ ms = ap (λ k. get_or (taken ++ ms ∷ []) k []) (sym many) ∙ get_or-append_seam taken ms [] [] in
    let here : get_or (cells ++ table ∷ []) i no_table ≡ table = ap (λ k. get_or (cells ++ table ∷ []) k no_table) (sym each) ∙ get_or-append_seam cells table [] no_table in
    subst (λ x. AreSimulatedCells d events i x (get_or (cells ++ table ∷ []) i no_table)) (sym there) (subst (λ x. AreSimulatedCells d events i ms x) (sym here) metered))

-- the reports with that of one more node
more-reports :
    (n i : ℕ) (cells : List CellTable) (table : CellTable) → length cells ≡ i → i < n
    → slice_set (map (λ t. Some t) cells ++ replicate (n - i) None) i (Some table) ≡ map (λ t. Some t) (cells ++ table ∷ []) ++ replicate (n - (i + 1)) None
more-reports n i cells table many h =
    let some = map (λ (t : CellTable). Some t) cells in
    let rest : List (Option CellTable) = replicate (n - (i + 1)) None in
    let left : n - i ≡ suc (n - (i + 1)) = omega (arith, h) in
    let place : i ≡ length some = sym many ∙ sym (length-map cells (λ t. Some t)) in
    let step : slice_set (some ++ None ∷ rest) (length some) (Some table) ≡ some ++ Some table ∷ rest = set-append_seam some None rest (Some table) in
    let more : map (λ (t : CellTable). Some t) (cells ++ table ∷ []) ≡ some ++ Some table ∷ [] = map-append (λ t. Some t) cells (table ∷ []) in
    ap (λ k. slice_set (some ++ replicate k None) i (Some table)) left
    ∙ ap (λ k. slice_set (some ++ None ∷ rest) k (Some table)) place
    ∙ step ∙ sym (append_assoc some (Some table ∷ []) rest) ∙ ap (λ xs. xs ++ rest) (sym more)

-- one more node was taken
pub counts-one :
    (d : DomainValue) (events : List Event) (i : ℕ) (plan : LossPlan) (old new : ControlValue) (ms : List Marked) (table : CellTable)
    → i < length d.nodes → CountsFirst d events i plan old → AreSimulatedCells d events i ms table → Accepts old new i table
    → CountsFirst d events (i + 1) plan new
counts-one d events i plan old new ms table h so metered accepts = record {
  taken = so.taken ++ ms ∷ [];
  cells = so.cells ++ table ∷ [];
  few = omega (arith, h);
  each_taken = length-append so.taken (ms ∷ []) ∙ ap (λ n. n + 1) so.each_taken;
  each = length-append so.cells (table ∷ []) ∙ ap (λ n. n + 1) so.each;
  counted = more-cells d events i so.taken so.cells ms table so.each_taken so.each so.counted metered;
  plan_is = ap (λ (c : ControlValue). c.plan) accepts.after ∙ so.plan_is;
  reports = ap (λ (c : ControlValue). c.reports) accepts.after ∙ ap (λ rs. slice_set rs i (Some table)) so.reports
      ∙ more-reports (length d.nodes) i so.cells table so.each h;
}

-- the reports of all nodes are there
reports-of-all :
    (d : DomainValue) (events : List Event) (plan : LossPlan) (control : ControlValue)
    (so : CountsFirst d events (length d.nodes) plan control) → control.reports ≡ map (λ t. Some t) so.cells
reports-of-all d events plan control so =
    let none : length d.nodes - length d.nodes ≡ 0 = omega arith in
    so.reports ∙ ap (λ n. map (λ t. Some t) so.cells ++ replicate n None) none ∙ append-nil (map (λ t. Some t) so.cells)

some-injective : (xs ys : List CellTable) → map (λ t. Some t) xs ≡ map (λ t. Some t) ys → xs ≡ ys
some-injective [] [] e = refl
some-injective [] (y ∷ ys) e = absurd (cc e)
some-injective (x ∷ xs) [] e = absurd (cc e)
some-injective (x ∷ xs) (y ∷ ys) e =
    let heads : x ≡ y = cc (e) in
    let tails : map (λ t. Some t) xs ≡ map (λ t. Some t) ys = cc (e) in
    let rest = some-injective xs ys tails in
    cc (heads, rest)

-- no node lacks its cells then
pub none-missing :
    (d : DomainValue) (events : List Event) (plan : LossPlan) (control : ControlValue) (e : ControlError)
    → CountsFirst d events (length d.nodes) plan control → TellsMissing control e → ⊥
none-missing d events plan control (MissingReport node) so missing =
    let all = reports-of-all d events plan control so in
    let within : node < length (map (λ t. Some t) so.cells) = subst (λ rs. node < length rs) all missing.within in
    let many : length (map (λ t. Some t) so.cells) ≡ length so.cells = length-map so.cells (λ t. Some t) in
    let inside : node < length so.cells = omega (arith, within, many) in
    let here : get_or control.reports node None ≡ None = missing.here None in
    let there : get_or (map (λ t. Some t) so.cells) node None ≡ None = subst (λ rs. get_or rs node None ≡ None) all here in
    absurd (cc (get_or-map (λ t. Some t) so.cells node no_table None inside, there))
none-missing d events plan control (ReportTwice node) so missing = missing
none-missing d events plan control Memory so missing = missing

-- what was measured is that of the world
pub measured-all :
    (d : DomainValue) (events : List Event) (plan : LossPlan) (control : ControlValue) (m : Measured)
    → CountsFirst d events (length d.nodes) plan control → IsPlanOf d plan → IsMeasuredBy control m → IsMeasuredOf d events m
measured-all d events plan control m so planned measured =
    let same : so.cells ≡ m.cells = some-injective so.cells m.cells (sym (reports-of-all d events plan control so) ∙ measured.reports) in
    let is : m.plan ≡ plan = measured.plan ∙ so.plan_is in
    record {
      plan = subst (IsPlanOf d) (sym is) planned;
      each = ap length (sym same) ∙ so.each;
      taken = so.taken;
      counted = subst (λ cs. (node : ℕ) → node < length d.nodes → AreSimulatedCells d events node (get_or so.taken node []) (get_or cs node no_table)) same so.counted;
    }

-- there is a place for the report of each node
pub reports-length :
    (d : DomainValue) (events : List Event) (i : ℕ) (plan : LossPlan) (control : ControlValue)
    → CountsFirst d events i plan control → length control.reports ≡ length d.nodes
reports-length d events i plan control so =
    let some = map (λ (t : CellTable). Some t) so.cells in
    let rest : List (Option CellTable) = replicate (length d.nodes - i) None in
    ap length so.reports ∙ length-append some rest
    ∙ (let none : Option CellTable = None in
    omega (arith, length-map so.cells (λ t. Some t), so.each, so.few, length-replicate (length d.nodes - i) none))

-- the cells have the plan's shape
pub plan-shape :
    (d : DomainValue) (plan now : LossPlan) (t : CellTable) → IsPlanOf d plan → now ≡ plan → HasDomainShape d t → HasPlanShape now t
plan-shape d plan now t planned is shape =
    subst (λ p. HasPlanShape p t) (sym is)
    (record {
      flows_are = shape.flows_are ∙ sym planned.flows;
      first_is = shape.first_is ∙ sym planned.first;
      end_is = shape.end_is ∙ sym planned.end;
    })
