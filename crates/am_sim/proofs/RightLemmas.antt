-- Where what is measured of a world tells what it drops, all rows are right.
use Rattle.std.proofs.Common.{◌≡◌, ◌∙◌, ℕ, ◌<◌, true, List, [], length, get_or, refl, sym, ap, subst, arith}
use Rattle.std.specs.Prelude.{All, pos, Vec, Result, Ok, Err, IfOk}
use Rattle.std.specs.declared.alloc.Global.{Global}
use Rattle.std.proofs.lemmas.Bool.{eq-eqb}
use Rattle.std.proofs.lemmas.List.Elements.{All-map, All-weaker, All-append, All-cons, All-nil}
use Rattle.am_control.specs.Controls.{HasRow, IsScope}
use Rattle.am_control.specs.Plans.{IsPlanOf}
use Rattle.am_control.specs.Rows.{Measured, lost_in, scope_rows, scopes}
use Rattle.am_control.specs.declared.row.Scope.{Scope}
use Rattle.am_control.specs.declared.row.Scope.TheVariants.{Cluster, Network}
use Rattle.am_control.specs.declared.row.LossRow.{LossRow}
use Rattle.am_domain.specs.Domains.{DomainValue, Reports, IsLawful}
use Rattle.am_graph.specs.Clusters.{count_of}
use Rattle.std.specs.List.{range_with_len}
use Rattle.std.specs.Prelude.{map, ◌∷◌}
use Rattle.am_meter.specs.declared.stream.Marked.{Marked}
use Rattle.am_world.specs.Losses.{AreRecorded, IsCountedFrom, TellsDrops}
use Rattle.am_sim.specs.declared.row.SimRow.{SimRow}
use Rattle.am_world.specs.Generating.{IsMade}
use Rattle.am_world.specs.Breaches.{IsValidAndTimed}
use Rattle.am_world.specs.declared.event.Event.{Event}
use Rattle.am_sim.specs.Simulating.{IsMeasuredOf, IsRight, IsSimulated, agree, dropped_of, sim_row, sim_rows}
use Rattle.am_sim.proofs.RowLemmas.{IsRowOf, rows-of-scope, run-all}
use Rattle.am_sim.proofs.SumLemmas.{count-all, signed-all}

-- what is known of worlds
abbrev pub KnownDrops : Type 0
KnownDrops =
    (d : DomainValue) (m : Measured) (events : List Event) (captures : ℕ → List Marked) (flow block : ℕ)
    → IsLawful d → IsPlanOf d m.plan → IsCountedFrom d captures m → AreRecorded d events captures
    → flow < length d.flows → Reports d block → TellsDrops d m events flow block

module _ (d : DomainValue) (events : List Event) (m : Measured) (known : KnownDrops) (lawful : IsLawful d)
    (kept : IsValidAndTimed d events) (of : IsMeasuredOf d events m) where
  drops : (flow block : ℕ) → HasRow m.plan flow block → TellsDrops d m events flow block
  drops flow block there =
      known d m events (λ node. get_or of.taken node []) flow block lawful of.plan
      (λ node h. (of.counted node h).metered)
      (record { valid = kept.valid; timed = kept.timed; each = λ node h. (of.counted node h).records })
      (omega (arith, there.flow_there, of.plan.flows))
      (omega (arith, there.from, of.plan.first), omega (arith, there.until, of.plan.end))

  -- the loss of a flow and a block in a scope is what is dropped
  lost-is : (scope : Scope) (flow block : ℕ) → IsScope m.plan scope → HasRow m.plan flow block
      → lost_in m scope flow block ≡ pos (dropped_of d m.plan.clusters events scope flow block)
  lost-is (Cluster k) flow block within there = (drops flow block there).clusters k within
  lost-is Network flow block within there = (drops flow block there).network

  row-lost : (scope : Scope) → IsScope m.plan scope → (r : LossRow) → IsRowOf m scope r
      → r.lost ≡ pos (dropped_of d m.plan.clusters events scope r.flow r.block)
  row-lost scope within r is = ap (λ (q : LossRow). q.lost) is.is ∙ lost-is scope r.flow r.block within is.there

  agrees : (scope : Scope) → IsScope m.plan scope → (r : LossRow) → IsRowOf m scope r
      → agree r.lost (dropped_of d m.plan.clusters events scope r.flow r.block) ≡ true
  agrees scope within r is =
      let n = dropped_of d m.plan.clusters events scope r.flow r.block in
      ap (λ z. agree z n) (row-lost scope within r is) ∙ eq-eqb n n refl

  -- so the row of each scope is right
  right-row : (scope : Scope) → IsScope m.plan scope → IsRight (sim_row d m events scope)
  right-row scope within =
      let rows = scope_rows m scope in
      let each = rows-of-scope m scope in
      record {
        sums = signed-all (λ r. r.lost) (λ r. dropped_of d m.plan.clusters events scope r.flow r.block) rows
            (All-weaker (IsRowOf m scope) (λ r. r.lost ≡ pos (dropped_of d m.plan.clusters events scope r.flow r.block)) (row-lost scope within) rows each);
        each = count-all (λ r. agree r.lost (dropped_of d m.plan.clusters events scope r.flow r.block)) rows
            (All-weaker (IsRowOf m scope) (λ r. agree r.lost (dropped_of d m.plan.clusters events scope r.flow r.block) ≡ true) (agrees scope within) rows each);
      }

  pub right-rows : All IsRight (sim_rows d m events)
  right-rows =
      All-map IsRight (sim_row d m events) (scopes (count_of m.plan.clusters))
      (All-append (λ s. IsRight (sim_row d m events s)) (map (λ k. Cluster k) (range_with_len 0 (count_of m.plan.clusters))) (Network ∷ [])
      (All-map (λ s. IsRight (sim_row d m events s)) (λ k. Cluster k) (range_with_len 0 (count_of m.plan.clusters))
      (run-all (λ k. IsRight (sim_row d m events (Cluster k))) 0 (count_of m.plan.clusters)
      (λ k _ below. right-row (Cluster k) (omega (arith, below)))))
      (All-cons (λ s. IsRight (sim_row d m events s)) Network [] (right-row Network tt) (All-nil (λ s. IsRight (sim_row d m events s)))))

-- an answer with these rows is right
pub all-ok : {E : Type 0} (result : Result (Vec SimRow Global) E) (rows : List SimRow) → All IsRight rows
    → IfOk result (λ r. r.items ≡ rows) → IfOk result (λ r. All IsRight r.items)
all-ok (Ok r) rows right is = subst (All IsRight) (sym is) right
all-ok (Err e) rows right is = tt

-- and they are the rows of the world
pub rows-ok : {E : Type 0} (result : Result (Vec SimRow Global) E) (d : DomainValue) (number packets : ℕ) (events : List Event) (m : Measured)
    → IsMade d number packets events → IsMeasuredOf d events m
    → IfOk result (λ r. r.items ≡ sim_rows d m events) → IfOk result (λ r. IsSimulated d number packets r.items)
rows-ok (Ok r) d number packets events m made of is = record { events = events; made = made; measured = m; of_world = of; rows_are = is }
rows-ok (Err e) d number packets events m made of is = tt
