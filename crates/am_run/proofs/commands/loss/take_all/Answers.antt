-- The reports of the files so far, and one more.
use Rattle.std.proofs.Common.{arith, Ok, subst, sym, ◌≡◌, ◌<◌, List, [], ℕ, length, get_or, map, string_bytes}
use Rattle.std.proofs.lemmas.List.{length-map}
use Rattle.am_chain.specs.Chains.{inputs, StopsHere, Judged}
use Rattle.am_chain.specs.Inputs.{JudgesReport}
use Rattle.am_chain.specs.Shown.{stop_shown}
use Rattle.am_run.proofs.GatherLemmas.{takes-no-report, takes-report, stops-at-report, has-long}
use Rattle.am_run.proofs.WordLemmas.{word-at}
use Rattle.am_run.proofs.commands.loss.take_all.Goals as goal

pub loop-name-init : goal.loop-name-init
loop-name-init g c =
    takes-no-report c.args.domain.now (map string_bytes c.args.names.now) (inputs (g.S.Shelf.told c.args.shelf.now) (g.S.Shelf.faults c.args.shelf.now) (g.S.Shelf.missed c.args.shelf.now))
    c.args.control.now c.requires.plan c.requires.none

pub take_report-requires-clause-nodes : goal.take_report-requires-clause-nodes
take_report-requires-clause-nodes g c =
    let so = c.loop-name.invariant in
    has-long c.args.domain.now c.loop-name.control so.taken so.has

pub returns-in-Err-clause-stopped : goal.returns-in-Err-clause-stopped
returns-in-Err-clause-stopped g c =
    let so = c.loop-name.invariant in
    let names = map string_bytes c.args.names.now in
    let i = c.loop-name.name-index in
    let d = c.args.domain.now in
    let now = inputs (g.S.Shelf.told c.loop-name.shelf) (g.S.Shelf.faults c.loop-name.shelf) (g.S.Shelf.missed c.loop-name.shelf) in
    let after = inputs (g.S.Shelf.told c.take_report.new.shelf) (g.S.Shelf.faults c.take_report.new.shelf) (g.S.Shelf.missed c.take_report.new.shelf) in
    let below : i < length c.args.names.now = omega arith in
    let here : get_or names i [] ≡ c.as_str.result.now = word-at c.args.names.now i [] c.name-item.result c.as_str.result.now below c.name-item.is c.as_str.ensures.value in
    stops-at-report d names i (inputs (g.S.Shelf.told c.args.shelf.now) (g.S.Shelf.faults c.args.shelf.now) (g.S.Shelf.missed c.args.shelf.now)) now after
    c.loop-name.control (stop_shown c.in-Err.stop) so (omega (arith, below, length-map c.args.names.now string_bytes))
    (subst (λ (name : List ℕ). StopsHere now after name (JudgesReport d so.taken) (stop_shown c.in-Err.stop)) (sym here) (c.in-Err.ensures so.taken so.has))

pub loop-name-preserved : goal.loop-name-preserved
loop-name-preserved g c =
    let so = c.loop-name.invariant in
    let names = map string_bytes c.args.names.now in
    let i = c.loop-name.name-index in
    let d = c.args.domain.now in
    let t = c.in-Ok.ensures so.taken so.has in
    let below : i < length c.args.names.now = omega arith in
    let here : get_or names i [] ≡ c.as_str.result.now = word-at c.args.names.now i [] c.name-item.result c.as_str.result.now below c.name-item.is c.as_str.ensures.value in
    takes-report d names i (inputs (g.S.Shelf.told c.args.shelf.now) (g.S.Shelf.faults c.args.shelf.now) (g.S.Shelf.missed c.args.shelf.now))
    (inputs (g.S.Shelf.told c.loop-name.shelf) (g.S.Shelf.faults c.loop-name.shelf) (g.S.Shelf.missed c.loop-name.shelf))
    (inputs (g.S.Shelf.told c.take_report.new.shelf) (g.S.Shelf.faults c.take_report.new.shelf) (g.S.Shelf.missed c.take_report.new.shelf))
    c.loop-name.control c.take_report.new.control t.0 so (omega (arith, below, length-map c.args.names.now string_bytes))
    (subst (λ (name : List ℕ). Judged (g.S.Shelf.told c.loop-name.shelf) name (JudgesReport d so.taken) (Ok t.0)) (sym here) t.1) t.2 t.3
