-- A report that is read goes to the controller, which refuses a second one of its node.
use Rattle.std.proofs.Common.{sym, subst, arith, ap, ◌∙◌, ◌≡◌, ◌≤◌, length, Ok, rules}
use Rattle.std.proofs.lemmas.List.{get_or_default}
use Rattle.am_domain.specs.Values.{NodeValue, no_node}
use Rattle.am_report.specs.Reports.{IsReportOf, TellsReportRefusal}
use Rattle.am_report.specs.Rows.{node_name}
use Rattle.am_report.specs.declared.read.TheConstants.{MAX_REPORT}
use Rattle.am_chain.specs.Chains.{inputs}
use Rattle.am_chain.specs.Inputs.{JudgesReport}
use Rattle.am_chain.specs.Shown.{stop_shown}
use Rattle.am_chain.proofs.InputLemmas.{judged-of, whole-at-end}
use Rattle.am_chain.proofs.ReportLemmas.{has-more, known-at, report-within, report-stops, second-stops}
use Rattle.am_chain.proofs.inputs.take_report.Goals as goal

pub accept-requires-clause-node : goal.accept-requires-clause-node
accept-requires-clause-node g c =
    omega (
      arith,
      c.requires.nodes,
      report-within c.args.domain.now c.deref.result.now c.in-Ok-read_report.report c.nodes-nodes.ensures.lawful c.in-Ok-read_report.ensures.ok,
    )

pub returns-in-Ok-accept : goal.returns-in-Ok-accept
returns-in-Ok-accept g c =
    λ taken has.
    let d = c.args.domain.now in
    let r = c.in-Ok-read_report.report in
    let told = g.S.Shelf.told c.args.shelf.now in
    let within = report-within d c.deref.result.now r c.nodes-nodes.ensures.lawful c.in-Ok-read_report.ensures.ok in
    let accepted = c.in-Ok-accept.ensures.accepted in
    let read : IsReportOf d c.in-Ok.bytes.items r = subst (λ x. IsReportOf d x r) c.deref.ensures.value c.in-Ok-read_report.ensures.ok in
    let short : length c.in-Ok.bytes.items ≤ MAX_REPORT = omega (arith, c.in-Ok.ensures.bound) in (
      r,
      judged-of told c.args.name.now (JudgesReport d taken) c.in-Ok.bytes.items (Ok r) c.in-Ok.ensures.bytes
          (short, read, sym (known-at d c.args.control.now taken r.node has within) ∙ accepted.before),
      record {
        kept = c.in-Ok.ensures.files;
        faults = c.in-Ok.ensures.faults_stay;
        missed = c.in-Ok.ensures.missed_stay;
        at_end = whole-at-end told (g.S.Shelf.told c.read_file.new.shelf) c.args.name.now c.in-Ok.bytes.items c.in-Ok.ensures.whole;
      },
      has-more d c.args.control.now c.accept.new.self taken r within has accepted,
    )

pub returns-in-Err-read_report : goal.returns-in-Err-read_report
returns-in-Err-read_report g c =
    λ taken has.
    report-stops (inputs (g.S.Shelf.told c.args.shelf.now) (g.S.Shelf.faults c.args.shelf.now) (g.S.Shelf.missed c.args.shelf.now))
    (inputs (g.S.Shelf.told c.read_file.new.shelf) (g.S.Shelf.faults c.read_file.new.shelf) (g.S.Shelf.missed c.read_file.new.shelf))
    c.args.name.now c.in-Ok.bytes.items c.args.domain.now taken c.in-Err-read_report.error (stop_shown c.of_report.result)
    c.in-Ok.ensures.bytes (omega (arith, c.in-Ok.ensures.bound))
    (subst (λ x. TellsReportRefusal c.args.domain.now x c.in-Err-read_report.error) c.deref.ensures.value c.in-Err-read_report.ensures.err)
    c.of_report.ensures

pub returns : goal.returns
returns g c =
    λ taken has.
    let d = c.args.domain.now in
    let r = c.in-Ok-read_report.report in
    let within = report-within d c.deref.result.now r c.nodes-nodes.ensures.lawful c.in-Ok-read_report.ensures.ok in
    let read : IsReportOf d c.in-Ok.bytes.items r = subst (λ x. IsReportOf d x r) c.deref.ensures.value c.in-Ok-read_report.ensures.ok in
    let short : length c.in-Ok.bytes.items ≤ MAX_REPORT = omega (arith, c.in-Ok.ensures.bound) in
    let at = c.index-nodes-report.is ∙ get_or_default c.nodes-nodes.result.now r.node c.index-nodes-report.result no_node (omega (arith, within, ap length c.nodes-nodes.ensures.value)) in
    let named : c.name-node.result.now ≡ node_name d r.node =
    c.name-node.ensures ∙ ap (λ (n : NodeValue). n.name) at ∙ ap (λ ns. node_name (record d { nodes = ns }) r.node) c.nodes-nodes.ensures.value in
    second-stops (inputs (g.S.Shelf.told c.args.shelf.now) (g.S.Shelf.faults c.args.shelf.now) (g.S.Shelf.missed c.args.shelf.now))
    (inputs (g.S.Shelf.told c.read_file.new.shelf) (g.S.Shelf.faults c.read_file.new.shelf) (g.S.Shelf.missed c.read_file.new.shelf))
    c.args.name.now c.in-Ok.bytes.items d c.args.control.now taken r c.in-Err-accept.field-0 c.name-node.result.now (stop_shown c.report_twice.result)
    c.in-Ok.ensures.bytes short read has within c.in-Err-accept.ensures.refused (search rules) named c.report_twice.ensures
