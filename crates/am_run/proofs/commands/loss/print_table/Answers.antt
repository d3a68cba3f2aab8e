-- The table is printed where there is a report of each node; else the first node without one is named.
use Rattle.std.proofs.Common.{arith, ap, refl, subst, ◌∙◌, ◌≡◌, ◌<◌, length, None, IsSome}
use Rattle.std.proofs.lemmas.List.{get_or_default}
use Rattle.am_control.specs.Texts.{loss_text}
use Rattle.am_domain.specs.Lists.{IsFirstPlace}
use Rattle.am_domain.specs.Values.{NodeValue, no_node}
use Rattle.am_report.specs.Rows.{node_name}
use Rattle.am_chain.specs.Answers.Answer.{Ended, WriteFault, NoMemory}
use Rattle.am_chain.specs.Answers.Ending.{Done, Refused}
use Rattle.am_chain.specs.Answers.Reason.{NoReport}
use Rattle.am_chain.specs.Chains.{output}
use Rattle.am_chain.specs.Shown.{IsAnswered, stop_shown}
use Rattle.am_run.proofs.GatherLemmas.{table-of-reports, printed-whole, refused-first}
use Rattle.am_run.proofs.commands.loss.print_table.Goals as goal

pub bounds-nodes-node : goal.bounds-nodes-node
bounds-nodes-node g c =
    let first : IsFirstPlace IsSome (λ r. r ≡ None) c.args.control.now.reports c.in-Err-MissingReport.node = rw c.in-Err-MissingReport.field-0-is at c.in-Err-MissingReport.ensures.missing in
    omega (arith, first.within, c.requires.nodes, ap length c.nodes.ensures.value)

pub returns-in-Ok-write_loss : goal.returns-in-Ok-write_loss
returns-in-Ok-write_loss g c = λ before taken has.
    let d = c.args.domain.now in
    let m = c.in-Ok.closed in
    printed-whole d c.args.control.now taken m before before (output (g.O.Sink.written c.args.out.now) (g.O.Sink.faults c.args.out.now))
    (output (g.O.Sink.written c.write_loss.new.out) (g.O.Sink.faults c.write_loss.new.out)) (Ended Done) has c.in-Ok.ensures.measured
    (refl, (refl, (loss_text d.flows m, table-of-reports d c.args.control.now taken m has c.in-Ok.ensures.measured, c.in-Ok-write_loss.ensures.all)))

pub returns-in-Err-Fault : goal.returns-in-Err-Fault
returns-in-Err-Fault g c = λ before taken has.
    let d = c.args.domain.now in
    let m = c.in-Ok.closed in
    let rose = rw c.in-Err-Fault.field-0-is at c.in-Err-Fault.ensures.failed in
    printed-whole d c.args.control.now taken m before before (output (g.O.Sink.written c.args.out.now) (g.O.Sink.faults c.args.out.now))
    (output (g.O.Sink.written c.write_loss.new.out) (g.O.Sink.faults c.write_loss.new.out)) WriteFault has c.in-Ok.ensures.measured
    (refl, (rose, (loss_text d.flows m, table-of-reports d c.args.control.now taken m has c.in-Ok.ensures.measured, c.in-Err-Fault.ensures.front)))

pub returns-in-Err-Memory : goal.returns-in-Err-Memory
returns-in-Err-Memory g c = λ before taken has.
    let d = c.args.domain.now in
    let m = c.in-Ok.closed in
    printed-whole d c.args.control.now taken m before before (output (g.O.Sink.written c.args.out.now) (g.O.Sink.faults c.args.out.now))
    (output (g.O.Sink.written c.write_loss.new.out) (g.O.Sink.faults c.write_loss.new.out)) NoMemory has c.in-Ok.ensures.measured
    (refl, (loss_text d.flows m, table-of-reports d c.args.control.now taken m has c.in-Ok.ensures.measured, c.in-Err-Memory.ensures.front))

pub returns-in-Err-MissingReport : goal.returns-in-Err-MissingReport
returns-in-Err-MissingReport g c = λ before taken has.
    let d = c.args.domain.now in
    let node = c.in-Err-MissingReport.node in
    let first : IsFirstPlace IsSome (λ r. r ≡ None) c.args.control.now.reports node = rw c.in-Err-MissingReport.field-0-is at c.in-Err-MissingReport.ensures.missing in
    let within : node < length c.nodes.result.now = omega (arith, first.within, c.requires.nodes, ap length c.nodes.ensures.value) in
    let at = c.index-nodes-node.is ∙ get_or_default c.nodes.result.now node c.index-nodes-node.result no_node within in
    let named : c.name-node.result.now ≡ node_name d node =
    c.name-node.ensures ∙ ap (λ (n : NodeValue). n.name) at ∙ ap (λ ns. node_name (record d { nodes = ns }) node) c.nodes.ensures.value in
    let answer = stop_shown c.no_report.result in
    let answered : IsAnswered (Ended (Refused None (NoReport (node_name d node)))) answer = subst (λ n. IsAnswered (Ended (Refused None (NoReport n))) answer) named c.no_report.ensures in
    refused-first d c.args.control.now taken node before before (output (g.O.Sink.written c.args.out.now) (g.O.Sink.faults c.args.out.now))
    (output (g.O.Sink.written c.args.out.now) (g.O.Sink.faults c.args.out.now)) answer has first (answered, refl)
