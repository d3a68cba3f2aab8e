-- The node is named or refused; its capture is taken; its report is printed.
use Rattle.std.proofs.Common.{refl, subst, inl, inr}
use Rattle.am_domain.specs.Domains.{DomainValue}
use Rattle.am_report.specs.Rows.{report_text}
use Rattle.am_chain.specs.Answers.Answer.{Ended, WriteFault}
use Rattle.am_chain.specs.Answers.Ending.{Done}
use Rattle.am_chain.specs.Chains.{inputs, output, Performs}
use Rattle.am_run.specs.NodeWords.{at_node, node_named}
use Rattle.am_chain.specs.Shown.{stop_shown}
use Rattle.am_run.specs.commands.Meter.{report_chain}
use Rattle.am_run.proofs.NodeLemmas.{node-asked, nobody-asked}
use Rattle.am_run.proofs.commands.meter.meter.Goals as goal

pub returns-in_default : goal.returns-in_default
returns-in_default g c =
    let t = c.in-Ok.ensures in
    let name = c.args.words.now.node.now in
    inr (
      t.0,
      (inputs (g.S.Shelf.told c.take_domain.new.shelf) (g.S.Shelf.faults c.take_domain.new.shelf) (g.S.Shelf.missed c.take_domain.new.shelf)),
      t.1,
      t.2,
      subst (λ (d : DomainValue). Performs (inputs (g.S.Shelf.told c.take_domain.new.shelf) (g.S.Shelf.faults c.take_domain.new.shelf) (g.S.Shelf.missed c.take_domain.new.shelf)) (inputs (g.S.Shelf.told c.take_domain.new.shelf) (g.S.Shelf.faults c.take_domain.new.shelf) (g.S.Shelf.missed c.take_domain.new.shelf)) (output (g.O.Sink.written c.args.out.now) (g.O.Sink.faults c.args.out.now)) (output (g.O.Sink.written c.args.out.now) (g.O.Sink.faults c.args.out.now)) (at_node (node_named d name) (report_chain d)) (stop_shown c.unknown_node.result)) t.3
          (nobody-asked c.in-Ok.domain name (report_chain c.in-Ok.domain) (inputs (g.S.Shelf.told c.take_domain.new.shelf) (g.S.Shelf.faults c.take_domain.new.shelf) (g.S.Shelf.missed c.take_domain.new.shelf)) (output (g.O.Sink.written c.args.out.now) (g.O.Sink.faults c.args.out.now)) (stop_shown c.unknown_node.result)
          c.in_default.ensures.none c.unknown_node.ensures),
    )

pub returns-in-Err-take_cells : goal.returns-in-Err-take_cells
returns-in-Err-take_cells g c =
    let t = c.in-Ok.ensures in
    let name = c.args.words.now.node.now in
    inr (
      t.0,
      (inputs (g.S.Shelf.told c.take_domain.new.shelf) (g.S.Shelf.faults c.take_domain.new.shelf) (g.S.Shelf.missed c.take_domain.new.shelf)),
      t.1,
      t.2,
      subst (λ (d : DomainValue). Performs (inputs (g.S.Shelf.told c.take_domain.new.shelf) (g.S.Shelf.faults c.take_domain.new.shelf) (g.S.Shelf.missed c.take_domain.new.shelf)) (inputs (g.S.Shelf.told c.take_cells.new.shelf) (g.S.Shelf.faults c.take_cells.new.shelf) (g.S.Shelf.missed c.take_cells.new.shelf)) (output (g.O.Sink.written c.args.out.now) (g.O.Sink.faults c.args.out.now)) (output (g.O.Sink.written c.args.out.now) (g.O.Sink.faults c.args.out.now)) (at_node (node_named d name) (report_chain d)) (stop_shown c.in-Err-take_cells.stop)) t.3
          (node-asked c.in-Ok.domain name c.in-Some.node (report_chain c.in-Ok.domain) (inputs (g.S.Shelf.told c.take_domain.new.shelf) (g.S.Shelf.faults c.take_domain.new.shelf) (g.S.Shelf.missed c.take_domain.new.shelf)) (inputs (g.S.Shelf.told c.take_cells.new.shelf) (g.S.Shelf.faults c.take_cells.new.shelf) (g.S.Shelf.missed c.take_cells.new.shelf)) (output (g.O.Sink.written c.args.out.now) (g.O.Sink.faults c.args.out.now)) (output (g.O.Sink.written c.args.out.now) (g.O.Sink.faults c.args.out.now)) (stop_shown c.in-Err-take_cells.stop)
          c.in-Some.ensures.found (inl (c.in-Err-take_cells.ensures, refl))),
    )

pub returns-in-Ok-write_report : goal.returns-in-Ok-write_report
returns-in-Ok-write_report g c =
    let u = c.in-Ok-take_cells.ensures in
    let text = report_text c.in-Ok.domain c.in-Some.node c.in-Ok-take_cells.cells in
    let t = c.in-Ok.ensures in
    let name = c.args.words.now.node.now in
    inr (
      t.0,
      (inputs (g.S.Shelf.told c.take_domain.new.shelf) (g.S.Shelf.faults c.take_domain.new.shelf) (g.S.Shelf.missed c.take_domain.new.shelf)),
      t.1,
      t.2,
      subst (λ (d : DomainValue). Performs (inputs (g.S.Shelf.told c.take_domain.new.shelf) (g.S.Shelf.faults c.take_domain.new.shelf) (g.S.Shelf.missed c.take_domain.new.shelf)) (inputs (g.S.Shelf.told c.take_cells.new.shelf) (g.S.Shelf.faults c.take_cells.new.shelf) (g.S.Shelf.missed c.take_cells.new.shelf)) (output (g.O.Sink.written c.args.out.now) (g.O.Sink.faults c.args.out.now)) (output (g.O.Sink.written c.write_report.new.out) (g.O.Sink.faults c.write_report.new.out)) (at_node (node_named d name) (report_chain d)) (Ended Done)) t.3
          (node-asked c.in-Ok.domain name c.in-Some.node (report_chain c.in-Ok.domain) (inputs (g.S.Shelf.told c.take_domain.new.shelf) (g.S.Shelf.faults c.take_domain.new.shelf) (g.S.Shelf.missed c.take_domain.new.shelf)) (inputs (g.S.Shelf.told c.take_cells.new.shelf) (g.S.Shelf.faults c.take_cells.new.shelf) (g.S.Shelf.missed c.take_cells.new.shelf)) (output (g.O.Sink.written c.args.out.now) (g.O.Sink.faults c.args.out.now)) (output (g.O.Sink.written c.write_report.new.out) (g.O.Sink.faults c.write_report.new.out)) (Ended Done)
          c.in-Some.ensures.found
          (inr (
            u.0,
            (inputs (g.S.Shelf.told c.take_cells.new.shelf) (g.S.Shelf.faults c.take_cells.new.shelf) (g.S.Shelf.missed c.take_cells.new.shelf)),
            u.1,
            u.2,
            (refl, (refl, (text, record { cells = c.in-Ok-take_cells.cells; metered = u.3; printed = refl }, c.in-Ok-write_report.ensures.all))),
          ))),
    )

pub returns-in-Err-Fault : goal.returns-in-Err-Fault
returns-in-Err-Fault g c =
    let u = c.in-Ok-take_cells.ensures in
    let text = report_text c.in-Ok.domain c.in-Some.node c.in-Ok-take_cells.cells in
    let rose = rw c.in-Err-Fault.field-0-is at c.in-Err-Fault.ensures.failed in
    let t = c.in-Ok.ensures in
    let name = c.args.words.now.node.now in
    inr (
      t.0,
      (inputs (g.S.Shelf.told c.take_domain.new.shelf) (g.S.Shelf.faults c.take_domain.new.shelf) (g.S.Shelf.missed c.take_domain.new.shelf)),
      t.1,
      t.2,
      subst (λ (d : DomainValue). Performs (inputs (g.S.Shelf.told c.take_domain.new.shelf) (g.S.Shelf.faults c.take_domain.new.shelf) (g.S.Shelf.missed c.take_domain.new.shelf)) (inputs (g.S.Shelf.told c.take_cells.new.shelf) (g.S.Shelf.faults c.take_cells.new.shelf) (g.S.Shelf.missed c.take_cells.new.shelf)) (output (g.O.Sink.written c.args.out.now) (g.O.Sink.faults c.args.out.now)) (output (g.O.Sink.written c.write_report.new.out) (g.O.Sink.faults c.write_report.new.out)) (at_node (node_named d name) (report_chain d)) WriteFault) t.3
          (node-asked c.in-Ok.domain name c.in-Some.node (report_chain c.in-Ok.domain) (inputs (g.S.Shelf.told c.take_domain.new.shelf) (g.S.Shelf.faults c.take_domain.new.shelf) (g.S.Shelf.missed c.take_domain.new.shelf)) (inputs (g.S.Shelf.told c.take_cells.new.shelf) (g.S.Shelf.faults c.take_cells.new.shelf) (g.S.Shelf.missed c.take_cells.new.shelf)) (output (g.O.Sink.written c.args.out.now) (g.O.Sink.faults c.args.out.now)) (output (g.O.Sink.written c.write_report.new.out) (g.O.Sink.faults c.write_report.new.out)) WriteFault
          c.in-Some.ensures.found
          (inr (
            u.0,
            (inputs (g.S.Shelf.told c.take_cells.new.shelf) (g.S.Shelf.faults c.take_cells.new.shelf) (g.S.Shelf.missed c.take_cells.new.shelf)),
            u.1,
            u.2,
            (refl, (rose, (text, record { cells = c.in-Ok-take_cells.cells; metered = u.3; printed = refl }, c.in-Err-Fault.ensures.front))),
          ))),
    )
