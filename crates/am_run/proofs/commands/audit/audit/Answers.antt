-- The captures of all nodes are taken, and the table of their cells is printed.
use Rattle.std.proofs.Common.{refl, subst, inr, []}
use Rattle.am_control.specs.Texts.{loss_text}
use Rattle.am_domain.specs.Domains.{DomainValue}
use Rattle.am_chain.specs.Answers.Answer.{Ended, WriteFault, NoMemory}
use Rattle.am_chain.specs.Answers.Ending.{Done}
use Rattle.am_chain.specs.Chains.{inputs, output, Performs}
use Rattle.am_run.specs.commands.Audit.{audit_from}
use Rattle.am_run.proofs.AuditLemmas.{none-missing, table-of-all, all-taken}
use Rattle.am_run.proofs.commands.audit.audit.Goals as goal

pub prove-unreachable-requires : goal.prove-unreachable-requires
prove-unreachable-requires g c =
    none-missing c.in-Ok.domain c.in-Ok-new.control.plan (inputs (g.S.Shelf.told c.take_domain.new.shelf) (g.S.Shelf.faults c.take_domain.new.shelf) (g.S.Shelf.missed c.take_domain.new.shelf)) (inputs (g.S.Shelf.told c.take_all.new.shelf) (g.S.Shelf.faults c.take_all.new.shelf) (g.S.Shelf.missed c.take_all.new.shelf)) c.take_all.new.control c.in_default-finish.field-0
    c.in-Ok-take_all.ensures.taken c.in_default-finish.ensures.missing

pub returns-in-Ok-write_loss : goal.returns-in-Ok-write_loss
returns-in-Ok-write_loss g c =
    let t = c.in-Ok.ensures in
    let d = c.in-Ok.domain in
    let so = c.in-Ok-take_all.ensures.taken in
    let table = table-of-all d c.in-Ok-new.control.plan (inputs (g.S.Shelf.told c.take_domain.new.shelf) (g.S.Shelf.faults c.take_domain.new.shelf) (g.S.Shelf.missed c.take_domain.new.shelf)) (inputs (g.S.Shelf.told c.take_all.new.shelf) (g.S.Shelf.faults c.take_all.new.shelf) (g.S.Shelf.missed c.take_all.new.shelf)) c.take_all.new.control c.in-Ok-finish.closed so
    c.in-Ok-new.ensures.plan c.in-Ok-finish.ensures.measured in
    inr (
      t.0,
      (inputs (g.S.Shelf.told c.take_domain.new.shelf) (g.S.Shelf.faults c.take_domain.new.shelf) (g.S.Shelf.missed c.take_domain.new.shelf)),
      t.1,
      t.2,
      subst (λ (x : DomainValue). Performs (inputs (g.S.Shelf.told c.take_domain.new.shelf) (g.S.Shelf.faults c.take_domain.new.shelf) (g.S.Shelf.missed c.take_domain.new.shelf)) (inputs (g.S.Shelf.told c.take_all.new.shelf) (g.S.Shelf.faults c.take_all.new.shelf) (g.S.Shelf.missed c.take_all.new.shelf)) (output (g.O.Sink.written c.args.out.now) (g.O.Sink.faults c.args.out.now)) (output (g.O.Sink.written c.write_loss.new.out) (g.O.Sink.faults c.write_loss.new.out)) (audit_from x x.nodes []) (Ended Done)) t.3
          (all-taken d c.in-Ok-new.control.plan (inputs (g.S.Shelf.told c.take_domain.new.shelf) (g.S.Shelf.faults c.take_domain.new.shelf) (g.S.Shelf.missed c.take_domain.new.shelf)) (inputs (g.S.Shelf.told c.take_all.new.shelf) (g.S.Shelf.faults c.take_all.new.shelf) (g.S.Shelf.missed c.take_all.new.shelf)) (inputs (g.S.Shelf.told c.take_all.new.shelf) (g.S.Shelf.faults c.take_all.new.shelf) (g.S.Shelf.missed c.take_all.new.shelf)) c.take_all.new.control (output (g.O.Sink.written c.args.out.now) (g.O.Sink.faults c.args.out.now)) (output (g.O.Sink.written c.write_loss.new.out) (g.O.Sink.faults c.write_loss.new.out)) (Ended Done) so
          (refl, (refl, (loss_text d.flows c.in-Ok-finish.closed, table, c.in-Ok-write_loss.ensures.all)))),
    )

pub returns-in-Err-Fault : goal.returns-in-Err-Fault
returns-in-Err-Fault g c =
    let rose = rw c.in-Err-Fault.field-0-is at c.in-Err-Fault.ensures.failed in
    let t = c.in-Ok.ensures in
    let d = c.in-Ok.domain in
    let so = c.in-Ok-take_all.ensures.taken in
    let table = table-of-all d c.in-Ok-new.control.plan (inputs (g.S.Shelf.told c.take_domain.new.shelf) (g.S.Shelf.faults c.take_domain.new.shelf) (g.S.Shelf.missed c.take_domain.new.shelf)) (inputs (g.S.Shelf.told c.take_all.new.shelf) (g.S.Shelf.faults c.take_all.new.shelf) (g.S.Shelf.missed c.take_all.new.shelf)) c.take_all.new.control c.in-Ok-finish.closed so
    c.in-Ok-new.ensures.plan c.in-Ok-finish.ensures.measured in
    inr (
      t.0,
      (inputs (g.S.Shelf.told c.take_domain.new.shelf) (g.S.Shelf.faults c.take_domain.new.shelf) (g.S.Shelf.missed c.take_domain.new.shelf)),
      t.1,
      t.2,
      subst (λ (x : DomainValue). Performs (inputs (g.S.Shelf.told c.take_domain.new.shelf) (g.S.Shelf.faults c.take_domain.new.shelf) (g.S.Shelf.missed c.take_domain.new.shelf)) (inputs (g.S.Shelf.told c.take_all.new.shelf) (g.S.Shelf.faults c.take_all.new.shelf) (g.S.Shelf.missed c.take_all.new.shelf)) (output (g.O.Sink.written c.args.out.now) (g.O.Sink.faults c.args.out.now)) (output (g.O.Sink.written c.write_loss.new.out) (g.O.Sink.faults c.write_loss.new.out)) (audit_from x x.nodes []) WriteFault) t.3
          (all-taken d c.in-Ok-new.control.plan (inputs (g.S.Shelf.told c.take_domain.new.shelf) (g.S.Shelf.faults c.take_domain.new.shelf) (g.S.Shelf.missed c.take_domain.new.shelf)) (inputs (g.S.Shelf.told c.take_all.new.shelf) (g.S.Shelf.faults c.take_all.new.shelf) (g.S.Shelf.missed c.take_all.new.shelf)) (inputs (g.S.Shelf.told c.take_all.new.shelf) (g.S.Shelf.faults c.take_all.new.shelf) (g.S.Shelf.missed c.take_all.new.shelf)) c.take_all.new.control (output (g.O.Sink.written c.args.out.now) (g.O.Sink.faults c.args.out.now)) (output (g.O.Sink.written c.write_loss.new.out) (g.O.Sink.faults c.write_loss.new.out)) WriteFault so
          (refl, (rose, (loss_text d.flows c.in-Ok-finish.closed, table, c.in-Err-Fault.ensures.front)))),
    )

pub returns : goal.returns
returns g c =
    let t = c.in-Ok.ensures in
    let d = c.in-Ok.domain in
    let so = c.in-Ok-take_all.ensures.taken in
    let table = table-of-all d c.in-Ok-new.control.plan (inputs (g.S.Shelf.told c.take_domain.new.shelf) (g.S.Shelf.faults c.take_domain.new.shelf) (g.S.Shelf.missed c.take_domain.new.shelf)) (inputs (g.S.Shelf.told c.take_all.new.shelf) (g.S.Shelf.faults c.take_all.new.shelf) (g.S.Shelf.missed c.take_all.new.shelf)) c.take_all.new.control c.in-Ok-finish.closed so
    c.in-Ok-new.ensures.plan c.in-Ok-finish.ensures.measured in
    inr (
      t.0,
      (inputs (g.S.Shelf.told c.take_domain.new.shelf) (g.S.Shelf.faults c.take_domain.new.shelf) (g.S.Shelf.missed c.take_domain.new.shelf)),
      t.1,
      t.2,
      subst (λ (x : DomainValue). Performs (inputs (g.S.Shelf.told c.take_domain.new.shelf) (g.S.Shelf.faults c.take_domain.new.shelf) (g.S.Shelf.missed c.take_domain.new.shelf)) (inputs (g.S.Shelf.told c.take_all.new.shelf) (g.S.Shelf.faults c.take_all.new.shelf) (g.S.Shelf.missed c.take_all.new.shelf)) (output (g.O.Sink.written c.args.out.now) (g.O.Sink.faults c.args.out.now)) (output (g.O.Sink.written c.write_loss.new.out) (g.O.Sink.faults c.write_loss.new.out)) (audit_from x x.nodes []) NoMemory) t.3
          (all-taken d c.in-Ok-new.control.plan (inputs (g.S.Shelf.told c.take_domain.new.shelf) (g.S.Shelf.faults c.take_domain.new.shelf) (g.S.Shelf.missed c.take_domain.new.shelf)) (inputs (g.S.Shelf.told c.take_all.new.shelf) (g.S.Shelf.faults c.take_all.new.shelf) (g.S.Shelf.missed c.take_all.new.shelf)) (inputs (g.S.Shelf.told c.take_all.new.shelf) (g.S.Shelf.faults c.take_all.new.shelf) (g.S.Shelf.missed c.take_all.new.shelf)) c.take_all.new.control (output (g.O.Sink.written c.args.out.now) (g.O.Sink.faults c.args.out.now)) (output (g.O.Sink.written c.write_loss.new.out) (g.O.Sink.faults c.write_loss.new.out)) NoMemory so
          (refl, (loss_text d.flows c.in-Ok-finish.closed, table, c.in-Err-Memory.ensures.front))),
    )
