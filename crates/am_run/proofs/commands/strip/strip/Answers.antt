-- The domain was taken, and the capture printed by it.
use Rattle.std.proofs.Common.{inr, subst}
use Rattle.am_domain.specs.Domains.{DomainValue}
use Rattle.am_chain.specs.Chains.{inputs, output, StreamsSo}
use Rattle.am_run.specs.commands.Strip.{stripped_records}
use Rattle.am_chain.specs.Shown.{answer_of}
use Rattle.am_run.proofs.commands.strip.strip.Goals as goal

pub returns : goal.returns
returns g c =
    let behind = inputs (g.S.Shelf.told c.take_domain.new.shelf) (g.S.Shelf.faults c.take_domain.new.shelf) (g.S.Shelf.missed c.take_domain.new.shelf) in
    let after = inputs (g.S.Shelf.told c.print_capture.new.shelf) (g.S.Shelf.faults c.print_capture.new.shelf) (g.S.Shelf.missed c.print_capture.new.shelf) in
    inr (
      c.in-Ok.ensures.0,
      behind,
      c.in-Ok.ensures.1,
      c.in-Ok.ensures.2,
      subst
          (λ (d : DomainValue). StreamsSo behind after (output (g.O.Sink.written c.args.out.now) (g.O.Sink.faults c.args.out.now))
          (output (g.O.Sink.written c.print_capture.new.out) (g.O.Sink.faults c.print_capture.new.out)) c.args.words.now.file.now (stripped_records d)
          (answer_of c.print_capture.result))
          c.in-Ok.ensures.3 c.print_capture.ensures,
    )
