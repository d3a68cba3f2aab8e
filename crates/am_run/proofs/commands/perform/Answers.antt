-- Each command performs its own chain.
use Rattle.std.proofs.Common.{sym, subst}
use Rattle.am_chain.specs.Chains.{inputs, output, Performs}
use Rattle.am_run.specs.Forms.{chain_of}
use Rattle.am_chain.specs.Shown.{answer_of}
use Rattle.am_run.specs.Asked.{command_shown}
use Rattle.am_run.proofs.commands.perform.Goals as goal

pub returns-in-Link : goal.returns-in-Link
returns-in-Link g c =
    subst
    (λ x. Performs (inputs (g.S.Shelf.told c.args.shelf.now) (g.S.Shelf.faults c.args.shelf.now) (g.S.Shelf.missed c.args.shelf.now))
    (inputs (g.S.Shelf.told c.link.new.shelf) (g.S.Shelf.faults c.link.new.shelf) (g.S.Shelf.missed c.link.new.shelf))
    (output (g.O.Sink.written c.args.out.now) (g.O.Sink.faults c.args.out.now)) (output (g.O.Sink.written c.link.new.out) (g.O.Sink.faults c.link.new.out))
    (chain_of (command_shown x)) (answer_of c.link.result))
    (sym c.in-Link.is) c.link.ensures

pub returns-in-Show : goal.returns-in-Show
returns-in-Show g c =
    subst
    (λ x. Performs (inputs (g.S.Shelf.told c.args.shelf.now) (g.S.Shelf.faults c.args.shelf.now) (g.S.Shelf.missed c.args.shelf.now))
    (inputs (g.S.Shelf.told c.show.new.shelf) (g.S.Shelf.faults c.show.new.shelf) (g.S.Shelf.missed c.show.new.shelf))
    (output (g.O.Sink.written c.args.out.now) (g.O.Sink.faults c.args.out.now)) (output (g.O.Sink.written c.show.new.out) (g.O.Sink.faults c.show.new.out))
    (chain_of (command_shown x)) (answer_of c.show.result))
    (sym c.in-Show.is) c.show.ensures

pub returns-in-Check : goal.returns-in-Check
returns-in-Check g c =
    subst
    (λ x. Performs (inputs (g.S.Shelf.told c.args.shelf.now) (g.S.Shelf.faults c.args.shelf.now) (g.S.Shelf.missed c.args.shelf.now))
    (inputs (g.S.Shelf.told c.check.new.shelf) (g.S.Shelf.faults c.check.new.shelf) (g.S.Shelf.missed c.check.new.shelf))
    (output (g.O.Sink.written c.args.out.now) (g.O.Sink.faults c.args.out.now)) (output (g.O.Sink.written c.check.new.out) (g.O.Sink.faults c.check.new.out))
    (chain_of (command_shown x)) (answer_of c.check.result))
    (sym c.in-Check.is) c.check.ensures

pub returns-in-Clusters : goal.returns-in-Clusters
returns-in-Clusters g c =
    subst
    (λ x. Performs (inputs (g.S.Shelf.told c.args.shelf.now) (g.S.Shelf.faults c.args.shelf.now) (g.S.Shelf.missed c.args.shelf.now))
    (inputs (g.S.Shelf.told c.clusters.new.shelf) (g.S.Shelf.faults c.clusters.new.shelf) (g.S.Shelf.missed c.clusters.new.shelf))
    (output (g.O.Sink.written c.args.out.now) (g.O.Sink.faults c.args.out.now)) (output (g.O.Sink.written c.clusters.new.out) (g.O.Sink.faults c.clusters.new.out))
    (chain_of (command_shown x)) (answer_of c.clusters.result))
    (sym c.in-Clusters.is) c.clusters.ensures

pub returns-in-Mark : goal.returns-in-Mark
returns-in-Mark g c =
    subst
    (λ x. Performs (inputs (g.S.Shelf.told c.args.shelf.now) (g.S.Shelf.faults c.args.shelf.now) (g.S.Shelf.missed c.args.shelf.now))
    (inputs (g.S.Shelf.told c.mark.new.shelf) (g.S.Shelf.faults c.mark.new.shelf) (g.S.Shelf.missed c.mark.new.shelf))
    (output (g.O.Sink.written c.args.out.now) (g.O.Sink.faults c.args.out.now)) (output (g.O.Sink.written c.mark.new.out) (g.O.Sink.faults c.mark.new.out))
    (chain_of (command_shown x)) (answer_of c.mark.result))
    (sym c.in-Mark.is) c.mark.ensures

pub returns-in-Strip : goal.returns-in-Strip
returns-in-Strip g c =
    subst
    (λ x. Performs (inputs (g.S.Shelf.told c.args.shelf.now) (g.S.Shelf.faults c.args.shelf.now) (g.S.Shelf.missed c.args.shelf.now))
    (inputs (g.S.Shelf.told c.strip.new.shelf) (g.S.Shelf.faults c.strip.new.shelf) (g.S.Shelf.missed c.strip.new.shelf))
    (output (g.O.Sink.written c.args.out.now) (g.O.Sink.faults c.args.out.now)) (output (g.O.Sink.written c.strip.new.out) (g.O.Sink.faults c.strip.new.out))
    (chain_of (command_shown x)) (answer_of c.strip.result))
    (sym c.in-Strip.is) c.strip.ensures

pub returns-in-Meter : goal.returns-in-Meter
returns-in-Meter g c =
    subst
    (λ x. Performs (inputs (g.S.Shelf.told c.args.shelf.now) (g.S.Shelf.faults c.args.shelf.now) (g.S.Shelf.missed c.args.shelf.now))
    (inputs (g.S.Shelf.told c.meter.new.shelf) (g.S.Shelf.faults c.meter.new.shelf) (g.S.Shelf.missed c.meter.new.shelf))
    (output (g.O.Sink.written c.args.out.now) (g.O.Sink.faults c.args.out.now)) (output (g.O.Sink.written c.meter.new.out) (g.O.Sink.faults c.meter.new.out))
    (chain_of (command_shown x)) (answer_of c.meter.result))
    (sym c.in-Meter.is) c.meter.ensures

pub returns-in-Audit : goal.returns-in-Audit
returns-in-Audit g c =
    subst
    (λ x. Performs (inputs (g.S.Shelf.told c.args.shelf.now) (g.S.Shelf.faults c.args.shelf.now) (g.S.Shelf.missed c.args.shelf.now))
    (inputs (g.S.Shelf.told c.audit.new.shelf) (g.S.Shelf.faults c.audit.new.shelf) (g.S.Shelf.missed c.audit.new.shelf))
    (output (g.O.Sink.written c.args.out.now) (g.O.Sink.faults c.args.out.now)) (output (g.O.Sink.written c.audit.new.out) (g.O.Sink.faults c.audit.new.out))
    (chain_of (command_shown x)) (answer_of c.audit.result))
    (sym c.in-Audit.is) c.audit.ensures

pub returns-in-Loss : goal.returns-in-Loss
returns-in-Loss g c =
    subst
    (λ x. Performs (inputs (g.S.Shelf.told c.args.shelf.now) (g.S.Shelf.faults c.args.shelf.now) (g.S.Shelf.missed c.args.shelf.now))
    (inputs (g.S.Shelf.told c.loss.new.shelf) (g.S.Shelf.faults c.loss.new.shelf) (g.S.Shelf.missed c.loss.new.shelf))
    (output (g.O.Sink.written c.args.out.now) (g.O.Sink.faults c.args.out.now)) (output (g.O.Sink.written c.loss.new.out) (g.O.Sink.faults c.loss.new.out))
    (chain_of (command_shown x)) (answer_of c.loss.result))
    (sym c.in-Loss.is) c.loss.ensures

pub returns-in-Sim : goal.returns-in-Sim
returns-in-Sim g c =
    subst
    (λ x. Performs (inputs (g.S.Shelf.told c.args.shelf.now) (g.S.Shelf.faults c.args.shelf.now) (g.S.Shelf.missed c.args.shelf.now))
    (inputs (g.S.Shelf.told c.sim.new.shelf) (g.S.Shelf.faults c.sim.new.shelf) (g.S.Shelf.missed c.sim.new.shelf))
    (output (g.O.Sink.written c.args.out.now) (g.O.Sink.faults c.args.out.now)) (output (g.O.Sink.written c.sim.new.out) (g.O.Sink.faults c.sim.new.out))
    (chain_of (command_shown x)) (answer_of c.sim.result))
    (sym c.in-Sim.is) c.sim.ensures
