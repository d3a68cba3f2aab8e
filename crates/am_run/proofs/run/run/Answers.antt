-- The answer of a run, and what the laws of the inputs say of its status.
use Rattle.std.proofs.Common.{refl, inl}
use Rattle.am_chain.specs.Answers.Ending.{Done}
use Rattle.am_chain.specs.Answers.Answer.{Ended}
use Rattle.am_chain.specs.Chains.{inputs, output}
use Rattle.am_chain.specs.Shown.{stop_shown}
use Rattle.am_run.proofs.ChainLemmas.{nothing}
use Rattle.am_run.proofs.HeadlineLemmas.{tells-each}
use Rattle.am_run.proofs.LinkHeadlineLemmas.{tells-each-link}
use Rattle.am_run.proofs.RunLemmas.{two-exactly, told-obeyed, decided, completed}
use Rattle.am_run.proofs.SimLemmas.{tells-sim}
use Rattle.am_run.proofs.run.run.Goals as goal

pub returns-in-Ok-clause-no_command : goal.returns-in-Ok-clause-no_command
returns-in-Ok-clause-no_command g c = two-exactly _ _ _ _ _ (Ended Done) _ c.in-Ok.ensures refl

pub returns-in-Ok-clause-answered : goal.returns-in-Ok-clause-answered
returns-in-Ok-clause-answered g c = record {
  answer = Ended Done;
  status_is = refl;
  obeys = c.in-Ok.ensures;
  tells = inl (nothing (g.E.Sink.written c.args.err.now));
}

pub returns-in-Ok-clause-decided : goal.returns-in-Ok-clause-decided
returns-in-Ok-clause-decided g c =
    decided _ (g.S.Shelf.told c.args.shelf.now) (g.S.Shelf.faults c.args.shelf.now) (g.S.Shelf.missed c.args.shelf.now) _ _ _ (Ended Done) _ c.laws.ensures c.in-Ok.ensures refl

pub returns-in-Ok-clause-complete : goal.returns-in-Ok-clause-complete
returns-in-Ok-clause-complete g c =
    completed _ (g.S.Shelf.told c.args.shelf.now) (g.S.Shelf.faults c.args.shelf.now) (g.S.Shelf.missed c.args.shelf.now)
    (inputs (g.S.Shelf.told c.obey.new.shelf) (g.S.Shelf.faults c.obey.new.shelf) (g.S.Shelf.missed c.obey.new.shelf))
    (output (g.O.Sink.written c.args.out.now) (g.O.Sink.faults c.args.out.now)) (output (g.O.Sink.written c.obey.new.out) (g.O.Sink.faults c.obey.new.out))
    (Ended Done) _ c.in-Ok.ensures refl

pub returns-in-Err-clause-no_command : goal.returns-in-Err-clause-no_command
returns-in-Err-clause-no_command g c =
    let t = c.tell.ensures in
    two-exactly _ _ _ _ _ t.answer _ (told-obeyed _ _ _ _ _ (stop_shown c.in-Err.stop) t.answer t.same c.in-Err.ensures) t.status_is

pub returns-in-Err-clause-answered : goal.returns-in-Err-clause-answered
returns-in-Err-clause-answered g c =
    let t = c.tell.ensures in
    record {
      answer = t.answer;
      status_is = t.status_is;
      obeys = told-obeyed _ _ _ _ _ (stop_shown c.in-Err.stop) t.answer t.same c.in-Err.ensures;
      tells = t.tells;
    }

pub returns-in-Err-clause-decided : goal.returns-in-Err-clause-decided
returns-in-Err-clause-decided g c =
    let t = c.tell.ensures in
    decided _ (g.S.Shelf.told c.args.shelf.now) (g.S.Shelf.faults c.args.shelf.now) (g.S.Shelf.missed c.args.shelf.now) _ _ _ t.answer _ c.laws.ensures
    (told-obeyed _ _ _ _ _ (stop_shown c.in-Err.stop) t.answer t.same c.in-Err.ensures) t.status_is

pub returns-in-Err-clause-complete : goal.returns-in-Err-clause-complete
returns-in-Err-clause-complete g c =
    let t = c.tell.ensures in
    completed _ (g.S.Shelf.told c.args.shelf.now) (g.S.Shelf.faults c.args.shelf.now) (g.S.Shelf.missed c.args.shelf.now)
    (inputs (g.S.Shelf.told c.obey.new.shelf) (g.S.Shelf.faults c.obey.new.shelf) (g.S.Shelf.missed c.obey.new.shelf))
    (output (g.O.Sink.written c.args.out.now) (g.O.Sink.faults c.args.out.now)) (output (g.O.Sink.written c.obey.new.out) (g.O.Sink.faults c.obey.new.out))
    t.answer _ (told-obeyed _ _ _ _ _ (stop_shown c.in-Err.stop) t.answer t.same c.in-Err.ensures) t.status_is

pub returns-in-Ok-clause-headline : goal.returns-in-Ok-clause-headline
returns-in-Ok-clause-headline g c =
    tells-each _ (g.S.Shelf.told c.args.shelf.now) (g.S.Shelf.faults c.args.shelf.now) (g.S.Shelf.missed c.args.shelf.now)
    (inputs (g.S.Shelf.told c.obey.new.shelf) (g.S.Shelf.faults c.obey.new.shelf) (g.S.Shelf.missed c.obey.new.shelf))
    (output (g.O.Sink.written c.args.out.now) (g.O.Sink.faults c.args.out.now)) (output (g.O.Sink.written c.obey.new.out) (g.O.Sink.faults c.obey.new.out))
    (Ended Done) _ c.laws.ensures (record { drops = c.world_law.ensures.drops; delays = c.world_law.ensures.delays }) c.in-Ok.ensures refl

pub returns-in-Err-clause-headline : goal.returns-in-Err-clause-headline
returns-in-Err-clause-headline g c =
    let t = c.tell.ensures in
    tells-each _ (g.S.Shelf.told c.args.shelf.now) (g.S.Shelf.faults c.args.shelf.now) (g.S.Shelf.missed c.args.shelf.now)
    (inputs (g.S.Shelf.told c.obey.new.shelf) (g.S.Shelf.faults c.obey.new.shelf) (g.S.Shelf.missed c.obey.new.shelf))
    (output (g.O.Sink.written c.args.out.now) (g.O.Sink.faults c.args.out.now)) (output (g.O.Sink.written c.obey.new.out) (g.O.Sink.faults c.obey.new.out))
    t.answer _ c.laws.ensures (record { drops = c.world_law.ensures.drops; delays = c.world_law.ensures.delays })
    (told-obeyed _ _ _ _ _ (stop_shown c.in-Err.stop) t.answer t.same c.in-Err.ensures) t.status_is

pub returns-in-Ok-clause-link_headline : goal.returns-in-Ok-clause-link_headline
returns-in-Ok-clause-link_headline g c =
    tells-each-link _ (g.S.Shelf.told c.args.shelf.now) (g.S.Shelf.faults c.args.shelf.now) (g.S.Shelf.missed c.args.shelf.now)
    (inputs (g.S.Shelf.told c.obey.new.shelf) (g.S.Shelf.faults c.obey.new.shelf) (g.S.Shelf.missed c.obey.new.shelf))
    (output (g.O.Sink.written c.args.out.now) (g.O.Sink.faults c.args.out.now)) (output (g.O.Sink.written c.obey.new.out) (g.O.Sink.faults c.obey.new.out))
    (Ended Done) _ c.laws.ensures c.link_law.ensures.counts c.in-Ok.ensures refl

pub returns-in-Err-clause-link_headline : goal.returns-in-Err-clause-link_headline
returns-in-Err-clause-link_headline g c =
    let t = c.tell.ensures in
    tells-each-link _ (g.S.Shelf.told c.args.shelf.now) (g.S.Shelf.faults c.args.shelf.now) (g.S.Shelf.missed c.args.shelf.now)
    (inputs (g.S.Shelf.told c.obey.new.shelf) (g.S.Shelf.faults c.obey.new.shelf) (g.S.Shelf.missed c.obey.new.shelf))
    (output (g.O.Sink.written c.args.out.now) (g.O.Sink.faults c.args.out.now)) (output (g.O.Sink.written c.obey.new.out) (g.O.Sink.faults c.obey.new.out))
    t.answer _ c.laws.ensures c.link_law.ensures.counts
    (told-obeyed _ _ _ _ _ (stop_shown c.in-Err.stop) t.answer t.same c.in-Err.ensures) t.status_is

pub returns-in-Ok-clause-simulated : goal.returns-in-Ok-clause-simulated
returns-in-Ok-clause-simulated g c =
    tells-sim _ _ _
    (output (g.O.Sink.written c.args.out.now) (g.O.Sink.faults c.args.out.now)) (output (g.O.Sink.written c.obey.new.out) (g.O.Sink.faults c.obey.new.out))
    (Ended Done) _ c.in-Ok.ensures refl

pub returns-in-Err-clause-simulated : goal.returns-in-Err-clause-simulated
returns-in-Err-clause-simulated g c =
    let t = c.tell.ensures in
    tells-sim _ _ _
    (output (g.O.Sink.written c.args.out.now) (g.O.Sink.faults c.args.out.now)) (output (g.O.Sink.written c.obey.new.out) (g.O.Sink.faults c.obey.new.out))
    t.answer _ (told-obeyed _ _ _ _ _ (stop_shown c.in-Err.stop) t.answer t.same c.in-Err.ensures) t.status_is
