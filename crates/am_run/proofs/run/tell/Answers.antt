-- The line that was written is that of the stop, or says that memory ran out.
use Rattle.std.proofs.Common.{refl, sym, ap, subst, ◌∙◌, inl}
use Rattle.am_chain.specs.Answers.{line, status}
use Rattle.am_chain.specs.Answers.Answer.{NoCommand, WriteFault, NoMemory}
use Rattle.am_chain.specs.Chains.{output}
use Rattle.am_run.specs.Runs.{TellsLine}
use Rattle.am_chain.specs.Shown.{stop_shown}
use Rattle.am_run.proofs.run.tell.Goals as goal
use Rattle.am_run.proofs.run.tell.Goals.{in-NoCommand, in-WriteFault, in-NoMemory, in-Missing+in-Ok}

pub returns : goal.returns
returns g c = elim c.match-stop.branch [
  | in-NoCommand w ↦
      let is = sym (c.status-2.ensures ∙ ap (λ s. status (stop_shown s)) w.in-NoCommand.is) in
      rw (w.err-is, w.in-NoCommand.is) (record { answer = NoCommand; status_is = is; same = inl refl; tells = w.say.ensures })
  | in-WriteFault w ↦
      let is = sym (c.status-2.ensures ∙ ap (λ s. status (stop_shown s)) w.in-WriteFault.is) in
      rw (w.err-is, w.in-WriteFault.is) (record { answer = WriteFault; status_is = is; same = inl refl; tells = w.say-in-WriteFault.ensures })
  | in-NoMemory w ↦
      let is = sym (c.status-2.ensures ∙ ap (λ s. status (stop_shown s)) w.in-NoMemory.is) in
      rw (w.err-is, w.in-NoMemory.is) (record { answer = NoMemory; status_is = is; same = inl refl; tells = w.say-in-NoMemory.ensures })
  | in-Missing+in-Ok w ↦
      let said : TellsLine (output (g.E.Sink.written c.args.err.now) (g.E.Sink.faults c.args.err.now))
      (output (g.E.Sink.written w.say-in-Ok.new.err) (g.E.Sink.faults w.say-in-Ok.new.err)) (line (stop_shown c.args.stop.now)) =
      subst
      (λ l. TellsLine (output (g.E.Sink.written c.args.err.now) (g.E.Sink.faults c.args.err.now))
      (output (g.E.Sink.written w.say-in-Ok.new.err) (g.E.Sink.faults w.say-in-Ok.new.err)) l)
      (w.as_str.ensures.value ∙ w.in-Ok.ensures) w.say-in-Ok.ensures in
      rw w.err-is (record { answer = stop_shown c.args.stop.now; status_is = sym c.status-2.ensures; same = inl refl; tells = said })
]
