use Rattle.std.proofs.Common.{subst, ◌∙◌}
use Rattle.std.proofs.lemmas.Result.{on_err_weaker}
use Rattle.am_base.specs.Sinks.{WritesFront}
use Rattle.am_base.proofs.Gathering.{wrote-front}
use Rattle.am_base.proofs.buffer.Buffer.flush.Goals as goal

pub returns-clause-front : goal.returns-clause-front
returns-clause-front g c =
    on_err_weaker c.put-done.result
    (λ f. subst (λ x. WritesFront (g.O.Sink.written c.args.sink.now) x (g.O.Sink.written c.put-done.new.sink)) (c.deref.ensures.value ∙ c.self.view_is)
    (wrote-front (g.O.Sink.written c.args.sink.now) (g.O.Sink.written c.put-done.new.sink) c.deref.result.now f))
    c.put-done.ensures.front
