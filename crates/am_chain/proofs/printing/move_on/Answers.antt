-- All that is held was written, or nothing was done.
use Rattle.std.proofs.Common.{◌∙◌, ap, subst}
use Rattle.std.proofs.lemmas.Result.{on_ok_weaker, on_err_weaker}
use Rattle.std.specs.Io.KnownBytes.{append_known}
use Rattle.am_base.specs.Sinks.{AppendsFront}
use Rattle.am_chain.proofs.StreamLemmas.{moved-all, wrote-front}
use Rattle.am_chain.proofs.printing.move_on.Goals as goal

pub returns-clause-all : goal.returns-clause-all
returns-clause-all g c =
    on_ok_weaker c.put-done.result
    (λ e. moved-all (g.O.Sink.written c.args.out.now) (g.O.Sink.written c.put-done.new.sink) c.args.held.now.items c.clear.new.self.items
    (e ∙ ap (λ x. append_known (g.O.Sink.written c.args.out.now) x) c.as_slice.ensures.value) c.clear.ensures.items)
    c.put-done.ensures.all

pub returns-clause-front : goal.returns-clause-front
returns-clause-front g c =
    on_err_weaker c.put-done.result
    (λ f. wrote-front (g.O.Sink.written c.args.out.now) (g.O.Sink.written c.put-done.new.sink) c.args.held.now.items
    (subst (λ x. AppendsFront (g.O.Sink.written c.args.out.now) (g.O.Sink.written c.put-done.new.sink) x) c.as_slice.ensures.value f))
    c.put-done.ensures.front
