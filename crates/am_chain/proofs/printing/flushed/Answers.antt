-- A fault of the output, which comes first.
use Rattle.std.proofs.Common.{refl, subst, inr}
use Rattle.am_base.specs.Sinks.{AppendsFront}
use Rattle.am_chain.proofs.StreamLemmas.{wrote-front}
use Rattle.am_chain.proofs.printing.flushed.Goals as goal

pub returns-in_default : goal.returns-in_default
returns-in_default g c =
    inr (
      refl,
      wrote-front (g.O.Sink.written c.args.out.now) (g.O.Sink.written c.put.new.sink) c.args.held.now.items
          (subst (λ x. AppendsFront (g.O.Sink.written c.args.out.now) (g.O.Sink.written c.put.new.sink) x) c.as_slice.ensures.value c.in_default.ensures.front),
      c.in_default.ensures.failed,
    )
