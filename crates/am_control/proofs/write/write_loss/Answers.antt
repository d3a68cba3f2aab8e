use Rattle.std.proofs.Common.{◌≡◌, ◌++◌, [], flat_map, refl, subst}
use Rattle.std.specs.Io.KnownBytes.{append_known}
use Rattle.am_base.specs.Sinks.{AppendsFront, IsWrittenOf}
use Rattle.am_control.specs.Rows.{loss_rows}
use Rattle.am_control.specs.Texts.{loss_columns, loss_line, loss_text}
use Rattle.am_control.proofs.TextLemmas.{front-of-front}
use Rattle.am_control.proofs.write.write_loss.Goals as goal

pub returns-in_default-write-clause-front : goal.returns-in_default-write-clause-front
returns-in_default-write-clause-front g c =
    let start = g.O.Sink.written c.args.out.now in
    let new = g.O.Sink.written c.write.new.sink in
    let lines = flat_map (loss_line c.args.domain.now.flows) (loss_rows c.args.closed.now) in
    front-of-front start new (loss_columns ++ lines) loss_columns lines refl
    (subst (λ t. AppendsFront start new t) c.as_bytes.ensures.value (c.in_default-write.ensures.front start [] (c.in-Ok.ensures.begins start)))

pub returns-in_default-write_rows-clause-front : goal.returns-in_default-write_rows-clause-front
returns-in_default-write_rows-clause-front g c =
    let start = g.O.Sink.written c.args.out.now in
    let new = g.O.Sink.written c.write_rows.new.out in
    let begun = subst (λ t. IsWrittenOf start (g.O.Sink.written c.write.new.sink) c.write.new.self t) c.as_bytes.ensures.value
    (c.in-Ok-write.ensures.all start [] (c.in-Ok.ensures.begins start)) in
    subst (λ fs. AppendsFront start new (loss_text fs c.args.closed.now)) c.flows.ensures.value
    (c.in_default-write_rows.ensures.front start loss_columns begun)

pub returns-in-Ok-flush-clause-all : goal.returns-in-Ok-flush-clause-all
returns-in-Ok-flush-clause-all g c =
    let start = g.O.Sink.written c.args.out.now in
    let new = g.O.Sink.written c.flush.new.sink in
    let begun = subst (λ t. IsWrittenOf start (g.O.Sink.written c.write.new.sink) c.write.new.self t) c.as_bytes.ensures.value
    (c.in-Ok-write.ensures.all start [] (c.in-Ok.ensures.begins start)) in
    subst (λ fs. new ≡ append_known start (loss_text fs c.args.closed.now)) c.flows.ensures.value
    (c.in-Ok-flush.ensures.all start (loss_text c.flows.result.now c.args.closed.now) (c.in-Ok-write_rows.ensures.all start loss_columns begun))

pub returns-clause-front : goal.returns-clause-front
returns-clause-front g c =
    let start = g.O.Sink.written c.args.out.now in
    let new = g.O.Sink.written c.flush.new.sink in
    let begun = subst (λ t. IsWrittenOf start (g.O.Sink.written c.write.new.sink) c.write.new.self t) c.as_bytes.ensures.value
    (c.in-Ok-write.ensures.all start [] (c.in-Ok.ensures.begins start)) in
    subst (λ fs. AppendsFront start new (loss_text fs c.args.closed.now)) c.flows.ensures.value
    (c.in-Err.ensures.front start (loss_text c.flows.result.now c.args.closed.now) (c.in-Ok-write_rows.ensures.all start loss_columns begun))
