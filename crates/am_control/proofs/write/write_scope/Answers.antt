use Rattle.std.proofs.Common.{◌≡◌, ◌∙◌, ◌<◌, ◌++◌, flat_map, sym, ap, subst, arith}
use Rattle.std.specs.List.{range_with_len}
use Rattle.std.proofs.lemmas.List.{append-nil}
use Rattle.std.proofs.lemmas.List.FromFn.{length-range_with_len}
use Rattle.am_base.specs.Sinks.{HandsIn, BreaksOff}
use Rattle.am_control.specs.Passages.{ArePassages}
use Rattle.am_control.specs.Rows.{flow_rows}
use Rattle.am_control.specs.Texts.{loss_line, line_rest, line_start}
use Rattle.am_control.proofs.WritingLemmas.{pieces-next, pieces-broken, pieces-done, flat-flat, flow-lines, number-at}
use Rattle.am_control.proofs.write.write_scope.Goals as goal

pub returns-in_default-clause-front : goal.returns-in_default-clause-front
returns-in_default-clause-front g c =
    let m = c.args.closed.now in
    let line = loss_line c.args.flows.now in
    let k = c.loop-flow.flow in
    let old = g.O.Sink.written c.args.out.now in
    let new = g.O.Sink.written c.write_flow.new.out in
    let below : k < m.plan.flows = omega (arith, c.flows-flow-end.ensures) in
    let start : c.text.result.now ≡ line_start c.args.flows.now c.args.scope k
    = c.text.ensures ∙ c.put_start.ensures.text ∙ ap (λ t. line_start c.args.flows.now c.args.scope k ++ t) c.new-start.ensures
    ∙ append-nil (line_start c.args.flows.now c.args.scope k) in
    let rows : c.as_slice-in-loop-flow.result.now ≡ flow_rows m c.args.scope k = c.as_slice-in-loop-flow.ensures.value ∙ c.put_rows.ensures.rows in
    subst (λ t. BreaksOff old c.args.buffer.now t new) (sym (flat-flat line (flow_rows m c.args.scope) (range_with_len 0 m.plan.flows)))
    (pieces-broken (λ flow. flat_map line (flow_rows m c.args.scope flow)) (range_with_len 0 m.plan.flows) k k
    old (g.O.Sink.written c.loop-flow.out) new c.args.buffer.now c.loop-flow.buffer
    (flat_map (λ r. c.text.result.now ++ line_rest r) c.as_slice-in-loop-flow.result.now) c.loop-flow.invariant.handed
    (number-at m.plan.flows k below) (ap (λ rs. flat_map (λ r. c.text.result.now ++ line_rest r) rs) rows ∙ flow-lines m c.args.flows.now c.args.scope k c.text.result.now start) c.in_default.ensures.front)

pub loop-flow-preserved : goal.loop-flow-preserved
loop-flow-preserved g c =
    let m = c.args.closed.now in
    let line = loss_line c.args.flows.now in
    let k = c.loop-flow.flow in
    let old = g.O.Sink.written c.args.out.now in
    let new = g.O.Sink.written c.write_flow.new.out in
    let below : k < m.plan.flows = omega (arith, c.flows-flow-end.ensures) in
    let start : c.text.result.now ≡ line_start c.args.flows.now c.args.scope k
    = c.text.ensures ∙ c.put_start.ensures.text ∙ ap (λ t. line_start c.args.flows.now c.args.scope k ++ t) c.new-start.ensures
    ∙ append-nil (line_start c.args.flows.now c.args.scope k) in
    let rows : c.as_slice-in-loop-flow.result.now ≡ flow_rows m c.args.scope k = c.as_slice-in-loop-flow.ensures.value ∙ c.put_rows.ensures.rows in
    record {
      handed = pieces-next (λ flow. flat_map line (flow_rows m c.args.scope flow)) (range_with_len 0 m.plan.flows) k k
          old (g.O.Sink.written c.loop-flow.out) new c.args.buffer.now c.loop-flow.buffer c.write_flow.new.buffer
          (flat_map (λ r. c.text.result.now ++ line_rest r) c.as_slice-in-loop-flow.result.now) c.loop-flow.invariant.handed
          (number-at m.plan.flows k below) (ap (λ rs. flat_map (λ r. c.text.result.now ++ line_rest r) rs) rows ∙ flow-lines m c.args.flows.now c.args.scope k c.text.result.now start) c.in-Ok.ensures.all;
      room = c.put_rows.ensures.room ∙ c.loop-flow.invariant.room;
      faults_stay = omega (arith, c.loop-flow.invariant.faults_stay, c.write_flow.ensures.faults_stay);
    }

pub returns-clause-all : goal.returns-clause-all
returns-clause-all g c =
    let m = c.args.closed.now in
    let line = loss_line c.args.flows.now in
    let old = g.O.Sink.written c.args.out.now in
    let new = g.O.Sink.written c.loop-flow.out in
    subst (λ t. HandsIn old c.args.buffer.now t new c.loop-flow.buffer) (sym (flat-flat line (flow_rows m c.args.scope) (range_with_len 0 m.plan.flows)))
    (pieces-done (λ flow. flat_map line (flow_rows m c.args.scope flow)) (range_with_len 0 m.plan.flows) c.loop-flow.flow
    old new c.args.buffer.now c.loop-flow.buffer (omega (arith, length-range_with_len 0 m.plan.flows, c.flows-flow-end.ensures)) c.loop-flow.invariant.handed)

pub put_rows-requires-clause-passages : goal.put_rows-requires-clause-passages
put_rows-requires-clause-passages g c =
    subst (λ ps. ArePassages c.args.closed.now c.args.scope ps) (sym c.as_slice.ensures.value) c.put_passages.ensures.passages
