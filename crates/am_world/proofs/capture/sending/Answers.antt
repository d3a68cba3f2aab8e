use Rattle.std.proofs.Common.{◌≡◌, ◌∙◌, ap}
use Rattle.am_domain.specs.Values.{FlowValue}
use Rattle.am_world.specs.Captures.{flow_at}
use Rattle.am_world.proofs.WritingLemmas.{flow-is, sending-is}
use Rattle.am_world.proofs.capture.sending.Goals as goal

pub returns : goal.returns
returns c =
    let d = c.args.domain.now in
    let flow = flow-is d c.flows.result.now c.args.flow c.index-flows-flow.result c.flows.ensures.value c.index-flows-flow.is c.requires in
    let named : c.id-id.result ≡ (flow_at d c.args.flow).id = c.id-id.ensures ∙ ap (λ (f : FlowValue). f.id) flow in
    sending-is d c.args.flow c.args.reading c.id-id.result c.block_of.result c.args.delay c.colour_of-colour.result c.in-Some.mark
    named (rw c.timing.ensures.value at c.block_of.ensures) c.colour_of-colour.ensures c.in-Some.ensures.value
