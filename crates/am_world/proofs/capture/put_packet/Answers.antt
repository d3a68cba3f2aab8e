use Rattle.std.proofs.Common.{◌≡◌, ◌∙◌, ap}
use Rattle.am_domain.specs.Values.{FlowValue}
use Rattle.am_world.specs.Captures.{flow_at, header_number, option_bytes}
use Rattle.am_world.proofs.WritingLemmas.{appended-bytes, flow-is, option-is, packet-put}
use Rattle.am_world.proofs.capture.put_packet.Goals as goal

pub returns-clause-bytes : goal.returns-clause-bytes
returns-clause-bytes c =
    let d = c.args.domain.now in
    let s = c.args.sent.now in
    let flow = flow-is d c.flows.result.now s.flow c.index-flows-sent.result c.flows.ensures.value c.index-flows-sent.is c.requires in
    let source : c.base-source.result.0 ≡ (flow_at d s.flow).source.bytes
    = c.base-source.ensures.value ∙ ap (λ p. p.bytes) c.source.ensures ∙ ap (λ (f : FlowValue). f.source.bytes) flow in
    let destination : c.base-destination.result.0 ≡ (flow_at d s.flow).destination.bytes
    = c.base-destination.ensures.value ∙ ap (λ p. p.bytes) c.destination.ensures ∙ ap (λ (f : FlowValue). f.destination.bytes) flow in
    let number : c.number_of.result ≡ header_number d.kind = c.number_of.ensures ∙ ap header_number c.place.ensures in
    let option : c.encode_mark-option.result ≡ option_bytes s.mark =
    option-is c.encode_mark-option.result s.mark
    (appended-bytes c.extend_from_slice-4.new.self.items c.encode_mark-option.result c.extend_from_slice-5.new.self.items
    c.in_ok-extend_from_slice-5.ensures.items c.type_inv.capture)
    c.encode_mark-option.ensures.canonical
    in
    packet-put d s c.args.capture.now.items c.extend_from_slice.new.self.items c.extend_from_slice-2.new.self.items
    c.extend_from_slice-3.new.self.items c.extend_from_slice-4.new.self.items c.extend_from_slice-5.new.self.items
    c.base-source.result.0 c.base-destination.result.0 c.encode_mark-option.result c.number_of.result
    c.in_ok-extend_from_slice.ensures.items c.in_ok-extend_from_slice-2.ensures.items c.in_ok-extend_from_slice-3.ensures.items
    c.in_ok-extend_from_slice-4.ensures.items c.in_ok-extend_from_slice-5.ensures.items number source destination option
