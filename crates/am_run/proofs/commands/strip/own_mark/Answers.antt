-- A record without a flow has no mark of its own; nor has one whose mark stays, or is another's.
use Rattle.std.proofs.Common.{◌≡◌, ◌∙◌, ap, sym, get_or, List}
use Rattle.am_domain.specs.Values.{FlowValue}
use Rattle.am_run.proofs.StripLemmas.{stripped-there}
use Rattle.am_run.proofs.commands.strip.own_mark.Goals as goal

pub returns-in_default-clause-none : goal.returns-in_default-clause-none
returns-in_default-clause-none c = λ at packet o. c.in_default.ensures.none at o.number o.of_flow

pub returns-in_default-plan_strip-clause-none : goal.returns-in_default-plan_strip-clause-none
returns-in_default-plan_strip-clause-none c = λ at packet o.
    let only = c.in-Some.ensures.only at o.number o.of_flow in
    let place : at ≡ c.in-Some.field-0.at = only.0 in
    c.in_default-plan_strip.ensures.found o.mark packet
    (stripped-there c.args.packet.now.bytes.now at c.in-Some.field-0.at o.mark c.place.result c.args.domain.now.kind packet place c.place.ensures o.stripped)

pub returns-then-flow-id-clause-none : goal.returns-then-flow-id-clause-none
returns-then-flow-id-clause-none c = λ at packet o.
    let only = c.in-Some.ensures.only at o.number o.of_flow in
    let place : at ≡ c.in-Some.field-0.at = only.0 in
    let number : o.number ≡ c.in-Some.field-0.flow = only.1 in
    let found = c.in-Some-plan_strip.ensures.found o.mark packet
    (stripped-there c.args.packet.now.bytes.now at c.in-Some.field-0.at o.mark c.place.result c.args.domain.now.kind packet place c.place.ensures o.stripped) in
    let r = c.index-flows-flow.result in
    c.if-flow-id.true
    (c.flow.ensures.value ∙ ap (λ m. m.flow) found.0 ∙ o.own r ∙ ap (λ k. (get_or c.args.domain.now.flows k r).id) number
    ∙ sym (ap (λ (f : FlowValue). f.id) (c.index-flows-flow.is ∙ ap (λ (fs : List FlowValue). get_or fs c.in-Some.field-0.flow r) c.flows.ensures.value)) ∙ sym c.id.ensures)
