-- The pieces are put from the last to the first.
use Rattle.std.proofs.Common.{ap, sym, ◌≡◌, ◌∙◌, ◌++◌, []}
use Rattle.std.proofs.lemmas.List.{get_or-map}
use Rattle.am_domain.specs.Values.{FlowValue}
use Rattle.am_control.specs.Texts.{scope_text, named_flow}
use Rattle.am_control.proofs.WritingLemmas.{start-put}
use Rattle.am_control.proofs.write.put_start.Goals as goal

pub returns-clause-text : goal.returns-clause-text
returns-clause-text c =
    let flows = c.args.flows.now in
    let name = named_flow flows c.args.flow in
    let here : c.name-name.result.now ≡ name
    = c.name-name.ensures ∙ ap (λ (f : FlowValue). f.name) c.index-flows-flow.is
    ∙ sym (get_or-map (λ (f : FlowValue). f.name) flows c.args.flow c.index-flows-flow.result [] c.requires.flow) in
    start-put (scope_text c.args.scope) name c.args.tail.now _ _ _ _ c.put.ensures.text
    (c.put_all.ensures.text ∙ ap (λ t. t ++ c.put.new.self) (c.as_bytes.ensures.value ∙ here)) c.put-2.ensures.text c.put_scope.ensures.text
