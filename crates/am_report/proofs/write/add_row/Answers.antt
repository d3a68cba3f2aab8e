use Rattle.std.proofs.Common.{◌∙◌, refl}
use Rattle.am_report.proofs.LineLemmas.{same-line}
use Rattle.am_report.proofs.TextLemmas.{eight-fields, node-named, flow-named}
use Rattle.am_report.proofs.write.add_row.Goals as goal

pub returns : goal.returns
returns c =
    let node = node-named c.args.domain.now c.args.node _ _ c.nodes.ensures.value c.index-nodes-node.is c.requires.node in
    let flow = flow-named c.args.domain.now c.args.row.now.flow _ _ c.flows.ensures.value c.index-flows-row.is c.requires.flow in
    same-line _ _ _ _ _ (eight-fields _ _ _ _ _ _ _ _ _ _ _ _ _ _ _ _ refl (c.as_bytes.ensures.value ∙ c.name.ensures ∙ node)
    (c.as_bytes-2.ensures.value ∙ c.name-2.ensures ∙ flow) (c.as_bytes-3.ensures.value ∙ c.format.ensures.text)
    (c.as_bytes-4.ensures.value ∙ c.format-2.ensures.text) (c.as_bytes-5.ensures.value ∙ c.format-3.ensures.text)
    (c.as_bytes-6.ensures.value ∙ c.format-4.ensures.text) (c.as_bytes-7.ensures.value ∙ c.format-5.ensures.text)) c.add_line.ensures
