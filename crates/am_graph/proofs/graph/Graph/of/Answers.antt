use Rattle.std.proofs.Common.{◌≡◌, ◌<◌, ◌+◌, length, ap, sym, subst, ◌∙◌, arith}
use Rattle.am_graph.specs.Graphs.{IsTable, start_of, end_of}
use Rattle.am_graph.proofs.GraphLemmas.{IsPair, table-more, indexed}
use Rattle.am_graph.proofs.graph.Graph.of.Goals as goal

pub loop-link-preserved : goal.loop-link-preserved
loop-link-preserved c =
    let links = c.as_slice-link-items.result.now in
    let k = c.loop-link.link-index in
    let nodes = length c.nodes-nodes.result.now in
    let all : links ≡ c.args.domain.now.links =
    c.as_slice-link-items.ensures.value ∙ c.in_ok-links.ensures.items_if_clones_equal (λ x y h. h) ∙ c.edges.ensures.value in
    let count = ap length all in
    let within : k < length c.args.domain.now.links = omega (arith, count) in
    let ends = c.nodes-nodes.ensures.lawful.links_within k (record { from = 0; to = 0 }) within in
    let here = subst (λ ls. (start_of ls k < length c.args.domain.now.nodes) × (end_of ls k < length c.args.domain.now.nodes)) (sym all) ends in
    let each = ap length c.nodes-nodes.ensures.value in
    let start_within : start_of links k < nodes = omega (arith, here.0, each) in
    let end_within : end_of links k < nodes = omega (arith, here.1, each) in
    record {
      ahead = subst (IsTable (IsPair (start_of links) (end_of links) (k + 1)) nodes) (sym c.in_ok-push.ensures)
          (table-more (start_of links) (end_of links) k nodes c.loop-link.ahead start_within c.loop-link.invariant.ahead);
      back = subst (IsTable (IsPair (end_of links) (start_of links) (k + 1)) nodes) (sym c.in_ok-push-2.ensures)
          (table-more (end_of links) (start_of links) k nodes c.loop-link.back end_within c.loop-link.invariant.back);
    }

pub invariant_of-result : goal.invariant_of-result
invariant_of-result c =
    let links = c.in_ok-links.links.items in
    let nodes = length c.nodes-nodes.result.now in
    let same : links ≡ c.args.domain.now.links = c.in_ok-links.ensures.items_if_clones_equal (λ x y h. h) ∙ c.edges.ensures.value in
    let count = ap length same in
    let shown = c.as_slice-link-items.ensures.value in
    let each = ap length c.nodes-nodes.ensures.value in
    let all : c.loop-link.link-index ≡ length links = omega (arith, ap length shown) in
    let lawful = c.nodes-nodes.ensures.lawful in (
      indexed nodes c.loop-link.link-index links c.loop-link.ahead c.loop-link.back all
          (λ k h.
          let ends = subst (λ ls. (start_of ls k < length c.args.domain.now.nodes) × (end_of ls k < length c.args.domain.now.nodes)) (sym same)
          (lawful.links_within k (record { from = 0; to = 0 }) (omega (arith, h, count))) in
          (omega (arith, ends.0, each), omega (arith, ends.1, each)))
          (subst (λ ls. IsTable (IsPair (start_of ls) (end_of ls) c.loop-link.link-index) nodes c.loop-link.ahead) shown c.loop-link.invariant.ahead)
          (subst (λ ls. IsTable (IsPair (end_of ls) (start_of ls) c.loop-link.link-index) nodes c.loop-link.back) shown c.loop-link.invariant.back),
      omega (arith, count, lawful.few_links),
      omega (arith, each, lawful.few_nodes),
    )
