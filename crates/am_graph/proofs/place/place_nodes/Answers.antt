use Rattle.std.proofs.Common.{◌≡◌, ℕ, ◌+◌, ◌<◌, ◌++◌, ◌∷◌, [], Some, None, arith, rules, sym, ap, subst, ◌∙◌, length}
use Rattle.std.proofs.Math.ListN.{length-set}
use Rattle.am_graph.specs.Lists.{list_at, with_item, IsListOf}
use Rattle.am_graph.specs.Walks.{cluster_at}
use Rattle.am_graph.proofs.WalkLemmas.{same-some, some-not_none, within-some}
use Rattle.am_graph.proofs.PlaceLemmas.{lists-more, lists-same, list-same}
use Rattle.am_graph.proofs.place.place_nodes.Goals as goal
use Rattle.am_graph.proofs.place.place_nodes.Goals.{in-Some+in_ok-push, in_default}

pub loop-node-preserved : goal.loop-node-preserved
loop-node-preserved c =
    let node = c.loop-node.node in
    let lists = c.loop-node.lists in
    let clusters = c.args.clusters.now in
    elim c.match-clusters-node.branch [
      | in-Some+in_ok-push w ↦ (
          let cluster = w.in-Some.cluster in
          let has : cluster_at clusters node ≡ Some cluster = search rules in
          let new : c.match-clusters-node.lists ≡ with_item lists cluster node = w.lists-is ∙ w.in_ok-push.ensures in
          let within : cluster < length lists = omega (arith, c.requires.below node cluster has, c.loop-node.invariant.each) in
          let same = length-set lists cluster (list_at lists cluster ++ node ∷ []) in
          record {
            each = ap length new ∙ same ∙ c.loop-node.invariant.each;
            value = subst (λ ls. (d : ℕ) → d < length ls → IsListOf (λ x. (x < node + 1) × (cluster_at clusters x ≡ Some d)) (list_at ls d)) (sym new)
                (λ d h. lists-more (λ d x. cluster_at clusters x ≡ Some d) node cluster lists within has
                (λ d e. same-some (cluster_at clusters node) d cluster e has) c.loop-node.invariant.value d (omega (arith, h, same)));
          }
          )
      | in_default w ↦ (
          let none : cluster_at clusters node ≡ None = search rules in
          record {
            each = ap length w.lists-is ∙ c.loop-node.invariant.each;
            value = subst (λ ls. (d : ℕ) → d < length ls → IsListOf (λ x. (x < node + 1) × (cluster_at clusters x ≡ Some d)) (list_at ls d)) (sym w.lists-is)
                (lists-same (λ d x. cluster_at clusters x ≡ Some d) node lists (λ d e. some-not_none (cluster_at clusters node) d e none) c.loop-node.invariant.value);
          }
          )
    ]

pub returns-clause-value : goal.returns-clause-value
returns-clause-value c = λ cluster h.
    let all : c.loop-node.node ≡ length c.args.clusters.now = omega arith in
    list-same (λ x. (x < c.loop-node.node) × (cluster_at c.args.clusters.now x ≡ Some cluster)) (λ x. cluster_at c.args.clusters.now x ≡ Some cluster)
    (list_at c.loop-node.lists cluster)
    (λ x p. p.1)
    (λ x has. (let less = within-some c.args.clusters.now x cluster has in omega (arith, less, all), has))
    (c.loop-node.invariant.value cluster (omega (arith, h, c.loop-node.invariant.each)))
