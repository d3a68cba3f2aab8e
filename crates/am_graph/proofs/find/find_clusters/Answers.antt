use Rattle.std.proofs.Common.{◌≡◌, ◌<◌, ℕ, Some, List, Option, length, get_or, ap, sym, subst, ◌∙◌, arith}
use Rattle.am_domain.specs.declared.link.Edge.{Edge}
use Rattle.am_graph.specs.Lists.{IsListOf, list_at}
use Rattle.am_graph.specs.Graphs.{start_of}
use Rattle.am_graph.specs.Walks.{cluster_at}
use Rattle.am_graph.proofs.FoundLemmas.{ends-below}
use Rattle.am_graph.proofs.ClusterLemmas.{are-clusters, are-parted, are-finest}
use Rattle.am_graph.proofs.find.find_clusters.Goals as goal

pub place_nodes-requires-clause-few : goal.place_nodes-requires-clause-few
place_nodes-requires-clause-few c = omega (arith, ap length c.as_slice-3.ensures.value, c.in_ok-found.ensures.starts_each, c.walk_all.ensures.few_nodes)

pub place_nodes-requires-2-clause-few : goal.place_nodes-requires-2-clause-few
place_nodes-requires-2-clause-few c = omega (arith, ap length c.as_slice-4.ensures.value, c.in_ok-found.ensures.ends_each, c.walk_all.ensures.few_nodes)

pub place_nodes-requires-2-clause-below : goal.place_nodes-requires-2-clause-below
place_nodes-requires-2-clause-below c = λ node cluster has.
    ends-below c.args.graph.now.links (length c.args.graph.now.links) c.in_ok-found.found.count c.in_ok-found.found.starts.items c.in_ok-found.found.ends.items
    node cluster c.in_ok-found.ensures.found (subst (λ e. cluster_at e node ≡ Some cluster) c.as_slice-4.ensures.value has)

-- the cluster of a link, by its start
of-start :
    (links shown : List Edge) (starts seen : List (Option ℕ)) (of_link : List ℕ) (k : ℕ) → shown ≡ links → seen ≡ starts
    → ((k : ℕ) → k < length shown → cluster_at seen (start_of shown k) ≡ Some (get_or of_link k 0))
    → k < length links → cluster_at starts (start_of links k) ≡ Some (get_or of_link k 0)
of-start links shown starts seen of_link k is same value h =
    subst (λ s. cluster_at s (start_of links k) ≡ Some (get_or of_link k 0)) same
    (subst (λ ls. cluster_at seen (start_of ls k) ≡ Some (get_or of_link k 0)) is (value k (omega (arith, h, ap length is))))

pub invariant_of-result : goal.invariant_of-result
invariant_of-result c =
    let links = c.args.graph.now.links in
    let f = c.in_ok-found.found in (
      omega (arith, c.in_ok-links.ensures.each, c.in_ok-found.ensures.few, c.links.ensures.few),
      c.in_ok-starts.ensures.each ∙ sym c.in_ok-links.ensures.each,
      c.in_ok-ends.ensures.each ∙ sym c.in_ok-links.ensures.each,
      λ k h.
          let within : k < length links = omega (arith, h, c.in_ok-of_link.ensures.each, ap length c.links.ensures.value) in
          let value = of-start links c.links.result.now f.starts.items c.as_slice.result.now c.in_ok-of_link.of_link.items k
          c.links.ensures.value c.as_slice.ensures.value c.in_ok-of_link.ensures.value within in
          let less = c.in_ok-found.ensures.found.below (start_of links k) (get_or c.in_ok-of_link.of_link.items k 0) value in
          omega (arith, less, c.in_ok-links.ensures.each),
    )

-- what is answered
abbrev answered : goal.returns-clause-clusters
answered c =
    let links = c.args.graph.now.links in
    let f = c.in_ok-found.found in
    let of_link = c.in_ok-of_link.of_link.items in
    are-clusters c.args.graph.now.nodes links f.count f.starts.items f.ends.items
    (record { of_link = of_link; links = c.in_ok-links.links; starts = c.in_ok-starts.starts; ends = c.in_ok-ends.ends })
    (record {
      found = c.in_ok-found.ensures.found;
      counted = c.in_ok-links.ensures.each;
      starts_each = c.in_ok-starts.ensures.each;
      ends_each = c.in_ok-ends.ensures.each;
      each = c.in_ok-of_link.ensures.each ∙ ap length c.links.ensures.value;
      value = λ k h. of-start links c.links.result.now f.starts.items c.as_slice.result.now of_link k
          c.links.ensures.value c.as_slice.ensures.value c.in_ok-of_link.ensures.value h;
      links_of = λ k h. subst (λ xs. IsListOf (λ x. (x < length xs) × (get_or xs x 0 ≡ k)) (list_at c.in_ok-links.links k)) c.as_slice-2.ensures.value
          (c.in_ok-links.ensures.value k h);
      starts_of = λ k h. subst (λ xs. IsListOf (λ x. cluster_at xs x ≡ Some k) (list_at c.in_ok-starts.starts k)) c.as_slice-3.ensures.value
          (c.in_ok-starts.ensures.value k h);
      ends_of = λ k h. subst (λ xs. IsListOf (λ x. cluster_at xs x ≡ Some k) (list_at c.in_ok-ends.ends k)) c.as_slice-4.ensures.value
          (c.in_ok-ends.ensures.value k h);
    })

pub returns-clause-clusters : goal.returns-clause-clusters
returns-clause-clusters c = answered c

pub returns-clause-parted : goal.returns-clause-parted
returns-clause-parted c = are-parted c.args.graph.now _ (answered c)

pub returns-clause-finest : goal.returns-clause-finest
returns-clause-finest c = are-finest c.args.graph.now _ (answered c)
