-- The clusters of a graph, from what the walks found.
use Rattle.std.proofs.Common.{◌≡◌, ℕ, ◌<◌, List, [], ◌∷◌, Option, Some, Contains, length, get_or, inl, inr, refl, sym, ap, ◌∙◌, subst, arith}
use Rattle.std.proofs.lemmas.Bool.{cases_lt}
use Rattle.am_domain.specs.declared.link.Edge.{Edge}
use Rattle.am_graph.specs.Lists.{list_at, IsListOf}
use Rattle.am_graph.specs.Graphs.{GraphValue, Leads, start_of, end_of}
use Rattle.am_graph.specs.Clusters.{IsLinkChain, ClustersValue, count_of, cluster_of, AreNumbered, IsOfCluster, IsStart, IsEnd, AreClusters, ArePartedAt, KeepsTogether, AreFinest}
use Rattle.am_graph.specs.Walks.{AreFound, cluster_at}
use Rattle.am_graph.proofs.WalkLemmas.{joined-one, same-some}
use Rattle.am_graph.proofs.PlaceLemmas.{list-same}

-- a labelling that keeps neighbours together keeps the ends of a chain together
along : (links : List Edge) (label : ℕ → ℕ) (a b : ℕ) (chain : List ℕ) → KeepsTogether links label → a < length links → IsLinkChain links a chain b → label a ≡ label b
along links label a b [] keeps within x = ap label x
along links label a b (next ∷ rest) keeps within x =
    keeps a next within x.0 x.1 ∙ along links label next b rest keeps x.0 x.2

-- what the lists of a graph's clusters are made of
pub record AreMade (links : List Edge) (count : ℕ) (starts ends : List (Option ℕ)) (c : ClustersValue) : Type 0 where
  pub found : AreFound links (length links) count starts ends
  pub counted : length c.links ≡ count
  pub starts_each : length c.starts ≡ count
  pub ends_each : length c.ends ≡ count
  pub each : length c.of_link ≡ length links
  pub value : (k : ℕ) → k < length links → cluster_at starts (start_of links k) ≡ Some (get_or c.of_link k 0)
  pub links_of : (k : ℕ) → k < count → IsListOf (λ x. (x < length c.of_link) × (get_or c.of_link x 0 ≡ k)) (list_at c.links k)
  pub starts_of : (k : ℕ) → k < count → IsListOf (λ x. cluster_at starts x ≡ Some k) (list_at c.starts k)
  pub ends_of : (k : ℕ) → k < count → IsListOf (λ x. cluster_at ends x ≡ Some k) (list_at c.ends k)

leads-itself : (links : List Edge) (k : ℕ) → k < length links → Leads links (start_of links k) (end_of links k)
leads-itself links k within = record { number = k; within = within; begins = refl; ends = refl }

-- the end of a link has its cluster
end-value : (links : List Edge) (count : ℕ) (starts ends : List (Option ℕ)) (c : ClustersValue) (k : ℕ) → AreMade links count starts ends c → k < length links
    → cluster_at ends (end_of links k) ≡ Some (cluster_of c k)
end-value links count starts ends c k m within =
    (m.found.settled (start_of links k) (end_of links k) (cluster_of c k) (leads-itself links k within)).0 (m.value k within)

-- a link whose start has the cluster is of it
start-is : (links : List Edge) (count : ℕ) (starts ends : List (Option ℕ)) (c : ClustersValue) (k cluster : ℕ) → AreMade links count starts ends c → k < length links
    → cluster_at starts (start_of links k) ≡ Some cluster → cluster_of c k ≡ cluster
start-is links count starts ends c k cluster m within has = same-some (cluster_at starts (start_of links k)) (cluster_of c k) cluster (m.value k within) has

-- neighbours have one cluster
neighbours-same :
    (links : List Edge) (count : ℕ) (starts ends : List (Option ℕ)) (c : ClustersValue) → AreMade links count starts ends c → KeepsTogether links (cluster_of c)
neighbours-same links count starts ends c m a b x y beside = elim beside [
  | inl e ↦ same-some (cluster_at starts (start_of links b)) (cluster_of c a) (cluster_of c b)
      (subst (λ v. cluster_at starts v ≡ Some (cluster_of c a)) e (m.value a x)) (m.value b y)
  | inr e ↦ same-some (cluster_at ends (end_of links b)) (cluster_of c a) (cluster_of c b)
      (subst (λ v. cluster_at ends v ≡ Some (cluster_of c a)) e (end-value links count starts ends c a m x)) (end-value links count starts ends c b m y)
]

numbered : (links : List Edge) (count : ℕ) (starts ends : List (Option ℕ)) (c : ClustersValue) → AreMade links count starts ends c → AreNumbered c
numbered links count starts ends c m = record {
  below = λ k h. (
      let within : k < length links = omega (arith, h, m.each) in
      let less = m.found.below (start_of links k) (cluster_of c k) (m.value k within) in omega (arith, less, m.counted)
      );
  least = λ k h. (
      let found = m.found.first k (omega (arith, h, m.counted)) in (
        found.0,
        record {
          within = omega (arith, found.1, m.each);
          here = start-is links count starts ends c found.0 k m found.1 found.2.here;
          before = λ j lt e. found.2.before j lt (m.value j (omega (arith, lt, found.1)) ∙ ap (λ n. Some n) e);
        },
      )
      );
  order = λ k l a b lt p q. (
      let within : b < length links = omega (arith, q.within, m.each) in
      let o = m.found.order b l k within (m.value b within ∙ ap (λ n. Some n) q.here) lt in
      let early : o.0 < length links = omega (arith, o.1, within) in
      let same = start-is links count starts ends c o.0 k m early o.2 in
      elim (cases_lt o.0 a) [
        | inl less ↦ absurd (p.before o.0 less same)
        | inr more ↦ omega (arith, more, o.1)
      ]
      );
}

-- what was made are the clusters of the graph
pub are-clusters : (nodes : ℕ) (links : List Edge) (count : ℕ) (starts ends : List (Option ℕ)) (c : ClustersValue) → AreMade links count starts ends c
    → AreClusters (record { nodes = nodes; links = links }) c
are-clusters nodes links count starts ends c m = record {
  each = m.each;
  joined = λ a b x y. (
    λ e. m.found.joined a b (cluster_of c a) x y (m.value a x) (m.value b y ∙ ap (λ n. Some n) (sym e)),
    λ j. along links (cluster_of c) a b j.0 (neighbours-same links count starts ends c m) x j.1,
  );
  numbered = numbered links count starts ends c m;
  starts_each = m.starts_each ∙ sym m.counted;
  ends_each = m.ends_each ∙ sym m.counted;
  links = λ k h. list-same (λ x. (x < length c.of_link) × (get_or c.of_link x 0 ≡ k)) (IsOfCluster c k) (list_at c.links k)
      (λ x p. record { within = p.0; here = p.1 })
      (λ x p. (p.within, p.here))
      (m.links_of k (omega (arith, h, m.counted)));
  starts = λ k h. list-same (λ x. cluster_at starts x ≡ Some k) (IsStart links c k) (list_at c.starts k)
      (λ x has. (
      let b = m.found.begun x k has in
      (b.0, record { within = omega (arith, b.1, m.each); here = start-is links count starts ends c b.0 k m b.1 (ap (cluster_at starts) b.2 ∙ has) }, b.2)
      ))
      (λ x p. (
      let within : p.0 < length links = omega (arith, p.1.within, m.each) in
      ap (cluster_at starts) (sym p.2) ∙ m.value p.0 within ∙ ap (λ n. Some n) p.1.here
      ))
      (m.starts_of k (omega (arith, h, m.counted)));
  ends = λ k h. list-same (λ x. cluster_at ends x ≡ Some k) (IsEnd links c k) (list_at c.ends k)
      (λ x has. (
      let b = m.found.ended x k has in
      let back = (m.found.settled (start_of links b.0) (end_of links b.0) k (leads-itself links b.0 b.1)).1 (ap (cluster_at ends) b.2 ∙ has) in
      (b.0, record { within = omega (arith, b.1, m.each); here = start-is links count starts ends c b.0 k m b.1 back }, b.2)
      ))
      (λ x p. (
      let within : p.0 < length links = omega (arith, p.1.within, m.each) in
      ap (cluster_at ends) (sym p.2) ∙ end-value links count starts ends c p.0 m within ∙ ap (λ n. Some n) p.1.here
      ))
      (m.ends_of k (omega (arith, h, m.counted)));
}

from-start : (g : GraphValue) (c : ClustersValue) (k link : ℕ) → AreClusters g c → k < count_of c → link < length g.links
    → Contains (list_at c.starts k) (start_of g.links link) → cluster_of c link ≡ k
from-start g c k link a h within has =
    let s = ((a.starts k h).has (start_of g.links link)).0 has in
    let other : s.0 < length g.links = omega (arith, s.1.within, a.each) in
    sym ((a.joined s.0 link other within).1 (joined-one g.links s.0 link within (inl s.2))) ∙ s.1.here

to-end : (g : GraphValue) (c : ClustersValue) (k link : ℕ) → AreClusters g c → k < count_of c → link < length g.links
    → Contains (list_at c.ends k) (end_of g.links link) → cluster_of c link ≡ k
to-end g c k link a h within has =
    let s = ((a.ends k h).has (end_of g.links link)).0 has in
    let other : s.0 < length g.links = omega (arith, s.1.within, a.each) in
    sym ((a.joined s.0 link other within).1 (joined-one g.links s.0 link within (inr s.2))) ∙ s.1.here

-- clusters share no start and no end
pub are-parted : (g : GraphValue) (c : ClustersValue) → AreClusters g c → ArePartedAt g c
are-parted g c a = record {
  from_start = λ k link h within has. from-start g c k link a h within has;
  to_end = λ k link h within has. to-end g c k link a h within has;
  one_start = λ link within. (
      let there : link < length c.of_link = omega (arith, within, a.each) in
      let less = a.numbered.below link there in
      record {
        cluster = cluster_of c link;
        within = less;
        here = ((a.starts (cluster_of c link) less).has (start_of g.links link)).1 (link, record { within = there; here = refl }, refl);
        only = λ k h has. sym (from-start g c k link a h within has);
      }
      );
  one_end = λ link within. (
      let there : link < length c.of_link = omega (arith, within, a.each) in
      let less = a.numbered.below link there in
      record {
        cluster = cluster_of c link;
        within = less;
        here = ((a.ends (cluster_of c link) less).has (end_of g.links link)).1 (link, record { within = there; here = refl }, refl);
        only = λ k h has. sym (to-end g c k link a h within has);
      }
      );
}

-- no finer parting keeps neighbours together
pub are-finest : (g : GraphValue) (c : ClustersValue) → AreClusters g c → AreFinest g c
are-finest g c a label keeps x y p q same = (
    let j = (a.joined x y p q).0 same in along g.links label x y j.0 keeps p j.1
    )
