-- Starts and ends of a cluster: a link is of the cluster exactly where it begins at a start, and where it ends at an end.
use Rattle.std.proofs.Common.{◌≡◌, ◌∙◌, ℕ, zero, suc, ◌<◌, Bool, true, false, eqb, List, [], ◌∷◌, length, get_or, refl, sym, arith, inl, inr}
use Rattle.std.specs.Prelude.{Contains}
use Rattle.std.specs.List.{list_any}
use Rattle.std.proofs.lemmas.Bool.{false≢true, eqb-true, eq-eqb, false_from_ne_true, or_cases, or_left, or_right}
use Rattle.am_domain.specs.declared.link.Edge.{Edge}
use Rattle.am_domain.specs.Network.{has_links_in, has_links_out}
use Rattle.am_domain.specs.Domains.{DomainValue}
use Rattle.am_graph.specs.Lists.{list_at}
use Rattle.am_graph.specs.Graphs.{graph_of, start_of, end_of}
use Rattle.am_graph.specs.Clusters.{ClustersValue, AreClusters, count_of, cluster_of}
use Rattle.am_world.specs.Drops.{is_among, is_start, is_end, is_inside}
use Rattle.am_world.proofs.JourneyLemmas.{AreSides}

-- a number that stands in a list is among its numbers
pub among-from : (xs : List ℕ) (v : ℕ) → Contains xs v → is_among xs v ≡ true
among-from [] v h = absurd (omega (arith, h.1))
among-from (x ∷ xs) v (zero, below, here) = or_left (eqb x v) (is_among xs v) (eq-eqb x v here)
among-from (x ∷ xs) v (suc k, below, here) =
    or_right (eqb x v) (is_among xs v) (among-from xs v (k, omega (arith, below), here))

pub from-among : (xs : List ℕ) (v : ℕ) → is_among xs v ≡ true → Contains xs v
from-among [] v h = absurd (cc h)
from-among (x ∷ xs) v h = elim (or_cases (eqb x v) (is_among xs v) h) [
  | inl here ↦ (0, omega arith, eqb-true x v here)
  | inr there ↦ let r = from-among xs v there in (suc r.0, omega (arith, r.1), r.2)
]

-- a link that passes a test shows that one does
pub there-any : (p : Edge → Bool) (links : List Edge) (e : Edge) (k : ℕ) → k < length links → p (get_or links k e) ≡ true
    → list_any p links ≡ true
there-any p [] e k below h = absurd (omega arith)
there-any p (x ∷ xs) e zero below h = or_left (p x) (list_any p xs) h
there-any p (x ∷ xs) e (suc k) below h = or_right (p x) (list_any p xs) (there-any p xs e k (omega arith) h)

-- at the end of a link a link ends, and at its start one begins
pub end-has : (links : List Edge) (link : ℕ) → link < length links → has_links_in links (end_of links link) ≡ true
end-has links link below =
    there-any (λ e. eqb e.to (end_of links link)) links (record { from = 0; to = 0 }) link below
    (eq-eqb (end_of links link) (end_of links link) refl)

pub start-has : (links : List Edge) (link : ℕ) → link < length links → has_links_out links (start_of links link) ≡ true
start-has links link below =
    there-any (λ e. eqb e.from (start_of links link)) links (record { from = 0; to = 0 }) link below
    (eq-eqb (start_of links link) (start_of links link) refl)

-- two tests that follow from one another are one
pub same-tests : (x y : Bool) → (x ≡ true → y ≡ true) → (y ≡ true → x ≡ true) → x ≡ y
same-tests true y to from = sym (to refl)
same-tests false y to from = sym (false_from_ne_true y (λ h. false≢true (from h)))

module _ (d : DomainValue) (c : ClustersValue) (of : AreClusters (graph_of d) c) (k : ℕ) (within : k < count_of c) where
  -- the sides of a cluster
  pub cluster-sides : AreSides d.links (is_inside c k) (is_start c k) (is_end c k)
  cluster-sides = record {
    begins = λ link below. same-tests (is_start c k (start_of d.links link)) (is_inside c k link)
        (λ h.
        let at = ((of.starts k within).has (start_of d.links link)).0
        (from-among (list_at c.starts k) (start_of d.links link) h) in
        let one = (of.joined at.0 link (omega (arith, at.1.within, of.each)) below).1
        (link ∷ [], (below, inl at.2, refl)) in
        eq-eqb (cluster_of c link) k (sym one ∙ at.1.here))
        (λ h. among-from (list_at c.starts k) (start_of d.links link)
        (((of.starts k within).has (start_of d.links link)).1 (
          link,
          record { within = omega (arith, of.each); here = eqb-true (cluster_of c link) k h },
          refl,
        )));
    arrives = λ link below. same-tests (is_end c k (end_of d.links link)) (is_inside c k link)
        (λ h.
        let at = ((of.ends k within).has (end_of d.links link)).0
        (from-among (list_at c.ends k) (end_of d.links link) h) in
        let one = (of.joined at.0 link (omega (arith, at.1.within, of.each)) below).1
        (link ∷ [], (below, inr at.2, refl)) in
        eq-eqb (cluster_of c link) k (sym one ∙ at.1.here))
        (λ h. among-from (list_at c.ends k) (end_of d.links link)
        (((of.ends k within).has (end_of d.links link)).1 (
          link,
          record { within = omega (arith, of.each); here = eqb-true (cluster_of c link) k h },
          refl,
        )));
  }

  -- no link ends at an entry, so it is no end
  pub entry-no-end : (node : ℕ) → has_links_in d.links node ≡ false → is_end c k node ≡ false
  entry-no-end node none = false_from_ne_true (is_end c k node) (λ h.
      let at = ((of.ends k within).has node).0 (from-among (list_at c.ends k) node h) in
      let there : has_links_in d.links node ≡ true
      = rw (sym at.2) (end-has d.links at.0 (omega (arith, at.1.within, of.each))) in
      false≢true (sym none ∙ there))

  -- a link begins at a start
  pub start-leads-on : (node : ℕ) → is_start c k node ≡ true → has_links_out d.links node ≡ true
  start-leads-on node h =
      let at = ((of.starts k within).has node).0 (from-among (list_at c.starts k) node h) in
      rw (sym at.2) (start-has d.links at.0 (omega (arith, at.1.within, of.each)))
