-- What was lost in the network, as a sum over its clusters.
use Rattle.std.proofs.Common.{◌≡◌, ◌∙◌, ℕ, zero, suc, ◌<◌, Bool, true, eqb, List, [], ◌∷◌, length, get_or, refl, sym, subst, arith, inl, inr}
use Rattle.std.specs.Prelude.{ℤ, pos, ◌+ℤ◌, ◌-ℤ◌, fold, map, not, sum_by, Contains}
use Rattle.std.specs.List.{list_any, range_with_len}
use Rattle.std.proofs.lemmas.Bool.{eqb-true, eq-eqb, or_left, or_right, or_cases}
use Rattle.std.proofs.lemmas.Int.{ints}
use Rattle.std.proofs.lemmas.List.Sums.{sum_by-cons}
use Rattle.std.proofs.lemmas.List.Filters.{sum_by-filter_both}
use Rattle.am_domain.specs.declared.link.Edge.{Edge}
use Rattle.am_domain.specs.Domains.{DomainValue, IsLawful}
use Rattle.am_domain.specs.Network.{has_links_in, has_links_out}
use Rattle.am_graph.specs.Lists.{list_at}
use Rattle.am_graph.specs.Graphs.{start_of, end_of}
use Rattle.am_graph.specs.Clusters.{count_of}
use Rattle.am_control.specs.declared.row.Scope.TheVariants.{Network}
use Rattle.am_control.specs.Plans.{LossPlan, IsPlanOf}
use Rattle.am_control.specs.Rows.{Measured, node_cell, side_cell, loss_row, lost_in, lost_in_clusters}
use Rattle.am_control.proofs.SumLemmas.{ArePartsOf, sum-of-parts}
use Rattle.am_control.proofs.SideLemmas.{start-node, end-node}

-- differences add up to the difference of the sums
differences : (a b : ℕ → ℕ) (xs : List ℕ) (z : ℤ)
    → fold ◌+ℤ◌ z (map (λ k. pos (a k) -ℤ pos (b k)) xs) ≡ z +ℤ (pos (sum_by a xs) -ℤ pos (sum_by b xs))
differences a b [] z = omega (arith, ints)
differences a b (x ∷ xs) z =
    let rest = differences a b xs (z +ℤ (pos (a x) -ℤ pos (b x))) in
    rest ∙ omega (arith, ints, sum_by-cons a x xs, sum_by-cons b x xs)

-- a link that passes a test, and that there is one
any-there : (p : Edge → Bool) (links : List Edge) (d : Edge) → list_any p links ≡ true
    → (k : ℕ) × (k < length links) × (p (get_or links k d) ≡ true)
any-there p [] d h = absurd (cc h)
any-there p (e ∷ es) d h = elim (or_cases (p e) (list_any p es) h) [
  | inl here ↦ (0, omega arith, here)
  | inr there ↦ let r = any-there p es d there in (suc r.0, omega (arith, r.1), r.2)
]

there-any : (p : Edge → Bool) (links : List Edge) (d : Edge) (k : ℕ) → k < length links → p (get_or links k d) ≡ true
    → list_any p links ≡ true
there-any p [] d k below h = absurd (omega arith)
there-any p (e ∷ es) d zero below h = or_left (p e) (list_any p es) h
there-any p (e ∷ es) d (suc k) below h = or_right (p e) (list_any p es) (there-any p es d k (omega arith) h)

module _ (d : DomainValue) (p : LossPlan) (lawful : IsLawful d) (of : IsPlanOf d p) where
  -- each node at which a link begins is a start of one cluster
  starts-parted : ArePartsOf (has_links_out d.links) (length d.nodes) (count_of p.clusters) (λ k. list_at p.clusters.starts k)
  starts-parted = record {
    ascend = λ k h. (of.clusters.starts k h).ascends;
    passes = λ v k h c.
        let start = ((of.clusters.starts k h).has v).0 c in (
          start-node d p lawful of.clusters k v start,
          there-any (λ e. eqb e.from v) d.links (record { from = 0; to = 0 }) start.0
              (omega (arith, start.1.within, of.clusters.each)) (eq-eqb (start_of d.links start.0) v start.2),
        );
    stands = λ v below there.
        let link = any-there (λ e. eqb e.from v) d.links (record { from = 0; to = 0 }) there in
        let at : start_of d.links link.0 ≡ v = eqb-true (start_of d.links link.0) v link.2 in
        let one = of.parted.one_start link.0 link.1 in (
          one.cluster,
          one.within,
          subst (λ n. Contains (list_at p.clusters.starts one.cluster) n) at one.here,
          λ j h c. one.only j h (subst (λ n. Contains (list_at p.clusters.starts j) n) (sym at) c),
        );
  }

  -- each node at which one ends is an end of one
  ends-parted : ArePartsOf (has_links_in d.links) (length d.nodes) (count_of p.clusters) (λ k. list_at p.clusters.ends k)
  ends-parted = record {
    ascend = λ k h. (of.clusters.ends k h).ascends;
    passes = λ v k h c.
        let end = ((of.clusters.ends k h).has v).0 c in (
          end-node d p lawful of.clusters k v end,
          there-any (λ e. eqb e.to v) d.links (record { from = 0; to = 0 }) end.0
              (omega (arith, end.1.within, of.clusters.each)) (eq-eqb (end_of d.links end.0) v end.2),
        );
    stands = λ v below there.
        let link = any-there (λ e. eqb e.to v) d.links (record { from = 0; to = 0 }) there in
        let at : end_of d.links link.0 ≡ v = eqb-true (end_of d.links link.0) v link.2 in
        let one = of.parted.one_end link.0 link.1 in (
          one.cluster,
          one.within,
          subst (λ n. Contains (list_at p.clusters.ends one.cluster) n) at one.here,
          λ j h c. one.only j h (subst (λ n. Contains (list_at p.clusters.ends j) n) (sym at) c),
        );
  }

  -- what passed the edge of the network, and the sides of all clusters
  edge-and-sides : (f : ℕ → ℕ)
      → pos (sum_by f p.entries) -ℤ pos (sum_by f p.exits)
      ≡ pos (sum_by (λ k. sum_by f (list_at p.clusters.starts k)) (range_with_len 0 (count_of p.clusters)))
      -ℤ pos (sum_by (λ k. sum_by f (list_at p.clusters.ends k)) (range_with_len 0 (count_of p.clusters)))
  edge-and-sides f =
      let nodes = range_with_len 0 (length d.nodes) in
      let starts = sum-of-parts f (has_links_out d.links) (length d.nodes) (count_of p.clusters) (λ k. list_at p.clusters.starts k) starts-parted in
      let ends = sum-of-parts f (has_links_in d.links) (length d.nodes) (count_of p.clusters) (λ k. list_at p.clusters.ends k) ends-parted in
      let entered = sum_by-filter_both (has_links_in d.links) (λ v. not (has_links_in d.links v)) (λ v. refl) f nodes in
      let left = sum_by-filter_both (has_links_out d.links) (λ v. not (has_links_out d.links v)) (λ v. refl) f nodes in
      rw (of.entries, of.exits) (omega (arith, ints, starts, ends, entered, left))

pub network-lost : (d : DomainValue) (m : Measured) (flow block : ℕ) → IsLawful d → IsPlanOf d m.plan
    → lost_in m Network flow block ≡ lost_in_clusters m flow block
unfolding loss_row side_cell
network-lost d m flow block lawful of =
    let f = λ (v : ℕ). (node_cell m.cells flow block v).count in
    let edge = edge-and-sides d m.plan lawful of f in
    let all = differences (λ k. sum_by f (list_at m.plan.clusters.starts k)) (λ k. sum_by f (list_at m.plan.clusters.ends k))
    (range_with_len 0 (count_of m.plan.clusters)) (pos 0) in
    edge ∙ sym (all ∙ omega (arith, ints))
