-- The sides of a domain's plan: lists of few nodes.
use Rattle.std.proofs.Common.{◌≡◌, ◌∙◌, ℕ, zero, suc, ◌+◌, ◌<◌, ◌≤◌, Bool, true, false, List, [], ◌∷◌, ◌++◌, length, get_or, refl, ap, arith, add-zero, add-one, zero-add}
use Rattle.std.proofs.lemmas.List.{append-nil}
use Rattle.std.specs.Prelude.{Contains, filter, not}
use Rattle.std.specs.List.{range_with_len}
use Rattle.std.proofs.lemmas.List.Elements.{filter-append, All-filter, All-from_get_or, Contains-get_or}
use Rattle.std.proofs.lemmas.List.FromFn.{length-range_with_len, get_or-range_with_len}
use Rattle.std.proofs.lemmas.List.Sums.{length-filter, count_by-le-length}
use Rattle.am_domain.specs.Network.{has_links_in, has_links_out}
use Rattle.am_domain.specs.Domains.{DomainValue, IsLawful}
use Rattle.am_graph.specs.Lists.{Ascends, list_at}
use Rattle.am_graph.specs.Graphs.{graph_of, start_of, end_of}
use Rattle.am_graph.specs.Clusters.{AreClusters, IsStart, IsEnd}
use Rattle.am_control.specs.Plans.{LossPlan, IsPlanOf, nodes_without}
use Rattle.am_control.specs.Controls.{IsSide, HasSides}

-- in an ascending list no number is below its place
ascends-above : (xs : List ℕ) → Ascends xs → (i : ℕ) → i < length xs → i ≤ get_or xs i 0
ascends-above xs up zero within = omega arith
ascends-above xs up (suc i) within =
    let before = ascends-above xs up i (omega arith) in
    let step : get_or xs i 0 < get_or xs (suc i) 0 = up i (suc i) (omega arith) within in
    omega (arith, before, step)

few-below : (n l : ℕ) (xs : List ℕ) → length xs ≡ l → Ascends xs → ((v : ℕ) → Contains xs v → v < n) → l ≤ n
few-below n zero xs long up below = omega arith
few-below n (suc l) xs long up below =
    let last = ascends-above xs up l (omega arith) in
    let top = below (get_or xs l 0) (Contains-get_or xs l 0 (omega arith)) in
    omega (arith, last, top)

-- an ascending list of nodes is a side
side-listed : (n : ℕ) (xs : List ℕ) → n ≤ 128 → Ascends xs → ((v : ℕ) → Contains xs v → v < n) → IsSide n xs
side-listed n xs small up below = record {
  within = All-from_get_or (λ v. v < n) xs 0 (λ i h. below (get_or xs i 0) (Contains-get_or xs i 0 h));
  few = omega (arith, few-below n (length xs) xs refl up below);
}

-- the nodes without something are one too
pub side-without : (has : ℕ → Bool) (n : ℕ) → n ≤ 128 → IsSide n (nodes_without has n)
side-without has n small = record {
  within = All-filter (λ node. not (has node)) (λ v. v < n) (range_with_len 0 n)
      (All-from_get_or (λ v. v < n) (range_with_len 0 n) 0
      (λ i h. let e = get_or-range_with_len 0 n i 0 (omega (arith, h, length-range_with_len 0 n)) in
      omega (arith, e, h, length-range_with_len 0 n)));
  few = omega (
    arith,
    length-filter (λ node. not (has node)) (range_with_len 0 n),
    count_by-le-length (λ node. not (has node)) (range_with_len 0 n),
    length-range_with_len 0 n,
  );
}

-- a start of a cluster is a node of the domain, and so is an end
pub start-node : (d : DomainValue) (p : LossPlan) → IsLawful d → AreClusters (graph_of d) p.clusters → (k v : ℕ)
    → IsStart d.links p.clusters k v → v < length d.nodes
start-node d p lawful are k v (link, is, at) =
    let within : link < length d.links = omega (arith, is.within, are.each) in
    let node : start_of d.links link < length d.nodes = (lawful.links_within link (record { from = 0; to = 0 }) within).0 in
    omega (arith, node, at)

pub end-node : (d : DomainValue) (p : LossPlan) → IsLawful d → AreClusters (graph_of d) p.clusters → (k v : ℕ)
    → IsEnd d.links p.clusters k v → v < length d.nodes
end-node d p lawful are k v (link, is, at) =
    let within : link < length d.links = omega (arith, is.within, are.each) in
    let node : end_of d.links link < length d.nodes = (lawful.links_within link (record { from = 0; to = 0 }) within).1 in
    omega (arith, node, at)

-- each side of a domain's plan has nodes of the domain
pub plan-sides : (d : DomainValue) (p : LossPlan) → IsLawful d → IsPlanOf d p → HasSides (length d.nodes) p
plan-sides d p lawful of = record {
  starts_each = of.clusters.starts_each;
  ends_each = of.clusters.ends_each;
  starts = λ k h.
      let listed = of.clusters.starts k h in
      side-listed (length d.nodes) (list_at p.clusters.starts k) lawful.few_nodes listed.ascends
      (λ v c. start-node d p lawful of.clusters k v ((listed.has v).0 c));
  ends = λ k h.
      let listed = of.clusters.ends k h in
      side-listed (length d.nodes) (list_at p.clusters.ends k) lawful.few_nodes listed.ascends
      (λ v c. end-node d p lawful of.clusters k v ((listed.has v).0 c));
  entries = rw of.entries (side-without (has_links_in d.links) (length d.nodes) lawful.few_nodes);
  exits = rw of.exits (side-without (has_links_out d.links) (length d.nodes) lawful.few_nodes);
}

-- one number more
pub range-more : (a n : ℕ) → range_with_len a (suc n) ≡ range_with_len a n ++ (a + n) ∷ []
range-more a zero = rw (add-zero a) refl
range-more a (suc n) =
    let e : a + 1 + n ≡ a + suc n = omega arith in
    ap (λ (t : List ℕ). a ∷ t) (rw e at (range-more (a + 1) n))

-- one node more, which has it or has it not
without-next : (has : ℕ → Bool) (n : ℕ)
    → nodes_without has (n + 1) ≡ nodes_without has n ++ filter (λ node. not (has node)) (n ∷ [])
without-next has n =
    let longer : range_with_len 0 (n + 1) ≡ range_with_len 0 n ++ n ∷ []
    = ap (λ l. range_with_len 0 l) (add-one n) ∙ range-more 0 n ∙ ap (λ x. range_with_len 0 n ++ x ∷ []) (zero-add n) in
    ap (λ xs. filter (λ node. not (has node)) xs) longer ∙ filter-append (λ node. not (has node)) (range_with_len 0 n) (n ∷ [])

pub without-keeps : (has : ℕ → Bool) (n : ℕ) → has n ≡ true → nodes_without has (n + 1) ≡ nodes_without has n
without-keeps has n there = without-next has n ∙ rw there (append-nil (nodes_without has n))

pub without-adds : (has : ℕ → Bool) (n : ℕ) → has n ≡ false → nodes_without has (n + 1) ≡ nodes_without has n ++ n ∷ []
without-adds has n away = without-next has n ∙ rw away refl
