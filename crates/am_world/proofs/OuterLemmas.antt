-- The nodes where packets enter the network, and those where they leave it.
use Rattle.std.proofs.Common.{◌≡◌, ◌∙◌, ℕ, zero, suc, ◌+◌, ◌<◌, ◌≤◌, Bool, true, false, List, ◌∷◌, length, get_or, refl, sym, ap, arith, inl, inr}
use Rattle.std.specs.Prelude.{Contains, not, filter}
use Rattle.std.specs.List.{range_with_len}
use Rattle.std.proofs.lemmas.Bool.{false≢true, cases_Bool, false_from_ne_true}
use Rattle.std.proofs.lemmas.List.{get_or_default}
use Rattle.std.proofs.lemmas.List.FromFn.{length-range_with_len, get_or-range_with_len}
use Rattle.am_domain.specs.Network.{has_links_in, has_links_out}
use Rattle.am_domain.specs.Domains.{DomainValue, IsLawful}
use Rattle.am_graph.specs.Lists.{Ascends}
use Rattle.am_graph.specs.Graphs.{start_of, end_of}
use Rattle.am_control.specs.Plans.{nodes_without}
use Rattle.am_world.specs.Drops.{is_among}
use Rattle.am_world.proofs.SumLemmas.{from-filter, to-filter}
use Rattle.am_world.proofs.ClusterLemmas.{among-from, from-among, end-has, start-has}
use Rattle.am_world.proofs.WayLemmas.{AreOuter}

-- the numbers of a run are within it
in-run : (a n v : ℕ) → Contains (range_with_len a n) v → (a ≤ v) × (v < a + n)
in-run a n v h =
    let below : h.0 < n = omega (arith, h.1, length-range_with_len a n) in
    let is = get_or-range_with_len a n h.0 v below in
    (omega (arith, h.2, is), omega (arith, h.2, is, below))

to-run : (n v : ℕ) → v < n → Contains (range_with_len 0 n) v
to-run n v below = (v, omega (arith, below, length-range_with_len 0 n), get_or-range_with_len 0 n v v below ∙ omega arith)

-- what is below all items of an ascending list may stand before them
ascends-cons : (x : ℕ) (xs : List ℕ) → ((v : ℕ) → Contains xs v → x < v) → Ascends xs → Ascends (x ∷ xs)
ascends-cons x xs below up zero zero less within = absurd (omega (arith, less))
ascends-cons x xs below up zero (suc j) less within =
    below (get_or xs j 0) (j, omega (arith, within), get_or_default xs j (get_or xs j 0) 0 (omega (arith, within)))
ascends-cons x xs below up (suc i) zero less within = absurd (omega (arith, less))
ascends-cons x xs below up (suc i) (suc j) less within = up i j (omega (arith, less)) (omega (arith, within))

filter-ascends : (test : ℕ → Bool) (n a : ℕ) → Ascends (filter test (range_with_len a n))
filter-ascends test zero a = λ i j less within. absurd (omega (arith, within))
filter-ascends test (suc n) a =
    elim (cases_Bool (test a)) [
      | inl there ↦ rw there (ascends-cons a (filter test (range_with_len (a + 1) n)) (λ v h.
          let at = in-run (a + 1) n v (from-filter test (range_with_len (a + 1) n) v h).0 in
          omega (arith, at.0)) (filter-ascends test n (a + 1)))
      | inr away ↦ rw away (filter-ascends test n (a + 1))
    ]

pub without-ascends : (has : ℕ → Bool) (n : ℕ) → Ascends (nodes_without has n)
without-ascends has n = filter-ascends (λ node. not (has node)) n 0

not-true : (b : Bool) → not b ≡ true → b ≡ false
not-true false h = refl
not-true true h = absurd (false≢true h)

pub without-from : (has : ℕ → Bool) (n v : ℕ) → Contains (nodes_without has n) v → (v < n) × (has v ≡ false)
without-from has n v h =
    let at = from-filter (λ node. not (has node)) (range_with_len 0 n) v h in
    (omega (arith, (in-run 0 n v at.0).1), not-true (has v) at.1)

without-to : (has : ℕ → Bool) (n v : ℕ) → v < n → has v ≡ false → is_among (nodes_without has n) v ≡ true
without-to has n v below none =
    among-from (nodes_without has n) v
    (to-filter (λ node. not (has node)) (range_with_len 0 n) v (to-run n v below) (ap not none))

without-not : (has : ℕ → Bool) (n v : ℕ) → has v ≡ true → is_among (nodes_without has n) v ≡ false
without-not has n v there = false_from_ne_true (is_among (nodes_without has n) v) (λ h.
    false≢true (sym (without-from has n v (from-among (nodes_without has n) v h)).1 ∙ there))

-- packets enter where no link ends, and leave where none begins
pub nodes-outer : (d : DomainValue) → IsLawful d
    → AreOuter d (is_among (nodes_without (has_links_in d.links) (length d.nodes)))
    (is_among (nodes_without (has_links_out d.links) (length d.nodes)))
nodes-outer d lawful = record {
  enters = λ node below none. without-to (has_links_in d.links) (length d.nodes) node below none;
  inside = λ link below. without-not (has_links_in d.links) (length d.nodes) (end_of d.links link) (end-has d.links link below);
  goes_on = λ link below.
      without-not (has_links_out d.links) (length d.nodes) (start_of d.links link) (start-has d.links link below);
  leaves = λ link below. elim (cases_Bool (has_links_out d.links (end_of d.links link))) [
    | inl on ↦ without-not (has_links_out d.links) (length d.nodes) (end_of d.links link) on ∙ sym (ap not on)
    | inr out ↦
        without-to (has_links_out d.links) (length d.nodes) (end_of d.links link)
        (lawful.links_within link (record { from = 0; to = 0 }) below).1 out
        ∙ sym (ap not out)
  ];
}
