-- The laws of worlds.
use Rattle.std.proofs.Common.{ℕ, ◌<◌, List, refl}
use Rattle.am_domain.specs.Domains.{DomainValue}
use Rattle.am_graph.specs.Graphs.{graph_of}
use Rattle.am_graph.specs.Clusters.{ClustersValue, AreClusters, count_of}
use Rattle.am_clock.specs.Times.{Times}
use Rattle.am_world.specs.declared.event.Event.{Event}
use Rattle.am_world.specs.Worlds.{AreJourneys}
use Rattle.am_world.specs.Passes.{sends, sends_delayed}
use Rattle.am_world.specs.Drops.{is_start, is_end, is_inside}
use Rattle.am_world.specs.Laws.{AreConserved}
use Rattle.am_world.proofs.JourneyLemmas.{IsOfSends}
use Rattle.am_world.proofs.ClusterLemmas.{cluster-sides, entry-no-end}
use Rattle.am_world.proofs.ConservationLemmas.{starts-conserved, ends-conserved}

pub sends-only : (t : Times) (flow block : ℕ) → IsOfSends (sends t flow block)
sends-only t flow block = record { hops = λ p link time reading. refl; losses = λ p. refl }

pub delayed-only : (t : Times) (flow block : ℕ) → IsOfSends (sends_delayed t flow block)
delayed-only t flow block = record { hops = λ p link time reading. refl; losses = λ p. refl }

pub conserved : (d : DomainValue) (c : ClustersValue) (events : List Event) (k flow block : ℕ)
    → AreClusters (graph_of d) c → k < count_of c → AreJourneys d events
    → AreConserved d c k (sends d.times flow block) events
conserved d c events k flow block of within journeys = record {
  starts = starts-conserved d (is_inside c k) (is_start c k) (is_end c k) (cluster-sides d c of k within)
      (entry-no-end d c of k within) (sends d.times flow block) (sends-only d.times flow block) events journeys;
  ends = ends-conserved d (is_inside c k) (is_start c k) (is_end c k) (cluster-sides d c of k within)
      (entry-no-end d c of k within) (sends d.times flow block) (sends-only d.times flow block) events journeys;
}
