-- What a loss table is made over: clusters and the whole network, each with the nodes where packets come in and those
-- where they go out (RFC 9342, sections 4 and 5).
use Rattle.std.specs.Prelude.{◌≡◌, ℕ, Bool, List, filter, length, not}
use Rattle.std.specs.List.{range_with_len}
use Rattle.am_domain.specs.Domains.{DomainValue}
use Rattle.am_domain.specs.Network.{has_links_in, has_links_out}
use Rattle.am_graph.specs.Lists.{list_at}
use Rattle.am_graph.specs.Graphs.{graph_of}
use Rattle.am_graph.specs.Clusters.{ClustersValue, AreClusters, ArePartedAt}
use Rattle.am_control.specs.declared.row.Scope.{Scope}
use Rattle.am_control.specs.declared.row.Scope.TheVariants.{Cluster, Network}

-- the clusters; the network's entries and exits; how many flows there are; and the reported blocks, from `first` on
-- and below `end`
pub record LossPlan : Type 0 where
  pub clusters : ClustersValue
  pub entries : List ℕ
  pub exits : List ℕ
  pub flows : ℕ
  pub first : ℕ
  pub end : ℕ

-- the first so many nodes, without those that have it
abbrev pub nodes_without : (ℕ → Bool) → ℕ → List ℕ
nodes_without has count = filter (λ node. not (has node)) (range_with_len 0 count)

-- the plan is that of the domain: its clusters, its flows and its reported blocks; packets enter the network where no
-- link ends, and leave it where none begins
pub record IsPlanOf (d : DomainValue) (p : LossPlan) : Type 0 where
  pub clusters : AreClusters (graph_of d) p.clusters
  pub parted : ArePartedAt (graph_of d) p.clusters
  pub entries : p.entries ≡ nodes_without (has_links_in d.links) (length d.nodes)
  pub exits : p.exits ≡ nodes_without (has_links_out d.links) (length d.nodes)
  pub flows : p.flows ≡ length d.flows
  pub first : p.first ≡ d.first
  pub end : p.end ≡ d.end

-- the nodes where packets enter: the starts of a cluster, or the network's entries
abbrev pub entering : LossPlan → Scope → List ℕ
entering p (Cluster k) = list_at p.clusters.starts k
entering p Network = p.entries

-- the nodes where they leave: the ends of a cluster, or the network's exits
abbrev pub leaving : LossPlan → Scope → List ℕ
leaving p (Cluster k) = list_at p.clusters.ends k
leaving p Network = p.exits
