-- The command `clusters`: the clusters of a domain's network, a line a cluster.
use Rattle.std.specs.Prelude.{◌≡◌, ℕ, zero, suc, List, [], ◌∷◌, ◌++◌, flat_map, codes, decimal}
use Rattle.am_domain.specs.Values.{NodeValue}
use Rattle.am_domain.specs.Domains.{DomainValue}
use Rattle.am_graph.specs.Lists.{list_at}
use Rattle.am_graph.specs.Graphs.{graph_of}
use Rattle.am_graph.specs.Clusters.{ClustersValue, AreClusters, count_of}
use Rattle.am_chain.specs.Chains.{Chain}
use Rattle.am_chain.specs.Chains.Chain.{Reads, Prints}
use Rattle.am_chain.specs.Inputs.{JudgesDomain}
use Rattle.am_domain.specs.Texts.{IsFileName}
use Rattle.am_run.specs.commands.Check.{name_of}

-- what it is asked: the domain file whose network it is
pub record Clusters : Type 0 where
  pub file : List ℕ

-- the word after `clusters` is DOMAIN, and says this
pub record SaysClustersWords (words : List (List ℕ)) (c : Clusters) : Type 0 where
  pub spelled : words ≡ c.file ∷ []
  pub file_name : IsFileName c.file

-- numbers, each after a space
abbrev pub number_words : List ℕ → List ℕ
number_words numbers = flat_map (λ n. codes " " ++ decimal n) numbers

-- the names of the nodes of these numbers, each after a space
abbrev pub name_words : List NodeValue → List ℕ → List ℕ
name_words nodes numbers = flat_map (λ n. codes " " ++ name_of nodes n) numbers

-- the line of a cluster: its number, its links, and the nodes at which they begin and end
abbrev pub cluster_line : List NodeValue → ClustersValue → ℕ → List ℕ
cluster_line nodes c k =
    codes "cluster " ++ decimal k ++ codes " links" ++ number_words (list_at c.links k) ++ codes " starts" ++ name_words nodes (list_at c.starts k)
    ++ codes " ends" ++ name_words nodes (list_at c.ends k) ++ codes "\n"

-- the lines of the first so many clusters
abbrev pub cluster_lines : List NodeValue → ClustersValue → ℕ → List ℕ
cluster_lines nodes c zero = []
cluster_lines nodes c (suc k) = cluster_lines nodes c k ++ cluster_line nodes c k

-- the lines of the clusters of the domain's network
pub record IsClusterText (d : DomainValue) (text : List ℕ) : Type 0 where
  pub clusters : ClustersValue
  pub are : AreClusters (graph_of d) clusters
  pub printed : text ≡ cluster_lines d.nodes clusters (count_of clusters)

-- the domain is taken, and the lines of its clusters are printed
abbrev pub clusters_chain : Clusters → Chain
clusters_chain c = Reads DomainValue c.file JudgesDomain (λ d. Prints (IsClusterText d))
