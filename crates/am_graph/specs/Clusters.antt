-- Clusters of links (after RFC 9342, section 5). That links are joined until nothing changes, and that clusters are
-- numbered by their least link, is this project's own.
use Rattle.std.specs.Prelude.{◌≡◌, ◌≢◌, ℕ, ◌<◌, ◌⊎◌, ◌↔◌, List, [], ◌∷◌, Contains, length, slice_index}
use Rattle.am_domain.specs.declared.link.Edge.{Edge}
use Rattle.am_graph.specs.Lists.{list_at, IsListOf}
use Rattle.am_graph.specs.Graphs.{GraphValue, start_of, end_of}

-- two links share the node at which they begin, or the one at which they end
abbrev pub AreNeighbours : List Edge → ℕ → ℕ → Type 0
AreNeighbours links a b = (start_of links a ≡ start_of links b) ⊎ (end_of links a ≡ end_of links b)

-- the links of this chain lead from the first link to the last, each a neighbour of the one before
abbrev pub IsLinkChain : List Edge → ℕ → List ℕ → ℕ → Type 0
IsLinkChain links first [] last = first ≡ last
IsLinkChain links first (next ∷ rest) last =
    (next < length links) × AreNeighbours links first next × IsLinkChain links next rest last

-- a chain of links leads from one link to the other
abbrev pub AreJoined : List Edge → ℕ → ℕ → Type 0
AreJoined links a b = (chain : List ℕ) × IsLinkChain links a chain b

-- clusters: the cluster of each link; and of each cluster its links, and the nodes at which these begin and end
pub record ClustersValue : Type 0 where
  pub of_link : List ℕ
  pub links : List (List ℕ)
  pub starts : List (List ℕ)
  pub ends : List (List ℕ)

-- how many clusters there are
abbrev pub count_of : ClustersValue → ℕ
count_of c = length c.links

-- the cluster of the link of this number
abbrev pub cluster_of : ClustersValue → ℕ → ℕ
cluster_of c link = slice_index c.of_link link

-- the link is the cluster's least
pub record IsLeast (c : ClustersValue) (cluster link : ℕ) : Type 0 where
  pub within : link < length c.of_link
  pub here : cluster_of c link ≡ cluster
  pub before : (k : ℕ) → k < link → cluster_of c k ≢ cluster

-- clusters are numbered by their least link: each has one, and it is before those of all clusters of greater number
pub record AreNumbered (c : ClustersValue) : Type 0 where
  pub below : (link : ℕ) → link < length c.of_link → cluster_of c link < count_of c
  pub least : (cluster : ℕ) → cluster < count_of c → (link : ℕ) × IsLeast c cluster link
  pub order : (k l a b : ℕ) → k < l → IsLeast c k a → IsLeast c l b → a < b

-- the link is of the cluster
pub record IsOfCluster (c : ClustersValue) (cluster link : ℕ) : Type 0 where
  pub within : link < length c.of_link
  pub here : cluster_of c link ≡ cluster

-- a link of the cluster begins at the node
abbrev pub IsStart : List Edge → ClustersValue → ℕ → ℕ → Type 0
IsStart links c cluster node = (link : ℕ) × IsOfCluster c cluster link × (start_of links link ≡ node)

-- a link of the cluster ends at the node
abbrev pub IsEnd : List Edge → ClustersValue → ℕ → ℕ → Type 0
IsEnd links c cluster node = (link : ℕ) × IsOfCluster c cluster link × (end_of links link ≡ node)

-- the clusters of a graph: the classes of joined links, with their links, starts and ends
pub record AreClusters (g : GraphValue) (c : ClustersValue) : Type 0 where
  pub each : length c.of_link ≡ length g.links
  -- two links have one cluster exactly where they are joined
  pub joined : (a b : ℕ) → a < length g.links → b < length g.links
      → (cluster_of c a ≡ cluster_of c b) ↔ AreJoined g.links a b
  pub numbered : AreNumbered c
  pub starts_each : length c.starts ≡ count_of c
  pub ends_each : length c.ends ≡ count_of c
  -- the lists ascend, so that each number stands in a list once
  pub links : (k : ℕ) → k < count_of c → IsListOf (IsOfCluster c k) (list_at c.links k)
  pub starts : (k : ℕ) → k < count_of c → IsListOf (IsStart g.links c k) (list_at c.starts k)
  pub ends : (k : ℕ) → k < count_of c → IsListOf (IsEnd g.links c k) (list_at c.ends k)

-- this cluster, and no other, has the node in its list
pub record IsInOne (c : ClustersValue) (lists : List (List ℕ)) (node : ℕ) : Type 0 where
  pub cluster : ℕ
  pub within : cluster < count_of c
  pub here : Contains (list_at lists cluster) node
  pub only : (k : ℕ) → k < count_of c → Contains (list_at lists k) node → k ≡ cluster

-- no two clusters share a start or an end, and none lacks a link of one
pub record ArePartedAt (g : GraphValue) (c : ClustersValue) : Type 0 where
  -- a link that begins at a start of a cluster is of that cluster, and so is one that ends at an end of it
  pub from_start : (k link : ℕ) → k < count_of c → link < length g.links
      → Contains (list_at c.starts k) (start_of g.links link) → cluster_of c link ≡ k
  pub to_end : (k link : ℕ) → k < count_of c → link < length g.links
      → Contains (list_at c.ends k) (end_of g.links link) → cluster_of c link ≡ k
  -- each node at which a link begins is a start of one cluster alone, and each at which one ends an end of one
  pub one_start : (link : ℕ) → link < length g.links → IsInOne c c.starts (start_of g.links link)
  pub one_end : (link : ℕ) → link < length g.links → IsInOne c c.ends (end_of g.links link)

-- a labelling of the links that gives equal labels to links that share a start, or share an end
abbrev pub KeepsTogether : List Edge → (ℕ → ℕ) → Type 0
KeepsTogether links label =
    (a b : ℕ) → a < length links → b < length links → AreNeighbours links a b → label a ≡ label b

-- no finer parting keeps together what shares a start or an end: each labelling that does so gives one label to all
-- links of a cluster
abbrev pub AreFinest : GraphValue → ClustersValue → Type 0
AreFinest g c =
    (label : ℕ → ℕ) → KeepsTogether g.links label
    → (a b : ℕ) → a < length g.links → b < length g.links → cluster_of c a ≡ cluster_of c b → label a ≡ label b
