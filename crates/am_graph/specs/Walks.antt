-- The walk that finds the links of a cluster: which nodes it reached, and from which it goes on.
use Rattle.std.specs.Prelude.{◌≡◌, ◌≢◌, ℕ, ◌+◌, ◌<◌, ◌⊎◌, ◌↔◌, if◌then◌else◌, List, Option, Some, None, is_some, Contains, length, slice_index_or}
use Rattle.std.specs.List.{sum_by}
use Rattle.am_domain.specs.declared.link.Edge.{Edge}
use Rattle.am_graph.specs.Lists.{list_at}
use Rattle.am_graph.specs.Graphs.{Leads, start_of, end_of}
use Rattle.am_graph.specs.Clusters.{AreJoined}

-- the cluster that the node was given, if it was reached
abbrev pub cluster_at : List (Option ℕ) → ℕ → Option ℕ
cluster_at clusters node = slice_index_or clusters node None

-- how many nodes were not reached
abbrev pub unreached : List (Option ℕ) → ℕ
unreached clusters = sum_by (λ c. if is_some c then 0 else 1) clusters

-- the node had no cluster, and was given this one
pub record IsReached (cluster : ℕ) (old new : List (Option ℕ)) (node : ℕ) : Type 0 where
  pub had : cluster_at old node ≡ None
  pub has : cluster_at new node ≡ Some cluster

-- of these nodes, those without a cluster were given this one and added to the wave, and no others
pub record Reaches (These : ℕ → Type 0) (cluster : ℕ) (old new : List (Option ℕ)) (before after : List ℕ)
    : Type 0 where
  pub same : length new ≡ length old
  pub each : (node : ℕ)
      → (cluster_at new node ≡ cluster_at old node) ⊎ (IsReached cluster old new node × These node)
  pub all : (node : ℕ) → These node → cluster_at new node ≢ None
  pub wave : (node : ℕ)
      → Contains after node ↔ (Contains before node ⊎ IsReached cluster old new node)
  pub fewer : unreached new + length after ≡ unreached old + length before

-- the node stands in the list of a node of the wave
abbrev pub IsBeside : List (List ℕ) → List ℕ → ℕ → Type 0
IsBeside lists wave node = (near : ℕ) × Contains wave near × Contains (list_at lists near) node

-- the two nodes of each link have one cluster, or none
abbrev pub AreSettled : List Edge → List (Option ℕ) → List (Option ℕ) → Type 0
AreSettled links starts ends =
    (start end cluster : ℕ) → Leads links start end
    → (cluster_at starts start ≡ Some cluster) ↔ (cluster_at ends end ≡ Some cluster)

-- no node has this cluster
abbrev pub IsUnused : ℕ → List (Option ℕ) → Type 0
IsUnused cluster clusters = (node : ℕ) → cluster_at clusters node ≢ Some cluster

-- each node has what it had, or had no cluster and was given this one
pub record Adds (cluster : ℕ) (old new : List (Option ℕ)) : Type 0 where
  pub same : length new ≡ length old
  pub each : (node : ℕ) → (cluster_at new node ≡ cluster_at old node) ⊎ IsReached cluster old new node

-- some link begins at the node, and all that do are joined with this one
pub record BeginsJoined (links : List Edge) (link node : ℕ) : Type 0 where
  pub number : ℕ
  pub within : number < length links
  pub begins : start_of links number ≡ node
  pub all : (k : ℕ) → k < length links → start_of links k ≡ node → AreJoined links link k

-- some link ends at the node, and all that do are joined with this one
pub record EndsJoined (links : List Edge) (link node : ℕ) : Type 0 where
  pub number : ℕ
  pub within : number < length links
  pub ends : end_of links number ≡ node
  pub all : (k : ℕ) → k < length links → end_of links k ≡ node → AreJoined links link k

-- the walk from a link gave the cluster to its node, and to others that are joined with it, and left nothing to do
pub record Walks (links : List Edge) (link cluster : ℕ) (old_starts old_ends new_starts new_ends : List (Option ℕ))
    : Type 0 where
  pub starts : Adds cluster old_starts new_starts
  pub ends : Adds cluster old_ends new_ends
  pub settled : AreSettled links new_starts new_ends
  pub here : cluster_at new_starts (start_of links link) ≡ Some cluster
  pub begin_joined : (node : ℕ) → cluster_at new_starts node ≡ Some cluster → BeginsJoined links link node
  pub end_joined : (node : ℕ) → cluster_at new_ends node ≡ Some cluster → EndsJoined links link node

-- the link is the first whose start has the cluster
pub record IsFirst (links : List Edge) (starts : List (Option ℕ)) (cluster link : ℕ) : Type 0 where
  pub here : cluster_at starts (start_of links link) ≡ Some cluster
  pub before : (k : ℕ) → k < link → cluster_at starts (start_of links k) ≢ Some cluster

-- the clusters of the first so many links were found: each node of theirs has its cluster's number
pub record AreFound (links : List Edge) (done count : ℕ) (starts ends : List (Option ℕ)) : Type 0 where
  pub settled : AreSettled links starts ends
  pub reached : (k : ℕ) → k < done → cluster_at starts (start_of links k) ≢ None
  pub below : (node cluster : ℕ) → cluster_at starts node ≡ Some cluster → cluster < count
  pub begun : (node cluster : ℕ) → cluster_at starts node ≡ Some cluster
      → (k : ℕ) × (k < length links) × (start_of links k ≡ node)
  pub ended : (node cluster : ℕ) → cluster_at ends node ≡ Some cluster
      → (k : ℕ) × (k < length links) × (end_of links k ≡ node)
  pub joined : (a b cluster : ℕ) → a < length links → b < length links
      → cluster_at starts (start_of links a) ≡ Some cluster
      → cluster_at starts (start_of links b) ≡ Some cluster → AreJoined links a b
  pub first : (cluster : ℕ) → cluster < count
      → (link : ℕ) × (link < done) × IsFirst links starts cluster link
  -- a link of each lower cluster stands before each link of a cluster
  pub order : (link cluster lower : ℕ) → link < length links
      → cluster_at starts (start_of links link) ≡ Some cluster → lower < cluster
      → (k : ℕ) × (k < link) × (cluster_at starts (start_of links k) ≡ Some lower)
