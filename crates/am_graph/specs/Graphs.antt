-- The monitored network as a graph: nodes by number, and links that lead one way (RFC 9342, section 4).
use Rattle.std.specs.Prelude.{◌≡◌, ℕ, ◌<◌, ◌↔◌, List, Contains, length, slice_index_or}
use Rattle.am_domain.specs.Domains.{DomainValue}
use Rattle.am_domain.specs.declared.link.Edge.{Edge}
use Rattle.am_graph.specs.Lists.{list_at}

-- a graph: how many nodes there are, and the links in their order, by the numbers of their nodes
pub record GraphValue : Type 0 where
  pub nodes : ℕ
  pub links : List Edge

-- the graph of a domain's network
abbrev pub graph_of : DomainValue → GraphValue
graph_of d = record { nodes = length d.nodes; links = d.links }

-- the link of this number
abbrev pub link_at : List Edge → ℕ → Edge
link_at links number = slice_index_or links number (record { from = 0; to = 0 })

-- the node at which the link of this number begins
abbrev pub start_of : List Edge → ℕ → ℕ
start_of links number = (link_at links number).from

-- the node at which the link of this number ends
abbrev pub end_of : List Edge → ℕ → ℕ
end_of links number = (link_at links number).to

-- some link begins at the first node and ends at the second
pub record Leads (links : List Edge) (start end : ℕ) : Type 0 where
  pub number : ℕ
  pub within : number < length links
  pub begins : start_of links number ≡ start
  pub ends : end_of links number ≡ end

-- the list at each of so many places has the numbers that stand so to the place
pub record IsTable (R : ℕ → ℕ → Type 0) (count : ℕ) (lists : List (List ℕ)) : Type 0 where
  pub each : length lists ≡ count
  pub has : (place item : ℕ) → Contains (list_at lists place) item ↔ R place item

-- the links lead between nodes of the graph, and are tabulated: the nodes to which they lead from each, and from which
pub record IsIndexed (nodes : ℕ) (links : List Edge) (after before : List (List ℕ)) : Type 0 where
  pub starts_within : (k : ℕ) → k < length links → start_of links k < nodes
  pub ends_within : (k : ℕ) → k < length links → end_of links k < nodes
  pub ahead : IsTable (Leads links) nodes after
  pub back : IsTable (λ end start. Leads links start end) nodes before
