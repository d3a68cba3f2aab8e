-- A word that names a node of a domain.
use Rattle.std.specs.Prelude.{ℕ, List, Option, Some, None, bytes_eq}
use Rattle.std.specs.List.{position}
use Rattle.am_domain.specs.Domains.{DomainValue}
use Rattle.am_domain.specs.Values.{NodeValue}
use Rattle.am_chain.specs.Answers.Reason.{UnknownNode}
use Rattle.am_chain.specs.Chains.{Chain}
use Rattle.am_chain.specs.Chains.Chain.{Refuses}

-- the number of the domain's node of this name, if it has one
abbrev pub node_named : DomainValue → List ℕ → Option ℕ
node_named d name = position (λ (n : NodeValue). bytes_eq n.name name) d.nodes

-- a node is taken by its number; a name that no node has is refused, and no file with it
abbrev pub at_node : Option ℕ → (ℕ → Chain) → Chain
at_node None next = Refuses None UnknownNode
at_node (Some node) next = next node
