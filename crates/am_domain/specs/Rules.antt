-- How the parts of a domain file are held against one another: the rules in their order, and the first that is broken.
use Rattle.std.specs.Prelude.{◌≡◌, ◌≢◌, ℕ, ◌-◌, ◌*◌, ◌<◌, ◌≤◌, List, [], ◌∷◌, length, take}
use Rattle.std.specs.List.{AllByRecursion, AllZip}
use Rattle.am_clock.specs.Times.{IsTiming}
use Rattle.am_clock.specs.Refusals.{IsFirstFault}
use Rattle.am_domain.specs.Values.{FlowValue, NodeValue, LinkValue}
use Rattle.am_domain.specs.Fields.{FieldsValue}
use Rattle.am_domain.specs.Lists.{AllBelow, IsFirstPlace, DistinctBelow, IsFirstPair}
use Rattle.am_domain.specs.Network.{IsBetween, IsLoose, Joins, SameEnds, HasLink, IsLone, IsFirstBlock, IsEndBlock}
use Rattle.am_domain.specs.declared.judge.TheConstants.{MAX_NODES, MAX_LINKS, MAX_FLOWS, MAX_CELLS}
use Rattle.am_domain.specs.declared.link.Edge.{Edge}
use Rattle.am_domain.specs.declared.error.Part.TheVariants as part
use Rattle.am_domain.specs.declared.error.Repeated.TheVariants.{FlowName, FlowId, NodeName}
use Rattle.am_domain.specs.declared.error.DomainError.{DomainError}
use Rattle.am_domain.specs.declared.error.DomainError.TheVariants.{Timing, TooMany, Twice, UnknownNode, SelfLink, LinkTwice, LoneNode, NoBlock, TooManyCells, Memory}

-- the rules
pub data Rule : Type 0 where
  timed : Rule
  few_nodes : Rule
  few_links : Rule
  few_flows : Rule
  flow_names_differ : Rule
  flow_ids_differ : Rule
  node_names_differ : Rule
  ends_are_nodes : Rule
  ends_differ : Rule
  links_differ : Rule
  nodes_have_links : Rule
  some_block : Rule
  few_cells : Rule

-- the rules in the order in which they are looked at
abbrev pub rules_in_order : List Rule
rules_in_order =
    timed ∷ few_nodes ∷ few_links ∷ few_flows
    ∷ flow_names_differ ∷ flow_ids_differ ∷ node_names_differ
    ∷ ends_are_nodes ∷ ends_differ ∷ links_differ ∷ nodes_have_links
    ∷ some_block ∷ few_cells ∷ []

-- two flows have the same name
abbrev pub SameFlowName : FlowValue → FlowValue → Type 0
SameFlowName a b = a.name ≡ b.name

-- two flows have the same number
abbrev pub SameFlowId : FlowValue → FlowValue → Type 0
SameFlowId a b = a.id ≡ b.id

-- two nodes have the same name
abbrev pub SameNodeName : NodeValue → NodeValue → Type 0
SameNodeName a b = a.name ≡ b.name

-- no two of the list are the same
abbrev pub AreDistinct : {X : Type 0} → (X → X → Type 0) → List X → Type 0
AreDistinct Same xs = DistinctBelow Same (length xs) xs

-- each of the list has it
abbrev pub Each : {X : Type 0} → (X → Type 0) → List X → Type 0
Each P xs = AllBelow P (length xs) xs

-- the link leads from one name to another
abbrev pub EndsDiffer : LinkValue → Type 0
EndsDiffer link = link.from ≢ link.to

-- these are the links by the numbers of their nodes, and the reported blocks are those from `first` and below `end`
pub record IsLaidOut (f : FieldsValue) (edges : List Edge) (first end : ℕ) : Type 0 where
  pub joined : AllZip (Joins f.nodes) f.links edges
  pub starts : IsFirstBlock f.times f.nodes edges first
  pub ends : IsEndBlock f.times f.nodes edges end

-- the file keeps the rule
abbrev pub Keeps : FieldsValue → Rule → Type 0
Keeps f timed = IsTiming f.times
Keeps f few_nodes = length f.nodes ≤ MAX_NODES
Keeps f few_links = length f.links ≤ MAX_LINKS
Keeps f few_flows = length f.flows ≤ MAX_FLOWS
Keeps f flow_names_differ = AreDistinct SameFlowName f.flows
Keeps f flow_ids_differ = AreDistinct SameFlowId f.flows
Keeps f node_names_differ = AreDistinct SameNodeName f.nodes
Keeps f ends_are_nodes = Each (IsBetween f.nodes) f.links
Keeps f ends_differ = Each EndsDiffer f.links
Keeps f links_differ = AreDistinct SameEnds f.links
Keeps f nodes_have_links = Each (HasLink f.links) f.nodes
Keeps f some_block =
    (edges : List Edge) × (first : ℕ) × (end : ℕ) × IsLaidOut f edges first end × (first < end)
Keeps f few_cells =
    (edges : List Edge) × (first : ℕ) × (end : ℕ) × IsLaidOut f edges first end
    × (length f.flows * (end - first) ≤ MAX_CELLS)

-- there are too many of a part, and so many
abbrev pub IsTooMany : ℕ → ℕ → ℕ → Type 0
IsTooMany most found told = (most < found) × (told ≡ found)

-- the file breaks the rule that the answer tells, and the answer has the first place where it does
abbrev pub Tells : FieldsValue → DomainError → Type 0
Tells f (Timing fault) = IsFirstFault f.times fault
Tells f (TooMany part.Node count) = IsTooMany MAX_NODES (length f.nodes) count
Tells f (TooMany part.Link count) = IsTooMany MAX_LINKS (length f.links) count
Tells f (TooMany part.Flow count) = IsTooMany MAX_FLOWS (length f.flows) count
Tells f (Twice FlowName first second) = IsFirstPair SameFlowName f.flows first second
Tells f (Twice FlowId first second) = IsFirstPair SameFlowId f.flows first second
Tells f (Twice NodeName first second) = IsFirstPair SameNodeName f.nodes first second
Tells f (UnknownNode link end) = IsFirstPlace (IsBetween f.nodes) (IsLoose f.nodes end) f.links link
Tells f (SelfLink link) = IsFirstPlace EndsDiffer (λ l. l.from ≡ l.to) f.links link
Tells f (LinkTwice first second) = IsFirstPair SameEnds f.links first second
Tells f (LoneNode node) = IsFirstPlace (HasLink f.links) (IsLone f.links) f.nodes node
Tells f (NoBlock first end) = (edges : List Edge) × IsLaidOut f edges first end × (end ≤ first)
Tells f (TooManyCells count) =
    (edges : List Edge) × (first : ℕ) × (end : ℕ) × IsLaidOut f edges first end
    × (count ≡ length f.flows * (end - first)) × (MAX_CELLS < count)
Tells f _ = ⊥

-- where the rule stands in the order
abbrev pub place : Rule → ℕ
place timed = 0
place few_nodes = 1
place few_links = 2
place few_flows = 3
place flow_names_differ = 4
place flow_ids_differ = 5
place node_names_differ = 6
place ends_are_nodes = 7
place ends_differ = 8
place links_differ = 9
place nodes_have_links = 10
place some_block = 11
place few_cells = 12

-- the rule whose breach the answer tells
abbrev pub rule_of : DomainError → Rule
rule_of (Timing fault) = timed
rule_of (TooMany part.Node count) = few_nodes
rule_of (TooMany part.Link count) = few_links
rule_of (TooMany _ count) = few_flows
rule_of (Twice FlowName first second) = flow_names_differ
rule_of (Twice FlowId first second) = flow_ids_differ
rule_of (Twice NodeName first second) = node_names_differ
rule_of (UnknownNode link end) = ends_are_nodes
rule_of (SelfLink link) = ends_differ
rule_of (LinkTwice first second) = links_differ
rule_of (LoneNode node) = nodes_have_links
rule_of (NoBlock first end) = some_block
rule_of _ = few_cells

-- the file keeps all rules before this one
abbrev pub KeepsBefore : FieldsValue → Rule → Type 0
KeepsBefore f rule = AllByRecursion (Keeps f) (take (place rule) rules_in_order)

-- the file keeps every rule
abbrev pub KeepsAll : FieldsValue → Type 0
KeepsAll f = AllByRecursion (Keeps f) rules_in_order

-- the answer tells the first rule that the file breaks
pub record IsFirstBroken (f : FieldsValue) (e : DomainError) : Type 0 where
  pub kept : KeepsBefore f (rule_of e)
  pub told : Tells f e

-- what the judging of a file answers: the first broken rule, or want of memory
abbrev pub TellsBroken : FieldsValue → DomainError → Type 0
TellsBroken f Memory = Unit {0}
TellsBroken f e = IsFirstBroken f e

-- what the judging of the blocks answers, over these links
abbrev pub TellsBlocks : FieldsValue → List Edge → DomainError → Type 0
TellsBlocks f edges (NoBlock first end) = IsLaidOut f edges first end × (end ≤ first)
TellsBlocks f edges (TooManyCells count) =
    (first : ℕ) × (end : ℕ) × IsLaidOut f edges first end × (first < end)
    × (count ≡ length f.flows * (end - first)) × (MAX_CELLS < count)
TellsBlocks f edges _ = ⊥
