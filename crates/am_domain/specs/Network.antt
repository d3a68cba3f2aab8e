-- The network of a domain: its nodes by their names, its links, and the blocks that are covered at every node.
use Rattle.std.specs.Prelude.{◌≡◌, ◌≢◌, ℕ, ◌+◌, ◌*◌, ◌<◌, ◌≤◌, ◌⊎◌, ◌==◌, ◌↔◌, Bool, if◌then◌else◌, List, length, slice_index_or}
use Rattle.std.specs.List.{list_any}
use Rattle.am_clock.specs.Times.{Times, half}
use Rattle.am_clock.specs.Covered.{StartsIn, EndsIn, IsCovered}
use Rattle.am_domain.specs.Values.{NodeValue, LinkValue}
use Rattle.am_domain.specs.Lists.{AllBelow, IsFirstPlace}
use Rattle.am_domain.specs.declared.link.Edge.{Edge}
use Rattle.am_domain.specs.declared.error.DomainError.{DomainError}
use Rattle.am_domain.specs.declared.error.DomainError.TheVariants.{UnknownNode, Memory}
use Rattle.am_domain.specs.declared.error.Key.{Key}
use Rattle.am_domain.specs.declared.error.Key.TheVariants.{From, To}

-- the number of the first node of this name
pub record IsNumberOf (nodes : List NodeValue) (name : List ℕ) (number : ℕ) : Type 0 where
  pub within : number < length nodes
  pub before : AllBelow (λ n. n.name ≢ name) number nodes
  pub here : (d : NodeValue) → (slice_index_or nodes number d).name ≡ name

-- no node has this name
abbrev pub IsNoNode : List NodeValue → List ℕ → Type 0
IsNoNode nodes name = AllBelow (λ n. n.name ≢ name) (length nodes) nodes

-- some node has this name
abbrev pub IsNode : List NodeValue → List ℕ → Type 0
IsNode nodes name = (number : ℕ) × IsNumberOf nodes name number

-- both ends of the link are nodes
abbrev pub IsBetween : List NodeValue → LinkValue → Type 0
IsBetween nodes link = IsNode nodes link.from × IsNode nodes link.to

-- this end of the link is no node; at `To`, the other one is
abbrev pub IsLoose : List NodeValue → Key → LinkValue → Type 0
IsLoose nodes From link = IsNoNode nodes link.from
IsLoose nodes To link = IsNode nodes link.from × IsNoNode nodes link.to
IsLoose nodes _ link = ⊥

-- the edge has the numbers of the link's nodes
pub record Joins (nodes : List NodeValue) (link : LinkValue) (edge : Edge) : Type 0 where
  pub from : IsNumberOf nodes link.from edge.from
  pub to : IsNumberOf nodes link.to edge.to

-- two links lead from and to nodes of the same names
abbrev pub SameEnds : LinkValue → LinkValue → Type 0
SameEnds a b = (a.from ≡ b.from) × (a.to ≡ b.to)

-- the link begins or ends at a node of this name
abbrev pub IsAt : List ℕ → LinkValue → Type 0
IsAt name link = (link.from ≡ name) ⊎ (link.to ≡ name)

-- some link begins or ends at the node
pub record HasLink (links : List LinkValue) (node : NodeValue) : Type 0 where
  pub number : ℕ
  pub within : number < length links
  pub here : (d : LinkValue) → IsAt node.name (slice_index_or links number d)

-- no link begins or ends at the node
abbrev pub IsLone : List LinkValue → NodeValue → Type 0
IsLone links node = AllBelow (λ l. ¬ IsAt node.name l) (length links) links

-- some link ends at the node of this number
abbrev pub has_links_in : List Edge → ℕ → Bool
has_links_in edges number = list_any (λ e. e.to == number) edges

-- some link begins at the node of this number
abbrev pub has_links_out : List Edge → ℕ → Bool
has_links_out edges number = list_any (λ e. e.from == number) edges

-- the shift of a node: 0 where no link ends at it, else the least delay (RFC 9341, section 5)
abbrev pub shift_at : Times → List NodeValue → List Edge → ℕ → ℕ
shift_at times nodes edges number = if has_links_in edges number then times.delay_min else 0

-- at the node of this number the block's window begins within the span of the capture
abbrev pub StartsAt : Times → List NodeValue → List Edge → ℕ → NodeValue → ℕ → Type 0
StartsAt times nodes edges k d block =
    StartsIn times (slice_index_or nodes k d).from (shift_at times nodes edges k) block

-- at the node of this number the block's window ends within the span of the capture
abbrev pub WindowEndsAt : Times → List NodeValue → List Edge → ℕ → NodeValue → ℕ → Type 0
WindowEndsAt times nodes edges k d block =
    EndsIn times (slice_index_or nodes k d).until (shift_at times nodes edges k) block

-- at each of the first so many nodes, the block's window begins within the span of the capture
abbrev pub StartsBelow : Times → List NodeValue → List Edge → ℕ → ℕ → Type 0
StartsBelow times nodes edges count block =
    (k : ℕ) (d : NodeValue) → k < count → StartsAt times nodes edges k d block

-- at each of the first so many nodes, the block's window ends within the span of the capture
abbrev pub EndsBelow : Times → List NodeValue → List Edge → ℕ → ℕ → Type 0
EndsBelow times nodes edges count block =
    (k : ℕ) (d : NodeValue) → k < count → WindowEndsAt times nodes edges k d block

-- the blocks from this one on begin within the span of each capture, and no others
abbrev pub IsFirstBlock : Times → List NodeValue → List Edge → ℕ → Type 0
IsFirstBlock times nodes edges first =
    (block : ℕ) → (first ≤ block) ↔ StartsBelow times nodes edges (length nodes) block

-- the blocks below this one end within the span of each capture, and no others
abbrev pub IsEndBlock : Times → List NodeValue → List Edge → ℕ → Type 0
IsEndBlock times nodes edges end =
    (block : ℕ) → (block < end) ↔ EndsBelow times nodes edges (length nodes) block

-- the node's capture, which has these readings, covers the block, whose windows are later by this shift
abbrev pub Covers : Times → NodeValue → ℕ → ℕ → Type 0
Covers times node shift block = IsCovered times node.from node.until shift block

-- the block is covered at every node: each capture's span has every reading of the block's window there
abbrev pub IsReported : Times → List NodeValue → List Edge → ℕ → Type 0
IsReported times nodes edges block =
    (k : ℕ) (d : NodeValue) → k < length nodes
    → Covers times (slice_index_or nodes k d) (shift_at times nodes edges k) block

-- the block's window at the node, later by this shift, lies within the span of the capture, as numbers
pub record IsWindowWithin (times : Times) (node : NodeValue) (shift block : ℕ) : Type 0 where
  -- it begins in the span; a span from reading 0 may begin later than the window, since no reading is below 0
  pub begins : 0 < node.from → node.from + half times ≤ block * times.block + shift
  -- it ends by the end of the span
  pub ends : block * times.block + times.block + half times + shift ≤ node.until

-- the block's window lies within the span of the capture, at every node
abbrev pub AreWindowsWithin : Times → List NodeValue → List Edge → ℕ → Type 0
AreWindowsWithin times nodes edges block =
    (k : ℕ) (d : NodeValue) → k < length nodes
    → IsWindowWithin times (slice_index_or nodes k d) (shift_at times nodes edges k) block

-- what the joining of links answers: the first link with an end that is no node, or want of memory
abbrev pub TellsLoose : List NodeValue → List LinkValue → DomainError → Type 0
TellsLoose nodes links (UnknownNode link end) =
    IsFirstPlace (IsBetween nodes) (IsLoose nodes end) links link
TellsLoose nodes links Memory = Unit {0}
TellsLoose nodes links _ = ⊥
