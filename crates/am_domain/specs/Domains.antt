-- The domain of a file's bytes, or why they have none.
use Rattle.std.specs.Prelude.{◌≡◌, ◌≢◌, ℕ, ◌-◌, ◌*◌, ◌<◌, ◌≤◌, ◌⊎◌, List, length, slice_index_or, IsUtf8, Some, Result, Err, ◌↔◌}
use Rattle.toml.specs.Data.{Members}
use Rattle.toml.specs.Parse.{parse_document}
use Rattle.am_clock.specs.Times.{Times, IsTiming}
use Rattle.am_clock.specs.declared.timing.TheConstants.{MAX_TIME}
use Rattle.am_ip6.specs.declared.marks.Place.{Place as Kind}
use Rattle.am_domain.specs.Values.{FlowValue, NodeValue}
use Rattle.am_domain.specs.Texts.{IsName, IsFileName, IsReading}
use Rattle.am_domain.specs.declared.table.TheConstants.{MAX_FLOW}
use Rattle.am_domain.specs.Network.{shift_at, IsFirstBlock, IsEndBlock, IsReported, AreWindowsWithin}
use Rattle.am_domain.specs.declared.judge.TheConstants.{MAX_NODES, MAX_LINKS, MAX_FLOWS, MAX_CELLS}
use Rattle.am_domain.specs.Fields.{FieldsValue, Says, IsBadField}
use Rattle.am_domain.specs.Rules.{Each, AreDistinct, SameFlowName, SameFlowId, SameNodeName, KeepsAll, IsLaidOut, IsFirstBroken}
use Rattle.am_domain.specs.declared.link.Edge.{Edge}
use Rattle.am_domain.specs.declared.error.DomainError.{DomainError}
use Rattle.am_domain.specs.declared.error.DomainError.TheVariants.{NotToml, BadField, Memory}

-- a domain: its numbers of time, the kind of header that marks stand in, how many workers count, its flows, its
-- nodes, its links by the numbers of their nodes, and the reported blocks, from `first` on and below `end`
pub record DomainValue : Type 0 where
  pub times : Times
  pub kind : Kind
  pub workers : ℕ
  pub flows : List FlowValue
  pub nodes : List NodeValue
  pub links : List Edge
  pub first : ℕ
  pub end : ℕ

-- two links lead from and to the same nodes
abbrev pub SameNodes : Edge → Edge → Type 0
SameNodes a b = (a.from ≡ b.from) × (a.to ≡ b.to)

-- the link begins or ends at the node of this number
abbrev pub IsEndOf : ℕ → Edge → Type 0
IsEndOf node link = (link.from ≡ node) ⊎ (link.to ≡ node)

-- some link begins or ends at the node of this number
pub record IsLinked (links : List Edge) (node : ℕ) : Type 0 where
  pub number : ℕ
  pub within : number < length links
  pub here : (d : Edge) → IsEndOf node (slice_index_or links number d)

-- the domain reports the block
abbrev pub Reports : DomainValue → ℕ → Type 0
Reports d block = (d.first ≤ block) × (block < d.end)

-- what every domain has: see each line
pub record IsLawful (d : DomainValue) : Type 0 where
  -- its numbers of time are a timing
  pub timing : IsTiming d.times
  -- 1 to 64 workers
  pub some_worker : 1 ≤ d.workers
  pub few_workers : d.workers ≤ 64
  -- there is a flow, and there are no more flows, nodes and links than there may be
  pub some_flow : 1 ≤ length d.flows
  pub few_flows : length d.flows ≤ MAX_FLOWS
  pub few_nodes : length d.nodes ≤ MAX_NODES
  pub few_links : length d.links ≤ MAX_LINKS
  -- names are names, files' names are files' names, and the numbers of flows have 20 bits
  pub flow_names : Each (λ f. IsName f.name) d.flows
  pub flow_ids : Each (λ f. f.id ≤ MAX_FLOW) d.flows
  pub node_names : Each (λ n. IsName n.name) d.nodes
  pub captures : Each (λ n. IsFileName n.capture) d.nodes
  -- each capture's span begins and ends at readings, which are at most 2^32 seconds
  pub from_readings : Each (λ n. IsReading n.from) d.nodes
  pub until_readings : Each (λ n. IsReading n.until) d.nodes
  -- no two flows have the same name or number, and no two nodes the same name
  pub flow_names_differ : AreDistinct SameFlowName d.flows
  pub flow_ids_differ : AreDistinct SameFlowId d.flows
  pub node_names_differ : AreDistinct SameNodeName d.nodes
  -- each link leads from one node of the domain to another, no two from and to the same nodes, and each node
  -- has one
  pub links_within : Each (λ e. (e.from < length d.nodes) × (e.to < length d.nodes)) d.links
  pub ends_differ : Each (λ e. e.from ≢ e.to) d.links
  pub links_differ : AreDistinct SameNodes d.links
  pub nodes_linked : (node : ℕ) → node < length d.nodes → IsLinked d.links node
  -- no node sees the blocks later than by 2^40 nanoseconds
  pub shifts : (k : ℕ) → k < length d.nodes → shift_at d.times d.nodes d.links k ≤ MAX_TIME
  -- the reported blocks are those that are covered at every node; there is one, and they are not too many for
  -- the flows
  pub reported : (block : ℕ) → Reports d block ↔ IsReported d.times d.nodes d.links block
  pub some_block : d.first < d.end
  pub few_cells : length d.flows * (d.end - d.first) ≤ MAX_CELLS
  pub starts : IsFirstBlock d.times d.nodes d.links d.first
  pub ends : IsEndBlock d.times d.nodes d.links d.end
  -- the window of a reported block lies within the span of the capture, at every node, and so ends at most at
  -- 2^32 seconds
  pub windows : (block : ℕ) → Reports d block → AreWindowsWithin d.times d.nodes d.links block

-- the domain has what the file says, which keeps every rule
pub record IsMadeOf (f : FieldsValue) (d : DomainValue) : Type 0 where
  pub times : d.times ≡ f.times
  pub kind : d.kind ≡ f.marking.kind
  pub workers : d.workers ≡ f.marking.workers
  pub flows : d.flows ≡ f.flows
  pub nodes : d.nodes ≡ f.nodes
  pub laid_out : IsLaidOut f d.links d.first d.end
  pub kept : KeepsAll f

-- the bytes are UTF-8, and their text is the TOML document of this table
pub record IsDocument (bytes : List ℕ) (ms : Members) : Type 0 where
  pub text : IsUtf8 bytes
  pub parsed : parse_document bytes ≡ Some ms

-- the table says the domain
pub record IsDomain (ms : Members) (d : DomainValue) : Type 0 where
  pub fields : FieldsValue
  pub says : Says ms fields
  pub made : IsMadeOf fields d

-- the table says something that breaks a rule, and this tells the first
pub record IsBroken (ms : Members) (e : DomainError) : Type 0 where
  pub fields : FieldsValue
  pub says : Says ms fields
  pub broken : IsFirstBroken fields e

-- the first refusal of the table: a bad field, or else a broken rule
abbrev pub IsRefusal : Members → DomainError → Type 0
IsRefusal ms (BadField part index key) = IsBadField ms part index key
IsRefusal ms e = IsBroken ms e

-- the bytes are no document
abbrev pub IsNoDocument : List ℕ → Type 0
IsNoDocument bytes = (ms : Members) → IsDocument bytes ms → ⊥

-- the bytes are a document that says the domain
pub record IsDomainOf (bytes : List ℕ) (d : DomainValue) : Type 0 where
  pub members : Members
  pub document : IsDocument bytes members
  pub says : IsDomain members d

-- the bytes are refused so: they are no document, or they are one with this first refusal. Want of memory refuses
-- no bytes
abbrev pub IsDomainRefusal : List ℕ → DomainError → Type 0
IsDomainRefusal bytes NotToml = IsNoDocument bytes
IsDomainRefusal bytes Memory = ⊥
IsDomainRefusal bytes e = (ms : Members) × IsDocument bytes ms × IsRefusal ms e

-- what is answered where there is no domain: how the bytes are refused, or want of memory, which says nothing of them
abbrev pub TellsRefusal : List ℕ → DomainError → Type 0
TellsRefusal bytes Memory = Unit {0}
TellsRefusal bytes e = IsDomainRefusal bytes e

-- the answer is this one, or want of memory
abbrev pub IsAnswer : Result DomainValue DomainError → Result DomainValue DomainError → Type 0
IsAnswer result wanted = (result ≡ Err Memory) ⊎ (result ≡ wanted)
