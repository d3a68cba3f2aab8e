-- The command `check`: the summary of a domain.
use Rattle.std.specs.Prelude.{◌≡◌, ℕ, ◌+◌, ◌-◌, List, [], ◌∷◌, ◌++◌, map, flat_map, slice_index_or, codes, decimal}
use Rattle.am_addr.specs.Bits.{Span}
use Rattle.am_addr.specs.Print.{IsPrinted, values_of}
use Rattle.am_clock.specs.Times.{half, guard}
use Rattle.am_domain.specs.Values.{FlowValue, NodeValue}
use Rattle.am_domain.specs.Network.{shift_at}
use Rattle.am_domain.specs.Domains.{DomainValue}
use Rattle.am_domain.specs.declared.link.Edge.{Edge}
use Rattle.am_chain.specs.Chains.{Chain}
use Rattle.am_chain.specs.Chains.Chain.{Reads, Prints}
use Rattle.am_chain.specs.Inputs.{JudgesDomain}
use Rattle.am_domain.specs.Texts.{IsFileName}

-- what it is asked: the domain file that is checked
pub record Check : Type 0 where
  pub file : List ℕ

-- the word after `check` is DOMAIN, and says this
pub record SaysCheckWords (words : List (List ℕ)) (c : Check) : Type 0 where
  pub spelled : words ≡ c.file ∷ []
  pub file_name : IsFileName c.file

-- a prefix is printed so: its base address (RFC 5952), a slash, and how many bits count
pub record IsPrefixShown (span : Span) (text : List ℕ) : Type 0 where
  pub address : List ℕ
  pub printed : IsPrinted address (values_of span.bytes)
  pub joined : text ≡ address ++ codes "/" ++ decimal span.length

-- the line of a flow: its name, the number in its marks, and the prefixes of its sources and destinations
pub record IsFlowLine (f : FlowValue) (line : List ℕ) : Type 0 where
  pub source : List ℕ
  pub destination : List ℕ
  pub of_source : IsPrefixShown f.source source
  pub of_destination : IsPrefixShown f.destination destination
  pub joined : line ≡ codes "flow " ++ f.name ++ codes " " ++ decimal f.id ++ codes " " ++ source ++ codes " " ++ destination ++ codes "\n"

-- the lines of flows, one after another
abbrev pub AreFlowLines : List FlowValue → List ℕ → Type 0
AreFlowLines [] text = text ≡ []
AreFlowLines (f ∷ fs) text = (line : List ℕ) × (rest : List ℕ) × IsFlowLine f line × AreFlowLines fs rest × (text ≡ line ++ rest)

-- the line of a node: its name, its shift, and the span of readings that its capture has
abbrev pub node_line : NodeValue → ℕ → List ℕ
node_line n shift =
    codes "node " ++ n.name ++ codes " " ++ decimal shift ++ codes " " ++ decimal n.from ++ codes " " ++ decimal n.until ++ codes "\n"

-- the lines of nodes, numbered from here
abbrev pub node_lines : DomainValue → ℕ → List NodeValue → List ℕ
node_lines d number [] = []
node_lines d number (n ∷ ns) = node_line n (shift_at d.times d.nodes d.links number) ++ node_lines d (number + 1) ns

-- the name of the node of this number
abbrev pub name_of : List NodeValue → ℕ → List ℕ
name_of nodes number = slice_index_or (map (λ n. n.name) nodes) number []

-- the line of a link: the names of the nodes that it leads from and to
abbrev pub link_line : List NodeValue → Edge → List ℕ
link_line nodes e = codes "link " ++ name_of nodes e.from ++ codes " " ++ name_of nodes e.to ++ codes "\n"

-- the first lines: the blocks that are reported, from the first to the last; the guard band, and the half block that it is below (RFC 9341, section 5)
abbrev pub head_lines : DomainValue → List ℕ
head_lines d =
    codes "blocks " ++ decimal d.first ++ codes " " ++ decimal (d.end - 1) ++ codes "\nguard " ++ decimal (guard d.times) ++ codes " "
    ++ decimal (half d.times) ++ codes "\n"

-- the summary of a domain
pub record IsSummary (d : DomainValue) (text : List ℕ) : Type 0 where
  pub flows : List ℕ
  pub flow_lines : AreFlowLines d.flows flows
  pub joined : text ≡ head_lines d ++ flows ++ node_lines d 0 d.nodes ++ flat_map (link_line d.nodes) d.links

-- the domain file is read whole, and the domain's summary is printed
abbrev pub check_chain : Check → Chain
check_chain c = Reads DomainValue c.file JudgesDomain (λ d. Prints (IsSummary d))
