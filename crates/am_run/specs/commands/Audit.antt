-- The command `audit`: the loss table of a domain, from the captures of all its nodes.
use Rattle.std.specs.Prelude.{◌≡◌, ℕ, ◌<◌, List, [], ◌∷◌, ◌++◌, length, slice_index_or}
use Rattle.am_cells.specs.CellTables.{CellTable}
use Rattle.am_control.specs.Plans.{LossPlan, IsPlanOf}
use Rattle.am_control.specs.Rows.{no_table}
use Rattle.am_control.specs.Texts.{loss_text}
use Rattle.am_domain.specs.Domains.{DomainValue}
use Rattle.am_domain.specs.Values.{NodeValue}
use Rattle.am_meter.specs.declared.stream.Marked.{Marked}
use Rattle.am_chain.specs.Answers.Ending.{Done}
use Rattle.am_chain.specs.Chains.{Chain}
use Rattle.am_chain.specs.Chains.Chain.{Reads, Writes}
use Rattle.am_chain.specs.Inputs.{JudgesCapture, JudgesDomain}
use Rattle.am_chain.specs.NodeCells.{AreWholeCells}
use Rattle.am_domain.specs.Texts.{IsFileName}

-- what it is asked: the domain file that names the captures
pub record Audit : Type 0 where
  pub file : List ℕ

-- the word after `audit` is DOMAIN, and says this
pub record SaysAuditWords (words : List (List ℕ)) (a : Audit) : Type 0 where
  pub spelled : words ≡ a.file ∷ []
  pub file_name : IsFileName a.file

-- the first so many nodes have these cells, each over its own of these lists of marked records
pub record HaveCells (d : DomainValue) (count : ℕ) (taken : List (List Marked)) (cells : List CellTable) : Type 0 where
  pub each : length cells ≡ count
  pub metered : (node : ℕ) → node < count → AreWholeCells d node (slice_index_or taken node []) (slice_index_or cells node no_table)

-- the loss table of a domain, of whose nodes' captures these are the marked records, node by node: each row is what the cells
-- of its scope's nodes come to (RFC 9341, section 3.1; RFC 9342, sections 4 and 5)
pub record IsLossTable (d : DomainValue) (taken : List (List Marked)) (text : List ℕ) : Type 0 where
  pub plan : LossPlan
  pub planned : IsPlanOf d plan
  pub cells : List CellTable
  pub have : HaveCells d (length d.nodes) taken cells
  pub printed : text ≡ loss_text d.flows (record { plan = plan; cells = cells })

-- the captures of these nodes are taken, one after another, beside those that were taken before; then the table is printed
abbrev pub audit_from : DomainValue → List NodeValue → List (List Marked) → Chain
audit_from d [] taken = Writes Done (IsLossTable d taken)
audit_from d (n ∷ ns) taken =
    Reads (List Marked) n.capture (JudgesCapture d.kind) (λ ms. audit_from d ns (taken ++ ms ∷ []))

-- the domain is taken, and then the capture of each of its nodes
abbrev pub audit_chain : Audit → Chain
audit_chain a = Reads DomainValue a.file JudgesDomain (λ d. audit_from d d.nodes [])
