-- The command `meter`: the report of one measurement point, from its capture.
use Rattle.std.specs.Prelude.{◌≡◌, ℕ, List, [], ◌∷◌}
use Rattle.am_cells.specs.CellTables.{CellTable}
use Rattle.am_domain.specs.Domains.{DomainValue}
use Rattle.am_meter.specs.MeteredFiles.{capture_of}
use Rattle.am_meter.specs.declared.stream.Marked.{Marked}
use Rattle.am_report.specs.Rows.{report_text}
use Rattle.am_chain.specs.Chains.{Chain}
use Rattle.am_chain.specs.Chains.Chain.{Reads, Prints}
use Rattle.am_chain.specs.Inputs.{JudgesCapture, JudgesDomain}
use Rattle.am_chain.specs.NodeCells.{AreWholeCells}
use Rattle.am_run.specs.NodeWords.{at_node, node_named}
use Rattle.am_domain.specs.Texts.{IsFileName}

-- what it is asked: the domain file, and the name of one of its nodes
pub record Meter : Type 0 where
  pub domain : List ℕ
  pub node : List ℕ

-- the words after `meter` are DOMAIN NODE, and say this; any text may be asked for as a node
pub record SaysMeterWords (words : List (List ℕ)) (m : Meter) : Type 0 where
  pub spelled : words ≡ m.domain ∷ m.node ∷ []
  pub domain_name : IsFileName m.domain

-- the report of a node, of whose capture these are the marked records
pub record IsNodeReport (d : DomainValue) (node : ℕ) (ms : List Marked) (text : List ℕ) : Type 0 where
  pub cells : CellTable
  pub metered : AreWholeCells d node ms cells
  pub printed : text ≡ report_text d node cells

-- the node's capture is taken whole, and its report is printed
abbrev pub report_chain : DomainValue → ℕ → Chain
report_chain d node = Reads (List Marked) (capture_of d node) (JudgesCapture d.kind) (λ ms. Prints (IsNodeReport d node ms))

-- the domain is taken, and then the capture of the node of this name
abbrev pub meter_chain : Meter → Chain
meter_chain m = Reads DomainValue m.domain JudgesDomain (λ d. at_node (node_named d m.node) (report_chain d))
