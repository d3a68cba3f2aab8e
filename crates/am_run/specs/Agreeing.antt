-- `loss` over the reports that `meter` prints, beside `audit` over the captures that it meters.
use Rattle.std.specs.Prelude.{◌≡◌, ◌≢◌, ◌↔◌, ℕ, ◌<◌, List, [], ◌∷◌, ◌++◌, All, AllPairs, Contains, length, slice_index_or, None, Ok}
use Rattle.std.specs.List.{AllZip}
use Rattle.am_domain.specs.Domains.{DomainValue, IsLawful}
use Rattle.am_meter.specs.declared.stream.Marked.{Marked}
use Rattle.am_report.specs.declared.read.Report.{Report}
use Rattle.am_chain.specs.Gathering.{node_without}
use Rattle.am_chain.specs.Inputs.{JudgesReport}
use Rattle.am_run.specs.commands.Audit.{IsLossTable}
use Rattle.am_run.specs.commands.Loss.{IsTableOfReports}
use Rattle.am_run.specs.commands.Meter.{IsNodeReport}

-- the nodes of the domain in some order, each once
pub record IsOrder (d : DomainValue) (order : List ℕ) : Type 0 where
  pub within : All (λ node. node < length d.nodes) order
  pub once : AllPairs (λ a b. a ≢ b) order
  pub every : (node : ℕ) → node < length d.nodes → Contains order node

-- each text is the report of one of these nodes, in this order, where these are the marked records of the nodes' captures, node
-- by node
abbrev pub AreNodeReports : DomainValue → List (List Marked) → List ℕ → List (List ℕ) → Type 0
AreNodeReports d taken order texts = AllZip (λ node text. IsNodeReport d node (slice_index_or taken node []) text) order texts

-- beside the reports before, these texts are taken as reports, one after another, and then these are all
abbrev pub AreTaken : DomainValue → List Report → List (List ℕ) → List Report → Type 0
AreTaken d before [] after = after ≡ before
AreTaken d before (text ∷ texts) after =
    (r : Report) × JudgesReport d before text (Ok r) × AreTaken d (before ++ r ∷ []) texts after

-- the texts are taken, no node is without a report, and the loss table of the reports is that of the captures
pub record GivesTheTable (d : DomainValue) (taken : List (List Marked)) (texts : List (List ℕ)) : Type 0 where
  pub reports : List Report
  pub all : AreTaken d [] texts reports
  pub none_without : node_without d reports ≡ None
  pub same : (text : List ℕ) → IsTableOfReports d reports text ↔ IsLossTable d taken text

-- the reports that `meter` prints of all nodes, in any order, give `loss` the table that `audit` prints
abbrev pub LossIsAudit : Type 0
LossIsAudit =
    (d : DomainValue) (taken : List (List Marked)) (order : List ℕ) (texts : List (List ℕ))
    → IsLawful d → IsOrder d order → AreNodeReports d taken order texts → GivesTheTable d taken texts
