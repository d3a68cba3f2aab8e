-- The command `loss`: the loss table of a domain, from the reports of all its nodes.
use Rattle.std.specs.Prelude.{◌≡◌, ℕ, ◌<◌, List, [], ◌∷◌, ◌++◌, All, length, map, Option, Some, None}
use Rattle.am_cells.specs.CellTables.{CellTable}
use Rattle.am_control.specs.Plans.{LossPlan, IsPlanOf}
use Rattle.am_control.specs.Texts.{loss_text}
use Rattle.am_domain.specs.Domains.{DomainValue}
use Rattle.am_report.specs.Rows.{node_name}
use Rattle.am_report.specs.declared.read.Report.{Report}
use Rattle.am_chain.specs.Answers.Ending.{Done}
use Rattle.am_chain.specs.Answers.Reason.{NoReport}
use Rattle.am_chain.specs.Chains.{Chain}
use Rattle.am_chain.specs.Chains.Chain.{Reads, Refuses, Writes}
use Rattle.am_chain.specs.Gathering.{cells_of_each, node_without}
use Rattle.am_chain.specs.Inputs.{JudgesDomain, JudgesReport}
use Rattle.am_domain.specs.Texts.{IsFileName}

-- what it is asked: the domain file, and the reports
pub record Loss : Type 0 where
  pub domain : List ℕ
  pub reports : List (List ℕ)

-- the words after `loss` are DOMAIN REPORT.., with one report or more, and say this
pub record SaysLossWords (words : List (List ℕ)) (l : Loss) : Type 0 where
  pub spelled : words ≡ l.domain ∷ l.reports
  pub domain_name : IsFileName l.domain
  pub some : 0 < length l.reports
  pub report_names : All IsFileName l.reports

-- the loss table of a domain, of whose nodes these are the reports: each row is what the cells of its scope's nodes come to
-- (RFC 9341, section 3.1; RFC 9342, sections 4 and 5)
pub record IsTableOfReports (d : DomainValue) (taken : List Report) (text : List ℕ) : Type 0 where
  pub plan : LossPlan
  pub planned : IsPlanOf d plan
  pub cells : List CellTable
  pub each : map (λ t. Some t) cells ≡ cells_of_each d taken
  pub printed : text ≡ loss_text d.flows (record { plan = plan; cells = cells })

-- the first node without a report is refused; where there is none, the table is printed
abbrev pub loss_of_all : DomainValue → List Report → Option ℕ → Chain
loss_of_all d taken (Some node) = Refuses None (NoReport (node_name d node))
loss_of_all d taken None = Writes Done (IsTableOfReports d taken)

-- the reports of these files are taken, one after another, beside those that were taken before
abbrev pub loss_from : DomainValue → List (List ℕ) → List Report → Chain
loss_from d [] taken = loss_of_all d taken (node_without d taken)
loss_from d (name ∷ names) taken =
    Reads Report name (JudgesReport d taken) (λ r. loss_from d names (taken ++ r ∷ []))

-- the domain is taken, and then the reports, in the order of the words
abbrev pub loss_chain : Loss → Chain
loss_chain l = Reads DomainValue l.domain JudgesDomain (λ d. loss_from d l.reports [])
