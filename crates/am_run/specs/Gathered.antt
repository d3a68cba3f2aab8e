-- The reports of a domain's nodes, taken one after another.
use Rattle.std.specs.Prelude.{ℕ, ◌≤◌, List, [], length, drop}
use Rattle.am_control.specs.Controls.{ControlValue}
use Rattle.am_domain.specs.Domains.{DomainValue}
use Rattle.am_report.specs.declared.read.Report.{Report}
use Rattle.am_chain.specs.Answers.{Answer}
use Rattle.am_chain.specs.Chains.{Inputs, Output, Performs}
use Rattle.am_chain.specs.Gathering.{HasReports}
use Rattle.am_run.specs.commands.Loss.{loss_from}

-- the reports of these files come to this stop, and nothing is printed, however the output stands
abbrev pub StopsAmongReports : DomainValue → List (List ℕ) → Inputs → Inputs → Answer → Type 0
StopsAmongReports d names before after answer = (o : Output) → Performs before after o o (loss_from d names []) answer

-- the first so many of these files were taken: what is performed from here on is what all come to
pub record TakesReports (d : DomainValue) (names : List (List ℕ)) (count : ℕ) (before now : Inputs) (control : ControlValue) : Type 0 where
  pub taken : List Report
  pub few : count ≤ length names
  pub has : HasReports d control taken
  pub goes_on : (after : Inputs) (old new : Output) (answer : Answer)
      → Performs now after old new (loss_from d (drop count names) taken) answer
      → Performs before after old new (loss_from d names []) answer
