-- The commands: which word names each, what the words after it say, and the chain that it performs.
use Rattle.std.specs.Prelude.{◌≡◌, ℕ, List, ◌∷◌, codes}
use Rattle.am_chain.specs.Chains.{Chain}
use Rattle.am_run.specs.commands.Link.{Link, SaysLinkWords, link_chain}
use Rattle.am_run.specs.commands.Show.{Show, SaysShowWords, show_chain}
use Rattle.am_run.specs.commands.Check.{Check, SaysCheckWords, check_chain}
use Rattle.am_run.specs.commands.Clusters.{Clusters, SaysClustersWords, clusters_chain}
use Rattle.am_run.specs.commands.Meter.{Meter, SaysMeterWords, meter_chain}
use Rattle.am_run.specs.commands.Audit.{Audit, SaysAuditWords, audit_chain}
use Rattle.am_run.specs.commands.Loss.{Loss, SaysLossWords, loss_chain}
use Rattle.am_run.specs.commands.Sim.{Sim, SaysSimWords, sim_chain}
use Rattle.am_run.specs.commands.Mark.{mark_chain}
use Rattle.am_run.specs.commands.Strip.{strip_chain}
use Rattle.am_chain.specs.WordForms.{DomainFile, SaysDomainFile}

-- the one record that every command states
pub record Form : Type 1 where
  -- the word that names it
  pub verb : List ℕ
  -- what it is asked
  pub Asked : Type 0
  -- the words after the first say this
  pub says : List (List ℕ) → Asked → Type 0
  -- its inputs, and what it prints
  pub chain : Asked → Chain

pub data Kind : Type 0 where
  Linking : Kind
  Showing : Kind
  Checking : Kind
  Clustering : Kind
  MarkingPackets : Kind
  Stripping : Kind
  Metering : Kind
  Auditing : Kind
  Gathering : Kind
  Simulating : Kind

abbrev pub form : Kind → Form
form Linking = record { verb = codes "link"; Asked = Link; says = SaysLinkWords; chain = link_chain }
form Showing = record { verb = codes "show"; Asked = Show; says = SaysShowWords; chain = show_chain }
form Checking = record { verb = codes "check"; Asked = Check; says = SaysCheckWords; chain = check_chain }
form Clustering = record { verb = codes "clusters"; Asked = Clusters; says = SaysClustersWords; chain = clusters_chain }
form MarkingPackets = record { verb = codes "mark"; Asked = DomainFile; says = SaysDomainFile; chain = mark_chain }
form Stripping = record { verb = codes "strip"; Asked = DomainFile; says = SaysDomainFile; chain = strip_chain }
form Metering = record { verb = codes "meter"; Asked = Meter; says = SaysMeterWords; chain = meter_chain }
form Auditing = record { verb = codes "audit"; Asked = Audit; says = SaysAuditWords; chain = audit_chain }
form Gathering = record { verb = codes "loss"; Asked = Loss; says = SaysLossWords; chain = loss_chain }
form Simulating = record { verb = codes "sim"; Asked = Sim; says = SaysSimWords; chain = sim_chain }

-- a command of the program, and what it is asked
pub record Command : Type 0 where
  pub kind : Kind
  pub asked : (form kind).Asked

-- the words are this command
pub record SaysCommand (words : List (List ℕ)) (c : Command) : Type 0 where
  pub rest : List (List ℕ)
  pub verb : words ≡ (form c.kind).verb ∷ rest
  pub asked : (form c.kind).says rest c.asked

-- the words are no command
abbrev pub IsNoCommand : List (List ℕ) → Type 0
IsNoCommand words = (c : Command) → SaysCommand words c → ⊥

-- the chain that a command performs
abbrev pub chain_of : Command → Chain
chain_of c = (form c.kind).chain c.asked
