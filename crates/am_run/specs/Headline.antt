-- What the loss table of `audit` tells of the network: the packets that it dropped (RFC 9341, section 3.1; RFC 9342, section 5).
use Rattle.std.specs.Prelude.{◌≡◌, ℕ, ◌<◌, List, [], length, slice_index_or, Option, Ok}
use Rattle.std.specs.Io.KnownBytes.{append_known}
use Rattle.am_base.specs.Shelves.{Told}
use Rattle.am_control.specs.Rows.{Measured}
use Rattle.am_control.specs.Texts.{loss_text}
use Rattle.am_domain.specs.Domains.{DomainValue, Reports}
use Rattle.am_meter.specs.MeteredFiles.{capture_of}
use Rattle.am_meter.specs.declared.stream.Marked.{Marked}
use Rattle.am_world.specs.Delays.{TellsDelays}
use Rattle.am_world.specs.Losses.{AreRecorded, TellsDrops}
use Rattle.am_world.specs.declared.event.Event.{Event}
use Rattle.am_chain.specs.Chains.{Judged}
use Rattle.am_run.specs.Forms.{SaysCommand}
use Rattle.am_run.specs.Forms.Kind.{Auditing}
use Rattle.am_chain.specs.Inputs.{JudgesCapture, JudgesDomain}

-- the text is a loss table, and of each flow and reported block the loss of each cluster is the number of packets that the
-- world drops in it, that of the network the number dropped in all clusters, and each delay is how long the packets took, but
-- for the skew at each
pub record TellsWorld (d : DomainValue) (events : List Event) (text : List ℕ) : Type 0 where
  pub measured : Measured
  pub printed : text ≡ loss_text d.flows measured
  pub drops : (flow block : ℕ) → flow < length d.flows → Reports d block → TellsDrops d measured events flow block
  pub delays : (flow block : ℕ) → flow < length d.flows → Reports d block → TellsDelays d measured events flow block

-- the captures of the domain's nodes are there, and have these marked records, node by node
pub record HaveCaptures (told : Option Told) (d : DomainValue) (taken : List (List Marked)) : Type 0 where
  pub each : length taken ≡ length d.nodes
  pub marked : (node : ℕ) → node < length d.nodes
      → Judged told (capture_of d node) (JudgesCapture d.kind) (Ok (slice_index_or taken node []))

-- the words are `audit` of this domain file, and this world is recorded by the captures that the domain names
pub record AuditsWorld (words : List (List ℕ)) (told : Option Told) (d : DomainValue) (events : List Event) : Type 0 where
  pub file : List ℕ
  pub says : SaysCommand words (record { kind = Auditing; asked = record { file = file } })
  pub domain : Judged told file JudgesDomain (Ok d)
  pub taken : List (List Marked)
  pub captures : HaveCaptures told d taken
  pub recorded : AreRecorded d events (λ node. slice_index_or taken node [])

-- whatever world the captures record: where the command is done, what it printed tells what that world drops
abbrev pub TellsEachWorld : List (List ℕ) → Option Told → Option (List ℕ) → Option (List ℕ) → ℕ → Type 0
TellsEachWorld words told old new status =
    (d : DomainValue) (events : List Event) → status ≡ 0 → AuditsWorld words told d events
    → (text : List ℕ) × (new ≡ append_known old text) × TellsWorld d events text
