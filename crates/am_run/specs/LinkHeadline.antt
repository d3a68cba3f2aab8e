-- What the table of `link` tells of the network: the packets that were dropped between the two points (RFC 9341, section 3.1; RFC 9343, section 5.1).
use Rattle.std.specs.Prelude.{◌≡◌, ℕ, ◌<◌, List, map, length, slice_index_or, All, Contains, Option, Ok, pos, ◌-ℤ◌}
use Rattle.std.specs.Io.KnownBytes.{append_known}
use Rattle.std.specs.List.Sorted.{IsStrictlyIncreasing}
use Rattle.am_base.specs.Shelves.{Told}
use Rattle.am_clock.specs.Times.{IsTiming}
use Rattle.am_domain.specs.Domains.{DomainValue}
use Rattle.am_domain.specs.Values.{FlowValue}
use Rattle.am_graph.specs.Graphs.{start_of, end_of}
use Rattle.am_ip6.specs.declared.marks.Place.TheVariants.{HopByHop}
use Rattle.am_meter.specs.Metering.{node_shift}
use Rattle.am_meter.specs.declared.stream.Marked.{Marked}
use Rattle.am_world.specs.LinkLosses.{StandsAlone, CoverEnds, RecordEnds, dropped_on}
use Rattle.am_world.specs.Passes.{sends}
use Rattle.am_world.specs.declared.event.Event.{Event}
use Rattle.am_chain.specs.Chains.{Judged}
use Rattle.am_run.specs.Forms.{SaysCommand}
use Rattle.am_run.specs.Forms.Kind.{Linking}
use Rattle.am_chain.specs.Inputs.{JudgesCapture}
use Rattle.am_chain.specs.Tables.{Row, table_text}
use Rattle.am_run.specs.commands.Link.{Link}

-- the text is a table of blocks, and of each block that the captures of both ends of the link cover, the loss is the number of the
-- flow's packets of the block that the world drops between them; a covered block without a row has none
pub record TellsDropped (d : DomainValue) (events : List Event) (link flow : ℕ) (text : List ℕ) : Type 0 where
  pub rows : List Row
  pub printed : text ≡ table_text rows
  pub ascending : IsStrictlyIncreasing (map (λ r. r.block) rows)
  pub lost : All (λ r. CoverEnds d link r.block
      → pos r.entered -ℤ pos r.left ≡ pos (dropped_on d.links link (sends d.times flow r.block) events)) rows
  pub every : (block : ℕ) → CoverEnds d link block
      → 0 < dropped_on d.links link (sends d.times flow block) events → Contains (map (λ r. r.block) rows) block

-- the words ask of this flow and link of the domain: their blocks are as long as its own, the flow's number is the flow's, and the
-- nodes at which the link begins and ends see the blocks as late as the two points do
pub record AsksOf (d : DomainValue) (link flow : ℕ) (l : Link) : Type 0 where
  pub block : l.block ≡ d.times.block
  pub flow_within : flow < length d.flows
  pub flow_id : (f : FlowValue) → l.flow ≡ (slice_index_or d.flows flow f).id
  pub first : node_shift d (start_of d.links link) ≡ 0
  pub second : node_shift d (end_of d.links link) ≡ l.shift

-- the words are `link` of two captures, which record this world at the ends of this link; no other link of the domain shares
-- an end with it
pub record LinksWorld (words : List (List ℕ)) (told : Option Told) (d : DomainValue) (events : List Event) (link flow : ℕ) : Type 0 where
  pub asked : Link
  pub says : SaysCommand words (record { kind = Linking; asked = asked })
  pub timing : IsTiming d.times
  pub asks : AsksOf d link flow asked
  pub alone : StandsAlone d.links link
  pub ups : List Marked
  pub downs : List Marked
  pub up : Judged told asked.up (JudgesCapture HopByHop) (Ok ups)
  pub down : Judged told asked.down (JudgesCapture HopByHop) (Ok downs)
  pub recorded : RecordEnds d events link ups downs

-- whatever world the two captures record: where the command is done, what it printed tells what that world drops between them
abbrev pub TellsEachLink : List (List ℕ) → Option Told → Option (List ℕ) → Option (List ℕ) → ℕ → Type 0
TellsEachLink words told old new status =
    (d : DomainValue) (events : List Event) (link flow : ℕ) → status ≡ 0 → LinksWorld words told d events link flow
    → (text : List ℕ) × (new ≡ append_known old text) × TellsDropped d events link flow text
