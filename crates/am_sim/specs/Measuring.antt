-- What the nodes of a domain count of a world, one after another.
use Rattle.std.specs.Prelude.{◌≡◌, ℕ, ◌-◌, ◌<◌, ◌≤◌, List, [], ◌++◌, length, map, replicate, slice_index_or, Some, None, ⊤}
use Rattle.am_cells.specs.CellTables.{CellTable}
use Rattle.am_control.specs.Controls.{ControlValue}
use Rattle.am_control.specs.Plans.{LossPlan}
use Rattle.am_control.specs.Rows.{no_table}
use Rattle.am_domain.specs.Domains.{DomainValue}
use Rattle.am_meter.specs.declared.stream.Marked.{Marked}
use Rattle.am_meter.specs.declared.stream.MeterError.{MeterError}
use Rattle.am_meter.specs.declared.stream.MeterError.TheVariants.{File, HeadersCut}
use Rattle.am_pcap.specs.declared.capture.FileError.{FileError}
use Rattle.am_pcap.specs.declared.capture.FileError.TheVariants.{Missing, ReadFault, TooLong, Bad, Memory}
use Rattle.am_world.specs.declared.event.Event.{Event}
use Rattle.am_sim.specs.Simulating.{AreSimulatedCells}

-- these are the cells of the node
pub record HasNodeCells (d : DomainValue) (events : List Event) (node : ℕ) (t : CellTable) : Type 0 where
  pub marks : List Marked
  pub cells : AreSimulatedCells d events node marks t

-- the first so many nodes were taken
pub record CountsFirst (d : DomainValue) (events : List Event) (count : ℕ) (plan : LossPlan) (control : ControlValue) : Type 0 where
  pub taken : List (List Marked)
  pub cells : List CellTable
  pub few : count ≤ length d.nodes
  pub each_taken : length taken ≡ count
  pub each : length cells ≡ count
  pub counted : (node : ℕ) → node < count
      → AreSimulatedCells d events node (slice_index_or taken node []) (slice_index_or cells node no_table)
  pub plan_is : control.plan ≡ plan
  pub reports : control.reports ≡ map (λ t. Some t) cells ++ replicate (length d.nodes - count) None

-- a file was refused neither as missing nor for its bytes
abbrev pub IsFileWant : FileError → Type 0
IsFileWant Memory = ⊤
IsFileWant ReadFault = ⊤
IsFileWant Missing = ⊥
IsFileWant TooLong = ⊥
IsFileWant (Bad e) = ⊥

-- nor was a record
abbrev pub IsWant : MeterError → Type 0
IsWant (File error) = IsFileWant error
IsWant (HeadersCut number) = ⊥
