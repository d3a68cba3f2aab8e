-- The cells of a node of a domain over its capture's file, and why there are none.
use Rattle.std.specs.Prelude.{ℕ, ◌≤◌, ◌^◌, ⊤, List, [], length, slice_index_or, Option, Ok, Err}
use Rattle.am_base.specs.Shelves.{Told, IsAbsent}
use Rattle.am_base.specs.Files.{OnFile}
use Rattle.am_pcap.specs.Packets.{Packet}
use Rattle.am_pcap.specs.Readings.{Reading}
use Rattle.am_pcap.specs.CaptureFiles.{ReadsOn}
use Rattle.am_pcap.specs.declared.head.Head.{Head}
use Rattle.am_pcap.specs.declared.capture.FileError.TheVariants.{Missing, ReadFault, TooLong, Bad, Memory}
use Rattle.am_cells.specs.CellTables.{CellTable, total_of}
use Rattle.am_domain.specs.Values.{no_node}
use Rattle.am_domain.specs.Domains.{DomainValue}
use Rattle.am_meter.specs.declared.stream.Marked.{Marked}
use Rattle.am_meter.specs.declared.stream.MeterError.{MeterError}
use Rattle.am_meter.specs.declared.stream.MeterError.TheVariants.{File, HeadersCut}
use Rattle.am_meter.specs.Marks.{AreMarked, JudgesMarks, MarksRefusal}
use Rattle.am_meter.specs.Marks.MarksRefusal.{Long, BadCapture, HeadersCut as CutAt}
use Rattle.am_meter.specs.Metering.{AreMetered}

-- the name of the file with the capture of a node
abbrev pub capture_of : DomainValue → ℕ → List ℕ
capture_of d node = (slice_index_or d.nodes node no_node).capture

-- these are the cells of a node over the marked records of its capture, in the kind of header that the domain says
pub record AreCellsOf (d : DomainValue) (node : ℕ) (told : Option Told) (t : CellTable) : Type 0 where
  pub marks : List Marked
  pub judged : OnFile told (capture_of d node) (λ bytes. JudgesMarks d.kind bytes (Ok marks))
  pub metered : AreMetered d node marks t

-- the capture of a node is refused so, where files are told
abbrev pub RefusesCapture : DomainValue → ℕ → Option Told → MarksRefusal → Type 0
RefusesCapture d node told e = OnFile told (capture_of d node) (λ bytes. JudgesMarks d.kind bytes (Err e))

-- why a node has no cells
abbrev pub WhyNoCells : DomainValue → ℕ → Option Told → MeterError → Type 0
WhyNoCells d node told (File Missing) = IsAbsent told (capture_of d node)
WhyNoCells d node told (File ReadFault) = ⊤
WhyNoCells d node told (File TooLong) = RefusesCapture d node told Long
WhyNoCells d node told (File (Bad e)) = RefusesCapture d node told (BadCapture e)
WhyNoCells d node told (File Memory) = ⊤
WhyNoCells d node told (HeadersCut number) = RefusesCapture d node told (CutAt number)

-- a node's capture is read on: the cells are those over the marked records of all packets that it gave
pub record MetersOn (d : DomainValue) (node : ℕ) (first now : Option Told) (name : List ℕ) (c : Reading) (t : CellTable) : Type 0 where
  pub head : Head
  pub packets : List Packet
  pub marks : List Marked
  pub reads : ReadsOn first now name c head packets
  pub marked : AreMarked d.kind head 1 packets marks
  pub metered : AreMetered d node marks t
  pub total : total_of t ≤ length packets
  pub few : c.decoded.summary.count ≤ 2 ^ 36
