-- What `mark` keeps from record to record, and how it plans a record's mark.
use Rattle.std.specs.Prelude.{◌≡◌, ◌+◌, ◌-◌, ◌%◌, ◌<◌, ℕ, List, nat_le, max, length, drop, Contains, slice_index, slice_index_or, slice_set}
use Rattle.am_opts.specs.Marking.{Marking}
use Rattle.am_clock.specs.Times.{IsMarkedIn, parity}
use Rattle.am_pcap.specs.Packets.{Packet, reading_of}
use Rattle.am_pcap.specs.Spelling.{record_bytes}
use Rattle.am_pcap.specs.CaptureFiles.{is_whole}
use Rattle.am_pcap.specs.declared.head.Head.{Head}
use Rattle.am_domain.specs.Domains.{DomainValue}
use Rattle.am_domain.specs.Values.{FlowValue}
use Rattle.am_insert.specs.Inserting.{Inserted, IsOpen}
use Rattle.am_run.specs.Rewriting.{with_packet}
use Rattle.am_run.specs.commands.Mark.{IsInBlock, IsFullRecord}

-- this is one behind the greatest block in which a record of the flow was; 0 where there was none
pub record IsNewest (d : DomainValue) (h : Head) (ps : List Packet) (number newest : ℕ) : Type 0 where
  pub above : (q : Packet) (block : ℕ) → Contains ps q → IsInBlock d h q number block → block < newest
  pub reached : 0 < newest → (q : Packet) × Contains ps q × IsInBlock d h q number (newest - 1)

-- the same, of each flow
pub record AreNewest (d : DomainValue) (h : Head) (ps : List Packet) (newest : List ℕ) : Type 0 where
  pub each_flow : length newest ≡ length d.flows
  pub each_newest : (number : ℕ) → number < length d.flows → IsNewest d h ps number (slice_index newest number)

-- a record of this flow gets this packet, in this block, where the flow was in blocks below this number before
pub record PlansMark (d : DomainValue) (h : Head) (p : Packet) (at number newest block : ℕ) (packet : List ℕ) : Type 0 where
  pub marked_in : IsMarkedIn d.times (reading_of h.form.nano p) block
  pub mark : Marking
  pub flow : (default : FlowValue) → mark.flow ≡ (slice_index_or d.flows number default).id
  pub loss : block % 2 ≡ parity mark.loss
  pub delay : mark.delay ≡ nat_le newest block
  pub unhindered : IsOpen (drop at p.bytes) (is_whole p) d.kind
  pub room : IsFullRecord p → ⊥
  pub inserted : Inserted (drop at p.bytes) mark d.kind packet

-- the piece is the record of this flow with its mark, and the flow's newest block is told
pub record MarksRecord (d : DomainValue) (h : Head) (p : Packet) (at number : ℕ) (old new piece : List ℕ) : Type 0 where
  pub block : ℕ
  pub packet : List ℕ
  pub plan : PlansMark d h p at number (slice_index old number) block packet
  pub piece_is : piece ≡ record_bytes h.form.big (with_packet p at packet (p.original + 8))
  pub newest_is : new ≡ slice_set old number (max (slice_index old number) (block + 1))
