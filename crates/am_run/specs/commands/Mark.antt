-- The command `mark`: the capture with a mark in each packet of the domain's flows (RFC 9343, section 4).
use Rattle.std.specs.Prelude.{◌≡◌, ◌⊎◌, ◌↔◌, ◌+◌, ◌%◌, ◌<◌, ℕ, IsTrue, List, length, drop, Contains, slice_index_or}
use Rattle.am_opts.specs.Marking.{Marking}
use Rattle.am_clock.specs.Times.{IsMarkedIn, parity}
use Rattle.am_pcap.specs.Packets.{Packet, reading_of}
use Rattle.am_pcap.specs.CaptureFiles.{is_whole}
use Rattle.am_pcap.specs.declared.head.Head.{Head}
use Rattle.am_domain.specs.Domains.{DomainValue}
use Rattle.am_domain.specs.Values.{FlowValue}
use Rattle.am_insert.specs.Inserting.{Inserted, HindersFirst, IsOpen}
use Rattle.am_insert.specs.declared.insert.InsertError.{InsertError}
use Rattle.am_chain.specs.Answers.{Reason}
use Rattle.am_chain.specs.Answers.Reason.{NotInserted, RecordFull}
use Rattle.am_chain.specs.Chains.{Chain, Stream}
use Rattle.am_chain.specs.Chains.Chain.{Reads, Streams}
use Rattle.am_chain.specs.Inputs.{JudgesDomain}
use Rattle.am_run.specs.Rewriting.{IsOfFlow, IsOfNoFlow, with_packet, Rewrite, IsRewritten}
use Rattle.am_chain.specs.WordForms.{DomainFile}

-- the record is of this flow, and its reading is in this block
pub record IsInBlock (d : DomainValue) (h : Head) (p : Packet) (number block : ℕ) : Type 0 where
  pub at : ℕ
  pub of_flow : IsOfFlow d h.link p at number
  pub marked_in : IsMarkedIn d.times (reading_of h.form.nano p) block

-- the block exceeds all in which records of this flow were before (the delay bit: RFC 9343, section 3.1; that it is set once a block is this project's own)
abbrev pub IsAhead : DomainValue → Head → List Packet → ℕ → ℕ → Type 0
IsAhead d h before number block =
    (q : Packet) (earlier : ℕ) → Contains before q → IsInBlock d h q number earlier → earlier < block

-- the mark of a record: its flow's number, the colour of its block, and the delay bit on the first packet of the flow in a block that exceeds all before
pub record IsMarkOf (d : DomainValue) (h : Head) (before : List Packet) (p : Packet) (number : ℕ) (mark : Marking) : Type 0 where
  pub block : ℕ
  pub marked_in : IsMarkedIn d.times (reading_of h.form.nano p) block
  pub flow : (default : FlowValue) → mark.flow ≡ (slice_index_or d.flows number default).id
  pub loss : block % 2 ≡ parity mark.loss
  pub delay : IsTrue mark.delay ↔ IsAhead d h before number block

-- the record has no room for eight bytes more: it has more than 262,136, or its length on the wire is above 4,294,967,287
abbrev pub IsFullRecord : Packet → Type 0
IsFullRecord p = (262136 < length p.bytes) ⊎ (4294967287 < p.original)

-- the record gets its mark, and both its lengths are 8 more
pub record GetsMark (d : DomainValue) (h : Head) (before : List Packet) (p q : Packet) : Type 0 where
  pub at : ℕ
  pub number : ℕ
  pub of_flow : IsOfFlow d h.link p at number
  pub mark : Marking
  pub mark_is : IsMarkOf d h before p number mark
  pub packet : List ℕ
  pub unhindered : IsOpen (drop at p.bytes) (is_whole p) d.kind
  pub room : IsFullRecord p → ⊥
  pub inserted : Inserted (drop at p.bytes) mark d.kind packet
  pub marked : q ≡ with_packet p at packet (p.original + 8)

-- what becomes of a record: one of a flow gets its mark, and any other is as it is
abbrev pub marks : DomainValue → Rewrite
marks d h before p q = GetsMark d h before p q ⊎ (IsOfNoFlow d h.link p × (q ≡ p))

-- why a record of a flow, whose packet begins at this place, is refused: what hinders first that its mark is put in, or that it has no room
abbrev pub RefusesMarkAt : DomainValue → ℕ → Packet → ℕ → Reason → Type 0
RefusesMarkAt d number p at reason =
    ((error : InsertError) × (reason ≡ NotInserted number error) × HindersFirst (drop at p.bytes) (is_whole p) d.kind error)
    ⊎ ((reason ≡ RecordFull number) × IsOpen (drop at p.bytes) (is_whole p) d.kind × IsFullRecord p)

-- a record is refused only where it is of a flow
abbrev pub RefusesMark : DomainValue → Head → List Packet → Packet → Reason → Type 0
RefusesMark d h before p reason = (at : ℕ) × (flow : ℕ) × IsOfFlow d h.link p at flow × RefusesMarkAt d (length before + 1) p at reason

-- the capture with its marks, record by record
abbrev pub marked_records : DomainValue → Stream
marked_records d = record {
  text_of = IsRewritten (marks d);
  all_of = IsRewritten (marks d);
  refuses = RefusesMark d;
}

-- the domain file is read whole, and the capture is printed with its marks
abbrev pub mark_chain : DomainFile → Chain
mark_chain a = Reads DomainValue a.domain JudgesDomain (λ d. Streams a.file (marked_records d))
