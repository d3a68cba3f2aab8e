-- The command `strip`: the capture without the marks of the domain's flows (RFC 9343, section 4).
use Rattle.std.specs.Prelude.{◌≡◌, ◌⊎◌, ◌-◌, ◌≤◌, ℕ, List, drop, slice_index_or}
use Rattle.am_opts.specs.Marking.{Marking}
use Rattle.am_pcap.specs.Packets.{Packet}
use Rattle.am_pcap.specs.declared.head.Head.{Head}
use Rattle.am_domain.specs.Domains.{DomainValue}
use Rattle.am_domain.specs.Values.{FlowValue}
use Rattle.am_insert.specs.Stripping.{Stripped}
use Rattle.am_chain.specs.Chains.{Chain, Stream}
use Rattle.am_chain.specs.Chains.Chain.{Reads, Streams}
use Rattle.am_chain.specs.Inputs.{JudgesDomain}
use Rattle.am_run.specs.Rewriting.{IsOfFlow, with_packet, Rewrite, IsRewritten}
use Rattle.am_chain.specs.WordForms.{DomainFile}

-- the record is of a flow and has that flow's mark, which comes out: the first in its kind of header, with the flow's number,
-- in a shape in which marks are put in; and its length on the wire has room for eight bytes fewer
pub record HasOwnMark (d : DomainValue) (h : Head) (p : Packet) (at : ℕ) (packet : List ℕ) : Type 0 where
  pub number : ℕ
  pub of_flow : IsOfFlow d h.link p at number
  pub mark : Marking
  pub own : (default : FlowValue) → mark.flow ≡ (slice_index_or d.flows number default).id
  pub stripped : Stripped (drop at p.bytes) mark d.kind packet
  pub room : 8 ≤ p.original

-- the record has no mark of its own that comes out
abbrev pub HasNoOwnMark : DomainValue → Head → Packet → Type 0
HasNoOwnMark d h p = (at : ℕ) (packet : List ℕ) → HasOwnMark d h p at packet → ⊥

-- the record loses its mark, and both its lengths are 8 less
pub record LosesMark (d : DomainValue) (h : Head) (p q : Packet) : Type 0 where
  pub at : ℕ
  pub packet : List ℕ
  pub has : HasOwnMark d h p at packet
  pub stripped : q ≡ with_packet p at packet (p.original - 8)

-- what becomes of a record: one with a mark of its own that comes out loses it, and any other is as it is
abbrev pub strips : DomainValue → Rewrite
strips d h before p q = LosesMark d h p q ⊎ (HasNoOwnMark d h p × (q ≡ p))

-- the capture without those marks, record by record; no record is refused for what it holds
abbrev pub stripped_records : DomainValue → Stream
stripped_records d = record {
  text_of = IsRewritten (strips d);
  all_of = IsRewritten (strips d);
  refuses = λ h ps p reason. ⊥;
}

-- the domain file is read whole, and the capture is printed without its marks
abbrev pub strip_chain : DomainFile → Chain
strip_chain a = Reads DomainValue a.domain JudgesDomain (λ d. Streams a.file (stripped_records d))
