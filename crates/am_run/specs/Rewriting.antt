-- What `mark` and `strip` write of a capture: its file header as it is, then each record, changed or as it is.
use Rattle.std.specs.Prelude.{◌≡◌, ℕ, List, [], ◌∷◌, ◌++◌, take, drop}
use Rattle.am_ip6.specs.Fixed.{IsFixed, parts_of}
use Rattle.am_pcap.specs.Packets.{Packet}
use Rattle.am_pcap.specs.Spelling.{capture_bytes}
use Rattle.am_pcap.specs.Frames.{IsFramed}
use Rattle.am_pcap.specs.CaptureFiles.{is_whole}
use Rattle.am_pcap.specs.declared.frame.Frame.TheVariants.{Ip6}
use Rattle.am_pcap.specs.declared.frame.LinkKind.{LinkKind}
use Rattle.am_pcap.specs.declared.head.Head.{Head}
use Rattle.am_domain.specs.Domains.{DomainValue}
use Rattle.am_domain.specs.Lookups.{IsFirstWith, Holds}

-- the IPv6 packet of the record begins at this place of its bytes, and its fixed header is there (RFC 8200, section 3)
pub record HasPacketAt (link : LinkKind) (p : Packet) (at : ℕ) : Type 0 where
  pub framed : IsFramed link p.bytes (is_whole p) (Ip6 at)
  pub fixed : IsFixed (drop at p.bytes)

-- the record is of the flow of this number: the first whose prefixes hold both addresses of its packet, which begins at this place
pub record IsOfFlow (d : DomainValue) (link : LinkKind) (p : Packet) (at number : ℕ) : Type 0 where
  pub packet : HasPacketAt link p at
  pub first : IsFirstWith (Holds (parts_of (drop at p.bytes)).source (parts_of (drop at p.bytes)).destination) d.flows number

-- the record is of no flow
abbrev pub IsOfNoFlow : DomainValue → LinkKind → Packet → Type 0
IsOfNoFlow d link p = (at number : ℕ) → IsOfFlow d link p at number → ⊥

-- the record with this packet in the place of its own, and this length on the wire
abbrev pub with_packet : Packet → ℕ → List ℕ → ℕ → Packet
with_packet p at packet original = record {
  seconds = p.seconds;
  fraction = p.fraction;
  original = original;
  bytes = take at p.bytes ++ packet;
}

-- how a command changes records: what becomes of a packet that stands behind others of a capture with this file header
abbrev pub Rewrite : Type 1
Rewrite = Head → List Packet → Packet → Packet → Type 0

-- behind these records, such records become of these
abbrev pub AreRewritten : Rewrite → Head → List Packet → List Packet → List Packet → Type 0
AreRewritten rewrite h before [] qs = qs ≡ []
AreRewritten rewrite h before (p ∷ ps) qs =
    (q : Packet) × (rest : List Packet) × rewrite h before p q × AreRewritten rewrite h (before ++ p ∷ []) ps rest × (qs ≡ q ∷ rest)

-- the text is the capture with the records that become of these
pub record IsRewritten (rewrite : Rewrite) (h : Head) (ps : List Packet) (text : List ℕ) : Type 0 where
  pub records : List Packet
  pub rewritten : AreRewritten rewrite h [] ps records
  pub written : text ≡ capture_bytes h records
