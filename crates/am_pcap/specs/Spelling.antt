-- The bytes of a record, in the file's byte order (the pcap savefile format).
use Rattle.std.specs.Prelude.{◌≡◌, ℕ, ◌^◌, ◌<◌, ◌≤◌, Bool, List, ◌++◌, length, cond, flat_map, All, slice_index}
use Rattle.std.specs.Int.{w32, to_be_bytes, to_le_bytes}
use Rattle.am_pcap.specs.Packets.{Packet}
use Rattle.am_pcap.specs.declared.decoder.TheConstants.{MAX_CAPTURED}
use Rattle.am_pcap.specs.declared.head.Head.{Head}

-- the four bytes of a number
abbrev pub word_spelled : Bool → ℕ → List ℕ
word_spelled big n = cond big (to_be_bytes w32 n) (to_le_bytes w32 n)

-- the 16 bytes that stand before a packet: its time, how many of its bytes follow, and how long it was on the wire
abbrev pub head_spelled : Bool → ℕ → ℕ → ℕ → ℕ → List ℕ
head_spelled big seconds fraction captured original =
    word_spelled big seconds ++ word_spelled big fraction ++ word_spelled big captured ++ word_spelled big original

-- the bytes of the record of a packet
abbrev pub record_bytes : Bool → Packet → List ℕ
record_bytes big p = head_spelled big p.seconds p.fraction (length p.bytes) p.original ++ p.bytes

-- the bytes of a capture with this file header, as it was read, and these records
abbrev pub capture_bytes : Head → List Packet → List ℕ
capture_bytes h ps = h.raw ++ flat_map (λ p. record_bytes h.form.big p) ps

-- a record can be of the packet: its numbers have 32 bits, and it has no more bytes than a record may have
pub record FitsRecord (p : Packet) : Type 0 where
  pub seconds : p.seconds < 2 ^ 32
  pub fraction : p.fraction < 2 ^ 32
  pub original : p.original < 2 ^ 32
  pub captured : length p.bytes ≤ MAX_CAPTURED

-- each number of the packet's bytes is a byte
abbrev pub HasBytes : Packet → Type 0
HasBytes p = (k : ℕ) → slice_index p.bytes k < 2 ^ 8

-- the bytes are those of a capture with this file header and these records, and records can be of the packets
pub record IsSpelled (bytes : List ℕ) (h : Head) (ps : List Packet) : Type 0 where
  pub spelled : bytes ≡ capture_bytes h ps
  pub fit : All FitsRecord ps
  pub are_bytes : All HasBytes ps
