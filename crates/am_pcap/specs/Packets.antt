-- What stands in a capture, as bytes: the file header, then records one after another (the pcap savefile format).
use Rattle.std.specs.Prelude.{◌≡◌, ℕ, ◌+◌, ◌*◌, ◌^◌, ◌≤◌, Bool, true, false, List, [], ◌∷◌, length, take, drop, slice_index}
use Rattle.am_pcap.specs.declared.decoder.TheConstants.{MAX_CAPTURED}

-- the 32-bit number at a place of the bytes, in the file's byte order: the lowest byte stands first, or last where the order is big-endian
unfoldable pub word : Bool → List ℕ → ℕ → ℕ
word false bytes at =
    slice_index bytes at + slice_index bytes (at + 1) * 2 ^ 8 + slice_index bytes (at + 2) * 2 ^ 16 + slice_index bytes (at + 3) * 2 ^ 24
word true bytes at =
    slice_index bytes at * 2 ^ 24 + slice_index bytes (at + 1) * 2 ^ 16 + slice_index bytes (at + 2) * 2 ^ 8 + slice_index bytes (at + 3)

-- a captured packet: its time in seconds and a fraction, how long it was on the wire, and the bytes that were captured
pub record Packet : Type 0 where
  pub seconds : ℕ
  pub fraction : ℕ
  pub original : ℕ
  pub bytes : List ℕ

-- the bytes begin with a whole record: its header of 16 bytes, and as many bytes behind it as that says, which are not too many
pub record IsWhole (big : Bool) (bytes : List ℕ) : Type 0 where
  pub head : 16 ≤ length bytes
  pub not_long : word big bytes 8 ≤ MAX_CAPTURED
  pub body : 16 + word big bytes 8 ≤ length bytes

-- the packet of the record that the bytes begin with
abbrev pub first_packet : Bool → List ℕ → Packet
first_packet big bytes = record {
  seconds = word big bytes 0;
  fraction = word big bytes 4;
  original = word big bytes 12;
  bytes = take (word big bytes 8) (drop 16 bytes);
}

-- what stands behind the record that the bytes begin with
abbrev pub behind_first : Bool → List ℕ → List ℕ
behind_first big bytes = drop (16 + word big bytes 8) bytes

-- the bytes are whole records with these packets, and then the rest
abbrev pub HoldsPackets : Bool → List ℕ → List Packet → List ℕ → Type 0
HoldsPackets big bytes [] rest = bytes ≡ rest
HoldsPackets big bytes (p ∷ ps) rest = IsWhole big bytes × (p ≡ first_packet big bytes) × HoldsPackets big (behind_first big bytes) ps rest

-- the nanoseconds of a fraction of a second
abbrev pub fraction_unit : Bool → ℕ
fraction_unit true = 1
fraction_unit false = 1000

-- when a packet was seen, in nanoseconds from the capture's epoch
abbrev pub reading_of : Bool → Packet → ℕ
reading_of nano p = p.seconds * 10 ^ 9 + p.fraction * fraction_unit nano
