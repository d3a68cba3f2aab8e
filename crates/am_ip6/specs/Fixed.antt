-- The fixed header of an IPv6 packet (RFC 8200, section 3): 40 bytes, numbers in network order.
use Rattle.std.specs.Prelude.{◌≡◌, ℕ, ◌+◌, ◌*◌, ◌/◌, ◌%◌, ◌^◌, ◌≤◌, min, List, length, take, drop, slice_index}

-- the bytes begin with a fixed header of version 6
pub record IsFixed (packet : List ℕ) : Type 0 where
  pub whole : 40 ≤ length packet
  pub version : slice_index packet 0 / 16 ≡ 6

-- how many bytes follow the fixed header, as it says
abbrev pub payload_of : List ℕ → ℕ
payload_of packet = slice_index packet 4 * 2 ^ 8 + slice_index packet 5

-- how many bytes the packet has, as it says
abbrev pub claimed_length : List ℕ → ℕ
claimed_length packet = 40 + payload_of packet

-- where headers must end: at the end of the bytes that are there, and of the packet as it says
abbrev pub limit_of : List ℕ → ℕ
limit_of packet = min (length packet) (claimed_length packet)

-- the parts of a fixed header
pub record FixedParts : Type 0 where
  pub class : ℕ
  pub flow_label : ℕ
  pub payload : ℕ
  pub next : ℕ
  pub hops : ℕ
  pub source : List ℕ
  pub destination : List ℕ

abbrev pub parts_of : List ℕ → FixedParts
parts_of packet = record {
  class = slice_index packet 0 % 16 * 16 + slice_index packet 1 / 16;
  flow_label = slice_index packet 1 % 16 * 2 ^ 16 + slice_index packet 2 * 2 ^ 8 + slice_index packet 3;
  payload = payload_of packet;
  next = slice_index packet 6;
  hops = slice_index packet 7;
  source = take 16 (drop 8 packet);
  destination = take 16 (drop 24 packet);
}
