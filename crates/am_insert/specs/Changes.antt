-- What becomes of a packet where eight bytes come into it or go out of it (RFC 8200, sections 3 and 4.2). Places count bytes from the packet's first.
use Rattle.std.specs.Prelude.{ℕ, ◌+◌, ◌-◌, ◌/◌, ◌%◌, ◌^◌, ◌<◌, List, ◌++◌, length, take, drop, slice_index, slice_set}
use Rattle.am_ip6.specs.declared.marks.Place.{Place}
use Rattle.am_ip6.specs.declared.marks.Place.TheVariants.{HopByHop, Destination}
use Rattle.am_ip6.specs.Fixed.{payload_of}
use Rattle.am_ip6.specs.Chains.{Lent, Spot, first_spot, spot_after}
use Rattle.am_ip6.specs.Marks.{hop_by_hop, destination}

-- each number of the list is a byte
abbrev pub IsBytes : List ℕ → Type 0
IsBytes packet = (k : ℕ) → slice_index packet k < 2 ^ 8

-- the number of the headers that marks are looked for in
abbrev pub kind_of : Place → ℕ
kind_of HopByHop = hop_by_hop
kind_of Destination = destination

-- the packet with these bytes put in at this place
abbrev pub put_in : List ℕ → ℕ → List ℕ → List ℕ
put_in packet at bytes = take at packet ++ bytes ++ drop at packet

-- the packet without the eight bytes at this place
abbrev pub without_eight : List ℕ → ℕ → List ℕ
without_eight packet at = take at packet ++ drop (at + 8) packet

-- the packet with this payload length: two bytes in network order (RFC 8200, section 3)
abbrev pub with_payload : ℕ → List ℕ → List ℕ
with_payload payload packet = slice_set (slice_set packet 4 (payload / 2 ^ 8)) 5 (payload % 2 ^ 8)

-- the packet as it says that eight bytes more follow its fixed header, with this byte at this place
abbrev pub lengthened : List ℕ → ℕ → ℕ → List ℕ
lengthened packet place byte = slice_set (with_payload (payload_of packet + 8) packet) place byte

-- the packet as it says that eight bytes fewer follow its fixed header, with this byte at this place
abbrev pub shortened : List ℕ → ℕ → ℕ → List ℕ
shortened packet place byte = slice_set (with_payload (payload_of packet - 8) packet) place byte

-- the place of a header's Hdr Ext Len, which counts its bytes in units of eight after the first eight
abbrev pub size_place : Lent → ℕ
size_place h = h.at + 1

-- where a header ends
abbrev pub header_end : Lent → ℕ
header_end h = h.at + length h.bytes

-- where a new header goes: directly behind the fixed header for Hop-by-Hop Options (RFC 8200, section 4.1), and behind all headers that are walked for Destination Options
abbrev pub spot_of_new : Place → List ℕ → List Lent → Spot
spot_of_new HopByHop packet hs = first_spot packet
spot_of_new Destination packet hs = spot_after packet (first_spot packet) hs
