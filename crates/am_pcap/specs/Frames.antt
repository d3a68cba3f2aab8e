-- Where the IPv6 packet begins in the bytes of a record, by the capture's link type.
use Rattle.std.specs.Prelude.{◌≡◌, ◌≢◌, ◌⊎◌, ℕ, ◌+◌, ◌*◌, ◌/◌, ◌^◌, ◌<◌, ◌≤◌, Bool, List, length, slice_index, if◌then◌else◌, ⊤}
use Rattle.am_pcap.specs.declared.frame.Frame.{Frame}
use Rattle.am_pcap.specs.declared.frame.Frame.TheVariants.{Ip6, Other, Cut}
use Rattle.am_pcap.specs.declared.frame.LinkKind.{LinkKind}
use Rattle.am_pcap.specs.declared.frame.LinkKind.TheVariants.{Ethernet, RawIp, RawIp6}

-- bytes that would tell are missing: they were cut off, unless all bytes were captured
abbrev pub untold : Bool → Frame
untold whole = if whole then Other else Cut

-- the type of an Ethernet frame at a place, in network order
abbrev pub type_at : List ℕ → ℕ → ℕ
type_at bytes at = slice_index bytes at * 2 ^ 8 + slice_index bytes (at + 1)

-- a tag stands at this place: its two bytes are there and announce one (IEEE 802.1Q: 0x8100 and 0x88A8)
abbrev pub HasTag : List ℕ → ℕ → Type 0
HasTag bytes at = (at + 2 ≤ length bytes) × ((type_at bytes at ≡ 0x8100) ⊎ (type_at bytes at ≡ 0x88A8))

-- the frame's type stands at this place: behind the two addresses, and behind two tags of four bytes at most
abbrev pub IsTypePlace : List ℕ → ℕ → Type 0
IsTypePlace bytes at =
    ((at ≡ 12) × (HasTag bytes 12 → ⊥))
    ⊎ ((at ≡ 16) × HasTag bytes 12 × (HasTag bytes 16 → ⊥))
    ⊎ ((at ≡ 20) × HasTag bytes 12 × HasTag bytes 16)

-- what a type at this place says: nothing where it isn't wholly there; 0x86DD is IPv6, directly behind it
abbrev pub TypeSays : List ℕ → Bool → ℕ → Frame → Type 0
TypeSays bytes whole at frame =
    ((length bytes < at + 2) × (frame ≡ untold whole))
    ⊎ ((at + 2 ≤ length bytes) × (type_at bytes at ≡ 0x86DD) × (frame ≡ Ip6 (at + 2)))
    ⊎ ((at + 2 ≤ length bytes) × (type_at bytes at ≢ 0x86DD) × (frame ≡ Other))

-- what the first byte of a raw IP packet says
abbrev pub VersionSays : List ℕ → Bool → Frame → Type 0
VersionSays bytes whole frame =
    ((length bytes ≡ 0) × (frame ≡ untold whole))
    ⊎ ((0 < length bytes) × (slice_index bytes 0 / 16 ≡ 6) × (frame ≡ Ip6 0))
    ⊎ ((0 < length bytes) × (slice_index bytes 0 / 16 ≢ 6) × (frame ≡ Other))

-- where the packet begins in these bytes of a record, of which all were captured or not
abbrev pub IsFramed : LinkKind → List ℕ → Bool → Frame → Type 0
IsFramed Ethernet bytes whole frame = (at : ℕ) × IsTypePlace bytes at × TypeSays bytes whole at frame
IsFramed RawIp bytes whole frame = VersionSays bytes whole frame
IsFramed RawIp6 bytes whole frame = frame ≡ Ip6 0

-- the place where a packet begins is within the bytes, or at their end
abbrev pub IsWithin : Frame → List ℕ → Type 0
IsWithin (Ip6 at) bytes = at ≤ length bytes
IsWithin Other bytes = ⊤
IsWithin Cut bytes = ⊤
