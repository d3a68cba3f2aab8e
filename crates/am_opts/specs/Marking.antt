-- The AltMark Option and the six bytes that spell it (RFC 9343, section 3; options: RFC 8200, section 4.2).
use Rattle.std.specs.Prelude.{◌≡◌, ℕ, ◌+◌, ◌*◌, ◌^◌, ◌<◌, Bool, true, false, List, [], ◌∷◌}

-- what a mark says: the flow that it names, the loss bit, which is the packet's colour, and the delay bit
pub record Marking : Type 0 where
  pub flow : ℕ
  pub loss : Bool
  pub delay : Bool

-- the mark with these three parts
abbrev pub mark_of : ℕ → Bool → Bool → Marking
mark_of flow loss delay = record { flow = flow; loss = loss; delay = delay }

-- a bit as a number
abbrev pub bit : Bool → ℕ
bit true = 1
bit false = 0

-- the 32 bits of the option's data, from the highest: 20 of the flow, the loss bit, the delay bit, and ten that are reserved
abbrev pub data_of : Marking → ℕ → ℕ
data_of m reserved = m.flow * 2 ^ 12 + bit m.loss * 2 ^ 11 + bit m.delay * 2 ^ 10 + reserved

-- these bytes spell the mark: type 0x12, length 4, and the data in network order, with reserved bits of any value
pub record Spells (bytes : List ℕ) (mark : Marking) : Type 0 where
  pub x : ℕ
  pub y : ℕ
  pub z : ℕ
  pub w : ℕ
  pub reserved : ℕ
  pub spelled : bytes ≡ 0x12 ∷ 4 ∷ x ∷ y ∷ z ∷ w ∷ []
  pub bits : data_of mark reserved ≡ x * 2 ^ 24 + y * 2 ^ 16 + z * 2 ^ 8 + w
  pub below : reserved < 2 ^ 10
  pub flow_fits : mark.flow < 2 ^ 20

-- these bytes are the spelling of the mark that is written: the one whose reserved bits are zero
pub record IsCanonical (bytes : List ℕ) (mark : Marking) : Type 0 where
  pub spells : Spells bytes mark
  pub none_reserved : spells.reserved ≡ 0
