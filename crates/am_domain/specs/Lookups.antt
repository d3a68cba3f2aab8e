-- Flows that are looked up.
use Rattle.std.specs.Prelude.{◌≡◌, ℕ, List, length}
use Rattle.am_addr.specs.Bits.{BeginAlike}
use Rattle.am_domain.specs.Values.{FlowValue}
use Rattle.am_domain.specs.Lists.{AllBelow, IsFirstPlace}

-- this is the place of the first that has it
abbrev pub IsFirstWith : {X : Type 0} → (X → Type 0) → List X → ℕ → Type 0
IsFirstWith P = IsFirstPlace (λ x. ¬ P x) P

-- none has it
abbrev pub NoneHas : {X : Type 0} → (X → Type 0) → List X → Type 0
NoneHas P xs = AllBelow (λ x. ¬ P x) (length xs) xs

-- the flow has this number
abbrev pub HasId : ℕ → FlowValue → Type 0
HasId id flow = flow.id ≡ id

-- both prefixes of the flow hold the packet's addresses, by their first bits
pub record Holds (source destination : List ℕ) (flow : FlowValue) : Type 0 where
  pub of_source : BeginAlike flow.source.length source flow.source.bytes
  pub of_destination : BeginAlike flow.destination.length destination flow.destination.bytes
