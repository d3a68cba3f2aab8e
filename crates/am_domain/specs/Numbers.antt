-- The numbers of flows in ascending order.
use Rattle.std.specs.Prelude.{◌≡◌, ℕ, ◌<◌, List, All, Contains, length, slice_index_or}
use Rattle.std.specs.List.Sorted.{IsNonDecreasingBy}
use Rattle.am_domain.specs.Values.{FlowValue}
use Rattle.am_domain.specs.declared.numbers.Numbered.{Numbered}

-- the number is that of the flow at its place
pub record IsNumbered (flows : List FlowValue) (n : Numbered) : Type 0 where
  pub within : n.at < length flows
  pub here : (d : FlowValue) → (slice_index_or flows n.at d).id ≡ n.id

-- these are the numbers of the flows, in ascending order
pub record AreNumbers (flows : List FlowValue) (numbers : List Numbered) : Type 0 where
  pub rising : IsNonDecreasingBy (λ n. n.id) numbers
  pub each : All (IsNumbered flows) numbers
  pub all : (i : ℕ) (d : FlowValue)
      → i < length flows → Contains numbers (record { id = (slice_index_or flows i d).id; at = i })
