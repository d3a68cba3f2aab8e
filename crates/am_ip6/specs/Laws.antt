-- What holds of every packet.
use Rattle.std.specs.Prelude.{◌≡◌, ℕ, Bool, List}
use Rattle.am_ip6.specs.Chains.{Lent, HasHeaders}
use Rattle.am_ip6.specs.Endings.{Ended, EndsSo}

-- the walk of a packet, of which all bytes were captured or not: it has headers and an ending after them, and no others
pub record HasOneWalk (packet : List ℕ) (whole : Bool) : Type 0 where
  pub headers : List Lent
  pub ended : Ended
  pub chain : HasHeaders packet headers
  pub ends : EndsSo packet whole headers ended
  pub one_chain : (others : List Lent) → HasHeaders packet others → others ≡ headers
  pub one_ending : (other : Ended) → EndsSo packet whole headers other → other ≡ ended
