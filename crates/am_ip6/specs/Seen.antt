-- What is found of a mark in a packet, in the words of the definitions.
use Rattle.std.specs.Prelude.{◌≡◌, ◌≢◌, ℕ, Bool, List}
use Rattle.am_ip6.specs.declared.marks.Place.{Place}
use Rattle.am_ip6.specs.declared.marks.Place.TheVariants.{HopByHop, Destination}
use Rattle.am_ip6.specs.declared.marks.Found.{Found}
use Rattle.am_ip6.specs.declared.marks.Found.TheVariants.{Marked, Unmarked, Cut}
use Rattle.am_ip6.specs.Chains.{Lent, HasHeaders}
use Rattle.am_ip6.specs.Endings.{Ended, EndsSo}
use Rattle.am_ip6.specs.Endings.Ended.{WasCut}
use Rattle.am_ip6.specs.Marks.{Seen, SeenInHopByHop, SeenInDestination}
use Rattle.am_ip6.specs.Marks.Seen.{Marks, NoMark, CutOff}

abbrev pub seen_shown : Found → Seen
seen_shown (Marked mark at) = Marks mark at
seen_shown Unmarked = NoMark
seen_shown Cut = CutOff

-- where no mark came before the end, there is none, unless the packet was cut
abbrev pub IsUnlessCut : Ended → Seen → Type 0
IsUnlessCut ended (Marks mark at) = ⊥
IsUnlessCut ended NoMark = ended ≢ WasCut
IsUnlessCut ended CutOff = ended ≡ WasCut

-- what is found in this kind of header
abbrev pub SeenIn : Place → List ℕ → Bool → List Lent → Ended → Seen → Type 0
SeenIn HopByHop packet whole hs ended seen = SeenInHopByHop packet whole hs ended seen
SeenIn Destination packet whole hs ended seen = SeenInDestination packet whole hs ended seen

-- what is found, whatever the headers and the ending of the packet are
abbrev pub SeenInEach : Place → List ℕ → Bool → Seen → Type 0
SeenInEach place packet whole seen =
    (hs : List Lent) (ended : Ended) → HasHeaders packet hs → EndsSo packet whole hs ended → SeenIn place packet whole hs ended seen

-- what is found of a mark in this kind of header of a packet, by its headers and by how its walk ends behind them
pub record IsSeen (packet : List ℕ) (whole : Bool) (place : Place) (seen : Seen) : Type 0 where
  pub headers : List Lent
  pub ended : Ended
  pub chain : HasHeaders packet headers
  pub ends : EndsSo packet whole headers ended
  pub seen_in : SeenIn place packet whole headers ended seen
