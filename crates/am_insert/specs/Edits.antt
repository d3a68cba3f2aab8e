-- What an edit makes of a packet.
use Rattle.std.specs.Prelude.{ℕ, ◌+◌, ◌<◌, ◌≤◌, List, length, Option, Some, None, slice_set}
use Rattle.am_insert.specs.Changes.{put_in, without_eight, with_payload}

-- the payload length, one further byte and its place, and where eight bytes come in or go out: those that come in, if they do
pub record Change : Type 0 where
  pub payload : ℕ
  pub place : ℕ
  pub byte : ℕ
  pub at : ℕ
  pub eight : Option (List ℕ)

-- eight bytes come in at this place, or go out there
abbrev pub moved : List ℕ → ℕ → Option (List ℕ) → List ℕ
moved packet at (Some eight) = put_in packet at eight
moved packet at None = without_eight packet at

-- what the edit makes of the packet
abbrev pub edited : Change → List ℕ → List ℕ
edited c packet = moved (slice_set (with_payload c.payload packet) c.place c.byte) c.at c.eight

-- where what was at this place goes on, behind eight bytes that go out, if they do
abbrev pub goes_on : ℕ → Option (List ℕ) → ℕ
goes_on at (Some eight) = at
goes_on at None = at + 8

-- the edit is one of the packet: its places stand in order, and within it
pub record IsEditOf (c : Change) (packet : List ℕ) : Type 0 where
  pub fixed : 40 ≤ c.at
  pub before : c.place < c.at
  pub within : goes_on c.at c.eight ≤ length packet
