-- What the parts of `show` add to a line.
use Rattle.std.specs.Prelude.{◌≡◌, ℕ, Bool, List, ◌++◌, Option, Some, None, codes, decimal}
use Rattle.am_opts.specs.Marking.{Marking, bit}
use Rattle.am_run.specs.Lines.{IsPacketText}

-- a mark: flow, loss bit and delay bit
abbrev pub mark_text : Marking → List ℕ
mark_text m = decimal m.flow ++ codes "/" ++ decimal (bit m.loss) ++ codes "/" ++ decimal (bit m.delay)

-- a packet without a header, or with one, of eight bytes with this mark; and this number behind
abbrev pub brief_text : Option Marking → ℕ → List ℕ
brief_text None next = codes "ip6 =" ++ decimal next ++ codes " - -"
brief_text (Some m) next = codes "ip6 0:8,=" ++ decimal next ++ codes " " ++ mark_text m ++ codes " -"

-- a text grew by the line of a record that begins so and holds this packet
pub record AddsPacket (start packet : List ℕ) (whole : Bool) (old new : List ℕ) : Type 0 where
  pub held : List ℕ
  pub text : IsPacketText packet whole held
  pub added : new ≡ old ++ (start ++ held ++ codes "\n")
