-- What `sim` tells of a made world: as much is reported as the world drops (RFC 9341, section 3.1; RFC 9342, section 5).
use Rattle.std.specs.Prelude.{◌≡◌, ℕ, List, Option, All}
use Rattle.std.specs.Io.KnownBytes.{append_known}
use Rattle.am_sim.specs.Simulating.{IsRight}
use Rattle.am_sim.specs.Texts.{sim_text}
use Rattle.am_sim.specs.declared.row.SimRow.{SimRow}
use Rattle.am_run.specs.Forms.{SaysCommand}
use Rattle.am_run.specs.Forms.Kind.{Simulating}
use Rattle.am_run.specs.commands.Sim.{Sim}

-- this was printed: the text of rows, in each of which as much is reported as is dropped, in all and of each flow and
-- reported block
pub record PrintsRight (old new : Option (List ℕ)) : Type 0 where
  pub rows : List SimRow
  pub right : All IsRight rows
  pub printed : new ≡ append_known old (sim_text rows)

-- where the words are `sim` and the command is done, what it printed is right
abbrev pub TellsSim : List (List ℕ) → Option (List ℕ) → Option (List ℕ) → ℕ → Type 0
TellsSim words old new status =
    (s : Sim) → status ≡ 0 → SaysCommand words (record { kind = Simulating; asked = s }) → PrintsRight old new
