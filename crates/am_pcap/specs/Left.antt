-- What a capture ends as, once the record that it lent has ended.
use Rattle.std.specs.Prelude.{⊤, Option, Result, IfOk, IfSome}
use Rattle.std.specs.Borrow.{Fml, MutBor, follows_so}
use mathlib.Core.Option.{none}
use Rattle.am_base.specs.Shelves.{Told}
use Rattle.am_pcap.specs.Readings.{Reading}
use Rattle.am_pcap.specs.Answers.{GivesRecord}
use Rattle.am_pcap.specs.declared.record.Record.{Record}
use Rattle.am_pcap.specs.declared.capture.FileError.{FileError}
use Rattle.am_pcap.specs.contracts.capture.Capture.{the_row}

-- where it gave a record, it has given that too
abbrev pub LeavesGiven : MutBor Reading → Reading → Option Told → Option Told → Result (Option Record) FileError → Fml
LeavesGiven c old before after result =
    follows_so the_row the_row c.ghost_name none (λ _ _. ⊤) (λ n. IfOk result (λ o. IfSome o (λ r. GivesRecord old n before after r)))
