use Rattle.std.proofs.Common.{refl}
use Rattle.am_report.proofs.RowsReadLemmas.{read-step}
use Rattle.am_report.proofs.rows.next_row.Goals as goal
use Rattle.am_report.proofs.rows.next_row.Goals.{in-Ok, in-Err}

pub returns : goal.returns
returns c = elim c.match-read_byte_record.branch [
  | in-Ok w ↦
      let step = read-step _ _ _ _ w.in-Ok.ensures.ready w.in-Ok.ensures.reads in
      rw w.result-is (record { more = step.0; all = step.1; memory = tt })
  | in-Err w ↦ rw w.result-is (record { more = tt; all = tt; memory = refl })
]
