use Rattle.std.proofs.Common.{arith}
use Rattle.am_report.proofs.RowLemmas.{one-number-field}
use Rattle.am_report.proofs.row.word_at.Goals as goal

pub returns-then-number-from-clause-none : goal.returns-then-number-from-clause-none
returns-then-number-from-clause-none c = λ n fits there.
    let same = one-number-field _ c.args.place c.in-Some.number n (omega arith) (omega (arith, fits)) c.in-Some.ensures.found there in
    absurd (omega (arith, same, fits, c.if-number-from.true, c.from.ensures))
