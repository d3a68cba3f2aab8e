use Rattle.std.proofs.Common.{arith, sym, subst}
use Rattle.am_cells.specs.declared.cell.Cell.{Cell}
use Rattle.am_cells.specs.Counts.{IsLawfulCell}
use Rattle.am_report.proofs.RowLemmas.{same-cell}
use Rattle.am_report.proofs.row.cell_in.Goals as goal

pub returns-then-not-is_lawful-clause-none : goal.returns-then-not-is_lawful-clause-none
returns-then-not-is_lawful-clause-none c = λ e there.
    let cell : Cell = record {
      count = c.in-Some.count;
      dcount = c.in-Some-word_at.dcount;
      sum = c.in-Some-number_at.sum;
      dsum = c.in-Some-number_at-2.dsum;
    } in
    let same = same-cell _ cell e (omega arith, omega arith, omega arith, omega arith) c.in-Some.ensures.found c.in-Some-number_at.ensures.found
    c.in-Some-word_at.ensures.found c.in-Some-number_at-2.ensures.found there in
    let holds = c.if-not-is_lawful.ensures.1 (subst IsLawfulCell (sym same) there.lawful) in
    cc holds
