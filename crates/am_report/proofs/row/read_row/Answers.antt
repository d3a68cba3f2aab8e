use Rattle.std.proofs.Common.{sym, ◌∙◌, arith}
use Rattle.am_report.specs.RowParts.{row_said}
use Rattle.am_report.proofs.RowLemmas.{parts-of, cell-of, row-of-parts, none-there}
use Rattle.am_report.proofs.row.read_row.Goals as goal

pub returns-then-not-has_field-clause-none : goal.returns-then-not-has_field-clause-none
returns-then-not-has_field-clause-none c = λ r spells. c.if-not-has_field.ensures.no (parts-of _ r spells).version

pub returns-in_default-clause-none : goal.returns-in_default-clause-none
returns-in_default-clause-none c = λ r spells. none-there _ 1 r.node (sym c.in_default.ensures.value) (parts-of _ r spells).node

pub returns-in_default-get-clause-none : goal.returns-in_default-get-clause-none
returns-in_default-get-clause-none c = λ r spells. none-there _ 2 r.flow (sym c.in_default-get.ensures.value) (parts-of _ r spells).flow

pub returns-in_default-word_at-clause-none : goal.returns-in_default-word_at-clause-none
returns-in_default-word_at-clause-none c = λ r spells.
    c.in_default-word_at.ensures.none r.block spells.block_fits (parts-of _ r spells).block

pub returns-in_default-cell_in-clause-none : goal.returns-in_default-cell_in-clause-none
returns-in_default-cell_in-clause-none c = λ r spells. c.in_default-cell_in.ensures.none r.cell (cell-of _ r spells)

pub returns-clause-found : goal.returns-clause-found
returns-clause-found c =
    row-of-parts _ (row_said (record {
      node = c.in-Some.node;
      flow = c.in-Some-get.flow;
      block = c.in-Some-word_at.block;
      cell = c.in-Some-cell_in.cell;
    })) (sym c.len.ensures ∙ c.if-len-ne-FIELDS.false) c.if-not-has_field.ensures.yes (sym c.in-Some.ensures.value)
    (sym c.in-Some-get.ensures.value) c.in-Some-word_at.ensures.found (omega arith) c.in-Some-cell_in.ensures.found
