use Rattle.std.proofs.Common.{◌∙◌, sym, ap, arith}
use Rattle.am_cells.specs.Counts.{together}
use Rattle.am_cells.specs.CellTables.{HasCell, cell_at}
use Rattle.am_control.proofs.ReportLemmas.{together-none}
use Rattle.am_control.proofs.control.copy_of.Goals as goal

pub returns : goal.returns
returns c =
    let new = c.merge.new.self in
    let cells = c.args.cells.now in
    let merged = c.merge.ensures in
    let made = c.in_ok-copy.ensures.shape in
    c.cells_law.ensures.same new cells c.total-copied.ensures.table c.total-total.ensures.table
    (record {
      flows_are = c.requires.flows_are ∙ sym (merged.shape.flows_are ∙ made.flows_are);
      first_is = c.requires.first_is ∙ sym (merged.shape.first_is ∙ made.first_is);
      end_is = c.requires.end_is ∙ sym (merged.shape.end_is ∙ made.end_is);
    })
    (λ f b there.
    let before : HasCell c.in_ok-copy.copy f b = record {
      flow_there = omega (arith, there.flow_there, merged.shape.flows_are);
      from = omega (arith, there.from, merged.shape.first_is);
      until = omega (arith, there.until, merged.shape.end_is);
    } in
    sym (merged.each f b before ∙ ap (λ x. together x (cell_at cells f b)) (c.in_ok-copy.ensures.none f b)
    ∙ together-none (cell_at cells f b)))
