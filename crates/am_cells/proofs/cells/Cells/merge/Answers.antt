use Rattle.std.proofs.Common.{◌∙◌, List, ap, length, sym}
use Rattle.am_cells.specs.declared.cell.Cell.{Cell}
use Rattle.am_cells.proofs.CellLemmas.{merged-adds, merged-table, merged-total, as-long, written-again}
use Rattle.am_cells.proofs.cells.Cells.merge.Goals as goal

pub invariant_of-self : goal.invariant_of-self
invariant_of-self c =
    let whole = sym c.deref_mut.ensures.len ∙ ap (λ (cells : List Cell). length cells) c.deref_mut.ensures.value in
    let same = c.merge_cells.auto.cells ∙ ap (λ (cells : List Cell). length cells) c.deref_mut.ensures.value in
    let each = rw (c.deref_mut.ensures.value, c.as_slice.ensures.value) at c.merge_cells.ensures.each in
    let shape = rw (← c.self.view_is, ← c.other.view_is) at c.requires.shape in
    let room = rw (← c.self.view_is, ← c.other.view_is) at c.requires.room in
    let st = c.self.invariant.0 in
    let ot = c.other.invariant.0 in
    rw (written-again c.self.inside.cells.items c.merge_cells.new.cells c.self.inside.cells.len whole same) (
      merged-table _ _ c.merge_cells.new.cells st ot shape same each c.merge_cells.ensures.lawful room,
      rw (c.self.invariant.1, c.other.invariant.1)
          (sym (merged-total c.self.inside.cells.items c.other.inside.cells.items c.merge_cells.new.cells (as-long _ _ st ot shape) same each)),
    )

pub returns : goal.returns
returns c =
    let whole = sym c.deref_mut.ensures.len ∙ ap (λ (cells : List Cell). length cells) c.deref_mut.ensures.value in
    let same = c.merge_cells.auto.cells ∙ ap (λ (cells : List Cell). length cells) c.deref_mut.ensures.value in
    let each = rw (c.deref_mut.ensures.value, c.as_slice.ensures.value) at c.merge_cells.ensures.each in
    let shape = rw (← c.self.view_is, ← c.other.view_is) at c.requires.shape in
    rw (← c.self.view_is, ← c.other.view_is, written-again c.self.inside.cells.items c.merge_cells.new.cells c.self.inside.cells.len whole same)
    (merged-adds _ _ c.merge_cells.new.cells c.self.invariant.0 c.other.invariant.0 shape same each)
