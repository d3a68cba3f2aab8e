-- Both captures were counted, and their table is what is printed.
use Rattle.std.proofs.Common.{refl, inr, ◌∙◌}
use Rattle.am_chain.specs.Chains.{inputs}
use Rattle.am_run.specs.Asked.{link_shown}
use Rattle.am_chain.specs.Tallies.{tally, rows_of}
use Rattle.am_chain.specs.declared.table.Side.TheVariants.{Entered, Left}
use Rattle.am_run.proofs.LinkLemmas.{link-table}
use Rattle.am_run.proofs.commands.link.link.Goals as goal

pub returns-in-Ok-put : goal.returns-in-Ok-put
returns-in-Ok-put g c =
    let up = c.in-Ok.ensures.takes in
    let down = c.in-Ok-count_file.ensures.takes in
    let l = link_shown c.args.words.now in
    let table = link-table l up.0 down.0 (tally c.count_file.new.table Entered) (tally c.count_file-2.new.table Entered) (tally c.count_file-2.new.table Left)
    (rows_of c.text.new.self) c.as_bytes.result.now c.delay_min.result c.delay_min.ensures.value up.3 c.in-Ok-count_file.ensures.other down.3
    c.in-Ok-text.ensures.table (c.as_bytes.ensures.value ∙ c.in-Ok-text.ensures.text) in
    inr (
      up.0,
      inputs (g.S.Shelf.told c.count_file.new.shelf) (g.S.Shelf.faults c.count_file.new.shelf) (g.S.Shelf.missed c.count_file.new.shelf),
      up.1,
      up.2,
      inr (
        down.0,
        inputs (g.S.Shelf.told c.count_file-2.new.shelf) (g.S.Shelf.faults c.count_file-2.new.shelf) (g.S.Shelf.missed c.count_file-2.new.shelf),
        down.1,
        down.2,
        (refl, (refl, (c.as_bytes.result.now, table, c.in-Ok-put.ensures.all))),
      ),
    )

pub returns : goal.returns
returns g c =
    let up = c.in-Ok.ensures.takes in
    let down = c.in-Ok-count_file.ensures.takes in
    let l = link_shown c.args.words.now in
    let table = link-table l up.0 down.0 (tally c.count_file.new.table Entered) (tally c.count_file-2.new.table Entered) (tally c.count_file-2.new.table Left)
    (rows_of c.text.new.self) c.as_bytes.result.now c.delay_min.result c.delay_min.ensures.value up.3 c.in-Ok-count_file.ensures.other down.3
    c.in-Ok-text.ensures.table (c.as_bytes.ensures.value ∙ c.in-Ok-text.ensures.text) in
    inr (
      up.0,
      inputs (g.S.Shelf.told c.count_file.new.shelf) (g.S.Shelf.faults c.count_file.new.shelf) (g.S.Shelf.missed c.count_file.new.shelf),
      up.1,
      up.2,
      inr (
        down.0,
        inputs (g.S.Shelf.told c.count_file-2.new.shelf) (g.S.Shelf.faults c.count_file-2.new.shelf) (g.S.Shelf.missed c.count_file-2.new.shelf),
        down.1,
        down.2,
        (refl, (c.in-Err-put.ensures.failed, (c.as_bytes.result.now, table, c.in-Err-put.ensures.front))),
      ),
    )
