use Rattle.std.proofs.Common.{◌≡◌}
use Rattle.std.specs.Prelude.{string_bytes}
use Rattle.am_base.specs.InMemory.{shelf_told}
use Rattle.am_meter.specs.MeteredFiles.{capture_of}
use Rattle.am_sim.proofs.ShelfLemmas.{OneMarks, alone, alone-told, named-capture, never-refused, node-cells}
use Rattle.am_sim.proofs.measure.node_cells.Goals as goal

pub returns-in-Ok-clause-cells : goal.returns-in-Ok-clause-cells
returns-in-Ok-clause-cells g c =
    let d = c.args.domain.now in
    let name = string_bytes c.in_ok-name.name in
    let bytes = c.in_ok-capture.capture.items in
    let laws : OneMarks = record { one = c.marks_are_one.ensures.one; not_refused = c.marks_are_one.ensures.not_refused } in
    let is : shelf_told c.new-shelf.result ≡ alone name bytes
    = alone-told (shelf_told c.new-shelf.result) c.push.new.self.items c.new-files.result.items c.in_ok-name.name c.in_ok-capture.capture
    c.new-shelf.ensures.told c.in_ok-push.ensures.items c.new-files.ensures.items in
    let named : name ≡ capture_of d c.args.node
    = named-capture d c.args.node c.nodes.result.now c.index-nodes-node.result c.capture.result.now name c.nodes.ensures.value c.requires.node
    c.index-nodes-node.is c.capture.ensures c.in_ok-name.ensures.ok in
    node-cells d c.args.world.now c.args.node name bytes (shelf_told c.new-shelf.result) laws is named c.in_ok-capture.ensures.recorded
    c.requires.short c.in_ok-capture.ensures.length c.in_ok-capture.ensures.bytes c.in-Ok.cells c.in-Ok.ensures.metered

pub want_of-requires : goal.want_of-requires
want_of-requires g c =
    let d = c.args.domain.now in
    let name = string_bytes c.in_ok-name.name in
    let bytes = c.in_ok-capture.capture.items in
    let laws : OneMarks = record { one = c.marks_are_one.ensures.one; not_refused = c.marks_are_one.ensures.not_refused } in
    let is : shelf_told c.new-shelf.result ≡ alone name bytes
    = alone-told (shelf_told c.new-shelf.result) c.push.new.self.items c.new-files.result.items c.in_ok-name.name c.in_ok-capture.capture
    c.new-shelf.ensures.told c.in_ok-push.ensures.items c.new-files.ensures.items in
    let named : name ≡ capture_of d c.args.node
    = named-capture d c.args.node c.nodes.result.now c.index-nodes-node.result c.capture.result.now name c.nodes.ensures.value c.requires.node
    c.index-nodes-node.is c.capture.ensures c.in_ok-name.ensures.ok in
    never-refused d c.args.world.now c.args.node name bytes (shelf_told c.new-shelf.result) laws is named c.in_ok-capture.ensures.recorded
    c.requires.short c.in_ok-capture.ensures.length c.in_ok-capture.ensures.bytes c.in-Err.error c.in-Err.ensures.refused
