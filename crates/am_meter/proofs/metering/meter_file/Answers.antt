use Rattle.std.proofs.Common.{arith, refl, subst, ◌≡◌}
use Rattle.am_meter.specs.Filling.{FillsUntil}
use Rattle.am_pcap.specs.declared.capture.FileError.TheVariants.{Missing}
use Rattle.am_meter.specs.MeteredFiles.{MetersOn, capture_of}
use Rattle.am_pcap.specs.CaptureFiles.{WhyNotOpened}
use Rattle.am_meter.proofs.Files.{filled, named-capture, not-opened-no-cells, meters-nothing, meters-cut, meters-all, meters-until, meters-on}
use Rattle.am_meter.proofs.metering.meter_file.Goals as goal

pub returns-in-Err-clause-refused : goal.returns-in-Err-clause-refused
returns-in-Err-clause-refused g c =
    let named = named-capture c.args.domain.now c.args.node c.nodes.result.now c.index-nodes-node.result c.capture.result.now
    c.nodes.ensures.value c.requires c.index-nodes-node.is c.capture.ensures in
    not-opened-no-cells c.args.domain.now c.args.node (g.S.Shelf.told c.args.shelf.now) (g.S.Shelf.told c.open.new.shelf) c.in-Err.error
    (subst (λ x. WhyNotOpened (g.S.Shelf.told c.args.shelf.now) (g.S.Shelf.told c.open.new.shelf) x c.in-Err.error) named c.in-Err.ensures.refused)

pub batches-init : goal.batches-init
batches-init g c =
    let named = named-capture c.args.domain.now c.args.node c.nodes.result.now c.index-nodes-node.result c.capture.result.now
    c.nodes.ensures.value c.requires c.index-nodes-node.is c.capture.ensures in
    record {
      on = subst (λ x. MetersOn c.args.domain.now c.args.node (g.S.Shelf.told c.args.shelf.now) (g.S.Shelf.told c.open.new.shelf) x c.in-Ok.capture c.in-Ok-no_cells.cells) named
          (meters-nothing c.args.domain.now c.args.node (g.S.Shelf.told c.args.shelf.now) (g.S.Shelf.told c.open.new.shelf) c.capture.result.now
          c.in-Ok.capture c.in-Ok-no_cells.cells c.in-Ok.ensures.reads (c.in-Ok-no_cells.ensures.none c.args.node) c.in-Ok-no_cells.ensures.total);
      empty = c.in-Ok-new.ensures;
      faults_stay = c.in-Ok.ensures.faults_stay;
      missed_stay = c.in-Ok.ensures.missed_stay;
    }

-- what the batch has, whatever filling came to
pub returns-in-Err-count_batch-clause-refused : goal.returns-in-Err-count_batch-clause-refused
returns-in-Err-count_batch-clause-refused g c =
    let on = c.batches.invariant.on in
    let next = filled c.batches.capture c.fill-filled.new.capture (g.S.Shelf.told c.batches.shelf) (g.S.Shelf.told c.fill-filled.new.shelf)
    c.fill-filled.new.batch c.fill-filled.result c.fill-filled.ensures.fills c.fill-filled.ensures.stopped
    (g.S.Shelf.told c.args.shelf.now) (capture_of c.args.domain.now c.args.node) on.head on.packets on.reads in
    let cut = c.in-Err-count_batch.ensures.cut in
    meters-cut c.args.domain.now c.args.node (g.S.Shelf.told c.args.shelf.now) (g.S.Shelf.told c.batches.shelf) (g.S.Shelf.told c.fill-filled.new.shelf) (capture_of c.args.domain.now c.args.node) c.batches.capture c.batches.cells c.fill-filled.new.batch c.in-Err-count_batch.number cut.0
    refl on next cut.1

pub returns-in-Err-count_batch-clause-files : goal.returns-in-Err-count_batch-clause-files
returns-in-Err-count_batch-clause-files g c =
    let on = c.batches.invariant.on in
    let next = filled c.batches.capture c.fill-filled.new.capture (g.S.Shelf.told c.batches.shelf) (g.S.Shelf.told c.fill-filled.new.shelf)
    c.fill-filled.new.batch c.fill-filled.result c.fill-filled.ensures.fills c.fill-filled.ensures.stopped
    (g.S.Shelf.told c.args.shelf.now) (capture_of c.args.domain.now c.args.node) on.head on.packets on.reads in
    next.1.kept

pub batches-preserved : goal.batches-preserved
batches-preserved g c =
    let fills = rw c.in-Ok-true.field-0-test at c.in-Ok-true.ensures.fills in
    let counted = c.in_default-count_batch.ensures.counted in
    record {
      on = meters-on c.args.domain.now c.args.node (g.S.Shelf.told c.args.shelf.now) (g.S.Shelf.told c.batches.shelf) (g.S.Shelf.told c.fill-filled.new.shelf) (capture_of c.args.domain.now c.args.node) c.batches.capture c.fill-filled.new.capture c.batches.cells c.count_batch.new.cells
          c.fill-filled.new.batch counted.0 c.batches.invariant.on fills.0 counted.1 counted.2 counted.3;
      empty = c.clear.ensures;
      faults_stay = omega (arith, c.batches.invariant.faults_stay, c.fill-filled.ensures.faults_stay);
      missed_stay = omega (arith, c.batches.invariant.missed_stay, c.fill-filled.ensures.missed_stay);
    }

pub returns-in-Ok-false-clause-metered : goal.returns-in-Ok-false-clause-metered
returns-in-Ok-false-clause-metered g c =
    let fills = rw c.in-Ok-false.field-0-test at c.in-Ok-false.ensures.fills in
    let counted = c.in_default-count_batch.ensures.counted in
    meters-all c.args.domain.now c.args.node (g.S.Shelf.told c.args.shelf.now) (g.S.Shelf.told c.batches.shelf) (g.S.Shelf.told c.fill-filled.new.shelf) (capture_of c.args.domain.now c.args.node) c.batches.capture c.batches.cells c.count_batch.new.cells c.fill-filled.new.batch counted.0 refl
    c.batches.invariant.on fills counted.1 counted.3

pub returns-in-Ok-false-clause-at_end : goal.returns-in-Ok-false-clause-at_end
returns-in-Ok-false-clause-at_end g c =
    let on = c.batches.invariant.on in
    let fills = rw c.in-Ok-false.field-0-test at c.in-Ok-false.ensures.fills in
    (fills (g.S.Shelf.told c.args.shelf.now) (capture_of c.args.domain.now c.args.node) on.head on.packets on.reads).3

pub returns-in-Ok-false-clause-files : goal.returns-in-Ok-false-clause-files
returns-in-Ok-false-clause-files g c =
    let on = c.batches.invariant.on in
    let fills = rw c.in-Ok-false.field-0-test at c.in-Ok-false.ensures.fills in
    (fills (g.S.Shelf.told c.args.shelf.now) (capture_of c.args.domain.now c.args.node) on.head on.packets on.reads).1.kept

pub returns-in-Err-filled-clause-refused : goal.returns-in-Err-filled-clause-refused
returns-in-Err-filled-clause-refused g c =
    let counted = c.in_default-count_batch.ensures.counted in
    meters-until c.args.domain.now c.args.node (g.S.Shelf.told c.args.shelf.now) (g.S.Shelf.told c.batches.shelf) (g.S.Shelf.told c.fill-filled.new.shelf) (capture_of c.args.domain.now c.args.node) c.batches.capture c.batches.cells c.fill-filled.new.batch counted.0 c.in-Err-filled.error refl
    c.batches.invariant.on c.in-Err-filled.ensures.stopped counted.1

-- a capture that was opened isn't missing
pub returns-in-Err-filled-clause-missing : goal.returns-in-Err-filled-clause-missing
returns-in-Err-filled-clause-missing g c missing =
    let on = c.batches.invariant.on in
    let is : c.in-Err-filled.error ≡ Missing = cc missing in
    absurd ((subst (λ e. FillsUntil c.batches.capture (g.S.Shelf.told c.batches.shelf) (g.S.Shelf.told c.fill-filled.new.shelf) c.fill-filled.new.batch e) is c.in-Err-filled.ensures.stopped
    (g.S.Shelf.told c.args.shelf.now) (capture_of c.args.domain.now c.args.node) on.head on.packets on.reads).2)

pub returns-in-Err-filled-clause-files : goal.returns-in-Err-filled-clause-files
returns-in-Err-filled-clause-files g c =
    let on = c.batches.invariant.on in
    (c.in-Err-filled.ensures.stopped (g.S.Shelf.told c.args.shelf.now) (capture_of c.args.domain.now c.args.node) on.head on.packets on.reads).1.kept
