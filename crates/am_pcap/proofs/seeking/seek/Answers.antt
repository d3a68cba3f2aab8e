use Rattle.std.proofs.Common.{arith}
use Rattle.am_pcap.specs.Seeking.{reading_with}
use Rattle.am_pcap.proofs.SeekSteps.{continued-none, continued-join, found-join, end-join, error-join}
use Rattle.am_pcap.proofs.seeking.seek.Goals as goal

pub seeking-init : goal.seeking-init
seeking-init g c = record {
  on = continued-none (reading_with c.args.decoder.now c.args.held.now c.args.read.now) (g.S.Shelf.told c.args.shelf.now) c.requires.order;
  faults_stay = omega arith;
  missed_stay = omega arith;
}

pub returns-in-Ok-Waits-clause-sought : goal.returns-in-Ok-Waits-clause-sought
returns-in-Ok-Waits-clause-sought g c =
    let steps = rw c.in-Ok-Waits.field-0-is at c.in-Ok-Waits.ensures.steps in
    found-join (reading_with c.args.decoder.now c.args.held.now c.args.read.now) (reading_with c.seeking.decoder c.seeking.held c.seeking.read)
    (reading_with c.seek_step.new.decoder c.seek_step.new.held c.seek_step.new.read)
    (g.S.Shelf.told c.args.shelf.now) (g.S.Shelf.told c.seeking.shelf) (g.S.Shelf.told c.seek_step.new.shelf) c.seeking.invariant.on steps

pub returns-in-Ok-Ends-clause-sought : goal.returns-in-Ok-Ends-clause-sought
returns-in-Ok-Ends-clause-sought g c =
    let steps = rw c.in-Ok-Ends.field-0-is at c.in-Ok-Ends.ensures.steps in
    end-join (reading_with c.args.decoder.now c.args.held.now c.args.read.now) (reading_with c.seeking.decoder c.seeking.held c.seeking.read)
    (g.S.Shelf.told c.args.shelf.now) (g.S.Shelf.told c.seeking.shelf) (g.S.Shelf.told c.seek_step.new.shelf) c.seeking.invariant.on steps

pub returns-in-Err-clause-refused : goal.returns-in-Err-clause-refused
returns-in-Err-clause-refused g c =
    error-join (reading_with c.args.decoder.now c.args.held.now c.args.read.now) (reading_with c.seeking.decoder c.seeking.held c.seeking.read)
    (g.S.Shelf.told c.args.shelf.now) (g.S.Shelf.told c.seeking.shelf) (g.S.Shelf.told c.seek_step.new.shelf) c.in-Err.error
    c.seeking.invariant.on c.in-Err.ensures.refused

pub seeking-preserved : goal.seeking-preserved
seeking-preserved g c =
    let steps = rw c.in-Ok-Continues.field-0-is at c.in-Ok-Continues.ensures.steps in
    record {
      on = continued-join (reading_with c.args.decoder.now c.args.held.now c.args.read.now) (reading_with c.seeking.decoder c.seeking.held c.seeking.read)
          (reading_with c.seek_step.new.decoder c.seek_step.new.held c.seek_step.new.read)
          (g.S.Shelf.told c.args.shelf.now) (g.S.Shelf.told c.seeking.shelf) (g.S.Shelf.told c.seek_step.new.shelf) c.seeking.invariant.on steps.0;
      faults_stay = omega (arith, c.seeking.invariant.faults_stay, c.in-Ok-Continues.ensures.faults_stay);
      missed_stay = omega (arith, c.seeking.invariant.missed_stay, c.in-Ok-Continues.ensures.missed_stay);
    }
