use Rattle.std.proofs.Common.{arith}
use Rattle.am_pcap.specs.Seeking.{reading_with}
use Rattle.am_pcap.proofs.HeadReading.{grown-none, grown-join, found-join, fails-join}
use Rattle.am_pcap.proofs.seeking.open_head.Goals as goal

pub heading-init : goal.heading-init
heading-init g c = record {
  on = grown-none (reading_with c.args.decoder.now c.args.held.now c.args.read.now) (g.S.Shelf.told c.args.shelf.now) c.requires;
  faults_stay = omega arith;
  missed_stay = omega arith;
}

pub returns-in-Ok-Some-clause-found : goal.returns-in-Ok-Some-clause-found
returns-in-Ok-Some-clause-found g c =
    let steps = rw c.in-Ok-Some.field-0-is at c.in-Ok-Some.ensures.steps in
    found-join (reading_with c.args.decoder.now c.args.held.now c.args.read.now) (reading_with c.heading.decoder c.heading.held c.heading.read) (reading_with c.head_step.new.decoder c.head_step.new.held c.head_step.new.read)
    (g.S.Shelf.told c.args.shelf.now) (g.S.Shelf.told c.heading.shelf) (g.S.Shelf.told c.head_step.new.shelf) c.in-Ok-Some.head
    c.heading.invariant.on steps

pub heading-preserved : goal.heading-preserved
heading-preserved g c =
    let steps = rw c.in-Ok-None.field-0-is at c.in-Ok-None.ensures.steps in
    record {
      on = grown-join (reading_with c.args.decoder.now c.args.held.now c.args.read.now) (reading_with c.heading.decoder c.heading.held c.heading.read) (reading_with c.head_step.new.decoder c.head_step.new.held c.head_step.new.read)
          (g.S.Shelf.told c.args.shelf.now) (g.S.Shelf.told c.heading.shelf) (g.S.Shelf.told c.head_step.new.shelf) c.heading.invariant.on steps.0;
      faults_stay = omega (arith, c.heading.invariant.faults_stay, c.in-Ok-None.ensures.faults_stay);
      missed_stay = omega (arith, c.heading.invariant.missed_stay, c.in-Ok-None.ensures.missed_stay);
    }

pub returns-in-Err-clause-fails : goal.returns-in-Err-clause-fails
returns-in-Err-clause-fails g c =
    fails-join (reading_with c.args.decoder.now c.args.held.now c.args.read.now) (reading_with c.heading.decoder c.heading.held c.heading.read)
    (g.S.Shelf.told c.args.shelf.now) (g.S.Shelf.told c.heading.shelf) (g.S.Shelf.told c.head_step.new.shelf) c.in-Err.error
    c.heading.invariant.on c.in-Err.ensures.fails
