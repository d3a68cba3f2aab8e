use Rattle.std.proofs.Common.{arith, ap, ◌∙◌, ◌++◌, ◌∷◌, []}
use Rattle.am_meter.specs.Batches.{batch_record}
use Rattle.am_meter.proofs.Slots.{is-kept-then, pushed-then}
use Rattle.am_meter.proofs.batch.Batch.push.Goals as goal

pub invariant_of-self-2 : goal.invariant_of-self-2
invariant_of-self-2 c = (
  is-kept-then c.self.inside.slots.items c.push_reserved.new.self.items c.self.inside.bytes.items c.extend_from_slice.new.self.items c.args.bytes.now _
      c.push_reserved.ensures.items c.in-Ok.ensures.items c.self.invariant.0
      (record { from = omega arith; long = omega arith }) (omega arith) (omega arith),
  omega arith,
  omega arith,
)

pub returns-clause-pushed : goal.returns-clause-pushed
returns-clause-pushed c =
    pushed-then c.self.inside.slots.items c.push_reserved.new.self.items c.self.inside.bytes.items c.extend_from_slice.new.self.items c.args.bytes.now _
    c.push_reserved.ensures.items c.in-Ok.ensures.items c.self.invariant.0 (record { from = omega arith; long = omega arith })
    ∙ ap (λ x. x ++ batch_record c.args.link c.args.number c.args.reading c.args.whole c.args.bytes.now ∷ []) c.self.view_is
