-- a read keeps the rule, and its pass stays what a pass is
use Rattle.std.proofs.Common.{ap, ◌∙◌, sym, subst, arith, length}
use Rattle.am_shared.specs.Rule.{IsConsistent}
use Rattle.am_shared.specs.Steps.{Sat}
use Rattle.am_shared.proofs.Keeping.{looks, looked-sound}
use Rattle.am_shared.proofs.Adding.{word-there, sees-named}
use Rattle.am_shared.proofs.tally.Tally.read.Goals as goal

pub load-requires : goal.load-requires
load-requires c =
    let wide = c.args.self.now.wide in
    let keyed = c.args.self.now.keyed in
    let place = c.place_of-place.ensures in
    let there = word-there c.args.slot (c.args.self.now.slots) c.args.colour c.args.word c.requires.slot in
    (c.requires.own.seated, omega arith, looks _ _ _ _ _ (omega arith) c.requires.own.carries c.args.pass.now.sound)

pub invariant_of-pass : goal.invariant_of-pass
invariant_of-pass c =
    let before = c.args.pass.now in
    let is = c.load.ensures.2.0 in
    record {
      left_is = before.left_is ∙ sym (ap (λ (m : Sat). m.0.left) is);
      made_is = before.made_is ∙ sym (ap (λ (m : Sat). m.0.made) is);
      no_slot = ap (λ (m : Sat). length m.1) is ∙ before.no_slot;
      sound = subst (λ (m : Sat). IsConsistent m.0) (sym is) (looked-sound before.seat.me.0 c.place_of-place.result c.load.result before.sound c.load.ensures.2.1.share);
    }

pub returns-clause-sees : goal.returns-clause-sees
returns-clause-sees c =
    sees-named c.args.pass.now.seat.me.0 c.load.new.seat.me.0 c.args.slot c.args.colour c.args.word c.place_of-place.result c.load.result
    c.place_of-place.ensures (ap (λ (m : Sat). m.0) c.load.ensures.2.0)
