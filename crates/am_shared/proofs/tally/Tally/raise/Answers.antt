-- a further step of an add keeps the rule, and its pass stays what a pass is
use Rattle.std.proofs.Common.{ap, ◌∙◌, sym, subst, arith, length}
use Rattle.am_shared.specs.Rule.{IsConsistent}
use Rattle.am_shared.specs.Steps.{Sat}
use Rattle.am_shared.proofs.Keeping.{raises, raised-sound}
use Rattle.am_shared.proofs.tally.Tally.raise.Goals as goal

pub fetch_add-requires : goal.fetch_add-requires
fetch_add-requires c =
    let wide = c.args.self.now.wide in
    let keyed = c.args.self.now.keyed in
    (c.requires.own.seated, omega arith, raises _ _ _ _ _ _ (omega arith) c.requires.own.carries c.args.pass.now.sound c.requires.room)

pub invariant_of-pass : goal.invariant_of-pass
invariant_of-pass c =
    let before = c.args.pass.now in
    let is = c.fetch_add.ensures.2 in
    record {
      left_is = before.left_is ∙ sym (ap (λ (m : Sat). m.0.left) is);
      made_is = before.made_is ∙ sym (ap (λ (m : Sat). m.0.made) is);
      no_slot = ap (λ (m : Sat). length m.1) is ∙ before.no_slot;
      sound = subst (λ (m : Sat). IsConsistent m.0) (sym is) (raised-sound before.seat.me.0 c.args.place c.args.more before.sound c.requires.room);
    }
