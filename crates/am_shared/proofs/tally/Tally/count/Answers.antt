-- the first step of an add keeps the rule, and its pass stays what a pass is
use Rattle.std.proofs.Common.{ap, ◌∙◌, sym, subst, arith, ◌+◌, ◌-◌, length}
use Rattle.am_shared.specs.Rule.{IsConsistent}
use Rattle.am_shared.specs.Steps.{Sat}
use Rattle.am_shared.proofs.Keeping.{counts, counted-sound}
use Rattle.am_shared.proofs.tally.Tally.count.Goals as goal

pub fetch_add-requires : goal.fetch_add-requires
fetch_add-requires c =
    let wide = c.args.self.now.wide in
    let keyed = c.args.self.now.keyed in
    let left = c.args.pass.now.left_is in
    let some_left = c.requires.left in
    (c.requires.own.seated, omega arith, counts _ _ _ _ _ (omega arith) c.requires.own.carries c.args.pass.now.sound (omega arith))

pub invariant_of-pass : goal.invariant_of-pass
invariant_of-pass c =
    let before = c.args.pass.now in
    let is = c.fetch_add.ensures.2 in
    let left = before.left_is in
    let some_left = c.requires.left in
    record {
      left_is = ap (λ n. n - 1) before.left_is ∙ sym (ap (λ (m : Sat). m.0.left) is);
      made_is = ap (λ n. n + 1) before.made_is ∙ sym (ap (λ (m : Sat). m.0.made) is);
      no_slot = ap (λ (m : Sat). length m.1) is ∙ before.no_slot;
      sound = subst (λ (m : Sat). IsConsistent m.0) (sym is) (counted-sound before.seat.me.0 c.args.place before.sound (omega arith));
    }
