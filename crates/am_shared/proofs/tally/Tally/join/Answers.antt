-- a join keeps the rule, and the pass stays what a pass is
use Rattle.std.proofs.Common.{ap, ◌∙◌, sym, subst, arith, ℕ, max, ◌+◌, ◌≤◌, length, ◌≡◌}
use Rattle.am_shared.specs.declared.rule.View.{View}
use Rattle.am_shared.specs.declared.tally.TheConstants.{MAX_BUDGET}
use Rattle.am_shared.specs.Places.{word_number}
use Rattle.am_shared.specs.Rule.{IsConsistent}
use Rattle.am_shared.specs.Steps.{Sat}
use Rattle.am_shared.specs.Views.{share_at, seen_at, rights, joined_views}
use Rattle.am_shared.proofs.Keeping.{joins, checks, joins-at, joins-seen, joined-sound, no-slot}
use Rattle.am_shared.proofs.tally.Tally.join.Goals as goal

pub join_seat-requires : goal.join_seat-requires
join_seat-requires c =
    let wide = c.args.self.now.wide in
    let some = c.args.self.now.some in (
      c.requires.own.seated,
      c.requires.other.seated,
      no-slot c.args.other.seat.me.1 c.args.other.no_slot,
      omega arith,
      joins _ _ _ _ _ c.requires.own.carries,
    )

pub load-requires : goal.load-requires
load-requires c =
    let wide = c.args.self.now.wide in
    let keyed = c.args.self.now.keyed in
    let some = c.args.self.now.some in
    (c.join_seat.ensures.0 ∙ c.requires.own.seated, omega arith, checks _ _ _ _ _ (omega arith))

pub invariant_of-pass : goal.invariant_of-pass
invariant_of-pass c =
    let before = c.args.pass.now in
    let other = c.args.other in
    let v : View = before.seat.me.0 in
    let w : View = other.seat.me.0 in
    let both : c.load.new.seat.me ≡ (joined_views v w, before.seat.me.1) = c.load.ensures.2.0 ∙ c.join_seat.ensures.2 in
    let left : c.load.new.seat.me.0.left ≡ v.left + w.left = ap (λ (m : Sat). m.0.left) both in
    let made : c.load.new.seat.me.0.made ≡ v.made + w.made = ap (λ (m : Sat). m.0.made) both in
    let mine = before.left_is in
    let theirs = other.left_is in
    let mine' = before.made_is in
    let theirs' = other.made_is in
    let small : rights (joined_views v w) ≤ MAX_BUDGET = subst (λ (m : Sat). rights m.0 ≤ MAX_BUDGET) c.join_seat.ensures.2 c.load.ensures.2.1 in
    record {
      left_is = omega arith;
      made_is = omega arith;
      no_slot = ap (λ (m : Sat). length m.1) both ∙ before.no_slot;
      sound = subst (λ (m : Sat). IsConsistent m.0) (sym both) (joined-sound v w before.sound other.sound small);
    }

pub returns-clause-shares : goal.returns-clause-shares
returns-clause-shares c s d x =
    let v : View = c.args.pass.now.seat.me.0 in
    let w : View = c.args.other.seat.me.0 in
    ap (λ (m : Sat). share_at m.0 (word_number s d x)) (c.load.ensures.2.0 ∙ c.join_seat.ensures.2) ∙ joins-at v w (word_number s d x)

pub returns-clause-seen : goal.returns-clause-seen
returns-clause-seen c s d x =
    let v : View = c.args.pass.now.seat.me.0 in
    let w : View = c.args.other.seat.me.0 in
    let i : ℕ = word_number s d x in
    let P : Sat → Type 0 = λ m. seen_at m.0 i ≡ max (max (seen_at v i) (seen_at w i)) (share_at m.0 i) in
    subst P (sym (c.load.ensures.2.0 ∙ c.join_seat.ensures.2)) (joins-seen v w i)
