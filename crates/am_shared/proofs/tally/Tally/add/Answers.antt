-- what an add makes of its pass, step by step
use Rattle.std.proofs.Common.{ap, ◌∙◌, sym, subst, arith, ℕ, ◌+◌, ◌≡◌, ◌≢◌, Bool}
use Rattle.am_shared.specs.declared.rule.View.{View}
use Rattle.am_shared.specs.declared.word.Word.{Word}
use Rattle.am_shared.specs.Places.{word_number, gain}
use Rattle.am_shared.specs.Views.{share_at}
use Rattle.am_shared.proofs.ViewLemmas.{Raises}
use Rattle.am_shared.proofs.Adding.{first-raises, next-raises, room, shares-plain, shares-delay, sees-on}
use Rattle.am_shared.proofs.tally.Tally.add.Goals as goal

pub raise-requires-clause-room : goal.raise-requires-clause-room
raise-requires-clause-room c =
    let before = c.args.pass.now in
    let left = before.left_is in
    let some_left = c.requires.left in
    let v : View = before.seat.me.0 in
    let v1 : View = c.count.new.pass.seat.me.0 in
    let one : Raises v v1 c.place_of.result 1 = first-raises v v1 c.place_of.result before.sound (omega arith) c.count.ensures.view in
    let apart : c.place_of-2.result ≢ c.place_of.result = λ same. let a = c.place_of.ensures in let b = c.place_of-2.ensures in omega arith in
    room v v1 c.place_of-2.result c.args.offset before.sound (ap (λ (u : View). u.made) c.count.ensures.view) (one.others c.place_of-2.result apart) c.requires.offset

pub raise-requires-then-delay-clause-room : goal.raise-requires-then-delay-clause-room
raise-requires-then-delay-clause-room c =
    let before = c.args.pass.now in
    let left = before.left_is in
    let some_left = c.requires.left in
    let v : View = before.seat.me.0 in
    let v1 : View = c.count.new.pass.seat.me.0 in
    let v2 : View = c.raise.new.pass.seat.me.0 in
    let here = c.place_of-then-delay.result in
    let one : Raises v v1 c.place_of.result 1 = first-raises v v1 c.place_of.result before.sound (omega arith) c.count.ensures.view in
    let two : Raises v1 v2 c.place_of-2.result c.args.offset = next-raises v1 v2 c.place_of-2.result c.args.offset c.count.new.pass.sound c.raise.ensures.view in
    let apart : c.place_of-then-delay.result ≢ c.place_of.result = λ same. let a = c.place_of.ensures in let b = c.place_of-then-delay.ensures in omega arith in
    let apart' : c.place_of-then-delay.result ≢ c.place_of-2.result = λ same. let a = c.place_of-2.ensures in let b = c.place_of-then-delay.ensures in omega arith in
    room v v2 here 1 before.sound (ap (λ (u : View). u.made) c.raise.ensures.view ∙ ap (λ (u : View). u.made) c.count.ensures.view)
    (two.others here apart' ∙ one.others here apart) (omega arith)

pub raise-requires-then-delay-2-clause-room : goal.raise-requires-then-delay-2-clause-room
raise-requires-then-delay-2-clause-room c =
    let before = c.args.pass.now in
    let left = before.left_is in
    let some_left = c.requires.left in
    let v : View = before.seat.me.0 in
    let v1 : View = c.count.new.pass.seat.me.0 in
    let v2 : View = c.raise.new.pass.seat.me.0 in
    let v3 : View = c.raise-then-delay.new.pass.seat.me.0 in
    let here = c.place_of-then-delay-2.result in
    let one : Raises v v1 c.place_of.result 1 = first-raises v v1 c.place_of.result before.sound (omega arith) c.count.ensures.view in
    let two : Raises v1 v2 c.place_of-2.result c.args.offset = next-raises v1 v2 c.place_of-2.result c.args.offset c.count.new.pass.sound c.raise.ensures.view in
    let three : Raises v2 v3 c.place_of-then-delay.result 1 = next-raises v2 v3 c.place_of-then-delay.result 1 c.raise.new.pass.sound c.raise-then-delay.ensures.view in
    let apart : c.place_of-then-delay-2.result ≢ c.place_of.result = λ same. let a = c.place_of.ensures in let b = c.place_of-then-delay-2.ensures in omega arith in
    let apart' : c.place_of-then-delay-2.result ≢ c.place_of-2.result = λ same. let a = c.place_of-2.ensures in let b = c.place_of-then-delay-2.ensures in omega arith in
    let apart'' : c.place_of-then-delay-2.result ≢ c.place_of-then-delay.result = λ same. let a = c.place_of-then-delay.ensures in let b = c.place_of-then-delay-2.ensures in omega arith in
    room v v3 here c.args.offset before.sound
    (ap (λ (u : View). u.made) c.raise-then-delay.ensures.view ∙ ap (λ (u : View). u.made) c.raise.ensures.view ∙ ap (λ (u : View). u.made) c.count.ensures.view)
    (three.others here apart'' ∙ two.others here apart' ∙ one.others here apart) c.requires.offset

pub returns-then-delay-clause-shares : goal.returns-then-delay-clause-shares
returns-then-delay-clause-shares c =
    let before = c.args.pass.now in
    let left = before.left_is in
    let some_left = c.requires.left in
    let v : View = before.seat.me.0 in
    let v1 : View = c.count.new.pass.seat.me.0 in
    let v2 : View = c.raise.new.pass.seat.me.0 in
    let v3 : View = c.raise-then-delay.new.pass.seat.me.0 in
    let v4 : View = c.raise-then-delay-2.new.pass.seat.me.0 in
    let P : Bool → Type 0 = λ b. (s : ℕ) (d : Bool) (w : Word)
    → share_at v4 (word_number s d w) ≡ share_at v (word_number s d w) + gain c.args.slot c.args.colour b c.args.offset s d w in
    subst P (sym c.if-delay.true)
    (shares-delay v v1 v2 v3 v4 c.args.slot c.args.colour c.args.offset
    c.place_of.result c.place_of-2.result c.place_of-then-delay.result c.place_of-then-delay-2.result
    c.place_of.ensures (first-raises v v1 c.place_of.result before.sound (omega arith) c.count.ensures.view)
    c.place_of-2.ensures (next-raises v1 v2 c.place_of-2.result c.args.offset c.count.new.pass.sound c.raise.ensures.view)
    c.place_of-then-delay.ensures (next-raises v2 v3 c.place_of-then-delay.result 1 c.raise.new.pass.sound c.raise-then-delay.ensures.view)
    c.place_of-then-delay-2.ensures
    (next-raises v3 v4 c.place_of-then-delay-2.result c.args.offset c.raise-then-delay.new.pass.sound c.raise-then-delay-2.ensures.view))

pub returns-then-delay-clause-seen : goal.returns-then-delay-clause-seen
returns-then-delay-clause-seen c s d w =
    let before = c.args.pass.now in
    let left = before.left_is in
    let some_left = c.requires.left in
    let v : View = before.seat.me.0 in
    let v1 : View = c.count.new.pass.seat.me.0 in
    let v2 : View = c.raise.new.pass.seat.me.0 in
    let v3 : View = c.raise-then-delay.new.pass.seat.me.0 in
    let v4 : View = c.raise-then-delay-2.new.pass.seat.me.0 in
    let one : Raises v v1 c.place_of.result 1 = first-raises v v1 c.place_of.result before.sound (omega arith) c.count.ensures.view in
    sees-on v v3 v4 c.place_of-then-delay-2.result c.args.offset
    (sees-on v v2 v3 c.place_of-then-delay.result 1
    (sees-on v v1 v2 c.place_of-2.result c.args.offset one.sees
    (next-raises v1 v2 c.place_of-2.result c.args.offset c.count.new.pass.sound c.raise.ensures.view))
    (next-raises v2 v3 c.place_of-then-delay.result 1 c.raise.new.pass.sound c.raise-then-delay.ensures.view))
    (next-raises v3 v4 c.place_of-then-delay-2.result c.args.offset c.raise-then-delay.new.pass.sound c.raise-then-delay-2.ensures.view)
    (word_number s d w)

pub returns-else-delay-clause-shares : goal.returns-else-delay-clause-shares
returns-else-delay-clause-shares c =
    let before = c.args.pass.now in
    let left = before.left_is in
    let some_left = c.requires.left in
    let v : View = before.seat.me.0 in
    let v1 : View = c.count.new.pass.seat.me.0 in
    let v2 : View = c.raise.new.pass.seat.me.0 in
    let P : Bool → Type 0 = λ b. (s : ℕ) (d : Bool) (w : Word)
    → share_at v2 (word_number s d w) ≡ share_at v (word_number s d w) + gain c.args.slot c.args.colour b c.args.offset s d w in
    subst P (sym c.if-delay.false)
    (shares-plain v v1 v2 c.args.slot c.args.colour c.args.offset c.place_of.result c.place_of-2.result
    c.place_of.ensures (first-raises v v1 c.place_of.result before.sound (omega arith) c.count.ensures.view)
    c.place_of-2.ensures (next-raises v1 v2 c.place_of-2.result c.args.offset c.count.new.pass.sound c.raise.ensures.view))

pub returns-else-delay-clause-seen : goal.returns-else-delay-clause-seen
returns-else-delay-clause-seen c s d w =
    let before = c.args.pass.now in
    let left = before.left_is in
    let some_left = c.requires.left in
    let v : View = before.seat.me.0 in
    let v1 : View = c.count.new.pass.seat.me.0 in
    let v2 : View = c.raise.new.pass.seat.me.0 in
    let one : Raises v v1 c.place_of.result 1 = first-raises v v1 c.place_of.result before.sound (omega arith) c.count.ensures.view in
    sees-on v v1 v2 c.place_of-2.result c.args.offset one.sees
    (next-raises v1 v2 c.place_of-2.result c.args.offset c.count.new.pass.sound c.raise.ensures.view)
    (word_number s d w)
