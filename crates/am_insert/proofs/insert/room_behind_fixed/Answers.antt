-- No header and no mark are there, whatever the kind.
use Rattle.std.proofs.Common.{arith, refl, subst, true, None}
use Rattle.am_ip6.specs.Endings.Ended.{AtNumber}
use Rattle.am_insert.specs.Inserting.{WalkEnds}
use Rattle.am_insert.proofs.Brief.{fixed-packet, bare-ends, bare-seen, bare-first, bare-follows}
use Rattle.am_insert.proofs.Refused.{clear-unmarked, clear-free, clear-6, open-7, full-not}
use Rattle.am_insert.proofs.insert.room_behind_fixed.Goals as goal

pub returns-then-next-eq-AUTHENTICATION-clause-refused : goal.returns-then-next-eq-AUTHENTICATION-clause-refused
returns-then-next-eq-AUTHENTICATION-clause-refused c = λ whole place.
    let p = c.args.bytes.now in
    let one = c.walk_law.ensures p whole in
    let walk = c.requires.walk whole in
    record {
      hinders = (40, 6, subst (λ n. WalkEnds p whole (AtNumber n 40 6)) c.if-next-eq-AUTHENTICATION.true (bare-ends p c.args.next whole one walk));
      first = clear-unmarked p whole place c.args.next 40 6 one (c.seen_law.ensures p whole place) (fixed-packet p whole c.requires.bare.fixed)
          (bare-ends p c.args.next whole one walk) (bare-seen p c.args.next whole one walk place);
    }

pub returns-in_default-clause-refused : goal.returns-in_default-clause-refused
returns-in_default-clause-refused c = λ whole place.
    let p = c.args.bytes.now in
    let one = c.walk_law.ensures p whole in
    let walk = c.requires.walk whole in
    record {
      hinders = c.in_default.ensures;
      first = clear-6 p whole place
          (clear-free p whole place c.args.next 40 6 one (c.seen_law.ensures p whole place) (fixed-packet p whole c.requires.bare.fixed)
          (bare-ends p c.args.next whole one walk) (bare-seen p c.args.next whole one walk place) c.if-next-eq-AUTHENTICATION.false)
          (full-not p place None (bare-first p c.args.next whole one walk place) tt);
    }

pub returns-clause-open : goal.returns-clause-open
returns-clause-open c = λ whole place.
    let p = c.args.bytes.now in
    let one = c.walk_law.ensures p whole in
    let walk = c.requires.walk whole in
    open-7 p whole place
    (clear-6 p whole place
    (clear-free p whole place c.args.next 40 6 one (c.seen_law.ensures p whole place) (fixed-packet p whole c.requires.bare.fixed)
    (bare-ends p c.args.next whole one walk) (bare-seen p c.args.next whole one walk place) c.if-next-eq-AUTHENTICATION.false)
    (full-not p place None (bare-first p c.args.next whole one walk place) tt))
    (λ more. omega (arith, more, c.in-Some.ensures.1))

pub returns-clause-unmarked : goal.returns-clause-unmarked
returns-clause-unmarked c = λ whole place.
    let one = c.walk_law.ensures c.args.bytes.now whole in
    let walk = c.requires.walk whole in
    record {
      next = c.args.next;
      ends = (40, 6, bare-ends c.args.bytes.now c.args.next whole one walk);
      none = bare-seen c.args.bytes.now c.args.next whole one walk place;
    }

pub returns-clause-room : goal.returns-clause-room
returns-clause-room c = λ place.
    let p = c.args.bytes.now in
    let one = c.walk_law.ensures p true in
    let walk = c.requires.walk true in
    record {
      first = bare-first p c.args.next true one walk place;
      stands = tt;
      more = tt;
      follows = bare-follows p c.args.next true one walk _ c.requires.bare refl refl refl;
      payload = c.in-Some.ensures.0;
    }
