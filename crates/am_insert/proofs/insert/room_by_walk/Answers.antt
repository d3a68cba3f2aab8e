-- What hinders, by what was asked before.
use Rattle.std.proofs.Common.{arith, subst}
use Rattle.am_ip6.specs.Endings.Ended.{AtNumber}
use Rattle.am_insert.specs.Inserting.{WalkEnds}
use Rattle.am_insert.proofs.Refused.{clear-0, clear-number, clear-unmarked, clear-free, clear-6, open-7, full-is, full-not}
use Rattle.am_insert.proofs.insert.room_by_walk.Goals as goal

pub returns-then-is_no_packet-clause-refused : goal.returns-then-is_no_packet-clause-refused
returns-then-is_no_packet-clause-refused c = record {
  hinders = c.if-is_no_packet.ensures;
  first = clear-0 c.args.bytes.now c.args.whole c.args.place;
}

pub returns-in-Err-clause-refused : goal.returns-in-Err-clause-refused
returns-in-Err-clause-refused c = c.in-Err.ensures.hinders c.args.place

pub returns-in-Some-clause-refused : goal.returns-in-Some-clause-refused
returns-in-Some-clause-refused c = record {
  hinders = c.in-Some.ensures;
  first = clear-number c.args.bytes.now c.args.whole c.args.place c.in-Ok.end.next c.in-Ok.end.at c.in-Ok.end.told_at
      (c.walk_law.ensures c.args.bytes.now c.args.whole) c.if-is_no_packet.ensures c.in-Ok.ensures.ends;
}

pub returns-then-end-eq-AUTHENTICATION-clause-refused : goal.returns-then-end-eq-AUTHENTICATION-clause-refused
returns-then-end-eq-AUTHENTICATION-clause-refused c = record {
  hinders = (
    c.in-Ok.end.at,
    c.in-Ok.end.told_at,
    subst (λ n. WalkEnds c.args.bytes.now c.args.whole (AtNumber n c.in-Ok.end.at c.in-Ok.end.told_at))
        c.if-end-eq-AUTHENTICATION.true c.in-Ok.ensures.ends,
  );
  first = clear-unmarked c.args.bytes.now c.args.whole c.args.place c.in-Ok.end.next c.in-Ok.end.at c.in-Ok.end.told_at
      (c.walk_law.ensures c.args.bytes.now c.args.whole) (c.seen_law.ensures c.args.bytes.now c.args.whole c.args.place)
      c.if-is_no_packet.ensures c.in-Ok.ensures.ends c.in_default.ensures;
}

pub returns-then-is_full-clause-refused : goal.returns-then-is_full-clause-refused
returns-then-is_full-clause-refused c = record {
  hinders = full-is c.args.bytes.now c.args.whole c.args.place c.first_header-first.result
      (c.walk_law.ensures c.args.bytes.now c.args.whole) c.first_header-first.ensures.first c.if-is_full.ensures;
  first = clear-free c.args.bytes.now c.args.whole c.args.place c.in-Ok.end.next c.in-Ok.end.at c.in-Ok.end.told_at
      (c.walk_law.ensures c.args.bytes.now c.args.whole) (c.seen_law.ensures c.args.bytes.now c.args.whole c.args.place)
      c.if-is_no_packet.ensures c.in-Ok.ensures.ends c.in_default.ensures c.if-end-eq-AUTHENTICATION.false;
}

pub returns-in_default-raised_payload-clause-refused : goal.returns-in_default-raised_payload-clause-refused
returns-in_default-raised_payload-clause-refused c = record {
  hinders = c.in_default-raised_payload.ensures;
  first = clear-6 c.args.bytes.now c.args.whole c.args.place
      (clear-free c.args.bytes.now c.args.whole c.args.place c.in-Ok.end.next c.in-Ok.end.at c.in-Ok.end.told_at
      (c.walk_law.ensures c.args.bytes.now c.args.whole) (c.seen_law.ensures c.args.bytes.now c.args.whole c.args.place)
      c.if-is_no_packet.ensures c.in-Ok.ensures.ends c.in_default.ensures c.if-end-eq-AUTHENTICATION.false)
      (full-not c.args.bytes.now c.args.place c.first_header-first.result c.first_header-first.ensures.first c.if-is_full.ensures);
}

pub returns-clause-open : goal.returns-clause-open
returns-clause-open c =
    open-7 c.args.bytes.now c.args.whole c.args.place
    (clear-6 c.args.bytes.now c.args.whole c.args.place
    (clear-free c.args.bytes.now c.args.whole c.args.place c.in-Ok.end.next c.in-Ok.end.at c.in-Ok.end.told_at
    (c.walk_law.ensures c.args.bytes.now c.args.whole) (c.seen_law.ensures c.args.bytes.now c.args.whole c.args.place)
    c.if-is_no_packet.ensures c.in-Ok.ensures.ends c.in_default.ensures c.if-end-eq-AUTHENTICATION.false)
    (full-not c.args.bytes.now c.args.place c.first_header-first.result c.first_header-first.ensures.first c.if-is_full.ensures))
    (λ more. omega (arith, more, c.in-Some-raised_payload.ensures.1))

pub returns-clause-unmarked : goal.returns-clause-unmarked
returns-clause-unmarked c = record {
  next = c.in-Ok.end.next;
  ends = (c.in-Ok.end.at, c.in-Ok.end.told_at, c.in-Ok.ensures.ends);
  none = c.in_default.ensures;
}

pub returns-clause-room : goal.returns-clause-room
returns-clause-room c = record {
  first = c.first_header-first.ensures.first;
  stands = c.first_header-first.ensures.stands;
  more = c.if-is_full.ensures;
  follows = c.in-Ok.ensures.follows;
  payload = c.in-Some-raised_payload.ensures.0;
}
