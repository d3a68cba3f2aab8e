-- One look, or walks.
use Rattle.std.proofs.Common.{subst}
use Rattle.am_ip6.specs.Brief.{WalksBriefly}
use Rattle.am_insert.specs.Parts.{HasRoom}
use Rattle.am_insert.proofs.Brief.{if_ok-at}
use Rattle.am_insert.proofs.insert.room_in.Goals as goal

pub room_behind_fixed-requires-clause-walk : goal.room_behind_fixed-requires-clause-walk
room_behind_fixed-requires-clause-walk c = λ whole.
    subst (λ m. WalksBriefly c.args.bytes.now m c.in-Some.brief.next whole) c.in-None.is (c.in-Some.ensures.walk whole)

pub returns-in-None-clause-room : goal.returns-in-None-clause-room
returns-in-None-clause-room c = if_ok-at c.room_behind_fixed.result (λ place r. HasRoom c.args.bytes.now place r) c.args.place c.room_behind_fixed.ensures.room
