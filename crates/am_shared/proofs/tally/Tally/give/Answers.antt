-- a pass may give what it has left
use Rattle.std.proofs.Common.{arith}
use Rattle.am_shared.proofs.Keeping.{gives}
use Rattle.am_shared.proofs.tally.Tally.give.Goals as goal

pub split_seat-requires : goal.split_seat-requires
split_seat-requires g c =
    let wide = c.args.self.now.wide in
    let some = c.args.self.now.some in
    let given = c.requires.given in
    let enough = c.requires.enough in
    (c.requires.seated, omega arith, gives _ _ _ _ c.requires.carries (omega (arith, given, enough)))
