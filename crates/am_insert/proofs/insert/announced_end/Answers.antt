-- The walk ends in one way.
use Rattle.am_insert.proofs.Headers.{ends_fixed}
use Rattle.am_insert.proofs.Refused.{cut-first, malformed-first}
use Rattle.am_insert.proofs.insert.announced_end.Goals as goal

pub returns-in-End-clause-ends : goal.returns-in-End-clause-ends
returns-in-End-clause-ends c =
    let walk = c.walk_law.ensures c.args.bytes.now c.args.whole in
    record { headers = walk.headers; chain = walk.chain; ends = c.in-End.ensures walk.headers walk.chain }

pub returns-in-End-clause-follows : goal.returns-in-End-clause-follows
returns-in-End-clause-follows c =
    let walk = c.walk_law.ensures c.args.bytes.now c.args.whole in
    let fixed = ends_fixed c.args.bytes.now c.args.whole walk.headers c.in-End.next c.in-End.at c.in-End.told_at
    (c.in-End.ensures walk.headers walk.chain) in
    record { fixed = fixed; spot = λ hs has. ((c.in-End.ensures hs has).fixed fixed).0 }

pub returns-in-Cut-clause-hinders : goal.returns-in-Cut-clause-hinders
returns-in-Cut-clause-hinders c = λ place.
    let walk = c.walk_law.ensures c.args.bytes.now c.args.whole in
    cut-first c.args.bytes.now c.args.whole place walk c.requires
    (record { headers = walk.headers; chain = walk.chain; ends = c.in-Cut.ensures walk.headers walk.chain })

pub returns-in-Malformed-clause-hinders : goal.returns-in-Malformed-clause-hinders
returns-in-Malformed-clause-hinders c = λ place.
    let walk = c.walk_law.ensures c.args.bytes.now c.args.whole in
    malformed-first c.args.bytes.now c.args.whole place c.in-Malformed.place c.requires
    (record { headers = walk.headers; chain = walk.chain; ends = c.in-Malformed.ensures walk.headers walk.chain })
