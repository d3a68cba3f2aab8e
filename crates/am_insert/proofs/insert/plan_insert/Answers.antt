-- One thing hinders first, and where nothing does the mark goes in.
use Rattle.am_insert.proofs.Refused.{refused-each, not_open}
use Rattle.am_insert.proofs.insert.plan_insert.Goals as goal

pub returns-in-Err-clause-each : goal.returns-in-Err-clause-each
returns-in-Err-clause-each c =
    refused-each c.args.bytes.now c.args.whole c.args.place (c.walk_law.ensures c.args.bytes.now c.args.whole)
    (c.seen_law.ensures c.args.bytes.now c.args.whole c.args.place) c.in-Err.error c.in-Err.ensures.refused

pub returns-in-Err-clause-accepted : goal.returns-in-Err-clause-accepted
returns-in-Err-clause-accepted c = λ free.
    absurd (not_open c.args.bytes.now c.args.whole c.args.place c.in-Err.error c.in-Err.ensures.refused free)

pub returns-in-Ok-clause-each : goal.returns-in-Ok-clause-each
returns-in-Ok-clause-each c = λ e first. absurd (c.in-Ok.ensures.open e first.hinders)
