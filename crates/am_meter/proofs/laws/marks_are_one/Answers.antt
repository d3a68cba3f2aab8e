use Rattle.am_meter.proofs.Judging.{judged-once, judged-not_refused}
use Rattle.am_meter.proofs.laws.marks_are_one.Goals as goal

pub returns-clause-one : goal.returns-clause-one
returns-clause-one c = judged-once c.frames_are_one.ensures c.seen_law.ensures c.captures_are_one.ensures.one

pub returns-clause-not_refused : goal.returns-clause-not_refused
returns-clause-not_refused c =
    judged-not_refused
    c.frames_are_one.ensures c.seen_law.ensures c.captures_are_one.ensures.not_refused c.beginnings_agree.ensures.not_refused c.beginnings_agree.ensures.capture
