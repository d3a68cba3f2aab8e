use Rattle.am_meter.proofs.Batched.{marks-once, marks-not_cut, cuts-once}
use Rattle.am_meter.proofs.laws.batch_marks_are_one.Goals as goal

pub returns-clause-one : goal.returns-clause-one
returns-clause-one c place rs ms ns a b = marks-once c.frames_are_one.ensures c.seen_law.ensures place rs ms ns a b

pub returns-clause-not_cut : goal.returns-clause-not_cut
returns-clause-not_cut c place rs ms ns number a b = marks-not_cut c.frames_are_one.ensures c.seen_law.ensures place rs ms ns number a b

pub returns-clause-first : goal.returns-clause-first
returns-clause-first c place rs m n ms ns a b = cuts-once c.frames_are_one.ensures c.seen_law.ensures place rs m n ms ns a b
