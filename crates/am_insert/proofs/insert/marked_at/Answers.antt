-- A walk that ends at a number is not cut, so a mark is found or none.
use Rattle.am_insert.proofs.Refused.{number-not_cut_off}
use Rattle.am_insert.proofs.insert.marked_at.Goals as goal

pub returns-in-Marked : goal.returns-in-Marked
returns-in-Marked c = (c.in-Marked.mark, c.in-Marked.ensures.seen)

pub returns-in-Cut : goal.returns-in-Cut
returns-in-Cut c =
    absurd (number-not_cut_off c.args.bytes.now c.args.whole c.args.end.next c.args.end.at c.args.end.told_at
    (c.walk_law.ensures c.args.bytes.now c.args.whole) c.requires c.args.place c.in-Cut.ensures.seen)
