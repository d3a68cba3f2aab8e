-- Another header is announced, or a first one, which has a lone mark or not; and behind it a number that is walked or not.
use Rattle.std.proofs.Common.{rules}
use Rattle.am_ip6.proofs.BriefLemmas.{plain-brief, lone-brief, walks_if_brief, not-lone}
use Rattle.am_ip6.proofs.brief.Brief.read.Goals as goal

pub returns-then-bytes-ne-HOP_BY_HOP-clause-only : goal.returns-then-bytes-ne-HOP_BY_HOP-clause-only
returns-then-bytes-ne-HOP_BY_HOP-clause-only c =
    plain-brief c.args.bytes.now (search rules) c.if-bytes-ne-HOP_BY_HOP.true c.ended.result c.ended.ensures.only

pub returns-then-bytes-ne-HOP_BY_HOP-clause-walk : goal.returns-then-bytes-ne-HOP_BY_HOP-clause-walk
returns-then-bytes-ne-HOP_BY_HOP-clause-walk c =
    walks_if_brief c.args.bytes.now c.ended.result
    (plain-brief c.args.bytes.now (search rules) c.if-bytes-ne-HOP_BY_HOP.true c.ended.result c.ended.ensures.only)

pub returns-clause-only : goal.returns-clause-only
returns-clause-only c =
    lone-brief c.args.bytes.now c.in-Some.mark (search rules) c.if-bytes-ne-HOP_BY_HOP.false c.in-Some.ensures.has c.ended-2.result c.ended-2.ensures.only

pub returns-clause-walk : goal.returns-clause-walk
returns-clause-walk c =
    walks_if_brief c.args.bytes.now c.ended-2.result
    (lone-brief c.args.bytes.now c.in-Some.mark (search rules) c.if-bytes-ne-HOP_BY_HOP.false c.in-Some.ensures.has c.ended-2.result c.ended-2.ensures.only)

pub returns-in_default-clause-none : goal.returns-in_default-clause-none
returns-in_default-clause-none c = not-lone c.args.bytes.now c.if-bytes-ne-HOP_BY_HOP.false c.in_default.ensures.none
