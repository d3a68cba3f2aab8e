-- Another header is announced, and none is a Hop-by-Hop header; or the mark stands alone in the first.
use Rattle.std.proofs.Common.{rules}
use Rattle.am_ip6.proofs.SeenLemmas.{hop-other}
use Rattle.am_ip6.proofs.Lone.{lone-marked}
use Rattle.am_ip6.proofs.marks.find_in_hop_by_hop.Goals as goal

pub returns-then-bytes-ne-HOP_BY_HOP : goal.returns-then-bytes-ne-HOP_BY_HOP
returns-then-bytes-ne-HOP_BY_HOP c = λ hs ended has so.
    hop-other c.args.bytes.now c.args.whole ended hs (search rules) c.if-bytes-ne-HOP_BY_HOP.true has so

pub returns-in-Some : goal.returns-in-Some
returns-in-Some c = λ hs ended has so.
    lone-marked c.args.bytes.now hs c.in-Some.mark (search rules) c.if-bytes-ne-HOP_BY_HOP.false c.in-Some.ensures.has has
