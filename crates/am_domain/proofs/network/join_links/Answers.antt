use Rattle.std.proofs.Common.{arith}
use Rattle.am_domain.specs.Network.{IsBetween, Joins}
use Rattle.am_domain.proofs.ListLemmas.{zip_taken, more_below}
use Rattle.am_domain.proofs.network.join_links.Goals as goal

pub loop-i-preserved : goal.loop-i-preserved
loop-i-preserved c =
    let from = rw c.from.ensures at c.in-Some.ensures.found in
    let to = rw c.to.ensures at c.in-Some-number_of.ensures.found in (
      rw c.in-Ok.ensures.items (zip_taken (Joins c.args.nodes.now) c.args.links.now c.loop-i.i c.index-links-i.result c.loop-i.edges.items _ (omega arith) c.index-links-i.is c.loop-i.invariant.0 (record { from = from; to = to })),
      more_below (IsBetween c.args.nodes.now) c.args.links.now c.loop-i.i c.index-links-i.result (omega arith) c.index-links-i.is c.loop-i.invariant.1 ((c.in-Some.from, from), (c.in-Some-number_of.to, to)),
    )

pub returns-clause-between : goal.returns-clause-between
returns-clause-between c = λ k d h. c.loop-i.invariant.1 k d (omega arith)
