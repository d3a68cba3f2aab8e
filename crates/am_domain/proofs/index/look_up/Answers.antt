-- A look-up at one pair of lengths after another, and then the first flow of all.
use Rattle.std.proofs.Common.{arith, ap, ◌∙◌, length}
use Rattle.am_domain.proofs.IndexLemmas.{so_far-none, so_far-step, found_of_all, none_of_all}
use Rattle.am_domain.proofs.index.look_up.Goals as goal

pub loop-lengths-init : goal.loop-lengths-init
loop-lengths-init c = so_far-none c.args.flows.now c.args.source.now.0 c.args.destination.now.0 c.args.index.now.lengths.items

pub loop-lengths-preserved : goal.loop-lengths-preserved
loop-lengths-preserved c =
    so_far-step c.args.flows.now c.args.source.now.0 c.args.destination.now.0 c.args.index.now c.deref-lengths-items.result.now
    c.loop-lengths.lengths-index c.lengths-item.result c.ends_at-ends.result c.loop-lengths.first c.copied.result c.earlier-first.result c.requires
    c.deref-lengths-items.ensures.value (omega arith) c.lengths-item.is c.ends_at-ends.ensures (c.copied.ensures ∙ c.get.ensures.value) c.earlier-first.ensures
    c.loop-lengths.invariant

pub returns-clause-found : goal.returns-clause-found
returns-clause-found c =
    found_of_all c.args.flows.now c.args.source.now.0 c.args.destination.now.0 c.args.index.now c.loop-lengths.lengths-index c.loop-lengths.first
    c.requires (omega (arith, ap length c.deref-lengths-items.ensures.value)) c.loop-lengths.invariant

pub returns-clause-none : goal.returns-clause-none
returns-clause-none c =
    none_of_all c.args.flows.now c.args.source.now.0 c.args.destination.now.0 c.args.index.now c.loop-lengths.lengths-index c.loop-lengths.first
    c.requires (omega (arith, ap length c.deref-lengths-items.ensures.value)) c.loop-lengths.invariant
