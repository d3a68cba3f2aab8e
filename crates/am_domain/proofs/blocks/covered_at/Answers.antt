use Rattle.std.proofs.Common.{ap, ◌∙◌}
use Rattle.std.proofs.lemmas.List.{get_or_read}
use Rattle.am_domain.proofs.BlockLemmas.{starts_as, ends_as}
use Rattle.am_domain.proofs.blocks.covered_at.Goals as goal

pub returns-clause-first : goal.returns-clause-first
returns-clause-first c = λ n d.
    let node = get_or_read c.args.nodes.now c.args.i c.index-nodes-i.result c.requires.within c.index-nodes-i.is d in
    starts_as c.args.timing.now _ _ _ _ c.covered.result.0 n (c.from.ensures ∙ ap (λ x. x.from) node) (c.shift_of-shift.ensures.value c.args.nodes.now) (c.covered.ensures.first n)

pub returns-clause-end : goal.returns-clause-end
returns-clause-end c = λ n d.
    let node = get_or_read c.args.nodes.now c.args.i c.index-nodes-i.result c.requires.within c.index-nodes-i.is d in
    ends_as c.args.timing.now _ _ _ _ c.covered.result.1 n (c.until.ensures ∙ ap (λ x. x.until) node) (c.shift_of-shift.ensures.value c.args.nodes.now) (c.covered.ensures.count n)
