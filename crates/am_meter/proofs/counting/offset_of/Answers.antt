use Rattle.std.proofs.Common.{arith, ap, ◌∙◌}
use Rattle.am_meter.proofs.Places.{finds-offset}
use Rattle.am_meter.proofs.counting.offset_of.Goals as goal

pub overflow_mul-block : goal.overflow_mul-block
overflow_mul-block c =
    let o = finds-offset c.args.domain.now c.args.node c.args.marked.now c.args.flow c.args.block c.block-length.result
    c.timing.ensures.lawful c.requires.node c.requires.counts (c.block-length.ensures.value ∙ ap (λ t. t.block) c.timing.ensures.value) in
    omega (arith, o.begins)

pub overflow_sub-result : goal.overflow_sub-result
overflow_sub-result c =
    let o = finds-offset c.args.domain.now c.args.node c.args.marked.now c.args.flow c.args.block c.block-length.result
    c.timing.ensures.lawful c.requires.node c.requires.counts (c.block-length.ensures.value ∙ ap (λ t. t.block) c.timing.ensures.value) in
    omega (arith, o.after)

pub returns-clause-short : goal.returns-clause-short
returns-clause-short c =
    let o = finds-offset c.args.domain.now c.args.node c.args.marked.now c.args.flow c.args.block c.block-length.result
    c.timing.ensures.lawful c.requires.node c.requires.counts (c.block-length.ensures.value ∙ ap (λ t. t.block) c.timing.ensures.value) in
    omega (arith, o.short)
