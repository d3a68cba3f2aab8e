use Rattle.std.proofs.Common.{arith, ap, subst, ◌≡◌, ◌∙◌, Some}
use Rattle.am_domain.specs.Lookups.{NoneHas, HasId}
use Rattle.am_meter.proofs.Places.{no-flow, one-flow, one-block-by, same-some, pair}
use Rattle.am_meter.proofs.counting.cell_for.Goals as goal

pub returns-in_default-clause-only : goal.returns-in_default-clause-only
returns-in_default-clause-only c flow block at =
    absurd (no-flow c.args.domain.now c.args.node c.args.marked.now flow block
    (subst (λ x. NoneHas (HasId x) c.args.domain.now.flows) c.flow.ensures.value c.in_default.ensures.none) at)

pub returns-in_default-attribute_near-clause-only : goal.returns-in_default-attribute_near-clause-only
returns-in_default-attribute_near-clause-only c flow block at =
    let e = one-block-by c.args.domain.now c.args.node c.args.marked.now flow block c.timing.result.now c.loss-colour.result c.args.shift
    c.attribute_near.result c.timing.ensures.value c.loss-colour.ensures c.requires.shift c.attribute_near.ensures.found at in
    cc (e, c.in_default-attribute_near.is)

pub returns-then-block-first-clause-only : goal.returns-then-block-first-clause-only
returns-then-block-first-clause-only c flow block at =
    let e = one-block-by c.args.domain.now c.args.node c.args.marked.now flow block c.timing.result.now c.loss-colour.result c.args.shift
    (Some c.in-Some-attribute_near.block) c.timing.ensures.value c.loss-colour.ensures c.requires.shift c.in-Some-attribute_near.ensures.found at in
    let same : c.in-Some-attribute_near.block ≡ block = same-some c.in-Some-attribute_near.block block e in
    absurd (omega (arith, same, at.reported.0, at.reported.1))

pub returns-then-block-end-clause-only : goal.returns-then-block-end-clause-only
returns-then-block-end-clause-only c flow block at =
    let e = one-block-by c.args.domain.now c.args.node c.args.marked.now flow block c.timing.result.now c.loss-colour.result c.args.shift
    (Some c.in-Some-attribute_near.block) c.timing.ensures.value c.loss-colour.ensures c.requires.shift c.in-Some-attribute_near.ensures.found at in
    let same : c.in-Some-attribute_near.block ≡ block = same-some c.in-Some-attribute_near.block block e in
    absurd (omega (arith, same, at.reported.0, at.reported.1))

pub returns-clause-only : goal.returns-clause-only
returns-clause-only c flow block at =
    let b = one-block-by c.args.domain.now c.args.node c.args.marked.now flow block c.timing.result.now c.loss-colour.result c.args.shift
    (Some c.in-Some-attribute_near.block) c.timing.ensures.value c.loss-colour.ensures c.requires.shift c.in-Some-attribute_near.ensures.found at in
    let f = one-flow c.args.domain.now c.args.node c.args.marked.now flow block (Some c.in-Some.flow)
    (λ i g there e. c.in-Some.ensures.of i g there (c.flow.ensures.value ∙ e)) at in
    ap (λ x. Some (pair x c.in-Some-attribute_near.block)) (same-some c.in-Some.flow flow f)
    ∙ ap (λ y. Some (pair flow y)) (same-some c.in-Some-attribute_near.block block b)
