use Rattle.std.proofs.Common.{◌≡◌, ◌<◌, ◌∙◌, ap, refl, arith}
use Rattle.am_clock.specs.Times.{Times}
use Rattle.am_world.proofs.MakingLemmas.{sent-before}
use Rattle.am_world.proofs.generating.sent_at.Goals as goal

pub overflow_mul-result : goal.overflow_mul-result
overflow_mul-result c =
    let d = c.args.domain.now in
    let block : c.block-block.result ≡ d.times.block = c.block-block.ensures.value ∙ ap (λ (t : Times). t.block) c.timing.ensures.value in
    let below : c.from.result < c.from-3.result = omega arith in
    let all = sent-before d c.first-2.result c.first.result c.end.result c.block-block.result d.times.skew c.from.result
    c.from-2.result c.from-3.result c.end.ensures.lawful c.requires.nodes c.first-2.ensures.value c.first.ensures.value
    c.end.ensures.value block refl c.from-2.ensures below in
    omega (arith, all)

pub overflow_add-result : goal.overflow_add-result
overflow_add-result c =
    let d = c.args.domain.now in
    let block : c.block-block.result ≡ d.times.block = c.block-block.ensures.value ∙ ap (λ (t : Times). t.block) c.timing.ensures.value in
    let skew : c.skew.result ≡ d.times.skew = c.skew.ensures ∙ ap (λ (t : Times). t.skew) c.timing-2.ensures.value in
    let below : c.from.result < c.from-3.result = omega arith in
    let all = sent-before d c.first-2.result c.first.result c.end.result c.block-block.result c.skew.result c.from.result
    c.from-2.result c.from-3.result c.end.ensures.lawful c.requires.nodes c.first-2.ensures.value c.first.ensures.value
    c.end.ensures.value block skew c.from-2.ensures below in
    omega (arith, all)

pub overflow_add-result-2 : goal.overflow_add-result-2
overflow_add-result-2 c =
    let d = c.args.domain.now in
    let block : c.block-block.result ≡ d.times.block = c.block-block.ensures.value ∙ ap (λ (t : Times). t.block) c.timing.ensures.value in
    let skew : c.skew.result ≡ d.times.skew = c.skew.ensures ∙ ap (λ (t : Times). t.skew) c.timing-2.ensures.value in
    let below : c.from.result < c.from-3.result = omega arith in
    let all = sent-before d c.first-2.result c.first.result c.end.result c.block-block.result c.skew.result c.from.result
    c.from-2.result c.from-3.result c.end.ensures.lawful c.requires.nodes c.first-2.ensures.value c.first.ensures.value
    c.end.ensures.value block skew c.from-2.ensures below in
    omega (arith, all)

pub returns-clause-before : goal.returns-clause-before
returns-clause-before c =
    let d = c.args.domain.now in
    let block : c.block-block.result ≡ d.times.block = c.block-block.ensures.value ∙ ap (λ (t : Times). t.block) c.timing.ensures.value in
    let skew : c.skew.result ≡ d.times.skew = c.skew.ensures ∙ ap (λ (t : Times). t.skew) c.timing-2.ensures.value in
    let below : c.from.result < c.from-3.result = omega arith in
    sent-before d c.first-2.result c.first.result c.end.result c.block-block.result c.skew.result c.from.result
    c.from-2.result c.from-3.result c.end.ensures.lawful c.requires.nodes c.first-2.ensures.value c.first.ensures.value
    c.end.ensures.value block skew c.from-2.ensures below
