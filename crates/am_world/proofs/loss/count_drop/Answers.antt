use Rattle.std.proofs.Common.{◌≡◌, ◌<◌, Some, length, ap, arith}
use Rattle.am_domain.specs.Domains.{Reports}
use Rattle.am_world.proofs.LossLemmas.{counts-drop}
use Rattle.am_world.proofs.loss.count_drop.Goals as goal

pub returns-clause-counts : goal.returns-clause-counts
returns-clause-counts c =
    let d = c.args.domain.now in
    let flow = c.in-Some.flow in
    let block = c.in-Some.block in
    let is : c.args.drop ≡ Some (flow, block) = c.in-Some.is in
    let flows = ap length c.flows.ensures.value in
    let below : flow < length d.flows = omega (arith, flows) in
    let reported : Reports d block = (omega (arith, c.first.ensures.value), omega (arith, c.end.ensures.value)) in
    rw (is, c.end-2.ensures.value, c.first-2.ensures.value, c.first-3.ensures.value)
    (counts-drop d flow block c.args.losses.now below reported c.requires.each)
