use Rattle.std.proofs.Common.{◌∙◌, ◌+◌, ◌-◌, ◌*◌, ◌^◌, ◌<◌, ◌≤◌, length, sym, ap, subst, arith}
use Rattle.std.proofs.lemmas.List.{take_all}
use Rattle.std.proofs.lemmas.Nat.{mul-add-lt}
use Rattle.am_control.specs.Rows.{loss_rows, scope_rows}
use Rattle.am_sim.specs.Comparing.{loss_in}
use Rattle.am_sim.specs.Simulating.{row_of}
use Rattle.am_sim.proofs.RowLemmas.{cells-are, few-cells, row-here, row-within, scope-length}
use Rattle.am_sim.proofs.SumLemmas.{row-more}
use Rattle.am_sim.proofs.compare.compared.Goals as goal

pub overflow_mul-at : goal.overflow_mul-at
overflow_mul-at c =
    let cells = length c.flows.result.now * (c.end.result - c.first.result) in
    let few = few-cells c.args.domain.now c.flows.result.now c.end.result c.first.result c.flows.ensures.lawful c.flows.ensures.value c.end.ensures.value c.first.ensures.value in
    omega (arith, mul-add-lt c.args.at cells c.loop-k.k (2 ^ 32) c.requires.few c.loop-k-test.true, few)

pub overflow_add-at : goal.overflow_add-at
overflow_add-at c =
    let cells = length c.flows.result.now * (c.end.result - c.first.result) in
    let few = few-cells c.args.domain.now c.flows.result.now c.end.result c.first.result c.flows.ensures.lawful c.flows.ensures.value c.end.ensures.value c.first.ensures.value in
    omega (arith, mul-add-lt c.args.at cells c.loop-k.k (2 ^ 32) c.requires.few c.loop-k-test.true, few)

pub row-loss-requires : goal.row-loss-requires
row-loss-requires c =
    let m = c.args.closed.now in
    let cells = length c.flows.result.now * (c.end.result - c.first.result) in
    let is = cells-are m c.args.domain.now c.flows.result.now c.end.result c.first.result c.requires.plan c.flows.ensures.value c.end.ensures.value c.first.ensures.value in
    subst (λ n. c.args.at * n + c.loop-k.k < length (loss_rows m)) (sym is)
    (row-within m c.args.at c.loop-k.k c.requires.within (subst (λ n. c.loop-k.k < n) is c.loop-k-test.true))

pub loop-k-preserved : goal.loop-k-preserved
loop-k-preserved c =
    let m = c.args.closed.now in
    let r = c.row-loss.result in
    let k = c.loop-k.k in
    let rows = scope_rows m c.args.scope in
    let losses = loss_in c.args.domain.now c.args.losses.now in
    let cells = length c.flows.result.now * (c.end.result - c.first.result) in
    let is = cells-are m c.args.domain.now c.flows.result.now c.end.result c.first.result c.requires.plan c.flows.ensures.value c.end.ensures.value c.first.ensures.value in
    let inside : k < length rows = omega (arith, scope-length m c.args.scope, is, c.loop-k-test.true) in
    let here = row-here m c.args.at k cells c.args.scope r is c.requires.within c.requires.scope c.loop-k-test.true c.row-loss.ensures.value in
    let more = row-more c.args.scope losses rows k r inside in
    record {
      over = c.count_pair.ensures.pair ∙ rw (c.loop-k.invariant.over, c.loss_at-dropped.ensures) (sym (rw here at more));
      bounded = c.count_pair.ensures.bounded;
    }

pub returns : goal.returns
returns c =
    let m = c.args.closed.now in
    let rows = scope_rows m c.args.scope in
    let losses = loss_in c.args.domain.now c.args.losses.now in
    let is = cells-are m c.args.domain.now c.flows.result.now c.end.result c.first.result c.requires.plan c.flows.ensures.value c.end.ensures.value c.first.ensures.value in
    let all : length rows ≤ c.loop-k.k = omega (arith, scope-length m c.args.scope, is, c.loop-k-test.false) in
    c.loop-k.invariant.over ∙ ap (row_of c.args.scope losses) (take_all c.loop-k.k rows all)
