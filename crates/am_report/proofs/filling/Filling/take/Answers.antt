use Rattle.std.proofs.Common.{◌<◌, ◌∙◌, refl, inl, inr, arith}
use Rattle.am_report.specs.RowParts.{row_said}
use Rattle.am_report.proofs.TakeLemmas.{refuse-count, is-row, refuse-node, refuse-flow, refuse-block, of-first, takes-it, knows}
use Rattle.am_report.proofs.filling.Filling.take.Goals as goal

pub returns-then-said-total-clause-refused : goal.returns-then-said-total-clause-refused
returns-then-said-total-clause-refused c = λ before filled.
    refuse-count c.args.domain.now c.args.self.now before _ (row_said c.in-Some.said) filled c.in-Some.ensures.found
    (omega (arith, c.total.ensures.value, c.if-said-total.true))

pub returns-in-Err-clause-refused : goal.returns-in-Err-clause-refused
returns-in-Err-clause-refused c = λ before filled.
    let f = c.args.self.now in
    let s = row_said c.in-Some.said in
    let row = is-row c.args.domain.now f before _ s filled c.in-Some.ensures.found c.total.ensures.table.counted
    (omega (arith, c.total.ensures.value, c.if-said-total.false)) in
    refuse-node c.args.domain.now f before _ s _ filled row c.in-Err.ensures.refused

pub returns-in-Err-check_flow-clause-refused : goal.returns-in-Err-check_flow-clause-refused
returns-in-Err-check_flow-clause-refused c = λ before filled.
    let f = c.args.self.now in
    let s = row_said c.in-Some.said in
    let row = is-row c.args.domain.now f before _ s filled c.in-Some.ensures.found c.total.ensures.table.counted
    (omega (arith, c.total.ensures.value, c.if-said-total.false)) in
    let known = knows c.args.domain.now before _ s c.in-Ok.node row c.in-Ok.ensures.number in
    let first = of-first c.args.domain.now f.node before s c.in-Ok.node filled.node c.in-Ok.ensures.same c.in-Ok.ensures.number in
    refuse-flow c.args.domain.now f before _ s _ c.requires filled known first c.in-Err-check_flow.ensures.refused

pub returns-then-self-end-clause-refused : goal.returns-then-self-end-clause-refused
returns-then-self-end-clause-refused c = λ before filled.
    let f = c.args.self.now in
    let s = row_said c.in-Some.said in
    let row = is-row c.args.domain.now f before _ s filled c.in-Some.ensures.found c.total.ensures.table.counted
    (omega (arith, c.total.ensures.value, c.if-said-total.false)) in
    let known = knows c.args.domain.now before _ s c.in-Ok.node row c.in-Ok.ensures.number in
    let first = of-first c.args.domain.now f.node before s c.in-Ok.node filled.node c.in-Ok.ensures.same c.in-Ok.ensures.number in
    refuse-block c.args.domain.now f before _ s c.requires filled known first c.in_default-check_flow.ensures.number
    (inl (c.if-self-end.true ∙ c.end.ensures.value))

pub returns-then-said-self-clause-refused : goal.returns-then-said-self-clause-refused
returns-then-said-self-clause-refused c = λ before filled.
    let f = c.args.self.now in
    let s = row_said c.in-Some.said in
    let row = is-row c.args.domain.now f before _ s filled c.in-Some.ensures.found c.total.ensures.table.counted
    (omega (arith, c.total.ensures.value, c.if-said-total.false)) in
    let known = knows c.args.domain.now before _ s c.in-Ok.node row c.in-Ok.ensures.number in
    let first = of-first c.args.domain.now f.node before s c.in-Ok.node filled.node c.in-Ok.ensures.same c.in-Ok.ensures.number in
    refuse-block c.args.domain.now f before _ s c.requires filled known first c.in_default-check_flow.ensures.number (inr c.if-said-self.true)

pub returns-then-self-flows-clause-taken : goal.returns-then-self-flows-clause-taken
returns-then-self-flows-clause-taken c = λ before filled.
    let f = c.args.self.now in
    let s = row_said c.in-Some.said in
    let row = is-row c.args.domain.now f before _ s filled c.in-Some.ensures.found c.total.ensures.table.counted
    (omega (arith, c.total.ensures.value, c.if-said-total.false)) in
    let left : f.block < c.args.domain.now.end = omega (arith, c.requires.until, c.if-self-end.false, c.end.ensures.value) in
    takes-it c.args.domain.now f _ before _ s c.in-Ok.node c.requires filled row c.in-Ok.ensures.number c.in-Ok.ensures.same
    c.in_default-check_flow.ensures.number left c.if-said-self.false c.add_cell.ensures refl refl

pub returns-else-self-flows-clause-taken : goal.returns-else-self-flows-clause-taken
returns-else-self-flows-clause-taken c = λ before filled.
    let f = c.args.self.now in
    let s = row_said c.in-Some.said in
    let row = is-row c.args.domain.now f before _ s filled c.in-Some.ensures.found c.total.ensures.table.counted
    (omega (arith, c.total.ensures.value, c.if-said-total.false)) in
    let left : f.block < c.args.domain.now.end = omega (arith, c.requires.until, c.if-self-end.false, c.end.ensures.value) in
    takes-it c.args.domain.now f _ before _ s c.in-Ok.node c.requires filled row c.in-Ok.ensures.number c.in-Ok.ensures.same
    c.in_default-check_flow.ensures.number left c.if-said-self.false c.add_cell.ensures refl refl
