use Rattle.std.proofs.Common.{◌≡◌, ◌∙◌, ◌+◌, ◌-◌, ◌*◌, get_or, ap, arith}
use Rattle.am_control.proofs.PassageLemmas.{no-passage, place-within, place-few, passage-there, row-from}
use Rattle.am_control.proofs.closed.Closed.row_from.Goals as goal

pub overflow_mul-number : goal.overflow_mul-number
overflow_mul-number c =
    let flows : c.flows-flows.result ≡ c.args.self.now.plan.flows = c.flows-flows.ensures.value ∙ ap (λ m. m.plan.flows) c.self.view_is in
    omega (
      arith,
      place-few c.args.self.now c.args.scope c.self.inside.control.now c.args.passages.now c.args.flow c.args.block c.flows-flows.result c.first.result
          c.self.view_is c.flows-flows.ensures.control flows c.first.ensures c.requires.passages.all c.requires.there,
    )

pub overflow_add-number : goal.overflow_add-number
overflow_add-number c =
    let flows : c.flows-flows.result ≡ c.args.self.now.plan.flows = c.flows-flows.ensures.value ∙ ap (λ m. m.plan.flows) c.self.view_is in
    omega (
      arith,
      place-few c.args.self.now c.args.scope c.self.inside.control.now c.args.passages.now c.args.flow c.args.block c.flows-flows.result c.first.result
          c.self.view_is c.flows-flows.ensures.control flows c.first.ensures c.requires.passages.all c.requires.there,
    )

pub offset_bounds-passages-number : goal.offset_bounds-passages-number
offset_bounds-passages-number c =
    let flows : c.flows-flows.result ≡ c.args.self.now.plan.flows = c.flows-flows.ensures.value ∙ ap (λ m. m.plan.flows) c.self.view_is in
    omega (
      arith,
      place-few c.args.self.now c.args.scope c.self.inside.control.now c.args.passages.now c.args.flow c.args.block c.flows-flows.result c.first.result
          c.self.view_is c.flows-flows.ensures.control flows c.first.ensures c.requires.passages.all c.requires.there,
    )

pub bounds-passages-number : goal.bounds-passages-number
bounds-passages-number c =
    let flows : c.flows-flows.result ≡ c.args.self.now.plan.flows = c.flows-flows.ensures.value ∙ ap (λ m. m.plan.flows) c.self.view_is in
    place-within c.args.self.now c.args.scope c.args.passages.now c.args.flow c.args.block c.flows-flows.result c.first.result
    flows c.first.ensures c.requires.passages.all c.requires.there

pub returns : goal.returns
returns c =
    let flows : c.flows-flows.result ≡ c.args.self.now.plan.flows = c.flows-flows.ensures.value ∙ ap (λ m. m.plan.flows) c.self.view_is in
    let passage = get_or c.args.passages.now ((c.args.block - c.first.result) * c.flows-flows.result + c.args.flow) no-passage in
    row-from c.args.self.now c.args.scope c.args.flow c.args.block passage c.row_of.result
    (passage-there c.args.self.now c.args.scope c.args.passages.now c.args.flow c.args.block c.flows-flows.result c.first.result
    flows c.first.ensures c.requires.passages.all c.requires.there)
    c.row_of.ensures
