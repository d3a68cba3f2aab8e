use Rattle.std.proofs.Common.{◌≡◌, ◌∙◌, ◌∷◌, [], ◌++◌, length, length-append, refl, ap, sym, subst, arith}
use Rattle.std.proofs.lemmas.List.{append-nil}
use Rattle.std.proofs.lemmas.List.Elements.{All-push, All-same}
use Rattle.am_control.specs.declared.passage.Passage.{Passage}
use Rattle.am_control.specs.Controls.{measured_of}
use Rattle.am_control.specs.Rows.{side_cell}
use Rattle.am_control.specs.Passages.{FitsBoth, passage_at}
use Rattle.am_control.proofs.PassageLemmas.{flows-before, flows-long, flows-more, passage-made}
use Rattle.am_control.proofs.closed.Closed.add_block.Goals as goal

pub loop-flow-init : goal.loop-flow-init
loop-flow-init c = record {
  passages = sym (append-nil c.args.passages.now.items);
  fit = c.requires.fit;
  room = refl;
}

pub push_reserved-requires : goal.push_reserved-requires
push_reserved-requires c =
    let m = c.args.self.now in
    let long = ap length c.loop-flow.invariant.passages
    ∙ length-append c.args.passages.now.items (flows-before m c.args.scope c.args.block c.loop-flow.flow) in
    omega (arith, long, flows-long m c.args.scope c.args.block c.loop-flow.flow, c.requires.room, c.loop-flow.invariant.room, c.flows-flow-end.ensures)

pub loop-flow-preserved : goal.loop-flow-preserved
loop-flow-preserved c =
    let m = measured_of c.self.inside.control.now in
    let flow = c.loop-flow.flow in
    let side = side_cell m.cells flow c.args.block in
    let passage : Passage = record { came = c.passed-came.result; went = c.passed-went.result } in
    let is : passage ≡ passage_at c.args.self.now c.args.scope c.args.block flow
    = subst (λ m. passage ≡ passage_at m c.args.scope c.args.block flow) c.self.view_is
    (passage-made m c.args.scope c.args.block flow c.passed-came.result c.passed-went.result
    (c.passed-came.ensures.value ∙ ap side c.entering-entering.ensures.value) (c.passed-went.ensures.value ∙ ap side c.leaving-leaving.ensures.value)) in
    record {
      passages = c.push_reserved.ensures.items ∙ ap (λ ps. ps ++ passage ∷ []) c.loop-flow.invariant.passages
          ∙ flows-more c.args.self.now c.args.scope c.args.passages.now.items c.args.block flow passage is;
      fit = All-same FitsBoth c.push_reserved.new.self.items (c.loop-flow.passages.items ++ passage ∷ []) c.push_reserved.ensures.items
          (All-push FitsBoth c.loop-flow.passages.items passage c.loop-flow.invariant.fit
          (record { came = c.passed-came.ensures.fits; went = c.passed-went.ensures.fits }));
      room = c.push_reserved.ensures.capacity ∙ c.loop-flow.invariant.room;
    }

pub returns-clause-passages : goal.returns-clause-passages
returns-clause-passages c =
    let last : c.loop-flow.flow ≡ c.args.self.now.plan.flows = omega (arith, c.flows-flow-end.ensures) in
    c.loop-flow.invariant.passages
    ∙ ap (λ n. c.args.passages.now.items ++ flows-before c.args.self.now c.args.scope c.args.block n) last
