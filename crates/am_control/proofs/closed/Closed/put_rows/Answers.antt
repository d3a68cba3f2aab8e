use Rattle.std.proofs.Common.{◌∙◌, ◌∷◌, [], ◌++◌, length, ap, sym, arith}
use Rattle.am_control.proofs.WritingLemmas.{flow-none, flow-some, flow-more, flow-all}
use Rattle.am_control.proofs.closed.Closed.put_rows.Goals as goal

pub loop-block-init : goal.loop-block-init
loop-block-init c = record {
  rows = c.clear.ensures.items ∙ sym (flow-none c.args.self.now c.args.scope c.args.flow c.first-block.result c.first-block.ensures);
  room = c.clear.ensures.capacity;
}

pub push_reserved-requires : goal.push_reserved-requires
push_reserved-requires c =
    let count = ap length c.loop-block.invariant.rows ∙ flow-some c.args.self.now c.args.scope c.args.flow c.loop-block.block in
    omega (arith, count, c.requires.room, c.loop-block.invariant.room, c.first-block.ensures, c.end-block-end.ensures.value)

pub loop-block-preserved : goal.loop-block-preserved
loop-block-preserved c =
    let m = c.args.self.now in
    let block = c.loop-block.block in
    record {
      rows = c.push_reserved.ensures.items ∙ ap (λ rs. rs ++ c.row_from.result ∷ []) c.loop-block.invariant.rows
          ∙ flow-more m c.args.scope c.args.flow block c.row_from.result (omega (arith, c.first-block.ensures)) c.row_from.ensures;
      room = c.push_reserved.ensures.capacity ∙ c.loop-block.invariant.room;
    }

pub returns-clause-rows : goal.returns-clause-rows
returns-clause-rows c =
    c.loop-block.invariant.rows ∙ flow-all c.args.self.now c.args.scope c.args.flow c.loop-block.block (omega (arith, c.end-block-end.ensures.value, c.first-block.ensures, c.end-block-end.ensures.some))
