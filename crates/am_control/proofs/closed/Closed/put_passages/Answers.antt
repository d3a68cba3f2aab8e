use Rattle.std.proofs.Common.{◌∙◌, [], ◌++◌, length, ap, sym, arith}
use Rattle.std.proofs.lemmas.List.Elements.{All-nil, All-same}
use Rattle.am_control.specs.Passages.{FitsBoth, block_passages}
use Rattle.am_control.proofs.PassageLemmas.{blocks-none, blocks-more, blocks-all, block-fits}
use Rattle.am_control.proofs.closed.Closed.put_passages.Goals as goal

pub loop-block-init : goal.loop-block-init
loop-block-init c = record {
  passages = c.clear.ensures.items ∙ sym (blocks-none c.args.self.now c.args.scope c.first-block.result c.first-block.ensures);
  fit = All-same FitsBoth c.clear.new.self.items [] c.clear.ensures.items (All-nil FitsBoth);
  room = c.clear.ensures.capacity;
}

pub add_block-requires-clause-room : goal.add_block-requires-clause-room
add_block-requires-clause-room c =
    let fits = block-fits c.args.self.now c.args.scope c.loop-block.block (omega (arith, c.first-block.ensures)) (omega (arith, c.end-block-end.ensures.value)) in
    omega (arith, fits, ap length c.loop-block.invariant.passages, c.requires.room, c.loop-block.invariant.room)

pub loop-block-preserved : goal.loop-block-preserved
loop-block-preserved c = record {
  passages = c.add_block.ensures.passages
      ∙ ap (λ ps. ps ++ block_passages c.args.self.now c.args.scope c.loop-block.block) c.loop-block.invariant.passages
      ∙ blocks-more c.args.self.now c.args.scope c.loop-block.block (omega (arith, c.first-block.ensures));
  fit = c.add_block.ensures.fit;
  room = c.add_block.ensures.room ∙ c.loop-block.invariant.room;
}

pub returns-clause-passages : goal.returns-clause-passages
returns-clause-passages c = record {
  all = c.loop-block.invariant.passages ∙ blocks-all c.args.self.now c.args.scope c.loop-block.block
      (omega (arith, c.end-block-end.ensures.value, c.first-block.ensures, c.end-block-end.ensures.some));
  fit = c.loop-block.invariant.fit;
}
