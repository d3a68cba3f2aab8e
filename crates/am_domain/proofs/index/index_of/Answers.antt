-- One more flow, and then all.
use Rattle.std.proofs.Common.{arith, sym, subst, ◌≡◌, length}
use Rattle.std.specs.HashMap.{get}
use Rattle.am_domain.specs.Index.{same_ends, IsFirstBelow}
use Rattle.am_domain.proofs.IndexLemmas.{below-none, below-more, lengths-more, get-none}
use Rattle.am_domain.proofs.index.index_of.Goals as goal

pub loop-i-init : goal.loop-i-init
loop-i-init c = record {
  lengths = λ j d lt. absurd (omega (arith, lt));
  firsts = λ ends. subst (IsFirstBelow 0 c.args.flows.now ends) (sym (get-none c.new-firsts.result ends c.new-firsts.ensures.empty)) (below-none c.args.flows.now ends);
}

pub loop-i-preserved : goal.loop-i-preserved
loop-i-preserved c = record {
  lengths = lengths-more c.args.flows.now c.loop-i.i c.index-flows-i.result c.ends_of-ends.result c.loop-i.lengths.items c.add_lengths.new.all.items
      (omega arith) c.index-flows-i.is c.ends_of-ends.ensures c.in_ok-add_lengths.ensures.added c.in_ok-add_lengths.ensures.kept
      c.loop-i.invariant.lengths;
  firsts = λ ends. below-more c.args.flows.now c.loop-i.i c.index-flows-i.result c.ends_of-ends.result ends
      (get same_ends c.loop-i.firsts ends) (get same_ends c.add_first.new.firsts ends) (omega arith) c.index-flows-i.is
      c.ends_of-ends.ensures (c.in_ok-add_first.ensures ends) (c.loop-i.invariant.firsts ends);
}

pub returns : goal.returns
returns c =
    let all : c.loop-i.i ≡ length c.args.flows.now = omega arith in
    record {
      lengths = λ i d lt. c.loop-i.invariant.lengths i d (omega arith);
      firsts = λ ends. subst (λ n. IsFirstBelow n c.args.flows.now ends (get same_ends c.loop-i.firsts ends)) all (c.loop-i.invariant.firsts ends);
    }
