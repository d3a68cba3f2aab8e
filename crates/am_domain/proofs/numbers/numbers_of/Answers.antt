-- Each flow's number is added, and then they are put in order.
use Rattle.std.proofs.Common.{arith, rules}
use Rattle.std.proofs.lemmas.List.Sorted.{IsNonDecreasingBy-from_sort_by_key}
use Rattle.am_domain.proofs.NumberLemmas.{first-none, first-more, in_order}
use Rattle.am_domain.proofs.numbers.numbers_of.Goals as goal

pub loop-i-init : goal.loop-i-init
loop-i-init c = first-none c.args.flows.now _ c.new-numbers.ensures.items

pub loop-i-preserved : goal.loop-i-preserved
loop-i-preserved c =
    first-more c.args.flows.now c.loop-i.numbers.items c.push.new.self.items c.loop-i.i _ c.index-flows-i.result c.loop-i.invariant
    c.in_ok-push.ensures.items (omega arith) c.index-flows-i.is c.id.ensures

pub returns : goal.returns
returns c =
    in_order c.args.flows.now c.loop-i.numbers.items _ c.loop-i.i c.loop-i.invariant (omega arith) c.sort_unstable_by_key.ensures.permutation
    (IsNonDecreasingBy-from_sort_by_key (λ x. x.id) _ c.sort_unstable_by_key.ensures.sorted (λ a r q k. search rules))
