use Rattle.std.proofs.Common.{◌≡◌, ◌<◌, ◌≤◌, ◌↔◌, ℕ, length, [], arith, subst}
use Rattle.am_domain.specs.Values.{NodeValue}
use Rattle.am_domain.specs.Network.{StartsAt, WindowEndsAt, StartsBelow, EndsBelow}
use Rattle.am_domain.proofs.BlockLemmas.{one_below, more_iff}
use Rattle.am_domain.proofs.blocks.reported.Goals as goal

any : NodeValue
any = record { name = []; capture = []; from = 0; until = 0 }

pub loop-i-init : goal.loop-i-init
loop-i-init c =
    let t = c.args.timing.now in let ns = c.args.nodes.now in let es = c.args.edges.now in let r = c.covered_at-first.result in (
      λ n. one_below (λ (k : ℕ) (d : NodeValue). StartsAt t ns es k d n) (r.0 ≤ n) any (c.covered_at-first.ensures.first n),
      λ n. one_below (λ (k : ℕ) (d : NodeValue). WindowEndsAt t ns es k d n) (n < r.1) any (c.covered_at-first.ensures.end n),
    )

pub loop-i-preserved : goal.loop-i-preserved
loop-i-preserved c =
    let t = c.args.timing.now in let ns = c.args.nodes.now in let es = c.args.edges.now in let r = c.covered_at-from.result in (
      λ n. more_iff (λ (k : ℕ) (d : NodeValue). StartsAt t ns es k d n) (c.max-first.result ≤ n) any (c.loop-i.first ≤ n) (r.0 ≤ n) c.loop-i.i (c.loop-i.invariant.0 n) (c.covered_at-from.ensures.first n)
          (λ b. (omega arith, omega arith)) (λ a b. omega arith),
      λ n. more_iff (λ (k : ℕ) (d : NodeValue). WindowEndsAt t ns es k d n) (n < c.min-end.result) any (n < c.loop-i.end) (n < r.1) c.loop-i.i (c.loop-i.invariant.1 n) (c.covered_at-from.ensures.end n)
          (λ b. (omega arith, omega arith)) (λ a b. omega arith),
    )

pub returns-clause-first : goal.returns-clause-first
returns-clause-first c = λ n.
    let whole : c.loop-i.i ≡ length c.args.nodes.now = omega arith in
    subst (λ (i : ℕ). (c.loop-i.first ≤ n) ↔ StartsBelow c.args.timing.now c.args.nodes.now c.args.edges.now i n) whole (c.loop-i.invariant.0 n)

pub returns-clause-end : goal.returns-clause-end
returns-clause-end c = λ n.
    let whole : c.loop-i.i ≡ length c.args.nodes.now = omega arith in
    subst (λ (i : ℕ). (n < c.loop-i.end) ↔ EndsBelow c.args.timing.now c.args.nodes.now c.args.edges.now i n) whole (c.loop-i.invariant.1 n)
