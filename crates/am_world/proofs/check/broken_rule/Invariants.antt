use Rattle.std.proofs.Common.{◌≡◌, ◌<◌, ℕ, false, get_or}
use Rattle.am_world.specs.declared.rule.Rule.TheVariants.{Unfinished}
use Rattle.am_world.specs.Breaches.{breaks_rule}
use Rattle.am_world.proofs.check.broken_rule.Given as goal

abbrev pub invariant-loop-rule : goal.invariant-loop-rule
invariant-loop-rule l =
    (i : ℕ) → i < l.rule-index → breaks_rule l.domain l.trip l.event (get_or l.rule-items i Unfinished) ≡ false
