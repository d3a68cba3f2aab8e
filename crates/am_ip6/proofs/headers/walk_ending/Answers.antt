-- A step of the walk passes the header that stands there, and where none does all were passed.
use Rattle.am_ip6.specs.Shown.{lent, spot_shown}
use Rattle.am_ip6.proofs.ChainLemmas.{reaches-start, reaches-more, ends-so}
use Rattle.am_ip6.proofs.headers.walk_ending.Goals as goal

pub loop-behind-init : goal.loop-behind-init
loop-behind-init c = (
  c.in-Ok.ensures.fixed,
  c.in-Ok.ensures.within,
  λ hs longest. reaches-start (λ _. Unit {0}) _ _ _ hs c.in-Ok.ensures.first longest,
)

pub loop-behind-preserved : goal.loop-behind-preserved
loop-behind-preserved c = (
  c.loop-behind.invariant.0,
  c.in-Ok-step.ensures.within,
  λ hs longest. reaches-more (λ _. Unit {0}) _ _ (spot_shown c.loop-behind.spot) _ (lent c.in-Ok-step.field-0-0) hs
      (c.loop-behind.invariant.2 hs longest) c.in-Ok-step.ensures.stands tt c.in-Ok-step.ensures.behind,
)

pub returns-in-Err-step : goal.returns-in-Err-step
returns-in-Err-step c = λ hs has.
    ends-so (λ _. Unit {0}) _ _ (spot_shown c.loop-behind.spot) _ hs c.loop-behind.invariant.0 c.loop-behind.invariant.2
    c.in-Err-step.ensures.ends has
