-- The mark of the header at the spot is the first, a header without one is passed, and where none stands all were passed.
use Rattle.am_ip6.specs.Marks.{IsPassed}
use Rattle.am_ip6.specs.Shown.{lent, spot_shown, ending_shown}
use Rattle.am_ip6.specs.Seen.{seen_shown}
use Rattle.am_ip6.proofs.ChainLemmas.{reaches-more}
use Rattle.am_ip6.proofs.SeenLemmas.{marks-chain, destination-end}
use Rattle.am_ip6.proofs.marks.find_in_destination.Goals as goal

pub returns-in-Some : goal.returns-in-Some
returns-in-Some c = λ hs ended has so.
    marks-chain 60 _ _ (spot_shown c.loop-header.spot) (lent c.in-Ok-step.header) hs _ _
    (c.loop-header.invariant.2 hs (has.fixed c.loop-header.invariant.0)) c.in-Ok-step.ensures.stands c.in-Some.ensures.0 c.in-Some.ensures.1

pub loop-header-preserved : goal.loop-header-preserved
loop-header-preserved c = (
  c.loop-header.invariant.0,
  c.in-Ok-step.ensures.within,
  λ hs longest. reaches-more (IsPassed 60) _ _ (spot_shown c.loop-header.spot) _ (lent c.in-Ok-step.header) hs
      (c.loop-header.invariant.2 hs longest) c.in-Ok-step.ensures.stands c.in_default.ensures c.in-Ok-step.ensures.behind,
)

pub returns-in-Err-step : goal.returns-in-Err-step
returns-in-Err-step c = λ hs ended has so.
    destination-end _ _ (spot_shown c.loop-header.spot) (ending_shown c.in-Err-step.ending) ended (seen_shown c.unmarked-in-Err-step.result) hs
    c.loop-header.invariant.0 c.loop-header.invariant.2 c.in-Err-step.ensures.ends c.unmarked-in-Err-step.ensures has so
