-- A Hop-by-Hop header stands at the first spot or nowhere.
use Rattle.std.proofs.Common.{sym, ap, ◌∙◌}
use Rattle.am_ip6.specs.Chains.{Spot}
use Rattle.am_ip6.specs.Shown.{lent, spot_shown, ending_shown}
use Rattle.am_ip6.specs.Seen.{seen_shown}
use Rattle.am_ip6.proofs.SeenLemmas.{hop-other, hop-marked, hop-unmarked, hop-end}
use Rattle.am_ip6.proofs.marks.walk_hop_by_hop.Goals as goal

pub returns-then-first-ne-HOP_BY_HOP : goal.returns-then-first-ne-HOP_BY_HOP
returns-then-first-ne-HOP_BY_HOP c = λ hs ended has so.
    hop-other _ _ ended hs c.in-Ok.ensures.fixed
    (λ z. c.if-first-ne-HOP_BY_HOP.true (ap (λ (s : Spot). s.kind) c.in-Ok.ensures.first ∙ z)) has so

pub returns-in-Some : goal.returns-in-Some
returns-in-Some c = λ hs ended has so.
    hop-marked _ (spot_shown c.in-Ok.first) (lent c.in-Ok-step.header) hs _ _ c.in-Ok.ensures.fixed c.in-Ok.ensures.first
    c.in-Ok-step.ensures.stands c.in-Some.ensures.0 c.in-Some.ensures.1 has

pub returns-in-None : goal.returns-in-None
returns-in-None c = λ hs ended has so.
    hop-unmarked _ c.args.whole (spot_shown c.in-Ok.first) (lent c.in-Ok-step.header) ended hs c.in-Ok.ensures.fixed c.in-Ok.ensures.first
    c.in-Ok-step.ensures.stands (sym (ap (λ (s : Spot). s.kind) c.in-Ok.ensures.first) ∙ c.if-first-ne-HOP_BY_HOP.false) c.in-None.ensures has

pub returns-in-Err-step : goal.returns-in-Err-step
returns-in-Err-step c = λ hs ended has so.
    hop-end _ _ (spot_shown c.in-Ok.first) (ending_shown c.in-Err-step.ending) ended (seen_shown c.unmarked-in-Err-step.result) hs c.in-Ok.ensures.fixed c.in-Ok.ensures.first
    (sym (ap (λ (s : Spot). s.kind) c.in-Ok.ensures.first) ∙ c.if-first-ne-HOP_BY_HOP.false) c.in-Err-step.ensures.ends c.unmarked-in-Err-step.ensures has so
