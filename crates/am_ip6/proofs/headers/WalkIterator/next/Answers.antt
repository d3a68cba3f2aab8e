-- The header that stands at the spot comes first, and none comes where the walk ends.
use Rattle.std.proofs.Common.{arith, refl, ap, ◌∙◌, length}
use Rattle.am_ip6.specs.Left.{left_from}
use Rattle.am_ip6.specs.Shown.{lent, spot_shown, ending_shown}
use Rattle.am_ip6.proofs.LeftLemmas.{left-some, left-none}
use Rattle.am_ip6.proofs.headers.WalkIterator.next.Goals as goal

pub returns-in-Ok-clause-steps : goal.returns-in-Ok-clause-steps
returns-in-Ok-clause-steps c =
    ap (λ o. left_from c.args.self.now.bytes.now o) c.in-Some.is
    ∙ left-some c.longest_front_law.ensures c.args.self.now.bytes.now (spot_shown c.in-Some.spot) (spot_shown c.in-Ok.behind) (lent c.in-Ok.header) c.in-Ok.ensures.stands c.in-Ok.ensures.behind

pub returns-in-Ok-clause-goes : goal.returns-in-Ok-clause-goes
returns-in-Ok-clause-goes c =
    let next = ap (λ o. left_from c.args.self.now.bytes.now o) c.in-Some.is
    ∙ left-some c.longest_front_law.ensures c.args.self.now.bytes.now (spot_shown c.in-Some.spot) (spot_shown c.in-Ok.behind) (lent c.in-Ok.header) c.in-Ok.ensures.stands c.in-Ok.ensures.behind in
    record { on = λ f. (tt, tt, omega (arith, ap length next)); keeps = tt; rests = λ f. tt }

pub returns-in-Err-clause-steps : goal.returns-in-Err-clause-steps
returns-in-Err-clause-steps c = (
  ap (λ o. left_from c.args.self.now.bytes.now o) c.in-Some.is
      ∙ left-none c.longest_front_law.ensures c.args.self.now.bytes.now c.args.self.now.whole (spot_shown c.in-Some.spot) (ending_shown c.in-Err.field-0) c.in-Err.ensures.ends,
  refl,
)
