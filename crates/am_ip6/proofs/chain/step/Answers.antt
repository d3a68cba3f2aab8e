-- A header of options that aren't an option list ends the walk at the first byte that is none.
use Rattle.std.proofs.Common.{inr}
use Rattle.am_ip6.proofs.BadOptions.{bad_options}
use Rattle.am_ip6.specs.Shown.{spot_shown}
use Rattle.am_ip6.proofs.chain.step.Goals as goal

pub returns-in-Err-clause-ends : goal.returns-in-Err-clause-ends
returns-in-Err-clause-ends c =
    inr (bad_options c.args.bytes.now (spot_shown c.args.spot) c.in-Some.size c.in-Err.place c.part.result.now
    c.if-not-is_walked.ensures c.in-Some.ensures.fits c.in-Some.ensures.value c.part.ensures.value c.in-Err.ensures.bad)
