use Rattle.std.proofs.Common.{inr}
use Rattle.am_run.specs.Asked.{command_shown}
use Rattle.am_run.proofs.run.obey.Goals as goal

pub returns-in-Some : goal.returns-in-Some
returns-in-Some g c =
    inr (record { command = command_shown c.in-Some.command; says = c.in-Some.ensures.only; performs = c.perform.ensures })
