use Rattle.std.proofs.Common.{take, string_bytes}
use Rattle.am_run.specs.Checking.{AddsFlows}
use Rattle.am_run.proofs.commands.check.push_flows.Given as goal

-- the lines of the flows so far were added
abbrev pub invariant-loop-flow : goal.invariant-loop-flow
invariant-loop-flow l = AddsFlows (take l.flow-index l.flows) (string_bytes l.fn.text) (string_bytes l.text)
