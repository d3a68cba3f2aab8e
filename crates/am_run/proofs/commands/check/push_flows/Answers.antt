use Rattle.std.proofs.Common.{string_bytes, arith}
use Rattle.am_run.proofs.LineLemmas.{flows_more}
use Rattle.am_run.proofs.commands.check.push_flows.Goals as goal

pub loop-flow-preserved : goal.loop-flow-preserved
loop-flow-preserved c =
    flows_more c.args.flows.now c.loop-flow.flow-index c.flow-item.result (string_bytes c.args.text.now) (string_bytes c.loop-flow.text) (string_bytes c.push_flow.new.text)
    (omega arith) c.flow-item.is c.loop-flow.invariant c.in_ok-push_flow.ensures
