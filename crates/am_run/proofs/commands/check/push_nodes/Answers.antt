use Rattle.std.proofs.Common.{string_bytes, arith}
use Rattle.am_run.proofs.LineLemmas.{nodes_more}
use Rattle.am_run.proofs.commands.check.push_nodes.Goals as goal

pub loop-i-preserved : goal.loop-i-preserved
loop-i-preserved c =
    nodes_more c.args.domain.now c.nodes-nodes.result.now c.loop-i.i c.index-nodes-i.result c.shift.result
    (string_bytes c.args.text.now) (string_bytes c.loop-i.text) (string_bytes c.push_node.new.text)
    c.nodes-nodes.ensures.value (omega arith) c.index-nodes-i.is c.shift.ensures.value c.loop-i.invariant c.in_ok-push_node.ensures
