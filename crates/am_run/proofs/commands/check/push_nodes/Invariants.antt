use Rattle.std.proofs.Common.{◌≡◌, ◌++◌, take, string_bytes}
use Rattle.am_run.specs.commands.Check.{node_lines}
use Rattle.am_run.proofs.commands.check.push_nodes.Given as goal

-- the lines of the nodes so far were added
abbrev pub invariant-loop-i : goal.invariant-loop-i
invariant-loop-i l = string_bytes l.text ≡ string_bytes l.fn.text ++ node_lines l.domain 0 (take l.i l.domain.nodes)
