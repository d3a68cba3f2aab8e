use Rattle.std.proofs.Common.{◌≡◌, ◌++◌, map}
use Rattle.std.specs.Prelude.{flat_map}
use Rattle.am_ip6.specs.Shown.{lent}
use Rattle.am_run.specs.Lines.{header_text}
use Rattle.am_run.proofs.commands.show.push_headers.Given as goal

-- the headers so far were added
abbrev pub invariant-loop-header : goal.invariant-loop-header
invariant-loop-header l = l.line.items ≡ l.fn.line.items ++ flat_map header_text (map lent l.yielded)
