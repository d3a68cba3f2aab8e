use Rattle.std.proofs.Common.{◌≡◌, ◌++◌, take, string_bytes}
use Rattle.am_run.specs.commands.Clusters.{name_words}
use Rattle.am_run.proofs.commands.clusters.push_names.Given as goal

-- the names so far were added
abbrev pub invariant-loop-number : goal.invariant-loop-number
invariant-loop-number l = string_bytes l.text ≡ string_bytes l.fn.text ++ name_words l.nodes (take l.number-index l.numbers)
