use Rattle.std.proofs.Common.{◌≡◌, ◌++◌, take, string_bytes}
use Rattle.am_run.specs.commands.Clusters.{number_words}
use Rattle.am_run.proofs.commands.clusters.push_numbers.Given as goal

-- the numbers so far were added
abbrev pub invariant-loop-number : goal.invariant-loop-number
invariant-loop-number l = string_bytes l.text ≡ string_bytes l.fn.text ++ number_words (take l.number-index l.numbers)
