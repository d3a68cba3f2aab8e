use Rattle.std.proofs.Common.{ℕ, ◌<◌, List, get_or, map, string_bytes}
use Rattle.am_domain.specs.Texts.{IsFileName}
use Rattle.am_run.proofs.commands.loss.are_file_names.Given as goal

-- the words so far are names
abbrev pub invariant-loop-word : goal.invariant-loop-word
invariant-loop-word l = (k : ℕ) (d : List ℕ) → k < l.word-index → IsFileName (get_or (map string_bytes l.words) k d)
