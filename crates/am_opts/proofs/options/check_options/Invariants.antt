-- So many options were lent, and so many bytes in them.
use Rattle.std.proofs.Common.{◌≡◌, length, map}
use Rattle.am_opts.specs.Options.{joined}
use Rattle.am_opts.specs.Lent.{placed}
use Rattle.am_opts.proofs.options.check_options.Given as goal

abbrev pub invariant-loop-option : goal.invariant-loop-option
invariant-loop-option l =
    (goal.iterator-loop-option).can_next l.option-iterator ×
    (goal.iterator-loop-option).is_finite l.option-iterator ×
    (l.count ≡ length l.yielded) ×
    (l.end ≡ length (joined (map placed l.yielded)))
