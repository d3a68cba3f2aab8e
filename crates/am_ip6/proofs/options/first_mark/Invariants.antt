-- The first mark so far, and so many bytes.
use Rattle.std.proofs.Common.{◌≡◌, length, map}
use Rattle.am_opts.specs.Options.{joined}
use Rattle.am_opts.specs.Lent.{placed}
use Rattle.am_ip6.proofs.MarkLemmas.{FoundIn}
use Rattle.am_ip6.proofs.options.first_mark.Given as goal

abbrev pub invariant-loop-option : goal.invariant-loop-option
invariant-loop-option l = record {
  can_next : (goal.iterator-loop-option).can_next l.option-iterator;
  is_finite : (goal.iterator-loop-option).is_finite l.option-iterator;
  so_far : FoundIn l.found (map placed l.yielded);
  end : l.end ≡ length (joined (map placed l.yielded));
}
