-- No option so far is a mark, and it is known whether the last is a PadN without data.
use Rattle.std.proofs.Common.{map, All}
use Rattle.am_opts.specs.Lent.{placed}
use Rattle.am_ip6.specs.Marks.{IsNoMark}
use Rattle.am_insert.proofs.FirstMark.{Pads}
use Rattle.am_insert.proofs.strip.first_mark.Given as goal

abbrev pub invariant-loop-option : goal.invariant-loop-option
invariant-loop-option l = record {
  can_next : (goal.iterator-loop-option).can_next l.option-iterator;
  is_finite : (goal.iterator-loop-option).is_finite l.option-iterator;
  none : All IsNoMark (map placed l.yielded);
  pads : Pads l.padded (map placed l.yielded);
}
