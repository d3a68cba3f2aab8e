-- No header so far has a mark of the kind, and the byte that announces the next one is known.
use Rattle.std.proofs.Common.{◌≡◌, map, All}
use Rattle.am_ip6.specs.Chains.{first_spot, spot_after}
use Rattle.am_ip6.specs.Marks.{IsPassed}
use Rattle.am_ip6.specs.Shown.{lent}
use Rattle.am_insert.proofs.strip.marked_by_walk.Given as goal

abbrev pub invariant-loop-header : goal.invariant-loop-header
invariant-loop-header l = record {
  can_next : (goal.iterator-loop-header).can_next l.header-iterator;
  is_finite : (goal.iterator-loop-header).is_finite l.header-iterator;
  passed : All (IsPassed l.kind) (map lent l.yielded);
  told : l.told_at ≡ (spot_after l.bytes (first_spot l.bytes) (map lent l.yielded)).told_at;
}
