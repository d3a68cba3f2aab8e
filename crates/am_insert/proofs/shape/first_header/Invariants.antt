-- No header so far is of the kind.
use Rattle.std.proofs.Common.{◌≢◌, map, All}
use Rattle.am_ip6.specs.Shown.{lent}
use Rattle.am_insert.proofs.shape.first_header.Given as goal

abbrev pub invariant-loop-header : goal.invariant-loop-header
invariant-loop-header l = record {
  can_next : (goal.iterator-loop-header).can_next l.header-iterator;
  is_finite : (goal.iterator-loop-header).is_finite l.header-iterator;
  others : All (λ h. h.kind ≢ l.kind) (map lent l.yielded);
}
