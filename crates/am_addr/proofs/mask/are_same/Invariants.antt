-- The bytes so far are the same, unless one differs.
use Rattle.std.proofs.Common.{ℕ, ◌≡◌, ◌<◌, get_or, IsTrue}
use Rattle.am_addr.proofs.mask.are_same.Given as goal

abbrev pub invariant-loop-i : goal.invariant-loop-i
invariant-loop-i l = record {
  alike : IsTrue l.same → (k : ℕ) → k < l.i → get_or l.bytes k 0 ≡ get_or l.others k 0;
  stays : l.bytes ≡ l.others → IsTrue l.same;
}
