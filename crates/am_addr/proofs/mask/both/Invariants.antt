-- The bytes so far have the bits of both.
use Rattle.std.proofs.Common.{ℕ, ◌≡◌, ◌<◌, length, get_or, bit_and}
use Rattle.am_addr.proofs.mask.both.Given as goal

abbrev pub invariant-loop-i : goal.invariant-loop-i
invariant-loop-i l = record {
  many : length l.kept ≡ 16;
  small : (k : ℕ) → k < l.i → get_or l.bytes k 0 < 256;
  done : (k : ℕ) → k < l.i → get_or l.kept k 0 ≡ bit_and (get_or l.bytes k 0) (get_or l.bits k 0);
}
