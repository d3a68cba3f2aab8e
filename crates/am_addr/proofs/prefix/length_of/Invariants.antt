use Rattle.std.proofs.Common.{ℕ, ◌≤◌, ◌↔◌, drop}
use Rattle.am_addr.specs.Bits.{Decimal}
use Rattle.am_addr.proofs.prefix.length_of.Given as goal

abbrev pub invariant-loop-byte : goal.invariant-loop-byte
invariant-loop-byte l =
    (l.length ≤ 128) × ((n : ℕ) → Decimal 0 l.fn.text n ↔ Decimal l.length (drop l.byte-index l.fn.text) n)
