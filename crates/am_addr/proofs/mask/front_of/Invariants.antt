use Rattle.std.proofs.Common.{◌≡◌, ◌++◌, take, drop}
use Rattle.am_addr.specs.Bits.{cleared}
use Rattle.am_addr.proofs.mask.front_of.Given as goal

abbrev pub invariant-loop-byte : goal.invariant-loop-byte
invariant-loop-byte l =
    (drop l.byte-index l.byte-items ≡ drop l.byte-index l.initial.byte-items)
    × (take l.byte-index l.byte-items ++ cleared l.rest (drop l.byte-index l.initial.byte-items) ≡ cleared l.initial.rest l.initial.byte-items)
