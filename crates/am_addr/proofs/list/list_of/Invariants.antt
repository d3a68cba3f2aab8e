use Rattle.std.proofs.Common.{ℕ, ◌↔◌, List, [], drop}
use Rattle.am_addr.specs.Walk.{listed, Reads}
use Rattle.am_addr.proofs.list.list_of.Given as goal

abbrev pub invariant-loop-byte : goal.invariant-loop-byte
invariant-loop-byte l =
    (values : List ℕ) → Reads [] 0 0 l.fn.text values
    ↔ Reads (listed l.reading.ended) l.reading.digits l.reading.value (drop l.byte-index l.fn.text) values
