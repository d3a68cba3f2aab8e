use Rattle.std.proofs.Common.{◌≡◌, ◌++◌, take, replicate}
use Rattle.am_addr.specs.Walk.{listed}
use Rattle.am_addr.proofs.address.filled.Given as goal

abbrev pub invariant-loop : goal.invariant-loop
invariant-loop l = listed l.all ≡ listed l.initial.all ++ replicate l.counter 0

abbrev pub invariant-loop-value : goal.invariant-loop-value
invariant-loop-value l = listed l.all ≡ listed l.initial.all ++ take l.value-index l.value-items
