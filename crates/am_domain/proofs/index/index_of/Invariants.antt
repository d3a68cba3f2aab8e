-- The lengths of the flows so far, and the first of them with each pair of prefixes.
use Rattle.std.proofs.Common.{ℕ, ◌<◌, Contains, get_or}
use Rattle.std.specs.HashMap.{get}
use Rattle.am_domain.specs.Values.{FlowValue}
use Rattle.am_domain.specs.Index.{lengths_of, same_ends, IsFirstBelow}
use Rattle.am_domain.specs.declared.index.Ends.{Ends}
use Rattle.am_domain.proofs.index.index_of.Given as goal

abbrev pub invariant-loop-i : goal.invariant-loop-i
invariant-loop-i l = record {
  lengths : (j : ℕ) (d : FlowValue) → j < l.i → Contains l.lengths.items (lengths_of (get_or l.flows j d));
  firsts : (ends : Ends) → IsFirstBelow l.i l.flows ends (get same_ends l.firsts ends);
}
