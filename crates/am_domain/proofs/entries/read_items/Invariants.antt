use Rattle.std.proofs.Common.{map, take}
use Rattle.std.specs.List.{AllZip}
use Rattle.toml.specs.View.{view}
use Rattle.am_domain.specs.Entries.{IsTableOf}
use Rattle.am_domain.proofs.entries.read_items.Given as goal

-- the items so far say these, one each
abbrev pub invariant-loop-i : goal.invariant-loop-i
invariant-loop-i g l = AllZip (IsTableOf g.T.Entry.says) (map view (take l.i l.items)) l.read.items
