-- What passed both sides of a scope, of each flow and block.
use Rattle.std.specs.Prelude.{◌≡◌, ℕ, ◌-◌, List, All, map, flat_map}
use Rattle.std.specs.List.{range_with_len}
use Rattle.am_control.specs.declared.row.Scope.{Scope}
use Rattle.am_control.specs.declared.passage.Passage.{Passage}
use Rattle.am_control.specs.Plans.{entering, leaving}
use Rattle.am_control.specs.Rows.{Measured, FitsRow, side_cell}

-- what came into a scope, and what went out of it, of a block and a flow
abbrev pub passage_at : Measured → Scope → ℕ → ℕ → Passage
passage_at m scope block flow = record {
  came = side_cell m.cells flow block (entering m.plan scope);
  went = side_cell m.cells flow block (leaving m.plan scope);
}

-- of a block and each flow
abbrev pub block_passages : Measured → Scope → ℕ → List Passage
block_passages m scope block = map (passage_at m scope block) (range_with_len 0 m.plan.flows)

-- of each reported block, ascending, and in it of each flow: in the order of a node's cells
abbrev pub scope_passages : Measured → Scope → List Passage
scope_passages m scope = flat_map (block_passages m scope) (range_with_len m.plan.first (m.plan.end - m.plan.first))

-- both are such as a row is made of
pub record FitsBoth (p : Passage) : Type 0 where
  pub came : FitsRow p.came
  pub went : FitsRow p.went

-- the passages are those of the scope
pub record ArePassages (m : Measured) (scope : Scope) (passages : List Passage) : Type 0 where
  pub all : passages ≡ scope_passages m scope
  pub fit : All FitsBoth passages
