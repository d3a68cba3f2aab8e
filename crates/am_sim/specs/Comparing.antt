-- How the row of a scope is reckoned from a list of true losses, one for each flow and reported block.
use Rattle.std.specs.Prelude.{◌≡◌, ℕ, ◌+◌, ◌*◌, ◌^◌, ◌≤◌, List, slice_index, if◌then◌else◌, ℤ, pos, neg_ℤ, ◌+ℤ◌, ◌≤ℤ◌}
use Rattle.am_control.specs.declared.row.Scope.{Scope}
use Rattle.am_control.specs.declared.row.LossRow.{LossRow}
use Rattle.am_control.specs.Rows.{Measured, scope_rows}
use Rattle.am_domain.specs.Domains.{DomainValue}
use Rattle.am_world.specs.TrueLosses.{loss_number}
use Rattle.am_sim.specs.declared.row.SimRow.{SimRow}
use Rattle.am_sim.specs.Simulating.{agree, row_of}

-- the true loss of a row's flow and block
abbrev pub loss_in : DomainValue → List ℕ → LossRow → ℕ
loss_in d losses r = slice_index losses (loss_number d r.flow r.block)

-- the row of a scope, where these are the true losses
abbrev pub row_over : DomainValue → Measured → Scope → List ℕ → SimRow
row_over d m scope losses = row_of scope (loss_in d losses) (scope_rows m scope)

-- a row with one more pair of a flow and a block
abbrev pub with_pair : SimRow → ℤ → ℕ → SimRow
with_pair row lost dropped = record {
  scope = row.scope;
  dropped = row.dropped + dropped;
  lost = row.lost +ℤ lost;
  cells = row.cells + 1;
  equal = row.equal + (if agree lost dropped then 1 else 0);
}

-- the numbers of a row are no greater than so many pairs allow
pub record IsBounded (row : SimRow) : Type 0 where
  pub equal : row.equal ≤ row.cells
  pub dropped : row.dropped ≤ row.cells * 2 ^ 97
  pub above : neg_ℤ (pos (2 ^ 63 * row.cells)) ≤ℤ row.lost
  pub below : row.lost ≤ℤ pos (2 ^ 63 * row.cells)

-- each sum rose by the loss at its place
abbrev pub AddsEach : List ℕ → List ℕ → List ℕ → Type 0
AddsEach old losses new = (k : ℕ) → slice_index new k ≡ slice_index old k + slice_index losses k
