-- The cells of one point, as a function of flow and block.
use Rattle.std.specs.Prelude.{◌≡◌, ◌≢◌, ◌⊎◌, ℕ, ◌+◌, ◌-◌, ◌*◌, ◌<◌, ◌≤◌, List, All, length, slice_index_or, sum_by}
use Rattle.am_cells.specs.declared.cell.Cell.{Cell}
use Rattle.am_cells.specs.declared.cell.TheConstants.{MAX_COUNT}
use Rattle.am_cells.specs.declared.cells.TheConstants.{MAX_CELLS}
use Rattle.am_cells.specs.Counts.{IsLawfulCell, no_packets, together}

-- how many flows there are, the blocks, from `first` on and below `end`, and a cell for each flow and block: blocks ascend,
-- and in each the flows
pub record CellTable : Type 0 where
  pub flows : ℕ
  pub first : ℕ
  pub end : ℕ
  pub cells : List Cell

-- there is a cell for this flow and block
pub record HasCell (t : CellTable) (flow block : ℕ) : Type 0 where
  pub flow_there : flow < t.flows
  pub from : t.first ≤ block
  pub until : block < t.end

-- how many cells stand before that of this flow and block
abbrev pub cell_number : CellTable → ℕ → ℕ → ℕ
cell_number t flow block = (block - t.first) * t.flows + flow

-- the cell before which so many stand
abbrev pub cell_in : List Cell → ℕ → Cell
cell_in cells number = slice_index_or cells number no_packets

-- the cell of this flow and block
abbrev pub cell_at : CellTable → ℕ → ℕ → Cell
cell_at t flow block = cell_in t.cells (cell_number t flow block)

-- how many packets are counted in all cells
abbrev pub total_of : CellTable → ℕ
total_of t = sum_by (λ (c : Cell). c.count) t.cells

-- the cells are for so many flows, and for these blocks
pub record HasShape (t : CellTable) (flows first end : ℕ) : Type 0 where
  pub flows_are : t.flows ≡ flows
  pub first_is : t.first ≡ first
  pub end_is : t.end ≡ end

-- two tables are for as many flows, and for the same blocks
abbrev pub HaveOneShape : CellTable → CellTable → Type 0
HaveOneShape a b = HasShape b a.flows a.first a.end

-- what every table has: a flow and a block, a cell for each flow and block and no more than there may be, lawful cells, and no
-- more packets in all than may be counted
pub record IsCellTable (t : CellTable) : Type 0 where
  pub some_flow : 1 ≤ t.flows
  pub some_block : t.first < t.end
  pub whole : length t.cells ≡ t.flows * (t.end - t.first)
  pub few : length t.cells ≤ MAX_CELLS
  pub lawful : All IsLawfulCell t.cells
  pub counted : total_of t ≤ MAX_COUNT

-- the cell of this flow and block is now this one, and all other cells are as they were
pub record ChangesOnly (old new : CellTable) (flow block : ℕ) (cell : Cell) : Type 0 where
  pub shape : HaveOneShape old new
  pub changed : cell_at new flow block ≡ cell
  pub others : (f b : ℕ) → HasCell old f b → (f ≢ flow) ⊎ (b ≢ block) → cell_at new f b ≡ cell_at old f b

-- the packets of a cell were added to those of this flow and block, and nothing else changed
pub record AddsTo (old new : CellTable) (flow block : ℕ) (more : Cell) : Type 0 where
  pub changes : ChangesOnly old new flow block (together (cell_at old flow block) more)
  pub total : total_of new ≡ total_of old + more.count

-- each cell has the packets of two
pub record AddsAll (old other new : CellTable) : Type 0 where
  pub shape : HaveOneShape old new
  pub each : (f b : ℕ) → HasCell old f b → cell_at new f b ≡ together (cell_at old f b) (cell_at other f b)
  pub total : total_of new ≡ total_of old + total_of other
