-- What a measurement point counts of marked records: for each flow and block, how many there are, and the sums of their times
-- (RFC 9341, sections 3.1 and 3.2). All times are nanoseconds.
use Rattle.std.specs.Prelude.{◌≡◌, ℕ, ◌+◌, ◌-◌, ◌*◌, ◌<◌, ◌≤◌, ◌&&◌, ◌==◌, Bool, List, ◌++◌, length, filter, count_by, sum_by, slice_index_or}
use Rattle.am_clock.specs.Times.{Times, half, belongs_to}
use Rattle.am_cells.specs.declared.cell.Cell.{Cell}
use Rattle.am_cells.specs.CellTables.{CellTable, HasShape, cell_at, total_of}
use Rattle.am_domain.specs.Values.{FlowValue}
use Rattle.am_domain.specs.Network.{shift_at}
use Rattle.am_domain.specs.Domains.{DomainValue, Reports}
use Rattle.am_meter.specs.declared.stream.Marked.{Marked}

-- a marked record counts in a block at a node of this shift: it has the flow's number, and belongs to the block by its colour and
-- its reading
abbrev pub counts_in : Times → ℕ → ℕ → ℕ → Marked → Bool
counts_in t id shift block m = m.mark.flow == id && belongs_to t m.reading m.mark.loss shift block

-- it does, and has the delay bit (RFC 9343, section 5.2)
abbrev pub delays_in : Times → ℕ → ℕ → ℕ → Marked → Bool
delays_in t id shift block m = counts_in t id shift block m && m.mark.delay

-- the reading that the offsets in a block count from: half a block before the block begins, and no reading is below 0
abbrev pub origin : Times → ℕ → ℕ
origin t block = block * t.block - half t

-- how long after that a record was seen
abbrev pub offset_in : Times → ℕ → Marked → ℕ
offset_in t block m = m.reading - origin t block

-- the cell of a flow and a block: how many records count in it, the sum of their offsets, and both again over those with the
-- delay bit
abbrev pub cell_of : Times → ℕ → ℕ → ℕ → List Marked → Cell
cell_of t id shift block ms = record {
  count = count_by (counts_in t id shift block) ms;
  dcount = count_by (delays_in t id shift block) ms;
  sum = sum_by (offset_in t block) (filter (counts_in t id shift block) ms);
  dsum = sum_by (offset_in t block) (filter (delays_in t id shift block) ms);
}

-- how much later a node of a domain sees the blocks
abbrev pub node_shift : DomainValue → ℕ → ℕ
node_shift d node = shift_at d.times d.nodes d.links node

-- a table has a cell for each flow and each reported block of a domain
abbrev pub HasDomainShape : DomainValue → CellTable → Type 0
HasDomainShape d t = HasShape t (length d.flows) d.first d.end

-- these are the cells of a node of a domain over these marked records: that of each flow and reported block
pub record AreMetered (d : DomainValue) (node : ℕ) (ms : List Marked) (t : CellTable) : Type 0 where
  pub table : HasDomainShape d t
  pub cells : (flow block : ℕ) (f : FlowValue) → flow < length d.flows → Reports d block
      → cell_at t flow block ≡ cell_of d.times (slice_index_or d.flows flow f).id (node_shift d node) block ms

-- marked records were counted at a node: whatever was counted before, it is still, with these more
pub record CountsMore (d : DomainValue) (node : ℕ) (old new : CellTable) (more : List Marked) : Type 0 where
  pub table : HasDomainShape d old → HasDomainShape d new
  pub metered : (ms : List Marked) → AreMetered d node ms old → AreMetered d node (ms ++ more) new
  pub total : total_of new ≤ total_of old + length more
