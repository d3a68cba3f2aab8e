-- What a `Table` holds: for each side, how many packets of each block.
use Rattle.std.specs.Prelude.{◌≡◌, ℕ, ◌+◌, ◌<◌, ◌==◌, List, map, None, IfSome, option_map, unwrap_or, if◌then◌else◌}
use Rattle.std.specs.BTreeMap.{get}
use Rattle.std.specs.Ordering.{nat_cmp}
use Rattle.am_chain.specs.Tables.{Row, IsCountTable}
use Rattle.am_chain.specs.declared.table.Counts.{Counts}
use Rattle.am_chain.specs.declared.table.Side.{Side}
use Rattle.am_chain.specs.declared.table.Side.TheVariants.{Entered, Left}
use Rattle.am_chain.specs.declared.table.Table.{Table}

-- the count of one side
abbrev pub side_count : Side → Counts → ℕ
side_count Entered c = c.entered
side_count Left c = c.left

abbrev pub other : Side → Side
other Entered = Left
other Left = Entered

-- how many packets of a block the map has on one side
abbrev pub settled : Table → Side → ℕ → ℕ
settled t side block = unwrap_or (option_map (side_count side) (get nat_cmp t.counts block)) 0

-- how many packets of a block a table has on one side: those of the block that was counted last stand beside the map
abbrev pub tally : Table → Side → ℕ → ℕ
tally t side block = if t.block == block then side_count side t.here else settled t side block

-- the map has no block without a packet
abbrev pub IsSettled : Table → Type 0
IsSettled t = (block : ℕ) → IfSome (get nat_cmp t.counts block) (λ c. 0 < c.entered + c.left)

-- a table has no block without a packet
pub record IsCounted (t : Table) : Type 0 where
  pub settled : IsSettled t
  -- where the block beside the map has none, the map doesn't have it
  pub here : t.here.entered + t.here.left ≡ 0 → get nat_cmp t.counts t.block ≡ None

-- these rows are a table's, however what it has on each side is counted
abbrev pub HasRows : Table → List Row → Type 0
HasRows t rows =
    (entered left : ℕ → ℕ) → ((b : ℕ) → tally t Entered b ≡ entered b) → ((b : ℕ) → tally t Left b ≡ left b) → IsCountTable entered left rows

-- one at this block, and none at the others
abbrev pub one_at : ℕ → ℕ → ℕ
one_at block b = if block == b then 1 else 0

abbrev pub counts_row : ℕ → Counts → Row
counts_row block c = record { block = block; entered = c.entered; left = c.left }

-- a table's rows, in the order of its blocks
abbrev pub rows_of : Table → List Row
rows_of t = map (λ e. counts_row e.0 e.1) t.counts.entries
