-- The table of blocks that `link` prints.
use Rattle.std.specs.Prelude.{◌≡◌, ℕ, ◌+◌, ◌<◌, List, ◌++◌, map, flat_map, All, Contains, count_by, codes, decimal, pos, ◌-ℤ◌}
use Rattle.std.specs.Fmt.{signed_decimal}
use Rattle.std.specs.List.Sorted.{IsStrictlyIncreasing}
use Rattle.am_clock.specs.Times.{Times}
use Rattle.am_meter.specs.declared.stream.Marked.{Marked}
use Rattle.am_meter.specs.Metering.{counts_in}

-- how many of the records count in a block
abbrev pub count_in : Times → ℕ → ℕ → List Marked → ℕ → ℕ
count_in t flow shift ms block = count_by (counts_in t flow shift block) ms

-- a block, and how many of its packets entered and left
pub record Row : Type 0 where
  pub block : ℕ
  pub entered : ℕ
  pub left : ℕ

-- the rows are one for each block in which a packet entered or left, ascending, with these counts
pub record IsCountTable (entered_in left_in : ℕ → ℕ) (rows : List Row) : Type 0 where
  pub ascending : IsStrictlyIncreasing (map (λ r. r.block) rows)
  pub entered : All (λ r. r.entered ≡ entered_in r.block) rows
  pub left : All (λ r. r.left ≡ left_in r.block) rows
  pub each : All (λ r. 0 < r.entered + r.left) rows
  pub every : (block : ℕ) → 0 < entered_in block + left_in block → Contains (map (λ r. r.block) rows) block

-- the line of a row: block, entered, left and lost, which is negative where more left than entered
abbrev pub row_line : Row → List ℕ
row_line r =
    decimal r.block ++ codes "," ++ decimal r.entered ++ codes "," ++ decimal r.left ++ codes ","
    ++ signed_decimal (pos r.entered -ℤ pos r.left) ++ codes "\n"

-- the text of a table: the names of the columns, and a line for each row
abbrev pub table_text : List Row → List ℕ
table_text rows = codes "block,in,out,lost\n" ++ flat_map row_line rows
