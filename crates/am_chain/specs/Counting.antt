-- What counting a marked record adds to a table.
use Rattle.std.specs.Prelude.{ℕ, if◌then◌else◌}
use Rattle.am_clock.specs.Times.{Times}
use Rattle.am_meter.specs.declared.stream.Marked.{Marked}
use Rattle.am_meter.specs.Metering.{counts_in}

-- one where the record counts in the block at a node of this shift, and none where it doesn't
abbrev pub one_in : Times → ℕ → ℕ → ℕ → Marked → ℕ
one_in t flow shift block m = if counts_in t flow shift block m then 1 else 0
