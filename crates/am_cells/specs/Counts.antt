-- What is counted of the packets of one flow and block at one point (RFC 9341, sections 3.1 and 3.2).
use Rattle.std.specs.Prelude.{ℕ, ◌+◌, ◌*◌, ◌≤◌, Bool, true, false}
use Rattle.am_cells.specs.declared.cell.Cell.{Cell}
use Rattle.am_cells.specs.declared.cell.TheConstants.{MAX_COUNT, OFFSET_END}

-- what is counted of no packets
abbrev pub no_packets : Cell
no_packets = record { count = 0; dcount = 0; sum = 0; dsum = 0 }

-- what is counted of one packet, by its delay bit and its offset in the block: the two columns of the delay bit count it where
-- the bit is set
abbrev pub one_packet : Bool → ℕ → Cell
one_packet true offset = record { count = 1; dcount = 1; sum = offset; dsum = offset }
one_packet false offset = record { count = 1; dcount = 0; sum = offset; dsum = 0 }

-- what is counted of the packets of two cells together
abbrev pub together : Cell → Cell → Cell
together a b = record {
  count = a.count + b.count;
  dcount = a.dcount + b.dcount;
  sum = a.sum + b.sum;
  dsum = a.dsum + b.dsum;
}

-- numbers that may be counted: no more packets than a table may count, offsets below their end, and those with the delay bit
-- among all
pub record IsLawfulCell (c : Cell) : Type 0 where
  pub few : c.count ≤ MAX_COUNT
  pub offsets : c.sum ≤ c.count * OFFSET_END
  pub delayed : c.dcount ≤ c.count
  pub delayed_offsets : c.dsum ≤ c.dcount * OFFSET_END
  pub delayed_sum : c.dsum ≤ c.sum
