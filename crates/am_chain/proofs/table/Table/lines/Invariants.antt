use Rattle.std.proofs.Common.{◌≡◌, ◌++◌, map, string_bytes}
use Rattle.std.specs.Prelude.{flat_map}
use Rattle.am_chain.specs.Tables.{row_line, table_text}
use Rattle.am_chain.specs.Tallies.{counts_row, rows_of}
use Rattle.am_chain.proofs.table.Table.lines.Given as goal

-- the text so far, and the lines of the blocks that are left, are the text of the table
abbrev pub invariant-loop-block : goal.invariant-loop-block
invariant-loop-block l =
    string_bytes l.text ++ flat_map row_line (map (λ e. counts_row e.0 e.1) l.block-iterator) ≡ table_text (rows_of l.self)
