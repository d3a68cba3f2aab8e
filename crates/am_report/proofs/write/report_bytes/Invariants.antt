use Rattle.std.proofs.Common.{◌-◌, ◌++◌, Some}
use Rattle.std.specs.Prelude.{flat_map}
use Rattle.std.specs.List.{range_with_len}
use Rattle.am_report.specs.Lines.{HasLines}
use Rattle.am_report.specs.Rows.{head_line, report_line, block_rows}
use Rattle.am_report.proofs.write.report_bytes.Given as goal

abbrev pub invariant-loop-block : goal.invariant-loop-block
invariant-loop-block l =
    HasLines (λ v. Some v.items) l.lines
    (head_line ++ flat_map report_line (flat_map (block_rows l.domain l.node l.cells) (range_with_len l.domain.first (l.block - l.domain.first))))
