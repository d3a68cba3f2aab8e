use Rattle.std.proofs.Common.{[]}
use Rattle.am_report.proofs.LineLemmas.{said-text}
use Rattle.am_report.proofs.write.head_bytes.Goals as goal

pub returns : goal.returns
returns c = said-text _ _ _ c.bytes_of.ensures (c.in_ok-add_line.ensures [] c.no_lines-lines.ensures)
