use Rattle.am_base.proofs.Reading.{why-stopped}
use Rattle.am_base.proofs.file.read_file.Goals as goal

-- what was read before the last read, and why that one gave nothing
pub returns-in-Err-clause-refused : goal.returns-in-Err-clause-refused
returns-in-Err-clause-refused g c =
    why-stopped
    _ _ _ _ _ _ _ _ c.loop-bytes.invariant.part c.loop-bytes.bytes.ok.0 c.loop-bytes.invariant.bound c.in-Err.ensures.refused
