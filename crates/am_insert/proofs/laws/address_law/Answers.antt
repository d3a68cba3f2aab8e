-- No byte of an address changes.
use Rattle.am_insert.proofs.Opened.{addresses-kept}
use Rattle.am_insert.proofs.laws.address_law.Goals as goal

pub returns : goal.returns
returns c = λ packet mark place marked. addresses-kept packet mark place marked
