use Rattle.am_control.proofs.LossLemmas.{network-lost}
use Rattle.am_control.proofs.laws.loss_law.Goals as goal

pub returns : goal.returns
returns c = network-lost
