use Rattle.am_world.specs.Drops.{is_among}
use Rattle.am_world.proofs.LossLemmas.{AreLossesOf}
use Rattle.am_world.proofs.loss.true_loss.Given as goal

abbrev pub invariant-loop-event : goal.invariant-loop-event
invariant-loop-event l = AreLossesOf l.domain (is_among l.starts) l.events l.event-index l.losses.items
