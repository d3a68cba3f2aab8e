use Rattle.am_world.specs.Generating.{ArePackets}
use Rattle.am_world.specs.Making.{AreLeastNew}
use Rattle.am_world.proofs.generating.packets_of.Given as goal

-- the first packets were made
abbrev pub invariant-loop-packet : goal.invariant-loop-packet
invariant-loop-packet l = record {
  made : ArePackets l.domain l.number l.packets l.packet l.events.items l.draws.left;
  known : AreLeastNew l.domain l.events.items l.newest.items;
}
