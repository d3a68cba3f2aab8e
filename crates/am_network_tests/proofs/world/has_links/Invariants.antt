use Rattle.std.proofs.Common.{All, take}
use Rattle.am_world.specs.Trips.{NamesLink}
use Rattle.am_network_tests.proofs.world.has_links.Given as goal

abbrev pub invariant-loop-event : goal.invariant-loop-event
invariant-loop-event l = All (NamesLink l.domain.links) (take l.event-index l.events)
