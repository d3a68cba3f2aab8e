use Rattle.std.proofs.Common.{take}
use Rattle.am_world.specs.Trips.{AreTrips}
use Rattle.am_world.proofs.trip.trips_of.Given as goal

abbrev pub invariant-loop-event : goal.invariant-loop-event
invariant-loop-event l = AreTrips l.links (take l.event-index l.events) l.trips
