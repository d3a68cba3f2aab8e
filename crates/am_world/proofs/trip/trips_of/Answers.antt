use Rattle.std.proofs.Common.{arith}
use Rattle.am_world.proofs.TripLemmas.{trips-step}
use Rattle.am_world.proofs.trip.trips_of.Goals as goal

pub loop-event-preserved : goal.loop-event-preserved
loop-event-preserved c =
    trips-step c.args.links.now c.args.events.now c.loop-event.event-index _ c.packet-packet.result c.trip_of.result
    c.after-next.result c.loop-event.trips c.insert.new.self (omega arith) c.packet-packet.ensures c.trip_of.ensures
    c.after-next.ensures c.in_ok-insert.ensures.updates.0 c.loop-event.invariant
