use Rattle.std.proofs.Common.{◌≡◌, ◌∙◌, true, sym, arith, rules}
use Rattle.am_world.specs.Drops.{is_among, is_at}
use Rattle.am_world.proofs.LossLemmas.{drop-made}
use Rattle.am_world.proofs.loss.drop_of.Goals as goal

pub returns : goal.returns
returns c =
    let lost : c.trip_of-trip.result.lost ≡ true = first_of (grind arith, search rules) in
    let here : c.is_node_of.result ≡ true = first_of (grind arith, search rules) in
    let at : is_at (is_among c.args.starts.now) c.trip_of-trip.result.node ≡ true = sym c.is_node_of.ensures ∙ here in
    drop-made c.args.timing.now c.args.trips.now (is_among c.args.starts.now) c.in-Send.packet c.in-Send.flow c.in-Send.reading
    c.block_of.result c.trip_of-trip.result c.args.event.now c.in-Send.is c.trip_of-trip.ensures lost at c.block_of.ensures
