use Rattle.std.specs.Prelude.{All}
use Rattle.am_sim.specs.Simulating.{IsMeasuredOf, IsRight, sim_rows}
use Rattle.am_sim.proofs.CountingLemmas.{measured-all, none-missing}
use Rattle.am_sim.proofs.EventLemmas.{valid-links}
use Rattle.am_sim.proofs.RightLemmas.{all-ok, rows-ok, right-rows}
use Rattle.am_sim.proofs.simulating.simulate.Goals as goal

pub prove-unreachable-requires : goal.prove-unreachable-requires
prove-unreachable-requires g c =
    none-missing c.args.domain.now c.in_ok-world.world c.in_ok-control.control.plan c.measure.new.control c.in_default.field-0 c.in_ok-measure.ensures c.in_default.ensures.missing

pub compare-requires-clause-links : goal.compare-requires-clause-links
compare-requires-clause-links g c = valid-links c.args.domain.now c.in_ok-world.world c.in_ok-world.ensures.no_breach.valid

pub returns-clause-rows : goal.returns-clause-rows
returns-clause-rows g c =
    let d = c.args.domain.now in
    let events = c.in_ok-world.world in
    let m = c.in-Ok.closed in
    let of : IsMeasuredOf d events m = measured-all d events c.in_ok-control.control.plan c.measure.new.control m c.in_ok-measure.ensures c.in_ok-control.ensures.plan c.in-Ok.ensures.measured in
    rows-ok c.compare.result d c.args.number c.args.packets events m c.in_ok-world.ensures.made of c.compare.ensures

pub returns-clause-right : goal.returns-clause-right
returns-clause-right g c =
    let d = c.args.domain.now in
    let events = c.in_ok-world.world in
    let m = c.in-Ok.closed in
    let of : IsMeasuredOf d events m = measured-all d events c.in_ok-control.control.plan c.measure.new.control m c.in_ok-measure.ensures c.in_ok-control.ensures.plan c.in-Ok.ensures.measured in
    let right : All IsRight (sim_rows d m events) = right-rows d events m c.world_law.ensures.drops c.flows.ensures.lawful c.in_ok-world.ensures.no_breach of in
    all-ok c.compare.result (sim_rows d m events) right c.compare.ensures
