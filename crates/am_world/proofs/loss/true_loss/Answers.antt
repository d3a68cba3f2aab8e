use Rattle.std.proofs.Common.{◌≡◌, ◌≤◌, length, sym, ◌∙◌, subst, arith}
use Rattle.am_world.specs.Drops.{is_among}
use Rattle.am_world.specs.Trips.{AreTrips}
use Rattle.am_world.specs.TrueLosses.{AreLosses, CountsDrop}
use Rattle.am_world.proofs.LossLemmas.{AreLossesOf, losses-more, losses-all, written-back}
use Rattle.am_world.proofs.loss.true_loss.Goals as goal

pub loop-event-preserved : goal.loop-event-preserved
loop-event-preserved c =
    let d = c.args.domain.now in
    let events = c.events-events.result.now in
    let old = c.loop-event.losses.items in
    let new = c.count_drop.new.losses in
    let known = subst (λ links. AreTrips links events c.in_ok-trips.trips) c.edges.ensures.value c.in_ok-trips.ensures in
    let counts = subst (λ l. CountsDrop d c.drop_of-drop.result l new) c.as_mut_slice.ensures.value c.count_drop.ensures.counts in
    let same : length new ≡ length old = c.count_drop.ensures.each ∙ sym c.loop-event.invariant.each in
    let all : c.loop-event.losses.len ≡ length old = omega (arith, c.loop-event.losses.ok.0) in
    rw (written-back c.loop-event.losses.len new old same all)
    (losses-more d (is_among c.starts-starts.result.now) events c.loop-event.event-index _ c.in_ok-trips.trips old new
    c.drop_of-drop.result (omega arith) known (rw c.timing.ensures.value at c.drop_of-drop.ensures)
    c.count_drop.ensures.each counts c.loop-event.invariant)

pub returns : goal.returns
returns c =
    let d = c.args.domain.now in
    let losses = c.loop-event.losses.items in
    let first = subst (λ starts. AreLossesOf d (is_among starts) c.events-events.result.now c.loop-event.event-index losses)
    c.starts-starts.ensures c.loop-event.invariant in
    let whole : length c.events-events.result.now ≤ c.loop-event.event-index = omega arith in
    subst (λ events. AreLosses d c.args.clusters.now c.args.cluster events losses) c.events-events.ensures
    (losses-all d c.args.clusters.now c.args.cluster c.events-events.result.now c.loop-event.event-index losses whole first)
