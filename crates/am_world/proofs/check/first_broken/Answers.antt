use Rattle.std.proofs.Common.{subst, arith}
use Rattle.am_world.specs.declared.rule.Rule.TheVariants.{BadNumber}
use Rattle.am_world.specs.Breaches.{TellsRule}
use Rattle.am_world.proofs.BreachLemmas.{names-link, seen-more}
use Rattle.am_world.proofs.check.first_broken.Goals as goal

pub after-next-requires : goal.after-next-requires
after-next-requires c =
    let kept = subst (TellsRule c.args.domain.now c.trip_of-trip.result _) c.in_default.is c.broken_rule-broken.ensures in
    rw c.edges.ensures.value (names-link c.args.domain.now _ (kept BadNumber))

pub loop-k-preserved : goal.loop-k-preserved
loop-k-preserved c =
    let kept = subst (TellsRule c.args.domain.now c.trip_of-trip.result _) c.in_default.is c.broken_rule-broken.ensures in
    seen-more c.args.domain.now c.args.events.now c.loop-k.k c.packet-packet.result c.trip_of-trip.result c.after-next.result
    c.loop-k.trips c.insert.new.self _ c.edges.result.now c.edges.ensures.value (omega arith) c.packet-packet.ensures c.trip_of-trip.ensures
    c.after-next.ensures c.in_ok-insert.ensures.updates.0 kept c.loop-k.invariant
