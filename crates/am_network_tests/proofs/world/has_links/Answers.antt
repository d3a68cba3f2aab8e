use Rattle.std.proofs.Common.{◌≡◌, All, true, subst, arith, rules}
use Rattle.std.proofs.lemmas.List.{take_all}
use Rattle.std.proofs.lemmas.List.Elements.{All-more}
use Rattle.am_world.specs.Trips.{NamesLink}
use Rattle.am_network_tests.proofs.world.has_links.Goals as goal

pub loop-event-preserved : goal.loop-event-preserved
loop-event-preserved c =
    let here : c.has_link.result ≡ true = first_of (grind arith, search rules) in
    All-more (NamesLink c.args.domain.now.links) c.args.events.now c.loop-event.event-index _ (omega arith)
    c.loop-event.invariant (rw c.edges-links.ensures.value at (c.has_link.ensures here))

pub returns : goal.returns
returns c = λ yes. subst (All (NamesLink c.args.domain.now.links))
    (take_all c.loop-event.event-index c.args.events.now (omega arith)) c.loop-event.invariant
