-- What is found at each walk is found, and nothing else is.
use Rattle.std.proofs.Common.{sym, subst}
use Rattle.am_ip6.specs.declared.marks.Place.{Place}
use Rattle.am_ip6.specs.Seen.{seen_shown, SeenInEach}
use Rattle.am_ip6.proofs.Exists.{is_seen}
use Rattle.am_ip6.proofs.marks.find_mark.Goals as goal

pub returns-in-HopByHop-clause-each : goal.returns-in-HopByHop-clause-each
returns-in-HopByHop-clause-each c =
    subst (λ (p : Place). SeenInEach p c.args.bytes.now c.args.whole (seen_shown c.find_in_hop_by_hop.result)) (sym c.in-HopByHop.is)
    c.find_in_hop_by_hop.ensures

pub returns-in-HopByHop-clause-seen : goal.returns-in-HopByHop-clause-seen
returns-in-HopByHop-clause-seen c =
    is_seen c.args.bytes.now c.args.whole c.args.place (seen_shown c.find_in_hop_by_hop.result) (c.walk_law.ensures _ _)
    (returns-in-HopByHop-clause-each c)

pub returns-in-HopByHop-clause-only : goal.returns-in-HopByHop-clause-only
returns-in-HopByHop-clause-only c = λ seen s.
    c.seen_law.ensures c.args.bytes.now c.args.whole c.args.place seen (seen_shown c.find_in_hop_by_hop.result) s
    (returns-in-HopByHop-clause-seen c)

pub returns-in-Destination-clause-each : goal.returns-in-Destination-clause-each
returns-in-Destination-clause-each c =
    subst (λ (p : Place). SeenInEach p c.args.bytes.now c.args.whole (seen_shown c.find_in_destination.result)) (sym c.in-Destination.is)
    c.find_in_destination.ensures

pub returns-in-Destination-clause-seen : goal.returns-in-Destination-clause-seen
returns-in-Destination-clause-seen c =
    is_seen c.args.bytes.now c.args.whole c.args.place (seen_shown c.find_in_destination.result) (c.walk_law.ensures _ _)
    (returns-in-Destination-clause-each c)

pub returns-in-Destination-clause-only : goal.returns-in-Destination-clause-only
returns-in-Destination-clause-only c = λ seen s.
    c.seen_law.ensures c.args.bytes.now c.args.whole c.args.place seen (seen_shown c.find_in_destination.result) s
    (returns-in-Destination-clause-seen c)
