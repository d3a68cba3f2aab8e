-- Directly behind the fixed header, or behind all headers.
use Rattle.std.proofs.Common.{true, refl, sym, subst, slice_index}
use Rattle.am_ip6.specs.declared.marks.Place.{Place}
use Rattle.am_insert.specs.Parts.{IsNewSpot}
use Rattle.am_insert.specs.declared.insert.Announced.{Announced}
use Rattle.am_insert.proofs.Planned.{spot-behind_fixed, spot-behind_all}
use Rattle.am_insert.proofs.insert.spot_of.Goals as goal

pub returns-in-HopByHop : goal.returns-in-HopByHop
returns-in-HopByHop c =
    let spot : Announced = record { next = slice_index c.args.bytes.now 6; at = 40; told_at = 6 } in
    subst (λ (x : Place). IsNewSpot c.args.bytes.now x spot) (sym c.in-HopByHop.is)
    (spot-behind_fixed c.args.bytes.now spot c.requires.fixed refl)

pub returns-in-Destination : goal.returns-in-Destination
returns-in-Destination c =
    subst (λ (x : Place). IsNewSpot c.args.bytes.now x c.args.end) (sym c.in-Destination.is)
    (spot-behind_all c.args.bytes.now true c.args.end (c.walk_law.ensures c.args.bytes.now true) c.requires)
