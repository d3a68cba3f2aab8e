use Rattle.std.proofs.Common.{◌≡◌, ◌∙◌, length, sym, subst, arith}
use Rattle.am_world.specs.Generating.{ArePackets}
use Rattle.am_world.specs.Making.{AreLeastNew}
use Rattle.am_world.proofs.MakingLemmas.{packets-more, put-back}
use Rattle.am_world.proofs.generating.packets_of.Goals as goal

pub loop-packet-preserved : goal.loop-packet-preserved
loop-packet-preserved c =
    let d = c.args.domain.now in
    let old = c.loop-packet.newest.items in
    let new = c.add_packet.new.newest in
    let more = c.in_ok-add_packet.ensures in
    let same : length new ≡ length old = more.known.each ∙ sym c.loop-packet.invariant.known.each in
    let all : c.loop-packet.newest.len ≡ length old = omega (arith, c.loop-packet.newest.ok.0) in
    record {
      made = packets-more d c.args.number c.args.packets c.loop-packet.packet c.loop-packet.draws.left c.add_packet.new.draws.left
          c.loop-packet.events.items c.add_packet.new.events.items new c.loop-packet.invariant.made more;
      known = subst (AreLeastNew d c.add_packet.new.events.items) (sym (put-back c.loop-packet.newest.len new old same all)) more.known;
    }

pub returns : goal.returns
returns c =
    let all : c.loop-packet.packet ≡ c.args.packets = omega arith in (
      c.loop-packet.draws.left,
      subst (λ n. ArePackets c.args.domain.now c.args.number c.args.packets n c.loop-packet.events.items c.loop-packet.draws.left)
          all c.loop-packet.invariant.made,
    )
