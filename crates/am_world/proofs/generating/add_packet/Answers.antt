use Rattle.std.proofs.Common.{◌<◌, subst, arith}
use Rattle.am_clock.specs.Times.{Times, IsMarkedIn}
use Rattle.am_world.proofs.MakingLemmas.{on-ok, sends-here}
use Rattle.am_world.proofs.generating.add_packet.Goals as goal

pub returns : goal.returns
returns c =
    let d = c.args.domain.now in
    let few = c.draw_entry-flow.ensures.lawful.few_nodes in
    let node_below : c.draw_entry-flow.result.1 < 128 = omega (arith, few, c.draw_entry-flow.ensures.node_within) in
    let marked = subst (λ (t : Times). IsMarkedIn t c.read_at-reading.result c.block_of.result) c.timing.ensures.value c.block_of.ensures in
    on-ok c.go_on.result
    (sends-here d c.args.of.1 c.args.of.0 c.args.draws.now.left c.draw_entry-flow.new.draws.left c.go_on.new.draws.left
    c.from-packet.result c.draw_entry-flow.result.0 c.draw_entry-flow.result.1 c.sent_at-time.result c.read_at-reading.result
    c.block_of.result c.is_new-delay.result c.args.events.now.items c.push.new.self.items c.go_on.new.events.items
    c.args.newest.now c.is_new-delay.new.newest c.draw_entry-flow.ensures.flow_within node_below
    c.from-packet.ensures c.draw_entry-flow.ensures.flow c.draw_entry-flow.ensures.node c.draw_entry-flow.ensures.left
    c.sent_at-time.ensures.value c.read_at-reading.ensures marked c.is_new-delay.ensures.new c.is_new-delay.ensures.then
    c.requires.known c.in_ok-push.ensures.items)
    c.go_on.ensures
