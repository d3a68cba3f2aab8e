-- The line is of what the record holds.
use Rattle.std.proofs.Common.{refl}
use Rattle.std.proofs.lemmas.List.{take_rest}
use Rattle.am_pcap.specs.Shown.{packet_shown}
use Rattle.am_pcap.specs.declared.frame.Frame.TheVariants.{Other, Cut}
use Rattle.am_run.proofs.ShowSteps.{on-ok, line_of_packet, line_of_word}
use Rattle.am_run.proofs.commands.show.show_line.Goals as goal

pub returns-in-Ip6-clause-added : goal.returns-in-Ip6-clause-added
returns-in-Ip6-clause-added c =
    on-ok c.push_packet.result
    (λ e. line_of_packet c.args.head.now c.args.packet.now.number (packet_shown c.args.packet.now) c.in-Ip6.at c.whole-whole.result _ _ _
    c.whole-whole.ensures (take_rest c.args.packet.now.bytes.now c.in-Ip6.at) c.in-Ip6.ensures.framed e)
    c.push_packet.ensures.added

pub returns-in-Other-clause-added : goal.returns-in-Other-clause-added
returns-in-Other-clause-added c =
    on-ok c.push_word.result
    (λ e. line_of_word c.args.head.now c.args.packet.now.number (packet_shown c.args.packet.now) Other c.whole-whole.result _ _ _
    c.whole-whole.ensures c.in-Other.ensures.framed refl e)
    c.push_word.ensures.added

pub returns-in-Cut-clause-added : goal.returns-in-Cut-clause-added
returns-in-Cut-clause-added c =
    on-ok c.push_word-in-Cut.result
    (λ e. line_of_word c.args.head.now c.args.packet.now.number (packet_shown c.args.packet.now) Cut c.whole-whole.result _ _ _
    c.whole-whole.ensures c.in-Cut.ensures.framed refl e)
    c.push_word-in-Cut.ensures.added
