use Rattle.std.proofs.lemmas.List.{take_rest}
use Rattle.am_ip6.specs.Seen.{seen_shown}
use Rattle.am_meter.proofs.Marking.{seen-of_packet}
use Rattle.am_meter.proofs.stream.find_mark_in.Goals as goal

pub returns-in-Ip6 : goal.returns-in-Ip6
returns-in-Ip6 c =
    seen-of_packet c.args.place c.args.link c.args.bytes.now c.args.whole c.in-Ip6.at _ (seen_shown c.find_mark.result)
    (take_rest c.args.bytes.now c.in-Ip6.at) c.in-Ip6.ensures.framed c.find_mark.ensures.seen
