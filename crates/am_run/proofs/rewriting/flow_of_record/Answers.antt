-- The flow that was found is the only one.
use Rattle.am_ip6.specs.FixedShown.{parts_shown}
use Rattle.am_pcap.specs.Shown.{packet_shown}
use Rattle.am_run.proofs.RewriteLemmas.{slice-rest, one-flow, of-no-flow}
use Rattle.am_run.proofs.rewriting.flow_of_record.Goals as goal

pub returns-in-Some-flow_of-clause-only : goal.returns-in-Some-flow_of-clause-only
returns-in-Some-flow_of-clause-only c = λ at number f.
    one-flow c.args.domain.now c.args.link (packet_shown c.args.record.now) c.whole.result c.packet_of.result c.in-Ip6.at c.in-Some-flow_of.flow at number
    (parts_shown c.in-Some.fixed) _ c.whole.ensures c.packet_of.ensures.only c.in-Ip6.is c.in-Some.ensures.parts
    (slice-rest c.in-Ip6.at c.args.record.now.bytes.now) c.in-Some-flow_of.ensures.found f

pub returns-in-None-clause-none : goal.returns-in-None-clause-none
returns-in-None-clause-none c = λ at number f.
    of-no-flow c.args.domain.now c.args.link (packet_shown c.args.record.now) c.whole.result c.packet_of.result c.in-Ip6.at at number
    (parts_shown c.in-Some.fixed) _ c.whole.ensures c.packet_of.ensures.only c.in-Ip6.is c.in-Some.ensures.parts
    (slice-rest c.in-Ip6.at c.args.record.now.bytes.now) c.in-None.ensures.none f
