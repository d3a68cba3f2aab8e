-- A packet of few headers is shown by one look.
use Rattle.am_pcap.specs.Shown.{packet_shown}
use Rattle.am_run.specs.Lines.{record_text}
use Rattle.am_run.proofs.ShowSteps.{on-ok, adds_brief}
use Rattle.am_run.proofs.commands.show.push_packet.Goals as goal

pub returns-in-Some-clause-added : goal.returns-in-Some-clause-added
returns-in-Some-clause-added c =
    on-ok c.push_brief.result
    (λ e. adds_brief (record_text c.args.form.nano c.args.packet.now.number (packet_shown c.args.packet.now)) c.args.bytes.now c.args.whole
    c.in-Some.brief.mark c.in-Some.brief.next _ _ c.in-Some.ensures.only (c.in-Some.ensures.walk c.args.whole) e)
    c.push_brief.ensures.added
