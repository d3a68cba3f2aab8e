-- The line was made apart.
use Rattle.std.proofs.Common.{◌∙◌, ◌++◌, ap}
use Rattle.am_pcap.specs.Shown.{packet_shown}
use Rattle.am_run.specs.Lines.{record_text}
use Rattle.am_run.proofs.ShowSteps.{adds_apart}
use Rattle.am_run.proofs.commands.show.push_walked.Goals as goal

pub returns-clause-added : goal.returns-clause-added
returns-clause-added c =
    adds_apart (record_text c.args.form.nano c.args.packet.now.number (packet_shown c.args.packet.now)) c.args.bytes.now c.args.whole
    _ _ c.args.held.now.items _ c.clear.ensures.items c.in_ok-push_walk.ensures
    (c.in_ok-extend_from_slice.ensures.items ∙ ap (λ x. c.args.held.now.items ++ x) c.as_slice.ensures.value)
