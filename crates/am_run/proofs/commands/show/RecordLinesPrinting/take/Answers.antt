use Rattle.am_pcap.specs.Shown.{packet_shown}
use Rattle.am_run.proofs.ShowSteps.{lines_more}
use Rattle.am_run.proofs.commands.show.RecordLinesPrinting.take.Goals as goal

-- the line comes behind those of the records before
pub returns-in-Ok-clause-more : goal.returns-in-Ok-clause-more
returns-in-Ok-clause-more c =
    let grew = c.in-Ok.ensures.added in (
      grew.0,
      grew.1,
      λ ps text known counted lines.
          (tt, lines_more c.args.head.now ps text c.args.packet.now.number (packet_shown c.args.packet.now) grew.0 lines counted grew.2),
    )
