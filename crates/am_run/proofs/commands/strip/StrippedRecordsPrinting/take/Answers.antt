-- A record loses the mark that is its own, and any other is as it is.
use Rattle.std.proofs.Common.{refl}
use Rattle.am_pcap.specs.Shown.{packet_shown}
use Rattle.am_run.proofs.StripLemmas.{adds-stripped, adds-whole}
use Rattle.am_run.proofs.commands.strip.StrippedRecordsPrinting.take.Goals as goal

pub returns-in-Ok-clause-more : goal.returns-in-Ok-clause-more
returns-in-Ok-clause-more c = (
  _,
  c.in-Ok.ensures.added,
  adds-stripped c.args.self.now.domain.now c.args.head.now (packet_shown c.args.packet.now) c.in-Some.own.at _ _
      c.args.packet.now.number c.in-Some.ensures.found refl,
)

pub returns-in-Ok-keep_record-clause-more : goal.returns-in-Ok-keep_record-clause-more
returns-in-Ok-keep_record-clause-more c = (
  _,
  c.in-Ok-keep_record.ensures.added,
  adds-whole c.args.self.now.domain.now c.args.head.now (packet_shown c.args.packet.now) _
      c.args.packet.now.number c.in-None.ensures.none refl,
)
