-- A record of a flow gets its mark, and any other is as it is.
use Rattle.std.proofs.Common.{refl}
use Rattle.std.proofs.lemmas.Result.{on_ok_weaker}
use Rattle.am_pcap.specs.Shown.{packet_shown}
use Rattle.am_pcap.specs.Spelling.{record_bytes}
use Rattle.am_run.proofs.MarkLemmas.{adds-marked, adds-kept}
use Rattle.am_run.proofs.commands.mark.MarkedRecordsPrinting.take.Goals as goal

pub mark_record-requires-clause-flows : goal.mark_record-requires-clause-flows
mark_record-requires-clause-flows c = c.requires.known.1.each_flow

pub returns-in-Some-clause-more : goal.returns-in-Some-clause-more
returns-in-Some-clause-more c =
    on_ok_weaker c.mark_record.result
    (λ grew. (
      grew.0,
      grew.1,
      adds-marked c.args.self.now.domain.now c.args.head.now (packet_shown c.args.packet.now) c.in-Some.found.at c.in-Some.found.flow
          c.args.state.now.newest.items c.mark_record.new.state.newest.items grew.0 c.args.packet.now.number
          c.in-Some.ensures.found (λ other flow f. (c.in-Some.ensures.only other flow f).1) grew.2,
    ))
    c.mark_record.ensures.marked

pub returns-in-Ok-clause-more : goal.returns-in-Ok-clause-more
returns-in-Ok-clause-more c = (
  record_bytes c.args.head.now.form.big (packet_shown c.args.packet.now),
  c.in-Ok.ensures.added,
  adds-kept c.args.self.now.domain.now c.args.head.now (packet_shown c.args.packet.now) c.args.state.now.newest.items
      (record_bytes c.args.head.now.form.big (packet_shown c.args.packet.now)) c.args.packet.now.number c.in-None.ensures.none refl,
)
