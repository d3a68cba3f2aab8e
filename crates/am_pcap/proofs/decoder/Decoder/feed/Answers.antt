-- Bytes of the file header, and then of a record.
use Rattle.std.proofs.Common.{subst}
use Rattle.am_pcap.specs.Decoded.{Took, Refused}
use Rattle.am_pcap.proofs.Feeding.{took-both, refused-both}
use Rattle.am_pcap.proofs.decoder.Decoder.feed.Goals as goal

pub returns-in-Ok-feed_record-clause-took : goal.returns-in-Ok-feed_record-clause-took
returns-in-Ok-feed_record-clause-took c =
    took-both c.args.self.now c.feed_head.new.self c.feed_record-2.new.self c.args.piece.now c.in-Ok.n c.in-Ok-feed_record.m c.in-Ok.ensures.took
    (subst (λ x. Took c.feed_head.new.self c.feed_record-2.new.self x c.in-Ok-feed_record.m) c.split_at.ensures.back c.in-Ok-feed_record.ensures.took)

pub returns-in-Err-feed_record-clause-refused : goal.returns-in-Err-feed_record-clause-refused
returns-in-Err-feed_record-clause-refused c = λ clean.
    refused-both c.args.self.now c.feed_head.new.self c.feed_record-2.new.self c.args.piece.now c.in-Ok.n c.in-Err-feed_record.error c.in-Ok.ensures.took
    (c.in-Ok.ensures.counts.same c.feed_head.ensures.waiting)
    (subst (λ x. Refused c.feed_head.new.self c.feed_record-2.new.self x c.in-Err-feed_record.error) c.split_at.ensures.back c.in-Err-feed_record.ensures.refused)
