use Rattle.std.proofs.Common.{arith}
use Rattle.am_pcap.specs.Seeking.{reading_with}
use Rattle.am_pcap.proofs.HeadReading.{head-refused}
use Rattle.am_pcap.proofs.seeking.head_step.Goals as goal

pub returns-in-Err-clause-fails : goal.returns-in-Err-clause-fails
returns-in-Err-clause-fails g c =
    head-refused (reading_with c.args.decoder.now c.args.held.now c.args.read.now) (g.S.Shelf.told c.args.shelf.now) (g.S.Shelf.told c.load.new.shelf) c.load.new.self c.in-Err.error
    c.requires c.in-Err.ensures.bad c.in-Ok.ensures.taken (omega (arith, c.len-more.ensures.value, c.len-more.ensures.small))
