use Rattle.std.proofs.Common.{refl}
use Rattle.am_pcap.specs.Seeking.{reading_with}
use Rattle.am_pcap.proofs.HeadReading.{head-opened, head-not_opened}
use Rattle.am_pcap.proofs.capture.Capture.open.Goals as goal

pub returns-in-Ok-open_head-clause-reads : goal.returns-in-Ok-open_head-clause-reads
returns-in-Ok-open_head-clause-reads g c =
    head-opened (reading_with c.in-Ok-new.decoder c.in-Ok-new-2.held 0) (reading_with c.open_head.new.decoder c.open_head.new.held c.open_head.new.read)
    (g.S.Shelf.told c.args.shelf.now) (g.S.Shelf.told c.open.new.self) (g.S.Shelf.told c.open_head.new.shelf) c.args.name.now c.in-Ok-open_head.head
    c.in-Ok-new.ensures refl c.in-Ok.ensures.opened c.in-Ok-open_head.ensures.found

pub returns-in-Err-clause-refused : goal.returns-in-Err-clause-refused
returns-in-Err-clause-refused g c =
    head-not_opened c.in-Ok-new.decoder (g.S.Shelf.told c.args.shelf.now) (g.S.Shelf.told c.open.new.self) (g.S.Shelf.told c.open_head.new.shelf) c.args.name.now c.in-Err.error
    c.in-Ok-new.ensures c.in-Ok.ensures.opened c.in-Err.ensures.fails
