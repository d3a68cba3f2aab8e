use Rattle.std.proofs.Common.{subst}
use Rattle.am_meter.specs.Streaming.{Streaming}
use Rattle.am_meter.specs.Streams.{EndsStream, StopsStream}
use Rattle.am_meter.proofs.Onward.{same-stream}
use Rattle.am_meter.proofs.stream.Stream.next.Goals as goal

pub returns-in-Ok-None-clause-ended : goal.returns-in-Ok-None-clause-ended
returns-in-Ok-None-clause-ended g c =
    let same = same-stream c.args.self.now c.self.inside.place c.self.inside.capture c.self.inside.over c.self.view_is c.requires in
    subst (λ (s : Streaming). EndsStream s (g.S.Shelf.told c.args.shelf.now) (g.S.Shelf.told c.next_marked.new.shelf)) same
    (rw c.in-Ok-None.field-0-is at c.in-Ok-None.ensures.ended)

pub returns-in-Err-clause-stopped : goal.returns-in-Err-clause-stopped
returns-in-Err-clause-stopped g c =
    let same = same-stream c.args.self.now c.self.inside.place c.self.inside.capture c.self.inside.over c.self.view_is c.requires in
    subst (λ (s : Streaming). StopsStream s (g.S.Shelf.told c.args.shelf.now) (g.S.Shelf.told c.next_marked.new.shelf) c.in-Err.error) same
    c.in-Err.ensures.stopped
