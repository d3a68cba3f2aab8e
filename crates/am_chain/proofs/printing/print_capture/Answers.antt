-- What each exit of the loop leaves, and that one more record keeps what is known.
use Rattle.std.proofs.Common.{◌≡◌, ◌+◌, length, arith, ap, subst, Err, []}
use Rattle.am_pcap.specs.Shown.{packet_shown}
use Rattle.am_chain.specs.Answers.Answer.{NoMemory}
use Rattle.am_chain.specs.Chains.{inputs, output}
use Rattle.am_chain.specs.Printing.{Flushes}
use Rattle.am_chain.specs.Shown.{answer_of, stop_shown}
use Rattle.am_chain.proofs.StreamLemmas.{gave-record, reads-of, read-short, on-refused, stream-not-opened, stream-unbegun, stream-begun, stream-stopped, stream-memory, stream-flushed, stream-more, stream-unwritten, stream-unprinted-flushed, stream-ended}
use Rattle.am_chain.proofs.printing.print_capture.Goals as goal

pub returns-in-Err : goal.returns-in-Err
returns-in-Err g c =
    stream-not-opened
    (inputs (g.S.Shelf.told c.args.shelf.now) (g.S.Shelf.faults c.args.shelf.now) (g.S.Shelf.missed c.args.shelf.now))
    (inputs (g.S.Shelf.told c.open.new.shelf) (g.S.Shelf.faults c.open.new.shelf) (g.S.Shelf.missed c.open.new.shelf))
    (output (g.O.Sink.written c.args.out.now) (g.O.Sink.faults c.args.out.now))
    c.args.name.now (g.P.Printing.stream c.args.printing.now) c.in-Err.error (stop_shown c.of_capture.result) c.in-Err.ensures.refused
    (λ e. (c.in-Err.ensures.missing (ap (λ x. Err x) e)).0) (λ e. c.in-Err.ensures.read_fault (ap (λ x. Err x) e)) c.of_capture.ensures

pub returns-in_default : goal.returns-in_default
returns-in_default g c =
    stream-unbegun
    (inputs (g.S.Shelf.told c.args.shelf.now) (g.S.Shelf.faults c.args.shelf.now) (g.S.Shelf.missed c.args.shelf.now))
    (inputs (g.S.Shelf.told c.open.new.shelf) (g.S.Shelf.faults c.open.new.shelf) (g.S.Shelf.missed c.open.new.shelf))
    (output (g.O.Sink.written c.args.out.now) (g.O.Sink.faults c.args.out.now))
    c.args.name.now (g.P.Printing.stream c.args.printing.now)

pub returns-in_default-begin : goal.returns-in_default-begin
returns-in_default-begin g c =
    stream-unbegun
    (inputs (g.S.Shelf.told c.args.shelf.now) (g.S.Shelf.faults c.args.shelf.now) (g.S.Shelf.missed c.args.shelf.now))
    (inputs (g.S.Shelf.told c.open.new.shelf) (g.S.Shelf.faults c.open.new.shelf) (g.S.Shelf.missed c.open.new.shelf))
    (output (g.O.Sink.written c.args.out.now) (g.O.Sink.faults c.args.out.now))
    c.args.name.now (g.P.Printing.stream c.args.printing.now)

pub records-init : goal.records-init
records-init g c =
    let begun = c.in-Ok-begin.ensures.text in
    stream-begun
    (inputs (g.S.Shelf.told c.args.shelf.now) (g.S.Shelf.faults c.args.shelf.now) (g.S.Shelf.missed c.args.shelf.now))
    (inputs (g.S.Shelf.told c.open.new.shelf) (g.S.Shelf.faults c.open.new.shelf) (g.S.Shelf.missed c.open.new.shelf))
    (output (g.O.Sink.written c.args.out.now) (g.O.Sink.faults c.args.out.now))
    c.in-Ok-with_capacity.held.items c.begin.new.held.items begun.0 c.args.name.now (g.P.Printing.stream c.args.printing.now) c.in-Ok.capture c.head-head.result
    (reads-of _ _ _ _ _ [] c.in-Ok.ensures.reads c.head-head.ensures) begun.2
    c.in-Ok-with_capacity.ensures.items begun.1 c.in-Ok.ensures.faults_stay c.in-Ok.ensures.missed_stay
    (g.P.Printing.knows c.args.printing.now c.in-Ok-begin.state) c.in-Ok-begin.ensures.knows

pub returns-in_default-finish : goal.returns-in_default-finish
returns-in_default-finish g c =
    let first = inputs (g.S.Shelf.told c.args.shelf.now) (g.S.Shelf.faults c.args.shelf.now) (g.S.Shelf.missed c.args.shelf.now) in
    let now = inputs (g.S.Shelf.told c.records.shelf) (g.S.Shelf.faults c.records.shelf) (g.S.Shelf.missed c.records.shelf) in
    let after = inputs (g.S.Shelf.told c.next.new.shelf) (g.S.Shelf.faults c.next.new.shelf) (g.S.Shelf.missed c.next.new.shelf) in
    let old = output (g.O.Sink.written c.args.out.now) (g.O.Sink.faults c.args.out.now) in
    let out = output (g.O.Sink.written c.records.out) (g.O.Sink.faults c.records.out) in
    let name = c.args.name.now in
    let stream = g.P.Printing.stream c.args.printing.now in
    let s = c.records.invariant.0 in
    let new = output (g.O.Sink.written c.flushed.new.out) (g.O.Sink.faults c.flushed.new.out) in
    stream-flushed first now after old out new c.records.held.items name stream c.records.capture c.head-head.result
    NoMemory (answer_of c.flushed.result) s
    (subst (λ x. Flushes out x new NoMemory (answer_of c.flushed.result)) c.in_default-finish.ensures.kept c.flushed.ensures)
    (λ t. stream-memory first now after old new name stream c.records.capture c.head-head.result t)

pub returns-in-Ok-None : goal.returns-in-Ok-None
returns-in-Ok-None g c =
    let first = inputs (g.S.Shelf.told c.args.shelf.now) (g.S.Shelf.faults c.args.shelf.now) (g.S.Shelf.missed c.args.shelf.now) in
    let now = inputs (g.S.Shelf.told c.records.shelf) (g.S.Shelf.faults c.records.shelf) (g.S.Shelf.missed c.records.shelf) in
    let after = inputs (g.S.Shelf.told c.next.new.shelf) (g.S.Shelf.faults c.next.new.shelf) (g.S.Shelf.missed c.next.new.shelf) in
    let old = output (g.O.Sink.written c.args.out.now) (g.O.Sink.faults c.args.out.now) in
    let out = output (g.O.Sink.written c.records.out) (g.O.Sink.faults c.records.out) in
    let name = c.args.name.now in
    let stream = g.P.Printing.stream c.args.printing.now in
    let s = c.records.invariant.0 in
    let last = output (g.O.Sink.written c.flushed-in-Ok-None.new.out) (g.O.Sink.faults c.flushed-in-Ok-None.new.out) in
    let ended = c.in-Ok-finish.ensures.rest in
    stream-ended first now after old out last c.records.held.items c.finish.new.held.items ended.0 name stream
    c.records.capture c.head-head.result (answer_of c.flushed-in-Ok-None.result) s
    (rw c.in-Ok-None.field-0-is at c.in-Ok-None.ensures.ended)
    (ended.2 s.packets s.text c.records.invariant.1 s.printed) ended.1 c.flushed-in-Ok-None.ensures
    c.in-Ok-None.ensures.faults_stay c.in-Ok-None.ensures.missed_stay

pub returns-in-Err-next : goal.returns-in-Err-next
returns-in-Err-next g c =
    let first = inputs (g.S.Shelf.told c.args.shelf.now) (g.S.Shelf.faults c.args.shelf.now) (g.S.Shelf.missed c.args.shelf.now) in
    let now = inputs (g.S.Shelf.told c.records.shelf) (g.S.Shelf.faults c.records.shelf) (g.S.Shelf.missed c.records.shelf) in
    let after = inputs (g.S.Shelf.told c.next.new.shelf) (g.S.Shelf.faults c.next.new.shelf) (g.S.Shelf.missed c.next.new.shelf) in
    let old = output (g.O.Sink.written c.args.out.now) (g.O.Sink.faults c.args.out.now) in
    let out = output (g.O.Sink.written c.records.out) (g.O.Sink.faults c.records.out) in
    let name = c.args.name.now in
    let stream = g.P.Printing.stream c.args.printing.now in
    let s = c.records.invariant.0 in
    let new = output (g.O.Sink.written c.flushed-in-Err-next.new.out) (g.O.Sink.faults c.flushed-in-Err-next.new.out) in
    stream-flushed first now after old out new c.records.held.items name stream c.records.capture c.head-head.result
    (stop_shown c.of_capture-stop.result) (answer_of c.flushed-in-Err-next.result) s c.flushed-in-Err-next.ensures
    (λ t. stream-stopped first now after old new name stream c.records.capture c.head-head.result c.in-Err-next.error (stop_shown c.of_capture-stop.result) t
    c.in-Err-next.ensures.refused (λ e. c.in-Err-next.ensures.read_fault (ap (λ x. Err x) e)) c.of_capture-stop.ensures)

pub returns-in-Err-take : goal.returns-in-Err-take
returns-in-Err-take g c =
    let first = inputs (g.S.Shelf.told c.args.shelf.now) (g.S.Shelf.faults c.args.shelf.now) (g.S.Shelf.missed c.args.shelf.now) in
    let now = inputs (g.S.Shelf.told c.records.shelf) (g.S.Shelf.faults c.records.shelf) (g.S.Shelf.missed c.records.shelf) in
    let after = inputs (g.S.Shelf.told c.next.new.shelf) (g.S.Shelf.faults c.next.new.shelf) (g.S.Shelf.missed c.next.new.shelf) in
    let old = output (g.O.Sink.written c.args.out.now) (g.O.Sink.faults c.args.out.now) in
    let out = output (g.O.Sink.written c.records.out) (g.O.Sink.faults c.records.out) in
    let name = c.args.name.now in
    let stream = g.P.Printing.stream c.args.printing.now in
    let s = c.records.invariant.0 in
    let gave = gave-record c.next.result c.in-Ok-Some.field-0 c.in-Ok-Some.record c.records.capture c.next.follows.lender-at-none
    now.told after.told c.in-Ok-Some.is c.in-Ok-Some.field-0-is c.next.follows.holds-at-none in
    let number = rw c.in-Ok-Some.field-0-is at c.in-Ok-Some.ensures.number in
    let on = gave.reads first.told name c.head-head.result s.packets s.on in
    let counted : c.in-Ok-Some.record.number ≡ length s.packets + 1 = omega (arith, number, s.on.counted) in
    let new = output (g.O.Sink.written c.flushed-in-Err-take.new.out) (g.O.Sink.faults c.flushed-in-Err-take.new.out) in
    stream-unprinted-flushed first now after old out new c.records.held.items name stream c.records.capture c.next.follows.lender-at-none c.head-head.result
    (packet_shown c.in-Ok-Some.record) c.in-Err-take.error (stop_shown c.of_record-stop.result) (answer_of c.flushed-in-Err-take.result) s
    on (on-refused c.in-Err-take.error _ _ c.in-Err-take.ensures.refused (λ reason r. r s.packets c.records.invariant.1 counted))
    c.of_record-stop.ensures
    (subst (λ x. Flushes out x new (stop_shown c.of_record-stop.result) (answer_of c.flushed-in-Err-take.result)) c.in-Err-take.ensures.kept c.flushed-in-Err-take.ensures)

pub returns-in_default-move_on : goal.returns-in_default-move_on
returns-in_default-move_on g c =
    let first = inputs (g.S.Shelf.told c.args.shelf.now) (g.S.Shelf.faults c.args.shelf.now) (g.S.Shelf.missed c.args.shelf.now) in
    let now = inputs (g.S.Shelf.told c.records.shelf) (g.S.Shelf.faults c.records.shelf) (g.S.Shelf.missed c.records.shelf) in
    let after = inputs (g.S.Shelf.told c.next.new.shelf) (g.S.Shelf.faults c.next.new.shelf) (g.S.Shelf.missed c.next.new.shelf) in
    let old = output (g.O.Sink.written c.args.out.now) (g.O.Sink.faults c.args.out.now) in
    let out = output (g.O.Sink.written c.records.out) (g.O.Sink.faults c.records.out) in
    let name = c.args.name.now in
    let stream = g.P.Printing.stream c.args.printing.now in
    let s = c.records.invariant.0 in
    let gave = gave-record c.next.result c.in-Ok-Some.field-0 c.in-Ok-Some.record c.records.capture c.next.follows.lender-at-none
    now.told after.told c.in-Ok-Some.is c.in-Ok-Some.field-0-is c.next.follows.holds-at-none in
    let number = rw c.in-Ok-Some.field-0-is at c.in-Ok-Some.ensures.number in
    let on = gave.reads first.told name c.head-head.result s.packets s.on in
    let counted : c.in-Ok-Some.record.number ≡ length s.packets + 1 = omega (arith, number, s.on.counted) in
    let grew = c.in-Ok-take.ensures.more in
    let more = grew.2 s.packets s.text c.records.invariant.1 counted s.printed in
    let new = output (g.O.Sink.written c.move_on.new.out) (g.O.Sink.faults c.move_on.new.out) in
    stream-unwritten first now after old out new c.records.held.items c.take.new.held.items name stream c.records.capture c.next.follows.lender-at-none c.head-head.result
    (packet_shown c.in-Ok-Some.record) grew.0 s on more.1 grew.1 c.in_default-move_on.ensures.front c.in_default-move_on.ensures.failed

pub records-preserved : goal.records-preserved
records-preserved g c =
    let first = inputs (g.S.Shelf.told c.args.shelf.now) (g.S.Shelf.faults c.args.shelf.now) (g.S.Shelf.missed c.args.shelf.now) in
    let now = inputs (g.S.Shelf.told c.records.shelf) (g.S.Shelf.faults c.records.shelf) (g.S.Shelf.missed c.records.shelf) in
    let after = inputs (g.S.Shelf.told c.next.new.shelf) (g.S.Shelf.faults c.next.new.shelf) (g.S.Shelf.missed c.next.new.shelf) in
    let old = output (g.O.Sink.written c.args.out.now) (g.O.Sink.faults c.args.out.now) in
    let out = output (g.O.Sink.written c.records.out) (g.O.Sink.faults c.records.out) in
    let name = c.args.name.now in
    let stream = g.P.Printing.stream c.args.printing.now in
    let s = c.records.invariant.0 in
    let gave = gave-record c.next.result c.in-Ok-Some.field-0 c.in-Ok-Some.record c.records.capture c.next.follows.lender-at-none
    now.told after.told c.in-Ok-Some.is c.in-Ok-Some.field-0-is c.next.follows.holds-at-none in
    let number = rw c.in-Ok-Some.field-0-is at c.in-Ok-Some.ensures.number in
    let on = gave.reads first.told name c.head-head.result s.packets s.on in
    let counted : c.in-Ok-Some.record.number ≡ length s.packets + 1 = omega (arith, number, s.on.counted) in
    let grew = c.in-Ok-take.ensures.more in
    let more = grew.2 s.packets s.text c.records.invariant.1 counted s.printed in
    let new = output (g.O.Sink.written c.move_on.new.out) (g.O.Sink.faults c.move_on.new.out) in
    stream-more first now after old out new c.records.held.items c.take.new.held.items c.move_on.new.held.items name stream c.records.capture c.next.follows.lender-at-none c.head-head.result
    (packet_shown c.in-Ok-Some.record) grew.0 s on more.1 grew.1 c.in-Ok-move_on.ensures.all
    c.in-Ok-Some.ensures.faults_stay c.in-Ok-Some.ensures.missed_stay c.in-Ok-move_on.ensures.faults_stay
    (g.P.Printing.knows c.args.printing.now c.take.new.state) more.0

pub take-requires : goal.take-requires
take-requires g c =
    let first = inputs (g.S.Shelf.told c.args.shelf.now) (g.S.Shelf.faults c.args.shelf.now) (g.S.Shelf.missed c.args.shelf.now) in
    let now = inputs (g.S.Shelf.told c.records.shelf) (g.S.Shelf.faults c.records.shelf) (g.S.Shelf.missed c.records.shelf) in
    let after = inputs (g.S.Shelf.told c.next.new.shelf) (g.S.Shelf.faults c.next.new.shelf) (g.S.Shelf.missed c.next.new.shelf) in
    let old = output (g.O.Sink.written c.args.out.now) (g.O.Sink.faults c.args.out.now) in
    let out = output (g.O.Sink.written c.records.out) (g.O.Sink.faults c.records.out) in
    let name = c.args.name.now in
    let stream = g.P.Printing.stream c.args.printing.now in
    let s = c.records.invariant.0 in
    let gave = gave-record c.next.result c.in-Ok-Some.field-0 c.in-Ok-Some.record c.records.capture c.next.follows.lender-at-none
    now.told after.told c.in-Ok-Some.is c.in-Ok-Some.field-0-is c.next.follows.holds-at-none in
    record {
      known = (s.packets, c.records.invariant.1);
      short =
          read-short first.told after.told name c.next.follows.lender-at-none c.head-head.result s.packets (packet_shown c.in-Ok-Some.record)
          (gave.reads first.told name c.head-head.result s.packets s.on);
    }
