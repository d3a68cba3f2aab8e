-- What becomes of a record as its bytes come.
use Rattle.std.proofs.Common.{arith, ap, ◌∙◌, ◌+◌, ◌≤◌, length}
use Rattle.am_pcap.specs.Packets.{word}
use Rattle.am_pcap.proofs.FeedingRecords.{in-record, filled, headed, in-body, took-few, refused-long, took-more, sound-more, took-whole, sound-whole}
use Rattle.am_pcap.proofs.decoder.Decoder.feed_record.Goals as goal

pub returns-then-len-lt-RECORD_HEAD-clause-took : goal.returns-then-len-lt-RECORD_HEAD-clause-took
returns-then-len-lt-RECORD_HEAD-clause-took c =
    took-few (in-record c.args.piece.now c.self.invariant c.self.view_is c.in-Some.is c.requires.clean c.requires.waiting c.requires.room)
    c.empty_where.ensures.items (filled c.empty_where.new.buffer.items c.args.piece.now 16 c.fill-n.result c.fill-n.ensures.items
    (omega (arith, c.fill-n.ensures.most)) c.fill-n.ensures.within)
    (omega (arith, c.len.ensures, c.if-len-lt-RECORD_HEAD.true))

pub returns-then-length-gt-MAX_CAPTURED-clause-refused : goal.returns-then-length-gt-MAX_CAPTURED-clause-refused
returns-then-length-gt-MAX_CAPTURED-clause-refused c =
    let on = in-record c.args.piece.now c.self.invariant c.self.view_is c.in-Some.is c.requires.clean c.requires.waiting c.requires.room in
    let first = filled c.empty_where.new.buffer.items c.args.piece.now 16 c.fill-n.result c.fill-n.ensures.items
    (omega (arith, c.fill-n.ensures.most)) c.fill-n.ensures.within in
    let there : 16 ≤ length c.fill-n.new.buffer.items = omega (arith, c.len.ensures, c.if-len-lt-RECORD_HEAD.false) in
    refused-long (headed on c.empty_where.ensures.items first there (c.word_at-length.ensures ∙ ap (λ x. word c.in-Some.head.form.big x 8) c.deref.ensures.value))
    (omega (arith, c.if-length-gt-MAX_CAPTURED.true))

pub invariant_of-self-then-len-end : goal.invariant_of-self-then-len-end
invariant_of-self-then-len-end c =
    let on = in-record c.args.piece.now c.self.invariant c.self.view_is c.in-Some.is c.requires.clean c.requires.waiting c.requires.room in
    let first = filled c.empty_where.new.buffer.items c.args.piece.now 16 c.fill-n.result c.fill-n.ensures.items
    (omega (arith, c.fill-n.ensures.most)) c.fill-n.ensures.within in
    let there : 16 ≤ length c.fill-n.new.buffer.items = omega (arith, c.len.ensures, c.if-len-lt-RECORD_HEAD.false) in
    let header = headed on c.empty_where.ensures.items first there (c.word_at-length.ensures ∙ ap (λ x. word c.in-Some.head.form.big x 8) c.deref.ensures.value) in
    let second = filled c.fill-n.new.buffer.items c.split_at.result.1.now (16 + c.word_at-length.result) c.fill-m.result c.fill-m.ensures.items
    (omega (arith, c.fill-m.ensures.most)) c.fill-m.ensures.within in
    sound-more (in-body header (omega (arith, c.if-length-gt-MAX_CAPTURED.false)) c.split_at.ensures.back second)
    (omega (arith, c.if-len-end.true, c.len-2.ensures))
    (omega (arith, c.self.invariant.room, c.empty_where.ensures.room, c.fill-n.ensures.room, c.fill-m.ensures.room))

pub returns-then-len-end-clause-took : goal.returns-then-len-end-clause-took
returns-then-len-end-clause-took c =
    let on = in-record c.args.piece.now c.self.invariant c.self.view_is c.in-Some.is c.requires.clean c.requires.waiting c.requires.room in
    let first = filled c.empty_where.new.buffer.items c.args.piece.now 16 c.fill-n.result c.fill-n.ensures.items
    (omega (arith, c.fill-n.ensures.most)) c.fill-n.ensures.within in
    let there : 16 ≤ length c.fill-n.new.buffer.items = omega (arith, c.len.ensures, c.if-len-lt-RECORD_HEAD.false) in
    let header = headed on c.empty_where.ensures.items first there (c.word_at-length.ensures ∙ ap (λ x. word c.in-Some.head.form.big x 8) c.deref.ensures.value) in
    let second = filled c.fill-n.new.buffer.items c.split_at.result.1.now (16 + c.word_at-length.result) c.fill-m.result c.fill-m.ensures.items
    (omega (arith, c.fill-m.ensures.most)) c.fill-m.ensures.within in
    took-more (in-body header (omega (arith, c.if-length-gt-MAX_CAPTURED.false)) c.split_at.ensures.back second)
    (omega (arith, c.if-len-end.true, c.len-2.ensures))

pub invariant_of-self-2 : goal.invariant_of-self-2
invariant_of-self-2 c =
    let on = in-record c.args.piece.now c.self.invariant c.self.view_is c.in-Some.is c.requires.clean c.requires.waiting c.requires.room in
    let first = filled c.empty_where.new.buffer.items c.args.piece.now 16 c.fill-n.result c.fill-n.ensures.items
    (omega (arith, c.fill-n.ensures.most)) c.fill-n.ensures.within in
    let there : 16 ≤ length c.fill-n.new.buffer.items = omega (arith, c.len.ensures, c.if-len-lt-RECORD_HEAD.false) in
    let header = headed on c.empty_where.ensures.items first there (c.word_at-length.ensures ∙ ap (λ x. word c.in-Some.head.form.big x 8) c.deref.ensures.value) in
    let second = filled c.fill-n.new.buffer.items c.split_at.result.1.now (16 + c.word_at-length.result) c.fill-m.result c.fill-m.ensures.items
    (omega (arith, c.fill-m.ensures.most)) c.fill-m.ensures.within in
    sound-whole (in-body header (omega (arith, c.if-length-gt-MAX_CAPTURED.false)) c.split_at.ensures.back second)
    (omega (arith, c.if-len-end.false, c.len-2.ensures))
    (omega (arith, c.self.invariant.room, c.empty_where.ensures.room, c.fill-n.ensures.room, c.fill-m.ensures.room))

pub returns-clause-took : goal.returns-clause-took
returns-clause-took c =
    let on = in-record c.args.piece.now c.self.invariant c.self.view_is c.in-Some.is c.requires.clean c.requires.waiting c.requires.room in
    let first = filled c.empty_where.new.buffer.items c.args.piece.now 16 c.fill-n.result c.fill-n.ensures.items
    (omega (arith, c.fill-n.ensures.most)) c.fill-n.ensures.within in
    let there : 16 ≤ length c.fill-n.new.buffer.items = omega (arith, c.len.ensures, c.if-len-lt-RECORD_HEAD.false) in
    let header = headed on c.empty_where.ensures.items first there (c.word_at-length.ensures ∙ ap (λ x. word c.in-Some.head.form.big x 8) c.deref.ensures.value) in
    let second = filled c.fill-n.new.buffer.items c.split_at.result.1.now (16 + c.word_at-length.result) c.fill-m.result c.fill-m.ensures.items
    (omega (arith, c.fill-m.ensures.most)) c.fill-m.ensures.within in
    took-whole (in-body header (omega (arith, c.if-length-gt-MAX_CAPTURED.false)) c.split_at.ensures.back second)
    (omega (arith, c.if-len-end.false, c.len-2.ensures))
