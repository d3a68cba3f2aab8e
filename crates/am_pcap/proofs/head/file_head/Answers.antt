-- The header is read back.
use Rattle.std.proofs.Common.{refl, true, false}
use Rattle.am_pcap.proofs.Forms.{read_back}
use Rattle.am_pcap.proofs.head.file_head.Goals as goal

pub returns-then-form-clause-read_back : goal.returns-then-form-clause-read_back
returns-then-form-clause-read_back c =
    read_back c.args.form c.args.link true c.magic.result 262144 c.number_of.result c.word_bytes-m.result c.word_bytes-s.result c.word_bytes-k.result
    c.if-form.true c.word_bytes-m.ensures.bytes c.word_bytes-s.ensures.bytes c.word_bytes-k.ensures.bytes c.magic.ensures refl c.number_of.ensures.value

pub returns-else-form-clause-read_back : goal.returns-else-form-clause-read_back
returns-else-form-clause-read_back c =
    read_back c.args.form c.args.link false c.magic.result 262144 c.number_of.result c.word_bytes-m.result c.word_bytes-s.result c.word_bytes-k.result
    c.if-form.false c.word_bytes-m.ensures.bytes c.word_bytes-s.ensures.bytes c.word_bytes-k.ensures.bytes c.magic.ensures refl c.number_of.ensures.value
