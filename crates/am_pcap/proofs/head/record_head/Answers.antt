-- The header is read back, and with it a record.
use Rattle.std.proofs.Common.{refl, ◌∙◌}
use Rattle.am_pcap.proofs.Spelled.{record_spelled, four_words, words-first, words-second, words-third, words-fourth}
use Rattle.am_pcap.proofs.head.record_head.Goals as goal

pub returns-clause-spelled : goal.returns-clause-spelled
returns-clause-spelled c = λ bytes long few.
    record_spelled c.args.form.big (four_words c.word_bytes-a.result c.word_bytes-b.result c.word_bytes-c.result c.word_bytes-d.result) bytes
    c.args.seconds c.args.fraction c.args.captured c.args.original refl
    (words-first c.args.form.big c.word_bytes-a.result c.word_bytes-b.result c.word_bytes-c.result c.word_bytes-d.result ∙ c.word_bytes-a.ensures.word)
    (words-second c.args.form.big c.word_bytes-a.result c.word_bytes-b.result c.word_bytes-c.result c.word_bytes-d.result ∙ c.word_bytes-b.ensures.word)
    (words-third c.args.form.big c.word_bytes-a.result c.word_bytes-b.result c.word_bytes-c.result c.word_bytes-d.result ∙ c.word_bytes-c.ensures.word)
    (words-fourth c.args.form.big c.word_bytes-a.result c.word_bytes-b.result c.word_bytes-c.result c.word_bytes-d.result ∙ c.word_bytes-d.ensures.word)
    long few
