-- The head stands behind what was held.
use Rattle.std.proofs.Common.{◌∙◌, ◌++◌, ap, sym}
use Rattle.am_pcap.specs.Spelling.{head_spelled}
use Rattle.am_run.proofs.rewriting.put_head.Goals as goal

pub returns-clause-head : goal.returns-clause-head
returns-clause-head c =
    c.push_all-2.ensures.items ∙ ap (λ x. x ++ c.record_head-2.result) c.reserve.ensures.items
    ∙ ap (λ x. c.args.held.now.items ++ x)
    (c.record_head-2.ensures.bytes
    ∙ ap (λ b. head_spelled b c.args.record.now.seconds c.args.record.now.fraction c.args.captured c.args.original) (sym c.if-form.false))
