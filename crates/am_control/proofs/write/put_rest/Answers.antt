-- Behind the block stands what is the same in each such line.
use Rattle.std.proofs.Common.{◌∙◌, ◌++◌, ap, sym, refl, append_assoc, decimal}
use Rattle.am_control.proofs.write.put_rest.Goals as goal

pub returns-clause-text : goal.returns-clause-text
returns-clause-text c =
    let block = decimal c.args.row.now.block in
    let tail = c.args.tail.now in
    let quiet = c.as_bytes.result.now in
    c.put_number.ensures.text ∙ ap (λ t. block ++ t) c.put_all.ensures.text ∙ sym (append_assoc block quiet tail)
    ∙ ap (λ t. t ++ tail) (ap (λ q. block ++ q) c.as_bytes.ensures.value ∙ sym (c.if-not-is_quiet.ensures refl))
