-- The numbers are put from the last to the first.
use Rattle.std.proofs.Common.{rules, ap, ◌∙◌, ◌++◌}
use Rattle.std.proofs.lemmas.Int.{to_z-of_z}
use Rattle.std.specs.Fmt.{signed_decimal}
use Rattle.std.specs.Int.{w64, w128}
use Rattle.am_control.proofs.WritingLemmas.{rest-put}
use Rattle.am_control.proofs.write.put_columns.Goals as goal

pub returns-clause-text : goal.returns-clause-text
returns-clause-text c =
    rest-put c.args.row.now c.from.result _ _ _ _ _ _ _ _ _ _ _ _ _ _ _ _ _ (c.from.ensures ∙ to_z-of_z w64 c.args.row.now.lost (search rules))
    c.put.ensures.text c.put_delay.ensures.text c.put-2.ensures.text c.put_number.ensures.text c.put-3.ensures.text c.put_number-2.ensures.text
    c.put-4.ensures.text c.put_delay-2.ensures.text c.put-5.ensures.text (c.put_signed.ensures.text ∙ ap (λ z. signed_decimal z ++ c.put-5.new.self) (to_z-of_z w128 c.from.result (search rules)))
    c.put-6.ensures.text c.put_number-3.ensures.text
    c.put-7.ensures.text c.put_number-4.ensures.text c.put-8.ensures.text c.put_number-5.ensures.text
