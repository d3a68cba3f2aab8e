-- The numbers are put from the last to the first.
use Rattle.std.proofs.Common.{◌++◌, ◌∙◌, ap, decimal}
use Rattle.am_run.proofs.ShowSteps.{record_put}
use Rattle.am_run.proofs.commands.show.put_record.Goals as goal

pub returns : goal.returns
returns c =
    record_put _ _ _ _ _ _ _ _ _ _ _ _ _ c.put.ensures.text (c.put_number.ensures.text ∙ ap (λ r. decimal r ++ c.put.new.self) c.from.ensures) c.put-2.ensures.text c.put_number-2.ensures.text
    c.put-3.ensures.text (c.put_number-3.ensures.text ∙ ap (λ r. decimal r ++ c.put-3.new.self) c.reading.ensures)
    c.put-4.ensures.text c.put_number-4.ensures.text
