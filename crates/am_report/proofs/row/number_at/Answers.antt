use Rattle.std.proofs.Common.{◌∙◌, Some, sym, ap}
use Rattle.std.specs.Prelude.{decimal}
use Rattle.std.proofs.lemmas.Option.{same_Some}
use Rattle.am_report.proofs.DecimalLemmas.{canonical, is-decimal}
use Rattle.am_report.proofs.row.number_at.Goals as goal

pub returns-in_default-decimal-clause-none : goal.returns-in_default-decimal-clause-none
returns-in_default-decimal-clause-none c = λ n fits there.
    let text = same_Some _ _ (c.in-Some.ensures.value ∙ there) in
    c.in_default-decimal.ensures (rw text (is-decimal n fits))

pub returns-clause-found : goal.returns-clause-found
returns-clause-found c =
    let number = c.in-Some-decimal.ensures in
    sym c.in-Some.ensures.value ∙ ap Some (canonical _ number.0 ∙ ap decimal (sym number.1))
