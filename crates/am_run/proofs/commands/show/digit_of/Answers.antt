-- A bit is a number of one digit.
use Rattle.std.proofs.Common.{◌≡◌, [], ◌∷◌, ◌∙◌, ap, arith, Bool, true, false, decimal}
use Rattle.std.proofs.lemmas.Fmt.{decimal_digit}
use Rattle.am_opts.specs.Marking.{bit}
use Rattle.am_run.proofs.commands.show.digit_of.Goals as goal

one_is : (b : Bool) → b ≡ true → decimal (bit b) ≡ 49 ∷ []
one_is b is = ap (λ x. decimal (bit x)) is ∙ decimal_digit 1 (omega arith)

none_is : (b : Bool) → b ≡ false → decimal (bit b) ≡ 48 ∷ []
none_is b is = ap (λ x. decimal (bit x)) is ∙ decimal_digit 0 (omega arith)

pub returns-then-set : goal.returns-then-set
returns-then-set c = one_is c.args.set c.if-set.true

pub returns-else-set : goal.returns-else-set
returns-else-set c = none_is c.args.set c.if-set.false
