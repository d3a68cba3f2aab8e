use Rattle.std.proofs.lemmas.Fmt.{IsAscii-from_digits}
use Rattle.std.proofs.lemmas.Str.{IsUtf8-from_ascii}
use Rattle.am_base.proofs.number.decimal.Goals as goal

-- digits are text
pub returns-in-Err : goal.returns-in-Err
returns-in-Err c = λ d. c.in-Err.ensures.cases.0 (IsUtf8-from_ascii _ (IsAscii-from_digits _ d.digits.1))
