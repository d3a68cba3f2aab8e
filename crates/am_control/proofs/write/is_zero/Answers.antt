-- A number of 128 bits whose bits are all 0 is 0.
use Rattle.std.proofs.Common.{rules, ◌≡◌, ◌∙◌, ap, sym, to_z, of_z}
use Rattle.std.proofs.lemmas.Int.{to_z-of_z}
use Rattle.std.specs.Prelude.{pos}
use Rattle.std.specs.Fmt.{signed_decimal}
use Rattle.std.specs.Int.{w128}
use Rattle.am_control.specs.Texts.{delay_text}
use Rattle.am_control.proofs.WritingLemmas.{decimal-zero}
use Rattle.am_control.proofs.write.is_zero.Goals as goal

pub returns-else-delay-ne0 : goal.returns-else-delay-ne0
returns-else-delay-ne0 c = λ yes.
    let none : of_z w128 c.in-Some.delay ≡ 0 = c.if-delay-ne0.false in
    let is : c.in-Some.delay ≡ pos 0 = sym (to_z-of_z w128 c.in-Some.delay (search rules)) ∙ ap (to_z w128) none in
    ap delay_text c.in-Some.is ∙ ap signed_decimal is ∙ decimal-zero
