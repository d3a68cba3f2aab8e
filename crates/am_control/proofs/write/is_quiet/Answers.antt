-- Seven numbers that are 0.
use Rattle.std.proofs.Common.{rules, ◌≡◌, ◌∙◌, ap, sym, refl, to_z}
use Rattle.std.proofs.lemmas.Int.{to_z-of_z}
use Rattle.std.specs.Prelude.{pos}
use Rattle.std.specs.Int.{w64}
use Rattle.am_control.proofs.WritingLemmas.{quiet-rest}
use Rattle.am_control.proofs.write.is_quiet.Goals as goal

pub returns : goal.returns
returns c = λ quiet.
    let r = c.args.row.now in
    let lost : r.lost ≡ pos 0 = sym (to_z-of_z w64 r.lost (search rules)) ∙ ap (to_z w64) c.if-row-ne0-3.false in
    quiet-rest r c.if-row-ne0.false c.if-row-ne0-2.false lost (c.if-not-is_zero.ensures refl) c.if-row-ne0-4.false c.if-row-ne0-5.false
    (c.is_zero-2.ensures quiet)
