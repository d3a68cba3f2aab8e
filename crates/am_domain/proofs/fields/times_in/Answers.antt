use Rattle.std.proofs.Common.{inl, inr, refl, sym, ◌∙◌}
use Rattle.std.proofs.lemmas.Bool.{true≢false}
use Rattle.am_domain.proofs.fields.times_in.Goals as goal

pub returns-in_default-number_at-2-clause-bad : goal.returns-in_default-number_at-2-clause-bad
returns-in_default-number_at-2-clause-bad c =
    let none = rw c.in_default-number_at-2.is at c.number_at-3.ensures.none in
    inr ((c.in-Some.block, c.in-Some.ensures.only), inr ((c.in-Some-number_at.skew, c.in-Some-number_at.ensures.only), inl (refl, λ h. none h.0 h.1)))

pub returns-in_default-number_at-3-clause-bad : goal.returns-in_default-number_at-3-clause-bad
returns-in_default-number_at-3-clause-bad c =
    let none = rw c.in_default-number_at-3.is at c.number_at-4.ensures.none in
    inr ((c.in-Some.block, c.in-Some.ensures.only), inr ((c.in-Some-number_at.skew, c.in-Some-number_at.ensures.only), inr ((c.in-Some-number_at-2.delay_min, c.in-Some-number_at-2.ensures.only), inl (refl, λ h. none h.0 h.1))))

pub returns-then-has_other_key-clause-bad : goal.returns-then-has_other_key-clause-bad
returns-then-has_other_key-clause-bad c =
    inr ((c.in-Some.block, c.in-Some.ensures.only), inr ((c.in-Some-number_at.skew, c.in-Some-number_at.ensures.only), inr ((c.in-Some-number_at-2.delay_min, c.in-Some-number_at-2.ensures.only), inr ((c.in-Some-number_at-3.delay_max, c.in-Some-number_at-3.ensures.only), inl (refl, λ known. true≢false (c.if-has_other_key.ensures ∙ known))))))

pub returns-clause-ok : goal.returns-clause-ok
returns-clause-ok c = record {
  block = c.in-Some.ensures.only;
  skew = c.in-Some-number_at.ensures.only;
  delay_min = c.in-Some-number_at-2.ensures.only;
  delay_max = c.in-Some-number_at-3.ensures.only;
  known = sym c.if-has_other_key.ensures;
}
