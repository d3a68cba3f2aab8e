use Rattle.std.proofs.Common.{inl, inr, refl, ◌∙◌}
use Rattle.std.proofs.lemmas.Bool.{true≢false}
use Rattle.am_domain.proofs.flow.FlowEntry.read.Goals as goal

pub returns-in_default-prefix_at-clause-bad : goal.returns-in_default-prefix_at-clause-bad
returns-in_default-prefix_at-clause-bad c =
    let none = rw c.in_default-prefix_at.is at c.prefix_at.ensures.none in
    inr ((c.in-Some.name.now, c.in-Some.ensures.only), inr ((c.in-Some-id_at.id, c.in-Some-id_at.ensures.only), inl (refl, λ h. none h.0 h.1)))

pub returns-in_default-prefix_at-2-clause-bad : goal.returns-in_default-prefix_at-2-clause-bad
returns-in_default-prefix_at-2-clause-bad c =
    let none = rw c.in_default-prefix_at-2.is at c.prefix_at-2.ensures.none in
    inr ((c.in-Some.name.now, c.in-Some.ensures.only), inr ((c.in-Some-id_at.id, c.in-Some-id_at.ensures.only), inr ((c.in-Some-prefix_at.source, c.in-Some-prefix_at.ensures.only), inl (refl, λ h. none h.0 h.1))))

pub returns-then-has_other_key-clause-bad : goal.returns-then-has_other_key-clause-bad
returns-then-has_other_key-clause-bad c =
    inr ((c.in-Some.name.now, c.in-Some.ensures.only), inr ((c.in-Some-id_at.id, c.in-Some-id_at.ensures.only), inr ((c.in-Some-prefix_at.source, c.in-Some-prefix_at.ensures.only), inr ((c.in-Some-prefix_at-2.destination, c.in-Some-prefix_at-2.ensures.only), inl (refl, λ known. true≢false (c.if-has_other_key.ensures ∙ known))))))
