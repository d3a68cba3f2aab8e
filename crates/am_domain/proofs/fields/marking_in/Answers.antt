use Rattle.std.proofs.Common.{inl, inr, refl}
use Rattle.am_domain.proofs.fields.marking_in.Goals as goal

pub returns-in_default-workers_at-clause-bad : goal.returns-in_default-workers_at-clause-bad
returns-in_default-workers_at-clause-bad c =
    let none = rw c.in_default-workers_at.is at c.workers_at.ensures.none in
    inr ((c.in-Some.place, c.in-Some.ensures.only), inl (refl, λ h. none h.0 h.1))
