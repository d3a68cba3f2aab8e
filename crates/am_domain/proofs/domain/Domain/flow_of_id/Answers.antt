-- A number that isn't among the flows' numbers is no flow's.
use Rattle.std.proofs.Common.{ap, subst, sym, ◌≢◌, All}
use Rattle.am_domain.specs.Domains.{DomainValue}
use Rattle.am_domain.specs.Lookups.{NoneHas, HasId}
use Rattle.am_domain.specs.declared.numbers.Numbered.{Numbered}
use Rattle.am_domain.proofs.NumberLemmas.{none-numbered}
use Rattle.am_domain.proofs.domain.Domain.flow_of_id.Goals as goal

pub returns-in-None-clause-none : goal.returns-in-None-clause-none
returns-in-None-clause-none c =
    let none = subst (λ xs. All (λ (n : Numbered). n.id ≢ c.args.id) xs) c.as_slice.ensures.value c.in-None.ensures.none in
    subst (λ flows. NoneHas (HasId c.args.id) flows) (ap (λ (d : DomainValue). d.flows) c.self.view_is)
    (none-numbered c.self.inside.flows.items c.self.inside.numbers.items c.args.id c.self.invariant.1 none)

pub returns-in-None-clause-of : goal.returns-in-None-clause-of
returns-in-None-clause-of c = λ i d within is. absurd (returns-in-None-clause-none c i d within (sym is))
