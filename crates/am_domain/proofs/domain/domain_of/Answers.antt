use Rattle.std.proofs.Common.{◌*◌, ◌-◌, ◌≤◌, length, ap, subst, rules}
use Rattle.am_domain.specs.Domains.{IsMadeOf}
use Rattle.am_domain.specs.Numbers.{AreNumbers}
use Rattle.am_domain.specs.Index.{IsIndex}
use Rattle.am_domain.proofs.CountLemmas.{counts-fit}
use Rattle.am_domain.proofs.DomainLemmas.{some_node, lawful}
use Rattle.am_domain.proofs.domain.domain_of.Goals as goal

pub check_counts-requires-clause-fit : goal.check_counts-requires-clause-fit
check_counts-requires-clause-fit c = counts-fit c.requires.0 c.args.fields c.requires.1 c.requires.2

pub check_blocks-requires-clause-some : goal.check_blocks-requires-clause-some
check_blocks-requires-clause-some c = some_node c.requires.0 c.args.fields c.requires.2

pub invariant_of-result : goal.invariant_of-result
invariant_of-result c =
    let f = c.args.fields in
    let b = c.in-Ok-check_blocks.blocks in
    let made : IsMadeOf f (record { times = c.in-Ok.timing; kind = c.marking.inside.place; workers = c.marking.inside.workers; flows = c.fields.inside.flows.items; nodes = c.fields.inside.nodes.items; links = c.in-Ok-check_ends.edges.items; first = b.0; end = b.1 }) =
    record { times = search rules; kind = search rules; workers = search rules; flows = search rules; nodes = search rules; laid_out = search rules; kept = search rules } in
    let few : length c.fields.inside.flows.items * (b.1 - b.0) ≤ 32768 = rw (ap (λ f. f.flows) c.fields.view_is) c.in-Ok-check_blocks.ensures.few in (
      lawful c.requires.0 f _ c.requires.2 made c.in-Ok-check_blocks.ensures.some few,
      subst (λ flows. AreNumbers flows c.in-Ok-numbers_of.numbers.items) c.as_slice-2.ensures.value c.in-Ok-numbers_of.ensures,
      subst (λ flows. IsIndex flows c.in-Ok-index_of.index) c.as_slice-3.ensures.value c.in-Ok-index_of.ensures,
    )
