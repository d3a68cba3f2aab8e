use Rattle.std.proofs.Common.{◌≡◌, ◌∙◌, ◌<◌, length, get_or, ap, sym, subst}
use Rattle.am_world.specs.Generating.{entries}
use Rattle.am_world.specs.Making.{RoutesValue}
use Rattle.am_world.proofs.RouteLemmas.{entry-within}
use Rattle.am_world.proofs.generating.draw_entry.Goals as goal

pub returns-clause-node_within : goal.returns-clause-node_within
returns-clause-node_within c =
    let d = c.args.domain.now in
    let k = c.draw-entry.result in
    let is : c.entries-entries.result.now ≡ entries d = c.entries-entries.ensures ∙ ap (λ (r : RoutesValue). r.entries) c.requires.routes in
    subst (λ xs. get_or xs k 0 < length d.nodes) (sym is)
    (entry-within d k (subst (λ xs. k < length xs) is c.draw-entry.ensures.below))
