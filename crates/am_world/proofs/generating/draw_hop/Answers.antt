use Rattle.std.proofs.Common.{◌<◌, length, get_or, sym, subst}
use Rattle.am_world.proofs.RouteLemmas.{from-within}
use Rattle.am_world.proofs.generating.draw_hop.Goals as goal

pub bounds-edges-link : goal.bounds-edges-link
bounds-edges-link c =
    let d = c.args.domain.now in
    let k = c.draw-chosen.result in
    subst (λ edges. get_or c.args.links.now k 0 < length edges) (sym c.edges.ensures.value)
    (subst (λ xs. get_or xs k 0 < length d.links) (sym c.requires.links)
    (from-within d.links c.args.way.now.node k
    (subst (λ xs. k < length xs) c.requires.links c.draw-chosen.ensures.below)))
