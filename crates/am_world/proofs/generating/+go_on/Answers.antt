use Rattle.std.proofs.Common.{◌≡◌, ◌∙◌, ◌<◌, length, sym, ap, subst, arith}
use Rattle.std.proofs.lemmas.Bool.{eqb-true}
use Rattle.am_graph.specs.Lists.{list_at}
use Rattle.am_world.specs.Generating.{links_from}
use Rattle.am_world.specs.Making.{RoutesValue, TellsLoss}
use Rattle.am_world.proofs.RouteLemmas.{routes-at, routes-length}
use Rattle.am_world.proofs.MakingLemmas.{on-ok, some-there, ends-here, lost-here, hops-here}
use Rattle.am_world.proofs.generating.+go_on.Goals as goal

pub links_from-links-requires : goal.links_from-links-requires
links_from-links-requires t c =
    let long = routes-length c.args.domain.now in
    let node = c.requires.may.node in
    subst (λ (r : RoutesValue). c.args.way.node < length r.links) (sym c.requires.routes) (omega (arith, long, node))

pub returns-then-is_empty : goal.returns-then-is_empty
returns-then-is_empty t c =
    let d = c.args.domain.now in
    let w = c.args.way in
    let links = c.links_from-links.result.now in
    let is : links ≡ links_from d.links w.node
    = c.links_from-links.ensures ∙ ap (λ (r : RoutesValue). list_at r.links w.node) c.requires.routes
    ∙ routes-at d w.node c.requires.may.node in
    ends-here d w _ _ links is (eqb-true (length links) 0 (sym c.is_empty.ensures ∙ c.if-is_empty.true))

pub returns-then-is_lost : goal.returns-then-is_lost
returns-then-is_lost t c =
    let d = c.args.domain.now in
    let w = c.args.way in
    let links = c.links_from-links.result.now in
    let is : links ≡ links_from d.links w.node
    = c.links_from-links.ensures ∙ ap (λ (r : RoutesValue). list_at r.links w.node) c.requires.routes
    ∙ routes-at d w.node c.requires.may.node in
    lost-here d w _ _ _ _ links is (some-there (length links) c.is_empty.result c.is_empty.ensures c.if-is_empty.false)
    (subst (TellsLoss w c.args.draws.now.left c.is_lost.new.draws.left) c.if-is_lost.true c.is_lost.ensures)
    c.in_ok-push.ensures.items

pub draw_hop-hop-requires-clause-links : goal.draw_hop-hop-requires-clause-links
draw_hop-hop-requires-clause-links t c =
    let d = c.args.domain.now in
    let w = c.args.way in
    c.links_from-links.ensures ∙ ap (λ (r : RoutesValue). list_at r.links w.node) c.requires.routes
    ∙ routes-at d w.node c.requires.may.node

pub returns : goal.returns
returns t c =
    let d = c.args.domain.now in
    let w = c.args.way in
    let links = c.links_from-links.result.now in
    let is : links ≡ links_from d.links w.node
    = c.links_from-links.ensures ∙ ap (λ (r : RoutesValue). list_at r.links w.node) c.requires.routes
    ∙ routes-at d w.node c.requires.may.node in
    on-ok c.go_on.result
    (hops-here d w c.draw_hop-hop.result.1 c.args.draws.now.left c.is_lost.new.draws.left c.draw_hop-hop.new.draws.left
    c.go_on.new.draws.left c.draw_hop-hop.result.0 c.args.events.now.items c.push-2.new.self.items c.go_on.new.events.items
    links is (some-there (length links) c.is_empty.result c.is_empty.ensures c.if-is_empty.false)
    (subst (TellsLoss w c.args.draws.now.left c.is_lost.new.draws.left) c.if-is_lost.false c.is_lost.ensures)
    c.draw_hop-hop.ensures.hop c.draw_hop-hop.ensures.next c.draw_hop-hop.ensures.left c.in_ok-push-2.ensures.items)
    c.go_on.ensures
