use Rattle.std.proofs.Common.{◌∙◌, ◌∷◌, [], ◌++◌, eqb, sym, ap}
use Rattle.std.proofs.lemmas.Bool.{eqb-true, eq-eqb, false_from_ne_true}
use Rattle.am_graph.specs.Graphs.{start_of}
use Rattle.am_world.proofs.RouteLemmas.{passing-keeps, passing-adds}
use Rattle.am_world.proofs.routes.links_from.Goals as goal
use Rattle.am_world.proofs.routes.links_from.Goals.{then-links-link+in_ok-push, else-links-link}

pub loop-link-preserved : goal.loop-link-preserved
loop-link-preserved c =
    let k = c.loop-link.link in
    let links = c.args.links.now in
    let node = c.args.node in
    elim c.if-links-link.branch [
      | then-links-link+in_ok-push w ↦
          ap (λ v. v.items) w.list-is ∙ w.in_ok-push.ensures.items ∙ ap (λ xs. xs ++ k ∷ []) c.loop-link.invariant
          ∙ sym (passing-adds (λ link. eqb (start_of links link) node) k (eq-eqb (start_of links k) node w.if-links-link.true))
      | else-links-link w ↦
          ap (λ v. v.items) w.list-is ∙ c.loop-link.invariant
          ∙ sym (passing-keeps (λ link. eqb (start_of links link) node) k
          (false_from_ne_true (eqb (start_of links k) node) (λ h. w.if-links-link.false (eqb-true (start_of links k) node h))))
    ]
