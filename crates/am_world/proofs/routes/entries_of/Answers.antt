use Rattle.std.proofs.Common.{◌≡◌, ◌∙◌, ◌∷◌, [], ◌++◌, true, false, rules, sym, ap}
use Rattle.std.specs.Prelude.{not}
use Rattle.am_domain.specs.Network.{has_links_in}
use Rattle.am_world.proofs.RouteLemmas.{passing-keeps, passing-adds}
use Rattle.am_world.proofs.routes.entries_of.Goals as goal
use Rattle.am_world.proofs.routes.entries_of.Goals.{then-not-has_links_in+in_ok-push, else-not-has_links_in}

pub loop-node-preserved : goal.loop-node-preserved
loop-node-preserved c =
    let node = c.loop-node.node in
    let has = has_links_in c.args.links.now in
    elim c.if-not-has_links_in.branch [
      | then-not-has_links_in+in_ok-push w ↦
          let away : has node ≡ false = search rules in
          ap (λ v. v.items) w.entries-is ∙ w.in_ok-push.ensures.items ∙ ap (λ xs. xs ++ node ∷ []) c.loop-node.invariant
          ∙ sym (passing-adds (λ n. not (has n)) node (ap not away))
      | else-not-has_links_in w ↦
          let there : has node ≡ true = search rules in
          ap (λ v. v.items) w.entries-is ∙ c.loop-node.invariant ∙ sym (passing-keeps (λ n. not (has n)) node (ap not there))
    ]
