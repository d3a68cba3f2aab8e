use Rattle.std.proofs.Common.{◌∙◌, ◌∷◌, [], ◌++◌, map, sym, ap, zero-add}
use Rattle.std.specs.List.{range_with_len}
use Rattle.std.proofs.lemmas.List.{map-append}
use Rattle.std.proofs.lemmas.List.FromFn.{map-range_with_len_more}
use Rattle.am_world.specs.Generating.{links_from}
use Rattle.am_world.proofs.routes.links_of.Goals as goal

pub loop-node-preserved : goal.loop-node-preserved
loop-node-preserved c =
    let n = c.loop-node.node in
    let f = links_from c.args.links.now in
    ap (map (λ v. v.items)) c.in_ok-push.ensures.items
    ∙ map-append (λ v. v.items) c.loop-node.lists.items (c.in_ok-list.list ∷ [])
    ∙ ap (λ xs. xs ++ c.in_ok-list.list.items ∷ []) c.loop-node.invariant
    ∙ ap (λ x. map f (range_with_len 0 n) ++ x ∷ []) c.in_ok-list.ensures
    ∙ sym (map-range_with_len_more f 0 n n (zero-add n))
