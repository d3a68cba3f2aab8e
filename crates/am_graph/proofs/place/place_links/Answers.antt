use Rattle.std.proofs.Common.{◌≡◌, ℕ, ◌+◌, ◌<◌, ◌++◌, ◌∷◌, [], arith, refl, sym, ap, subst, ◌∙◌, get_or, length}
use Rattle.std.proofs.Math.ListN.{length-set}
use Rattle.am_graph.specs.Lists.{list_at, IsListOf}
use Rattle.am_graph.proofs.PlaceLemmas.{lists-more}
use Rattle.am_graph.proofs.place.place_links.Goals as goal

pub loop-k-preserved : goal.loop-k-preserved
loop-k-preserved c =
    let k = c.loop-k.k in
    let lists = c.loop-k.lists in
    let place = get_or c.args.of_link.now k 0 in
    let early : k < length c.args.of_link.now = omega arith in
    let within : place < length lists = omega (arith, c.requires.below k early, c.loop-k.invariant.each) in
    let same = length-set lists place (list_at lists place ++ k ∷ []) in
    record {
      each = ap length c.in_ok-push.ensures ∙ same ∙ c.loop-k.invariant.each;
      value = subst (λ ls. (d : ℕ) → d < length ls → IsListOf (λ x. (x < k + 1) × (get_or c.args.of_link.now x 0 ≡ d)) (list_at ls d)) (sym c.in_ok-push.ensures)
          (λ d h. lists-more (λ d x. get_or c.args.of_link.now x 0 ≡ d) k place lists within refl (λ d e. sym e) c.loop-k.invariant.value d (omega (arith, h, same)));
    }

pub returns-clause-value : goal.returns-clause-value
returns-clause-value c = λ cluster h.
    let all : c.loop-k.k ≡ length c.args.of_link.now = omega arith in
    subst (λ n. IsListOf (λ x. (x < n) × (get_or c.args.of_link.now x 0 ≡ cluster)) (list_at c.loop-k.lists cluster)) all
    (c.loop-k.invariant.value cluster (omega (arith, h, c.loop-k.invariant.each)))
