use Rattle.std.proofs.Common.{◌≡◌, ◌≢◌, ◌<◌, ◌+◌, None, length, replicate, ap, sym, subst, ◌∙◌, rules, arith}
use Rattle.std.proofs.lemmas.List.{get_or_read, with_items_is}
use Rattle.am_graph.specs.Graphs.{start_of}
use Rattle.am_graph.specs.Walks.{AreFound, AreSettled, IsUnused, Walks, cluster_at}
use Rattle.am_graph.proofs.ReachLemmas.{none-from, some-there}
use Rattle.am_graph.proofs.FoundLemmas.{found-none, found-same, found-more, ends-unused}
use Rattle.am_graph.proofs.find.walk_all.Goals as goal
use Rattle.am_graph.proofs.find.walk_all.Goals.{then-is_none+in_ok-walk, else-is_none}

pub loop-k-init : goal.loop-k-init
loop-k-init c =
    let starts : c.in_ok-starts.starts.items ≡ replicate c.args.graph.now.nodes None =
    c.in_ok-starts.ensures.items_if_clones_equal (λ y h. search rules) ∙ ap (λ n. replicate n None) c.nodes.ensures.value in
    let ends : c.in_ok-ends.ends.items ≡ replicate c.args.graph.now.nodes None =
    c.in_ok-ends.ensures.items_if_clones_equal (λ y h. search rules) ∙ ap (λ n. replicate n None) c.nodes-2.ensures.value in
    record {
      starts_each = omega (arith, c.in_ok-starts.ensures.len, c.in_ok-starts.starts.ok.0, c.nodes.ensures.value);
      ends_each = omega (arith, c.in_ok-ends.ensures.len, c.in_ok-ends.ends.ok.0, c.nodes-2.ensures.value);
      few = omega arith;
      found = subst (λ s. AreFound c.args.graph.now.links 0 0 s c.in_ok-ends.ends.items) (sym starts)
          (subst (λ e. AreFound c.args.graph.now.links 0 0 (replicate c.args.graph.now.nodes None) e) (sym ends)
          (found-none c.args.graph.now.links c.args.graph.now.nodes));
    }

pub walk-requires-clause-settled : goal.walk-requires-clause-settled
walk-requires-clause-settled c =
    subst (λ s. AreSettled c.args.graph.now.links s c.as_mut_slice-then-is_none.result.now) (sym c.as_mut_slice.ensures.value)
    (subst (λ e. AreSettled c.args.graph.now.links c.loop-k.starts.items e) (sym c.as_mut_slice-then-is_none.ensures.value)
    c.loop-k.invariant.found.settled)

pub walk-requires-clause-ends_unused : goal.walk-requires-clause-ends_unused
walk-requires-clause-ends_unused c =
    subst (IsUnused c.loop-k.count) (sym c.as_mut_slice-then-is_none.ensures.value)
    (ends-unused c.args.graph.now.links c.loop-k.k c.loop-k.count c.loop-k.starts.items c.loop-k.ends.items c.loop-k.invariant.found)

pub loop-k-preserved : goal.loop-k-preserved
loop-k-preserved c =
    let links = c.args.graph.now.links in
    let k = c.loop-k.k in
    let within : k < length links = omega (arith, ap length c.links-links.ensures.value) in
    let starts = c.loop-k.starts.items in
    let ends = c.loop-k.ends.items in
    let within_starts : start_of links k < length starts = omega (arith, c.links-links.ensures.starts_within k within, c.loop-k.invariant.starts_each) in
    let read : c.index.result.now ≡ cluster_at starts (start_of links k) =
    subst (λ ls. c.index.result.now ≡ cluster_at starts (start_of ls k)) c.links-links.ensures.value
    (get_or_read starts _ _ (subst (λ ls. start_of ls k < length starts) (sym c.links-links.ensures.value) within_starts) c.index.ensures None) in
    elim c.if-is_none.branch [
      | then-is_none+in_ok-walk w ↦ (
          let none : cluster_at starts (start_of links k) ≡ None = sym read ∙ none-from c.index.result.now w.if-is_none.ensures in
          let walked : Walks links k c.loop-k.count starts ends w.walk.new.starts w.walk.new.ends =
          subst (λ s. Walks links k c.loop-k.count s ends w.walk.new.starts w.walk.new.ends) w.as_mut_slice.ensures.value
          (subst (λ e. Walks links k c.loop-k.count w.as_mut_slice.result.now e w.walk.new.starts w.walk.new.ends) w.as_mut_slice-then-is_none.ensures.value
          w.in_ok-walk.ensures) in
          let new_starts : c.if-is_none.starts.items ≡ w.walk.new.starts = ap (λ v. v.items) w.starts-is ∙ with_items_is c.loop-k.starts w.walk.new.starts (omega (arith, walked.starts.same, c.loop-k.starts.ok.0)) in
          let new_ends : c.if-is_none.ends.items ≡ w.walk.new.ends = ap (λ v. v.items) w.ends-is ∙ with_items_is c.loop-k.ends w.walk.new.ends (omega (arith, walked.ends.same, c.loop-k.ends.ok.0)) in
          record {
            starts_each = ap length new_starts ∙ walked.starts.same ∙ c.loop-k.invariant.starts_each;
            ends_each = ap length new_ends ∙ walked.ends.same ∙ c.loop-k.invariant.ends_each;
            few = omega (arith, w.count-is, c.loop-k.invariant.few);
            found = subst (λ n. AreFound links (k + 1) n c.if-is_none.starts.items c.if-is_none.ends.items) (sym w.count-is)
                (subst (λ s. AreFound links (k + 1) (c.loop-k.count + 1) s c.if-is_none.ends.items) (sym new_starts)
                (subst (λ e. AreFound links (k + 1) (c.loop-k.count + 1) w.walk.new.starts e) (sym new_ends)
                (found-more links k c.loop-k.count starts ends w.walk.new.starts w.walk.new.ends within c.loop-k.invariant.found none walked)));
          }
          )
      | else-is_none w ↦ (
          let there : cluster_at starts (start_of links k) ≢ None = λ e. some-there c.index.result.now w.if-is_none.ensures (read ∙ e) in
          let same_starts : c.if-is_none.starts.items ≡ starts = ap (λ v. v.items) w.starts-is in
          let same_ends : c.if-is_none.ends.items ≡ ends = ap (λ v. v.items) w.ends-is in
          record {
            starts_each = ap length same_starts ∙ c.loop-k.invariant.starts_each;
            ends_each = ap length same_ends ∙ c.loop-k.invariant.ends_each;
            few = omega (arith, w.count-is, c.loop-k.invariant.few);
            found = subst (λ n. AreFound links (k + 1) n c.if-is_none.starts.items c.if-is_none.ends.items) (sym w.count-is)
                (subst (λ s. AreFound links (k + 1) c.loop-k.count s c.if-is_none.ends.items) (sym same_starts)
                (subst (λ e. AreFound links (k + 1) c.loop-k.count starts e) (sym same_ends)
                (found-same links k c.loop-k.count starts ends c.loop-k.invariant.found there)));
          }
          )
    ]

pub returns-clause-found : goal.returns-clause-found
returns-clause-found c =
    let all : c.loop-k.k ≡ length c.args.graph.now.links = omega (arith, ap length c.links-links.ensures.value) in
    subst (λ n. AreFound c.args.graph.now.links n c.loop-k.count c.loop-k.starts.items c.loop-k.ends.items) all c.loop-k.invariant.found

pub returns-clause-few : goal.returns-clause-few
returns-clause-few c = omega (arith, ap length c.links-links.ensures.value)
