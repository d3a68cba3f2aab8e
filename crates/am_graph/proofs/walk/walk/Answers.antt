use Rattle.std.proofs.Common.{◌≡◌, Some, [], Contains, length, subst, ◌∙◌, inl, inr, arith}
use Rattle.std.proofs.lemmas.Bool.Decides.{nat_tests}
use Rattle.std.proofs.lemmas.List.{nil_from_length}
use Rattle.am_graph.specs.Graphs.{start_of}
use Rattle.am_graph.specs.Walks.{Reaches, IsBeside, cluster_at}
use Rattle.am_graph.proofs.WalkLemmas.{nothing, within-some, walking-begins, walking-on, walking-done, wave-within, ahead-within, back-within}
use Rattle.am_graph.proofs.walk.walk.Goals as goal

pub waves-init : goal.waves-init
waves-init c =
    let links = c.args.graph.now.links in
    let first = subst (λ ls. Reaches (λ x. x ≡ start_of ls c.args.link) c.args.cluster c.args.starts.now c.reach.new.clusters c.new-wave.result.items c.reach.new.wave.items)
    c.links.ensures.value c.in_ok-reach.ensures in
    let alone = subst (λ before. Reaches (λ x. x ≡ start_of links c.args.link) c.args.cluster c.args.starts.now c.reach.new.clusters before c.reach.new.wave.items)
    c.new-wave.ensures.items first in
    walking-begins links c.args.link c.args.cluster c.args.starts.now c.args.ends.now c.reach.new.clusters c.reach.new.wave.items
    c.requires.within c.requires.settled c.requires.starts_unused c.requires.ends_unused c.requires.unreached alone

pub next_wave-requires-clause-wave_within : goal.next_wave-requires-clause-wave_within
next_wave-requires-clause-wave_within c = λ node h.
    let each = c.waves.invariant.of_starts.same ∙ c.requires.starts_each in
    let less = wave-within c.args.graph.now.nodes c.args.cluster c.waves.starts (Contains c.waves.wave.items) node each c.waves.invariant.underway.waiting
    (subst (λ ws. Contains ws node) c.as_slice.ensures.value h) in
    omega (arith, less, c.ahead.ensures.each)

pub next_wave-requires-clause-lists_within : goal.next_wave-requires-clause-lists_within
next_wave-requires-clause-lists_within c = λ place node h.
    let each = c.waves.invariant.of_ends.same ∙ c.requires.ends_each in
    let less = ahead-within c.args.graph.now.links c.args.graph.now.nodes place node c.ahead.result.now c.ahead.ensures c.links.ensures.ends_within h in
    omega (arith, less, each)

pub next_wave-requires-in-waves-clause-wave_within :
    goal.next_wave-requires-in-waves-clause-wave_within
next_wave-requires-in-waves-clause-wave_within c = λ node h.
    let each = c.waves.invariant.of_ends.same ∙ c.requires.ends_each in
    let forth = c.in_ok-reached.ensures in
    let has : cluster_at c.next_wave.new.clusters node ≡ Some c.args.cluster = elim ((forth.wave node).0 (subst (λ ws. Contains ws node) c.as_slice-in-waves.ensures.value h)) [
      | inl none ↦ absurd (nothing node none)
      | inr got ↦ got.has
    ] in
    let less = within-some c.next_wave.new.clusters node c.args.cluster has in
    omega (arith, less, forth.same, each, c.back.ensures.each)

pub next_wave-requires-in-waves-clause-lists_within :
    goal.next_wave-requires-in-waves-clause-lists_within
next_wave-requires-in-waves-clause-lists_within c = λ place node h.
    let each = c.waves.invariant.of_starts.same ∙ c.requires.starts_each in
    let less = back-within c.args.graph.now.links c.args.graph.now.nodes place node c.back.result.now c.back.ensures c.links.ensures.starts_within h in
    omega (arith, less, each)

pub waves-preserved : goal.waves-preserved
waves-preserved c =
    walking-on c.args.graph.now.links c.args.link c.args.cluster c.args.graph.now.nodes c.ahead.result.now c.back.result.now c.args.starts.now c.args.ends.now
    c.waves.starts c.waves.ends c.next_wave-in-waves.new.clusters c.next_wave.new.clusters
    c.waves.wave.items c.in_ok-reached.reached.items c.in_ok-wave.wave.items
    c.ahead.ensures c.back.ensures c.waves.invariant
    (subst (λ ws. Reaches (IsBeside c.ahead.result.now ws) c.args.cluster c.waves.ends c.next_wave.new.clusters [] c.in_ok-reached.reached.items)
    c.as_slice.ensures.value c.in_ok-reached.ensures)
    (subst (λ ws. Reaches (IsBeside c.back.result.now ws) c.args.cluster c.waves.starts c.next_wave-in-waves.new.clusters [] c.in_ok-wave.wave.items)
    c.as_slice-in-waves.ensures.value c.in_ok-wave.ensures)

pub returns : goal.returns
returns c =
    let none : length c.waves.wave.items ≡ 0 = grind (arith, nat_tests) in
    walking-done c.args.graph.now.links c.args.link c.args.cluster c.args.starts.now c.args.ends.now c.waves.starts c.waves.ends c.waves.wave.items
    c.waves.invariant (nil_from_length c.waves.wave.items none)
