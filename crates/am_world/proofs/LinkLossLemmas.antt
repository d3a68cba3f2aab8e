-- What the captures at the ends of a link count: the packets that passed there, and so those that were dropped between.
use Rattle.std.proofs.Common.{◌≡◌, ◌∙◌, ℕ, ◌+◌, ◌<◌, Bool, true, false, cond, eqb, ◌&&◌, List, [], ◌∷◌, length, Option, Some, None, refl, sym, ap, subst, arith, inl, inr}
use Rattle.std.specs.List.{list_any}
use Rattle.std.proofs.lemmas.Bool.{false≢true, eqb-true, eq-eqb, false_from_ne_true}
use Rattle.am_clock.specs.Times.{IsTiming}
use Rattle.am_domain.specs.declared.link.Edge.{Edge}
use Rattle.am_domain.specs.Network.{has_links_in, has_links_out}
use Rattle.am_domain.specs.Values.{FlowValue}
use Rattle.am_domain.specs.Domains.{DomainValue}
use Rattle.am_graph.specs.Lists.{list_at}
use Rattle.am_graph.specs.Graphs.{graph_of, start_of, end_of}
use Rattle.am_graph.specs.Clusters.{ClustersValue, AreClusters, IsLinkChain, count_of, cluster_of}
use Rattle.am_meter.specs.declared.stream.Marked.{Marked}
use Rattle.am_world.specs.declared.event.Event.{Event}
use Rattle.am_world.specs.Events.{event_packet, events_of, is_lost, present}
use Rattle.am_world.specs.Passes.{sends, passed_at, Records}
use Rattle.am_world.specs.Drops.{is_at, is_start, is_dropped, dropped_in}
use Rattle.am_world.specs.LinkLosses.{StandsAlone, CoversAt, CoverEnds, RecordEnds, is_start_of, is_end_of, dropped_on, counted_at, TellsLink}
use Rattle.am_world.proofs.SumLemmas.{sum-same}
use Rattle.am_world.proofs.JourneyLemmas.{AreSides}
use Rattle.am_world.proofs.ClusterLemmas.{end-has, start-has, same-tests, among-from, from-among}
use Rattle.am_world.proofs.ConservationLemmas.{starts-conserved, ends-conserved}
use Rattle.am_world.proofs.AttributionLemmas.{attributed}
use Rattle.am_world.proofs.CountingLemmas.{covered-all}
use Rattle.am_world.proofs.LawLemmas.{sends-only}
use Rattle.am_world.proofs.DropLemmas.{none-stays}

-- the ends of a link that stands alone are its sides
link-sides : (links : List Edge) (link : ℕ) → StandsAlone links link
    → AreSides links (λ l. eqb l link) (is_start_of links link) (is_end_of links link)
link-sides links link alone = record {
  begins = λ l below. same-tests (eqb (start_of links l) (start_of links link)) (eqb l link)
      (λ h. eq-eqb l link (alone.begins l below (eqb-true (start_of links l) (start_of links link) h)))
      (λ h. eq-eqb (start_of links l) (start_of links link) (ap (start_of links) (eqb-true l link h)));
  arrives = λ l below. same-tests (eqb (end_of links l) (end_of links link)) (eqb l link)
      (λ h. eq-eqb l link (alone.ends l below (eqb-true (end_of links l) (end_of links link) h)))
      (λ h. eq-eqb (end_of links l) (end_of links link) (ap (end_of links) (eqb-true l link h)));
}

-- no link ends at an entry, so it isn't the link's end
entry-not-end : (links : List Edge) (link : ℕ) → link < length links → (node : ℕ) → has_links_in links node ≡ false
    → is_end_of links link node ≡ false
entry-not-end links link below node none = false_from_ne_true (eqb node (end_of links link)) (λ h.
    let there : has_links_in links node ≡ true
    = subst (λ n. has_links_in links n ≡ true) (sym (eqb-true node (end_of links link) h)) (end-has links link below) in
    false≢true (sym none ∙ there))

-- a link begins at its start
start-leads : (links : List Edge) (link : ℕ) → link < length links → (node : ℕ) → is_start_of links link node ≡ true
    → has_links_out links node ≡ true
start-leads links link below node h =
    subst (λ n. has_links_out links n ≡ true) (sym (eqb-true node (start_of links link) h)) (start-has links link below)

module _ (d : DomainValue) (events : List Event) (link : ℕ) (ups downs : List Marked) (flow block : ℕ)
    (timing : IsTiming d.times) (alone : StandsAlone d.links link) (recorded : RecordEnds d events link ups downs)
    (flow_within : flow < length d.flows) (covered : CoverEnds d link block) where
  -- what counts at a node is what passed there
  node-counts : (node : ℕ) (ms : List Marked) → Records d events node ms → CoversAt d node block → (f : FlowValue)
      → counted_at d node flow f block ms ≡ passed_at d.links (λ n. eqb n node) (sends d.times flow block) events
  node-counts node ms records covers f =
      covered-all d events recorded.valid.journeys (attributed d events timing recorded.valid.journeys recorded.timed)
      node ms records flow block f flow_within covers (λ _. 1)

  -- what passed the start passed the end, or was dropped
  link-conserved : passed_at d.links (is_start_of d.links link) (sends d.times flow block) events
      ≡ passed_at d.links (is_end_of d.links link) (sends d.times flow block) events
      + dropped_on d.links link (sends d.times flow block) events
  link-conserved =
      let so = sends d.times flow block in
      let only = sends-only d.times flow block in
      let inside = λ (l : ℕ). eqb l link in
      let starts = is_start_of d.links link in
      let ends = is_end_of d.links link in
      let sides = link-sides d.links link alone in
      let entries = entry-not-end d.links link alone.within in
      let came = starts-conserved d inside starts ends sides entries so only events recorded.valid.journeys in
      let went = ends-conserved d inside starts ends sides entries so only events recorded.valid.journeys in
      let none = none-stays d starts (start-leads d.links link alone.within) so events recorded.valid.over in
      omega (arith, came, went, none)

  -- so the captures tell the link
  pub link-told : TellsLink d events link ups downs flow block
  link-told =
      let came = node-counts (start_of d.links link) ups recorded.start covered.start in
      let went = node-counts (end_of d.links link) downs recorded.end covered.end in
      record {
        entered = came;
        left = went;
        lost = λ f. came f ∙ link-conserved ∙ ap (λ n. n + dropped_on d.links link (sends d.times flow block) events) (sym (went f));
      }

-- a chain of neighbours from a link that stands alone leads to itself
alone-chained : (links : List Edge) (link : ℕ) → StandsAlone links link → (chain : List ℕ) (first last : ℕ) → first ≡ link
    → IsLinkChain links first chain last → last ≡ link
alone-chained links link alone [] first last is c = sym c ∙ is
alone-chained links link alone (next ∷ rest) first last is c =
    let again : next ≡ link = elim c.1 [
      | inl begins ↦ alone.begins next c.0 (sym begins ∙ ap (start_of links) is)
      | inr ends ↦ alone.ends next c.0 (sym ends ∙ ap (end_of links) is)
    ] in
    alone-chained links link alone rest next last again c.2

-- tests of a node that agree
at-agrees : (f g : ℕ → Bool) → ((v : ℕ) → f v ≡ g v) → (at : Option ℕ) → is_at f at ≡ is_at g at
at-agrees f g each None = refl
at-agrees f g each (Some v) = each v

module _ (d : DomainValue) (c : ClustersValue) (link : ℕ) (of : AreClusters (graph_of d) c)
    (alone : StandsAlone d.links link) where
  within-cluster : cluster_of c link < count_of c
  within-cluster = of.numbered.below link (omega (arith, of.each, alone.within))

  -- the only start of its cluster is its own
  one-start : (node : ℕ) → is_start c (cluster_of c link) node ≡ is_start_of d.links link node
  one-start node =
      let k = cluster_of c link in
      let starts = (of.starts k within-cluster).has node in
      same-tests (is_start c k node) (eqb node (start_of d.links link))
      (λ h.
      let at = starts.0 (from-among (list_at c.starts k) node h) in
      let below : at.0 < length d.links = omega (arith, at.1.within, of.each) in
      let chained = (of.joined link at.0 alone.within below).0 (sym at.1.here) in
      let same = alone-chained d.links link alone chained.0 link at.0 refl chained.1 in
      eq-eqb node (start_of d.links link) (sym at.2 ∙ ap (start_of d.links) same))
      (λ h. among-from (list_at c.starts k) node (starts.1 (
        link,
        record { within = omega (arith, of.each, alone.within); here = refl },
        sym (eqb-true node (start_of d.links link) h),
      )))

  -- so what is dropped in its cluster is dropped between its ends
  pub dropped-alone : (so : Event → Bool) (events : List Event)
      → dropped_in d.links c (cluster_of c link) so events ≡ dropped_on d.links link so events
  dropped-alone so events =
      sum-same
      (λ e. cond (so e && is_dropped d.links (is_start c (cluster_of c link)) (events_of events (event_packet e))) 1 0)
      (λ e. cond (so e && is_dropped d.links (is_start_of d.links link) (events_of events (event_packet e))) 1 0) events
      (λ e _. ap (λ b. cond (so e && (list_any is_lost (events_of events (event_packet e)) && b)) 1 0)
      (at-agrees (is_start c (cluster_of c link)) (is_start_of d.links link) one-start
      (present d.links (events_of events (event_packet e)))))
