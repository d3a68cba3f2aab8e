-- The events of one packet: it is sent once, and then passes the starts and the ends of a cluster in turn.
use Rattle.std.proofs.Common.{◌≡◌, ◌∙◌, ℕ, ◌+◌, ◌<◌, Bool, false, cond, eqb, List, [], ◌∷◌, ◌++◌, length, Some, refl, sym, ap, subst, arith}
use Rattle.std.specs.List.{list_any}
use Rattle.std.proofs.lemmas.Bool.{or_from}
use Rattle.std.proofs.lemmas.List.Sums.{sum_by-cons}
use Rattle.std.proofs.lemmas.List.Elements.{filter-append}
use Rattle.am_domain.specs.declared.link.Edge.{Edge}
use Rattle.am_domain.specs.Domains.{DomainValue}
use Rattle.am_graph.specs.Graphs.{start_of, end_of}
use Rattle.am_world.specs.declared.event.Event.{Event}
use Rattle.am_world.specs.declared.event.Event.TheVariants.{Send, Hop, Lost}
use Rattle.am_world.specs.Events.{event_packet, events_of, node_after}
use Rattle.am_world.specs.Worlds.{Travels, IsJourney, AreJourneys}
use Rattle.am_world.specs.Passes.{passes}
use Rattle.am_world.specs.Drops.{is_at, hops_over}
use Rattle.am_world.proofs.SumLemmas.{weigh}

-- only sends pass the test
pub record IsOfSends (so : Event → Bool) : Type 0 where
  pub hops : (packet link time reading : ℕ) → so (Hop packet link time reading) ≡ false
  pub losses : (packet : ℕ) → so (Lost packet) ≡ false

-- the link is inside a class exactly where it begins at one of the first nodes, and where it ends at one of the second
pub record AreSides (links : List Edge) (inside starts ends : ℕ → Bool) : Type 0 where
  pub begins : (link : ℕ) → link < length links → starts (start_of links link) ≡ inside link
  pub arrives : (link : ℕ) → link < length links → ends (end_of links link) ≡ inside link

-- a packet that travels on is not sent again
pub travels-unsent : (so : Event → Bool) → IsOfSends so → (links : List Edge) (node : ℕ) (es : List Event)
    → Travels links node es → list_any so es ≡ false
travels-unsent so alone links node [] t = refl
travels-unsent so alone links node (Send p f v time reading delay ∷ es) t = absurd t
travels-unsent so alone links node (Hop p link time reading ∷ es) t =
    or_from (so (Hop p link time reading)) (list_any so es) (alone.hops p link time reading)
    (travels-unsent so alone links (end_of links link) es t.2)
travels-unsent so alone links node (Lost p ∷ es) t =
    or_from (so (Lost p)) (list_any so es) (alone.losses p) (ap (list_any so) t)

-- the last pass of a packet, if this was the last before
pub last_pass : Event → List Event → Event
last_pass e [] = e
last_pass e (Send p f v time reading delay ∷ es) = last_pass (Send p f v time reading delay) es
last_pass e (Hop p link time reading ∷ es) = last_pass (Hop p link time reading) es
last_pass e (Lost p ∷ es) = last_pass e es

-- the sum over the hops inside a class, each weighed with the pass before it
abbrev pub hop_sum : (ℕ → Bool) → (Event → Event → ℕ) → Event → List Event → ℕ
hop_sum inside weight e [] = 0
hop_sum inside weight e (Send p f v time reading delay ∷ es) = hop_sum inside weight (Send p f v time reading delay) es
hop_sum inside weight e (Hop p link time reading ∷ es) =
    cond (inside link) (weight e (Hop p link time reading)) 0 + hop_sum inside weight (Hop p link time reading) es
hop_sum inside weight e (Lost p ∷ es) = hop_sum inside weight e es

module _ (links : List Edge) (inside starts ends : ℕ → Bool) (sides : AreSides links inside starts ends) where
  -- a packet at a start hops over a link of the class next, or stays there
  pub starts-on : (weight : Event → ℕ) (node : ℕ) (e : Event) (es : List Event) → Travels links node es
      → cond (starts node) (weight e) 0 + weigh weight (passes links starts) es
      ≡ hop_sum inside (λ before _. weight before) e es
      + cond (is_at starts (node_after links (Some node) es)) (weight (last_pass e es)) 0
  unfolding last_pass
  starts-on weight node e [] t = omega arith
  starts-on weight node e (Send p f v time reading delay ∷ es) t = absurd t
  starts-on weight node e (Hop p link time reading ∷ es) t =
      let h = Hop p link time reading in
      let first : starts node ≡ inside link = sym (ap starts t.1) ∙ sides.begins link t.0 in
      let rest = starts-on weight (end_of links link) h es t.2 in
      let more = sum_by-cons (λ x. cond (passes links starts x) (weight x) 0) h es in
      rw first (omega (arith, more, rest))
  starts-on weight node e (Lost p ∷ es) t =
      let more = sum_by-cons (λ x. cond (passes links starts x) (weight x) 0) (Lost p) es in
      let none : weigh weight (passes links starts) es ≡ 0 = ap (weigh weight (passes links starts)) t in
      let no_hops : hop_sum inside (λ before _. weight before) e es ≡ 0
      = ap (hop_sum inside (λ before _. weight before) e) t in
      let same_node : node_after links (Some node) es ≡ Some node = ap (node_after links (Some node)) t in
      let same_pass : last_pass e es ≡ e = ap (last_pass e) t in
      rw (same_node, same_pass) (omega (arith, more, none, no_hops))

  -- a packet passes an end exactly where it hops over a link of the class
  pub ends-on : (weight : Event → ℕ) (node : ℕ) (e : Event) (es : List Event) → Travels links node es
      → weigh weight (passes links ends) es ≡ hop_sum inside (λ _ hop. weight hop) e es
  ends-on weight node e [] t = refl
  ends-on weight node e (Send p f v time reading delay ∷ es) t = absurd t
  ends-on weight node e (Hop p link time reading ∷ es) t =
      let h = Hop p link time reading in
      let last : ends (end_of links link) ≡ inside link = sides.arrives link t.0 in
      let rest = ends-on weight (end_of links link) h es t.2 in
      let more = sum_by-cons (λ x. cond (passes links ends x) (weight x) 0) h es in
      more ∙ rw last (omega (arith, rest))
  ends-on weight node e (Lost p ∷ es) t =
      let more = sum_by-cons (λ x. cond (passes links ends x) (weight x) 0) (Lost p) es in
      let none : weigh weight (passes links ends) es ≡ 0 = ap (weigh weight (passes links ends)) t in
      let no_hops : hop_sum inside (λ _ hop. weight hop) e es ≡ 0 = ap (hop_sum inside (λ _ hop. weight hop) e) t in
      omega (arith, more, none, no_hops)

-- the hops inside a class, each of the same weight
pub hops-are : (inside : ℕ → Bool) (n : ℕ) (links : List Edge) (node : ℕ) (e : Event) (es : List Event) → Travels links node es
    → weigh (λ _. n) (hops_over inside) es ≡ hop_sum inside (λ _ _. n) e es
hops-are inside n links node e [] t = refl
hops-are inside n links node e (Send p f v time reading delay ∷ es) t = absurd t
hops-are inside n links node e (Hop p link time reading ∷ es) t =
    let h = Hop p link time reading in
    let rest = hops-are inside n links (end_of links link) h es t.2 in
    let more = sum_by-cons (λ x. cond (hops_over inside x) n 0) h es in
    more ∙ omega (arith, rest)
hops-are inside n links node e (Lost p ∷ es) t =
    let more = sum_by-cons (λ x. cond (hops_over inside x) n 0) (Lost p) es in
    let none : weigh (λ _. n) (hops_over inside) es ≡ 0 = ap (weigh (λ _. n) (hops_over inside)) t in
    let no_hops : hop_sum inside (λ _ _. n) e es ≡ 0 = ap (hop_sum inside (λ _ _. n) e) t in
    omega (arith, more, none, no_hops)

-- where a packet travels on, it does so for a while
pub travels-front : (links : List Edge) (node : ℕ) (front rest : List Event) → Travels links node (front ++ rest)
    → Travels links node front
travels-front links node [] rest t = tt
travels-front links node (Send p f v time reading delay ∷ es) rest t = absurd t
travels-front links node (Hop p link time reading ∷ es) rest t =
    (t.0, t.1, travels-front links (end_of links link) es rest t.2)
travels-front links node (Lost p ∷ []) rest t = refl
travels-front links node (Lost p ∷ (e ∷ es)) rest t = absurd (cc t)

-- a journey that began is a journey
pub journey-front : (d : DomainValue) (front rest : List Event) → IsJourney d (front ++ rest) → IsJourney d front
journey-front d [] rest j = tt
journey-front d (Send p f v time reading delay ∷ es) rest j = (j.0, j.1, j.2, travels-front d.links v es rest j.3)
journey-front d (Hop p link time reading ∷ es) rest j = absurd j
journey-front d (Lost p ∷ es) rest j = absurd j

pub journeys-front : (d : DomainValue) (front rest : List Event) → AreJourneys d (front ++ rest) → AreJourneys d front
journeys-front d front rest journeys packet =
    journey-front d (events_of front packet) (events_of rest packet)
    (subst (IsJourney d) (filter-append (λ e. eqb (event_packet e) packet) front rest) (journeys packet))
