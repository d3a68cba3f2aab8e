-- The losses of a world, counted where packets are sent.
use Rattle.std.proofs.Common.{◌≡◌, ◌∙◌, ℕ, ◌+◌, ◌-◌, ◌*◌, ◌/◌, ◌%◌, ◌<◌, ◌≤◌, Bool, true, false, cond, eqb, ◌&&◌, List, length, ◌++◌, get_or, take, drop, Option, Some, None, refl, sym, ap, arith, inl, inr}
use Rattle.std.proofs.Common.{◌≢◌, set}
use Rattle.std.specs.Prelude.{slice_index, count_by}
use Rattle.std.proofs.lemmas.Bool.{false≢true, cases_Bool, cases_eq, and_parts, and_from, and_right, eqb-true, eq-eqb}
use Rattle.std.proofs.lemmas.List.{get_or-set_same, get_or-set_other, take_all, take_at}
use Rattle.std.proofs.lemmas.List.Sums.{sum_by_more}
use Rattle.std.proofs.lemmas.Nat.{mul-add-lt, div-mul-add, mod-mul-add}
use Rattle.am_clock.specs.Times.{Times, IsMarkedIn}
use Rattle.am_domain.specs.declared.link.Edge.{Edge}
use Rattle.am_domain.specs.Domains.{DomainValue, Reports}
use Rattle.am_graph.specs.Lists.{list_at}
use Rattle.am_graph.specs.Clusters.{ClustersValue}
use Rattle.am_world.specs.declared.event.Event.{Event}
use Rattle.am_world.specs.declared.event.Event.TheVariants.{Send, Hop, Lost}
use Rattle.am_world.specs.declared.trip.Trip.{Trip}
use Rattle.am_world.specs.Events.{event_packet, events_of}
use Rattle.am_world.specs.Passes.{block_at, sends}
use Rattle.am_world.specs.Drops.{is_among, is_at, is_dropped}
use Rattle.am_world.specs.Trips.{Trips, trip_at, AreTrips}
use Rattle.am_world.specs.TrueLosses.{drop_by, is_drop_of, HasEach, loss_number, CountsDrop, AreLosses}

and-true : (x : Bool) → x ≡ (x && true)
and-true true = refl
and-true false = refl

-- a drop is of a flow and a block exactly where the packet is sent so and dropped
pub drop-of : (t : Times) (links : List Edge) (events : List Event) (trips : Trips) → AreTrips links events trips
    → (here : ℕ → Bool) (flow block : ℕ) (e : Event)
    → is_drop_of flow block (drop_by t trips here e)
    ≡ (sends t flow block e && is_dropped links here (events_of events (event_packet e)))
drop-of t links events trips known here flow block (Send p f v time reading delay) =
    rw (known p) (split (is_dropped links here (events_of events p)))
  where
    split : (b : Bool) → is_drop_of flow block (cond b (Some (f, block_at t reading)) None)
        ≡ ((eqb f flow && eqb (block_at t reading) block) && b)
    split true = and-true (eqb f flow && eqb (block_at t reading) block)
    split false = sym (and_right (eqb f flow && eqb (block_at t reading) block) false refl)
drop-of t links events trips known here flow block (Hop p link time reading) = refl
drop-of t links events trips known here flow block (Lost p) = refl

-- what was counted of the first events
pub record AreLossesOf (d : DomainValue) (here : ℕ → Bool) (events : List Event) (i : ℕ) (losses : List ℕ) : Type 0 where
  pub each : HasEach d losses
  pub few : (k : ℕ) → slice_index losses k ≤ i
  pub dropped : (flow block : ℕ) → flow < length d.flows → Reports d block
      → slice_index losses (loss_number d flow block)
      ≡ count_by (λ e. sends d.times flow block e && is_dropped d.links here (events_of events (event_packet e))) (take i events)

-- two places of a table of rows are one only where row and column are
row-one : (w a b c e : ℕ) → b < w → e < w → a * w + b ≡ c * w + e → (a ≡ c) × (b ≡ e)
row-one w a b c e in' out same = (
  sym (div-mul-add a w b in') ∙ ap (λ n. n / w) same ∙ div-mul-add c w e out,
  sym (mod-mul-add a w b in') ∙ ap (λ n. n % w) same ∙ mod-mul-add c w e out,
)

-- the loss of a flow and a reported block is there
pub loss-there : (d : DomainValue) (losses : List ℕ) (flow block : ℕ) → HasEach d losses → flow < length d.flows → Reports d block
    → loss_number d flow block < length losses
loss-there d losses flow block each below reported =
    omega (
      arith,
      each,
      mul-add-lt flow (d.end - d.first) (block - d.first) (length d.flows) below
          (omega (arith, reported.0, reported.1)),
    )

-- one drop more
pub counts-drop : (d : DomainValue) (f b : ℕ) (old : List ℕ) → f < length d.flows → Reports d b → HasEach d old
    → CountsDrop d (Some (f, b)) old (set old (loss_number d f b) (get_or old (loss_number d f b) 0 + 1))
counts-drop d f b old below reported each = record {
  each = λ flow block flow_below block_reported. elim (cases_Bool (eqb f flow && eqb b block)) [
    | inl same ↦
        let both = and_parts (eqb f flow) (eqb b block) same in
        let at : loss_number d flow block ≡ loss_number d f b
        = ap (λ n. loss_number d n block) (sym (eqb-true f flow both.0)) ∙ ap (λ n. loss_number d f n) (sym (eqb-true b block both.1)) in
        rw (same, at) (get_or-set_same old (loss_number d f b) (get_or old (loss_number d f b) 0 + 1) 0
        (loss-there d old f b each below reported))
    | inr other ↦
        let apart : loss_number d flow block ≢ loss_number d f b = λ at.
        let one = row-one (d.end - d.first) flow (block - d.first) f (b - d.first)
        (omega (arith, block_reported.0, block_reported.1)) (omega (arith, reported.0, reported.1)) at in
        let same : b ≡ block = omega (arith, one.1, block_reported.0, reported.0) in
        false≢true (sym other ∙ and_from (eqb f flow) (eqb b block) (eq-eqb f flow (sym one.0)) (eq-eqb b block same)) in
        rw other (get_or-set_other old (loss_number d f b) (loss_number d flow block)
        (get_or old (loss_number d f b) 0 + 1) 0 apart ∙ omega arith)
  ];
  few = λ k. elim (cases_eq k (loss_number d f b)) [
    | inl same ↦
        rw same (omega (
          arith,
          get_or-set_same old (loss_number d f b) (get_or old (loss_number d f b) 0 + 1) 0
              (loss-there d old f b each below reported),
        ))
    | inr other ↦
        omega (arith, get_or-set_other old (loss_number d f b) k (get_or old (loss_number d f b) 0 + 1) 0 other)
  ];
}

-- one event more
pub losses-more : (d : DomainValue) (here : ℕ → Bool) (events : List Event) (i : ℕ) (e : Event) (trips : Trips) (old new : List ℕ)
    (drop : Option (ℕ × ℕ))
    → i < length events → AreTrips d.links events trips → drop ≡ drop_by d.times trips here (get_or events i e)
    → HasEach d new → CountsDrop d drop old new → AreLossesOf d here events i old → AreLossesOf d here events (i + 1) new
losses-more d here events i e trips old new drop below known is each counts first = record {
  each = each;
  few = λ k. omega (arith, counts.few k, first.few k);
  dropped = λ flow block flow_below reported.
      let p = λ (x : Event). sends d.times flow block x && is_dropped d.links here (events_of events (event_packet x)) in
      let more = sum_by_more (λ x. cond (p x) 1 0) events i e below in
      let same : is_drop_of flow block drop ≡ p (get_or events i e)
      = ap (is_drop_of flow block) is ∙ drop-of d.times d.links events trips known here flow block (get_or events i e) in
      let added : cond {A = ℕ} (is_drop_of flow block drop) 1 0 ≡ cond (p (get_or events i e)) 1 0 = ap (λ b. cond b 1 0) same in
      omega (arith, counts.each flow block flow_below reported, first.dropped flow block flow_below reported, more, added);
}

-- a list that was written back whole
pub written-back : (n : ℕ) (new old : List ℕ) → length new ≡ length old → n ≡ length old
    → take n (new ++ drop (length new) old) ≡ new
written-back n new old same all = take_at new (drop (length new) old) n (same ∙ sym all)

-- of all events
pub losses-all : (d : DomainValue) (c : ClustersValue) (cluster : ℕ) (events : List Event) (i : ℕ) (losses : List ℕ)
    → length events ≤ i → AreLossesOf d (is_among (list_at c.starts cluster)) events i losses
    → AreLosses d c cluster events losses
losses-all d c cluster events i losses whole first = record {
  each = first.each;
  dropped = λ flow block below reported. first.dropped flow block below reported
      ∙ ap (count_by (λ e. sends d.times flow block e
      && is_dropped d.links (is_among (list_at c.starts cluster)) (events_of events (event_packet e))))
      (take_all i events whole);
}

-- the block that holds a reading is the one that division gives
pub block_is : (t : Times) (reading n : ℕ) → IsMarkedIn t reading n → block_at t reading ≡ n
block_is t reading n marked =
    let rest : reading ≡ n * t.block + (reading - n * t.block) = omega (arith, marked.from) in
    ap (λ r. r / t.block) rest
    ∙ div-mul-add n t.block (reading - n * t.block) (omega (arith, marked.from, marked.until))

-- the drop of a packet that is lost at one of the nodes
pub drop-made : (t : Times) (trips : Trips) (here : ℕ → Bool) (p f reading block : ℕ) (trip : Trip) (e : Event)
    {v time : ℕ} {delay : Bool} → e ≡ Send p f v time reading delay
    → trip ≡ trip_at trips p → trip.lost ≡ true → is_at here trip.node ≡ true → IsMarkedIn t reading block
    → Some (f, block) ≡ drop_by t trips here e
drop-made t trips here p f reading block trip e is known lost at marked =
    let lost' : (trip_at trips p).lost ≡ true = ap (λ (x : Trip). x.lost) (sym known) ∙ lost in
    let at' : is_at here (trip_at trips p).node ≡ true = ap (λ (x : Trip). is_at here x.node) (sym known) ∙ at in
    sym (rw (is, lost', at') (ap (λ b. Some (f, b)) (block_is t reading block marked)))
