-- What is known of packets, event by event.
use Rattle.std.proofs.Common.{◌≡◌, ◌∙◌, ℕ, ◌+◌, ◌<◌, Bool, true, false, cond, eqb, ◌||◌, List, [], ◌∷◌, ◌++◌, length, get_or, take, Option, Some, refl, sym, ap, inl, inr}
use Rattle.std.specs.Prelude.{nat_eq, unwrap_or}
use Rattle.std.specs.HashMap.{get}
use Rattle.std.specs.List.{list_any}
use Rattle.std.proofs.lemmas.Bool.{cases_Bool, eqb-true}
use Rattle.std.proofs.lemmas.List.{append-nil}
use Rattle.std.proofs.lemmas.List.Elements.{filter_more}
use Rattle.am_domain.specs.declared.link.Edge.{Edge}
use Rattle.am_graph.specs.Graphs.{end_of}
use Rattle.am_world.specs.declared.event.Event.{Event}
use Rattle.am_world.specs.declared.event.Event.TheVariants.{Send, Hop, Lost}
use Rattle.am_world.specs.declared.trip.Trip.{Trip}
use Rattle.am_world.specs.Events.{event_packet, events_of, is_lost, node_after}
use Rattle.am_world.specs.Trips.{sent_after, no_trip, trip_after, Trips, trip_at, AreTrips}

sent-more : (at : Option ℕ) (es : List Event) (e : Event)
    → sent_after (sent_after at es) (e ∷ []) ≡ sent_after at (es ++ e ∷ [])
sent-more at [] e = refl
sent-more at (Send p f v time reading delay ∷ es) e = sent-more (Some time) es e
sent-more at (Hop p link time reading ∷ es) e = sent-more at es e
sent-more at (Lost p ∷ es) e = sent-more at es e

node-more : (links : List Edge) (at : Option ℕ) (es : List Event) (e : Event)
    → node_after links (node_after links at es) (e ∷ []) ≡ node_after links at (es ++ e ∷ [])
node-more links at [] e = refl
node-more links at (Send p f v time reading delay ∷ es) e = node-more links (Some v) es e
node-more links at (Hop p link time reading ∷ es) e = node-more links (Some (end_of links link)) es e
node-more links at (Lost p ∷ es) e = node-more links at es e

or-apart : (x y z : Bool) → ((x || y) || z) ≡ (x || (y || z))
or-apart true y z = refl
or-apart false y z = refl

lost-more : (lost : Bool) (es : List Event) (e : Event)
    → ((lost || list_any is_lost es) || list_any is_lost (e ∷ [])) ≡ (lost || list_any is_lost (es ++ e ∷ []))
lost-more true es e = refl
lost-more false [] e = refl
lost-more false (x ∷ es) e =
    or-apart (is_lost x) (list_any is_lost es) (list_any is_lost (e ∷ []))
    ∙ ap (λ b. is_lost x || b) (lost-more false es e)

-- one event more
pub trip-more : (links : List Edge) (trip : Trip) (es : List Event) (e : Event)
    → trip_after links (trip_after links trip es) (e ∷ []) ≡ trip_after links trip (es ++ e ∷ [])
trip-more links trip es e =
    rw (sym (sent-more trip.sent es e), sym (node-more links trip.node es e), sym (lost-more trip.lost es e)) refl

-- where the trip of an event's packet goes on, and all others stay, they are those after one event more
pub trips-step : (links : List Edge) (events : List Event) (i : ℕ) (d : Event) (key : ℕ) (trip next : Trip) (old new : Trips)
    → i < length events → key ≡ event_packet (get_or events i d) → trip ≡ trip_at old key
    → next ≡ trip_after links trip (get_or events i d ∷ [])
    → ((q : ℕ) → get nat_eq new q ≡ cond (eqb key q) (Some next) (get nat_eq old q))
    → AreTrips links (take i events) old → AreTrips links (take (i + 1) events) new
trips-step links events i d key trip next old new below packet known after updated trips q =
    let e = get_or events i d in
    let more = filter_more (λ x. eqb (event_packet x) q) events i d below in
    elim (cases_Bool (eqb key q)) [
      | inl same ↦
          let same' : eqb (event_packet e) q ≡ true = ap (λ p. eqb p q) (sym packet) ∙ same in
          let all : events_of (take (i + 1) events) q ≡ events_of (take i events) q ++ e ∷ [] = more ∙ rw same' refl in
          let at : key ≡ q = eqb-true key q same in
          let found : trip_at new q ≡ next = ap (λ o. unwrap_or o no_trip) (updated q) ∙ rw same refl in
          found ∙ after
          ∙ ap (λ t. trip_after links t (e ∷ [])) (known ∙ ap (trip_at old) at ∙ trips q)
          ∙ trip-more links no_trip (events_of (take i events) q) e ∙ ap (trip_after links no_trip) (sym all)
      | inr other ↦
          let other' : eqb (event_packet e) q ≡ false = ap (λ p. eqb p q) (sym packet) ∙ other in
          let all : events_of (take (i + 1) events) q ≡ events_of (take i events) q
          = more ∙ rw other' (append-nil (events_of (take i events) q)) in
          let found : trip_at new q ≡ trip_at old q = ap (λ o. unwrap_or o no_trip) (updated q) ∙ rw other refl in
          found ∙ trips q ∙ ap (trip_after links no_trip) (sym all)
    ]
