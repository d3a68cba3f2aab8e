-- The links that the events of a valid world name.
use Rattle.std.proofs.Common.{◌≡◌, ℕ, eqb, List, [], ◌∷◌, refl, sym, subst, inl, inr}
use Rattle.std.specs.Prelude.{All}
use Rattle.std.proofs.lemmas.Bool.{cases_Bool, eq-eqb}
use Rattle.std.proofs.lemmas.List.Elements.{All-nil, All-cons, All-head, All-tail}
use Rattle.am_domain.specs.Domains.{DomainValue}
use Rattle.am_domain.specs.declared.link.Edge.{Edge}
use Rattle.am_world.specs.declared.event.Event.{Event}
use Rattle.am_world.specs.declared.event.Event.TheVariants.{Send, Hop, Lost}
use Rattle.am_world.specs.Events.{event_packet, events_of}
use Rattle.am_world.specs.Trips.{NamesLink}
use Rattle.am_world.specs.Worlds.{IsValid, IsJourney, Travels}

-- what holds of the events of each packet holds of all events
by-packets : (P : Event → Type 0) (es : List Event) → ((packet : ℕ) → All P (events_of es packet)) → All P es
by-packets P [] each = All-nil P
by-packets P (e ∷ es) each =
    All-cons P e es
    (let here : events_of (e ∷ es) (event_packet e) ≡ e ∷ events_of es (event_packet e)
    = rw (eq-eqb (event_packet e) (event_packet e) refl) refl in
    All-head P e (events_of es (event_packet e)) (subst (All P) here (each (event_packet e))))
    (by-packets P es (λ packet. others packet))
  where
    others : (packet : ℕ) → All P (events_of es packet)
    others packet = elim (cases_Bool (eqb (event_packet e) packet)) [
      | inl same ↦
          let here : events_of (e ∷ es) packet ≡ e ∷ events_of es packet = rw same refl in
          All-tail P e (events_of es packet) (subst (All P) here (each packet))
      | inr other ↦
          let there : events_of (e ∷ es) packet ≡ events_of es packet = rw other refl in
          subst (All P) there (each packet)
    ]

travels-links : (links : List Edge) (node : ℕ) (es : List Event) → Travels links node es → All (NamesLink links) es
travels-links links node [] t = All-nil (NamesLink links)
travels-links links node (Send p f v time reading delay ∷ es) t = absurd t
travels-links links node (Hop p link time reading ∷ es) t =
    All-cons (NamesLink links) (Hop p link time reading) es t.0 (travels-links links _ es t.2)
travels-links links node (Lost p ∷ es) t =
    subst (λ more. All (NamesLink links) (Lost p ∷ more)) (sym t) (All-cons (NamesLink links) (Lost p) [] tt (All-nil (NamesLink links)))

journey-links : (d : DomainValue) (es : List Event) → IsJourney d es → All (NamesLink d.links) es
journey-links d [] j = All-nil (NamesLink d.links)
journey-links d (Send p f v time reading delay ∷ es) j =
    All-cons (NamesLink d.links) (Send p f v time reading delay) es tt (travels-links d.links v es j.3)
journey-links d (Hop p link time reading ∷ es) j = absurd j
journey-links d (Lost p ∷ es) j = absurd j

-- they exist
pub valid-links : (d : DomainValue) (events : List Event) → IsValid d events → All (NamesLink d.links) events
valid-links d events valid = by-packets (NamesLink d.links) events (λ p. journey-links d (events_of events p) (valid.journeys p))
