-- Each pass of a timed world belongs to the block that its packet was sent in, and to no other.
use Rattle.std.proofs.Common.{◌≡◌, ◌∙◌, ℕ, zero, suc, ◌+◌, ◌*◌, ◌%◌, ◌<◌, ◌≤◌, Bool, true, false, eqb, List, [], ◌∷◌, length, refl, sym, ap, subst, arith, inl, inr}
use Rattle.std.specs.Prelude.{⊤, All, Contains, IsTrue, ◌↔◌, ◌⊎◌}
use Rattle.std.proofs.lemmas.Bool.{eqb-true, eq-eqb}
use Rattle.std.proofs.lemmas.List.Elements.{All-nil, All-cons, All-contains}
use Rattle.am_clock.specs.Times.{Times, half, guard, IsTiming, parity, belongs_to}
use Rattle.am_domain.specs.declared.link.Edge.{Edge}
use Rattle.am_domain.specs.Network.{has_links_in}
use Rattle.am_domain.specs.Domains.{DomainValue}
use Rattle.am_graph.specs.Graphs.{end_of}
use Rattle.am_meter.specs.Metering.{node_shift}
use Rattle.am_world.specs.declared.event.Event.{Event}
use Rattle.am_world.specs.declared.event.Event.TheVariants.{Send, Hop, Lost}
use Rattle.am_world.specs.Events.{event_packet, event_reading, events_of}
use Rattle.am_world.specs.Worlds.{Travels, IsJourney, AreJourneys, IsNear, IsOnTime, IsInTime, IsTimed}
use Rattle.am_world.specs.Passes.{passes, block_at}
use Rattle.am_world.specs.Laws.{IsAttributed, AreAttributed}
use Rattle.am_world.proofs.SumLemmas.{to-filter}
use Rattle.am_world.proofs.ClusterLemmas.{end-has}

-- a block that begins before another ends is not above it
begins-by : (m n block : ℕ) → m * block < n * block + block → m ≤ n
begins-by m n block h = grind arith

-- two halves are a block
halves : (t : Times) → IsTiming t → half t + half t ≡ t.block
halves t timing = omega (arith, timing.even)

-- a block holds the readings that are marked in it
pub block-holds : (t : Times) (reading : ℕ) → IsTiming t
    → (block_at t reading * t.block ≤ reading) × (reading < block_at t reading * t.block + t.block)
block-holds t reading timing =
    let some : 0 < t.block = timing.nonzero in
    (omega arith, omega arith)

-- half a block on either side is enough
pub belongs-alone : (t : Times) (sent reading shift block : ℕ) (colour : Bool) → IsTiming t
    → sent + shift < reading + half t → reading < sent + shift + half t → parity colour ≡ block_at t sent % 2
    → IsTrue (belongs_to t reading colour shift block) ↔ (block ≡ block_at t sent)
belongs-alone t sent reading shift block colour timing late early marked = (
  λ belongs. to belongs,
  λ same. from same,
)
  where
    held : (block_at t sent * t.block ≤ sent) × (sent < block_at t sent * t.block + t.block)
    held = block-holds t sent timing

    to : IsTrue (belongs_to t reading colour shift block) → block ≡ block_at t sent
    to belongs =
        let h = held in
        let two = halves t timing in
        grind (arith, begins-by (block_at t sent) (block + 1) t.block, begins-by block (block_at t sent + 1) t.block)

    from : block ≡ block_at t sent → IsTrue (belongs_to t reading colour shift block)
    from same =
        let h = held in
        let two = halves t timing in
        grind arith

-- where all items have it
pub all-from : {X : Type 0} (P : X → Type 0) (xs : List X) → ((x : X) → Contains xs x → P x) → All P xs
all-from P [] each = All-nil P
all-from P (x ∷ xs) each =
    All-cons P x xs (each x (0, omega arith, refl)) (all-from P xs (λ y h. each y (suc h.0, omega (arith, h.1), h.2)))

-- what happens to a packet after it was sent: no second send, and hops over links that there are
abbrev pub IsOnWay : List Edge → Event → Type 0
IsOnWay links (Send p f v time reading delay) = ⊥
IsOnWay links (Hop p link time reading) = link < length links
IsOnWay links (Lost p) = ⊤

pub travels-on-way : (links : List Edge) (node : ℕ) (es : List Event) → Travels links node es → (e : Event) → Contains es e
    → IsOnWay links e
travels-on-way links node [] t e h = absurd (omega (arith, h.1))
travels-on-way links node (Send p f v time reading delay ∷ es) t e h = absurd t
travels-on-way links node (Hop p link time reading ∷ es) t e (zero, below, here) = subst (IsOnWay links) here t.0
travels-on-way links node (Hop p link time reading ∷ es) t e (suc k, below, here) =
    travels-on-way links (end_of links link) es t.2 e (k, omega (arith, below), here)
travels-on-way links node (Lost p ∷ es) t e (zero, below, here) = subst (IsOnWay links) here tt
travels-on-way links node (Lost p ∷ es) t e (suc k, below, here) =
    let none : length es ≡ 0 = ap length t in
    absurd (omega (arith, below, none))

-- a journey in which a packet is sent: it begins so, at an entry, and what follows is on its way
pub record BeginsAt (d : DomainValue) (s : Event) (node : ℕ) (es : List Event) : Type 0 where
  pub rest : List Event
  pub whole : es ≡ s ∷ rest
  pub entry : has_links_in d.links node ≡ false
  pub travels : Travels d.links node rest

pub journey-begins : (d : DomainValue) (es : List Event) → IsJourney d es → (p f v time reading : ℕ) (delay : Bool)
    → Contains es (Send p f v time reading delay) → BeginsAt d (Send p f v time reading delay) v es
journey-begins d [] j p f v time reading delay h = absurd (omega (arith, h.1))
journey-begins d (Hop q link at seen ∷ es) j p f v time reading delay h = absurd j
journey-begins d (Lost q ∷ es) j p f v time reading delay h = absurd j
journey-begins d (Send q g w at seen bit ∷ es) j p f v time reading delay (zero, below, here) =
    let node : w ≡ v = cc in
    record {
      rest = es;
      whole = ap (λ s. s ∷ es) here;
      entry = subst (λ n. has_links_in d.links n ≡ false) node j.2;
      travels = subst (λ n. Travels d.links n es) node j.3;
    }
journey-begins d (Send q g w at seen bit ∷ es) j p f v time reading delay (suc k, below, here) =
    absurd (travels-on-way d.links w es j.3 (Send p f v time reading delay) (k, omega (arith, below), here))

-- each event of such a journey is that one, or follows it
pub begins-with : (d : DomainValue) (s : Event) (node : ℕ) (es : List Event) → BeginsAt d s node es → (e : Event) → Contains es e
    → (s ≡ e) ⊎ IsOnWay d.links e
begins-with d s node es b e h = first (subst (λ xs. Contains xs e) b.whole h)
  where
    first : Contains (s ∷ b.rest) e → (s ≡ e) ⊎ IsOnWay d.links e
    first (zero, below, here) = inl here
    first (suc k, below, here) = inr (travels-on-way d.links node b.rest b.travels e (k, omega (arith, below), here))

-- the shift of a node: none at an entry, the least delay at the end of a link
entry-shift : (d : DomainValue) (node : ℕ) → has_links_in d.links node ≡ false → node_shift d node ≡ 0
entry-shift d node none = rw none refl

end-shift : (d : DomainValue) (node : ℕ) → has_links_in d.links node ≡ true → node_shift d node ≡ d.times.delay_min
end-shift d node there = rw there refl

-- a pass is seen within half a block of where the packet was sent, but for the node's shift
near-pass : (d : DomainValue) → IsTiming d.times → (p f v time sent : ℕ) (delay : Bool)
    → has_links_in d.links v ≡ false → IsNear d.times time sent
    → (e : Event) → (Send p f v time sent delay ≡ e) ⊎ IsOnWay d.links e
    → IsOnTime d.times e → IsInTime d.times (Send p f v time sent delay) e → p ≡ event_packet e
    → (node : ℕ) → passes d.links (λ n. eqb n node) e ≡ true
    → (sent + node_shift d node < event_reading e + half d.times) × (event_reading e < sent + node_shift d node + half d.times)
near-pass d timing p f v time sent delay entry near (Send q g w at seen bit) (inl same) on in' packet node pass =
    let here : w ≡ node = eqb-true w node pass in
    let v-w : v ≡ w = cc in
    let read : sent ≡ seen = cc in
    let none = entry-shift d node (subst (λ n. has_links_in d.links n ≡ false) (v-w ∙ here) entry) in
    let wide : guard d.times < half d.times = timing.guarded in
    (omega (arith, none), omega (arith, none))
near-pass d timing p f v time sent delay entry near (Send q g w at seen bit) (inr way) on in' packet node pass = absurd way
near-pass d timing p f v time sent delay entry near (Hop q link at seen) (inl same) on in' packet node pass = absurd (cc same)
near-pass d timing p f v time sent delay entry near (Hop q link at seen) (inr below) on in' packet node pass =
    let here : end_of d.links link ≡ node = eqb-true (end_of d.links link) node pass in
    let shift = end-shift d node (subst (λ n. has_links_in d.links n ≡ true) here (end-has d.links link below)) in
    let bounds = in' packet in
    let wide : guard d.times < half d.times = timing.guarded in
    let ordered : d.times.delay_min ≤ d.times.delay_max = timing.in_order in (
      omega (arith, shift, near.behind, near.ahead, on.behind, on.ahead, bounds.0, bounds.1),
      omega (arith, shift, near.behind, near.ahead, on.behind, on.ahead, bounds.0, bounds.1),
    )
near-pass d timing p f v time sent delay entry near (Lost q) origin on in' packet node pass = absurd (cc pass)

-- attribution
pub attributed : (d : DomainValue) (events : List Event) → IsTiming d.times → AreJourneys d events → IsTimed d.times events
    → AreAttributed d events
attributed d events timing journeys timed =
    all-from (λ s. All (IsAttributed d s) events) events (λ s s-there.
    all-from (IsAttributed d s) events (λ e e-there. one s s-there e e-there))
  where
    one : (s : Event) → Contains events s → (e : Event) → Contains events e → IsAttributed d s e
    one (Send p f v time sent delay) s-there e e-there = λ packet node block colour pass marked.
        let s = Send p f v time sent delay in
        let begins = journey-begins d (events_of events p) (journeys p) p f v time sent delay
        (to-filter (λ x. eqb (event_packet x) p) events s s-there (eq-eqb p p refl)) in
        let origin = begins-with d s v (events_of events p) begins e
        (to-filter (λ x. eqb (event_packet x) p) events e e-there (eq-eqb (event_packet e) p (sym packet))) in
        let near = All-contains (IsOnTime d.times) events s timed.clocks s-there in
        let on = All-contains (IsOnTime d.times) events e timed.clocks e-there in
        let in' = All-contains (IsInTime d.times s) events e
        (All-contains (λ x. All (IsInTime d.times x) events) events s timed.delays s-there) e-there in
        let bounds = near-pass d timing p f v time sent delay begins.entry near e origin on in' packet node pass in
        belongs-alone d.times sent (event_reading e) (node_shift d node) block colour timing bounds.0 bounds.1 marked
    one (Hop p link time reading) s-there e e-there = tt
    one (Lost p) s-there e e-there = tt
