-- For each flow and node, the least block that is new there.
use Rattle.std.proofs.Common.{◌≡◌, ◌∙◌, ℕ, ◌+◌, ◌*◌, ◌<◌, ◌≤◌, max, Bool, List, [], ◌∷◌, ◌++◌, length, get_or, set, sym, ap, subst, arith, inl, inr}
use Rattle.std.specs.Prelude.{All, slice_index}
use Rattle.std.proofs.lemmas.Bool.{cases_eq}
use Rattle.std.proofs.lemmas.List.{get_or-set_same, get_or-set_other, length-set}
use Rattle.std.proofs.lemmas.List.Elements.{All-append, All-push, All-head, All-take, All-drop}
use Rattle.std.proofs.Math.Seq.{take-append_seam, drop-append_seam}
use Rattle.std.proofs.Math.Nat.{le-max_left, le-max_right, max-le}
use Rattle.am_domain.specs.Domains.{DomainValue}
use Rattle.am_world.specs.declared.event.Event.{Event}
use Rattle.am_world.specs.declared.event.Event.TheVariants.{Send}
use Rattle.am_world.specs.Passes.{block_at}
use Rattle.am_world.specs.Generating.{IsBefore}
use Rattle.am_world.specs.Making.{place_at, AreLeastNew}

-- two places of the table are one only where flow and node are
place-one : (flow node f v : ℕ) → node < 128 → v < 128 → flow * 128 + node ≡ f * 128 + v → (flow ≡ f) × (node ≡ v)
place-one flow node f v in' out same = (omega (arith, in', out, same), omega (arith, in', out, same))

-- the place of a flow and a node of the domain is there
pub place-there : (d : DomainValue) (events : List Event) (newest : List ℕ) (f v : ℕ) → AreLeastNew d events newest
    → f < length d.flows → v < 128 → place_at f v < length newest
place-there d events newest f v known flow node =
    omega (arith, known.each, flow, node)

all-left : {X : Type 0} (P : X → Type 0) (xs ys : List X) → All P (xs ++ ys) → All P xs
all-left P xs ys all = subst (All P) (take-append_seam xs ys) (All-take P (length xs) (xs ++ ys) all)

all-right : {X : Type 0} (P : X → Type 0) (xs ys : List X) → All P (xs ++ ys) → All P ys
all-right P xs ys all = subst (All P) (drop-append_seam xs ys) (All-drop P (length xs) (xs ++ ys) all)

-- a packet more is sent
pub newest-more : (d : DomainValue) (events : List Event) (newest : List ℕ) (p f v time reading : ℕ) (delay : Bool) (block : ℕ)
    → AreLeastNew d events newest → f < length d.flows → v < 128 → block ≡ block_at d.times reading
    → AreLeastNew d (events ++ Send p f v time reading delay ∷ [])
    (set newest (place_at f v) (max (get_or newest (place_at f v) 0) (block + 1)))
newest-more d events newest p f v time reading delay block known flow_below node_below here = record {
  each = length-set newest (place_at f v) (max (get_or newest (place_at f v) 0) (block + 1)) ∙ known.each;
  least = λ flow node b below within. (to flow node b below within, from flow node b below within);
}
  where
    least : ℕ
    least = get_or newest (place_at f v) 0

    sent : Event
    sent = Send p f v time reading delay

    same : (flow node : ℕ) → f ≡ flow → v ≡ node
        → slice_index (set newest (place_at f v) (max (get_or newest (place_at f v) 0) (block + 1))) (place_at flow node)
        ≡ max (get_or newest (place_at f v) 0) (block + 1)
    same flow node is_flow is_node =
        ap (λ k. slice_index (set newest (place_at f v) (max (get_or newest (place_at f v) 0) (block + 1))) k)
        (ap (λ n. place_at n node) (sym is_flow) ∙ ap (λ n. place_at f n) (sym is_node))
        ∙ get_or-set_same newest (place_at f v) (max (get_or newest (place_at f v) 0) (block + 1)) 0
        (place-there d events newest f v known flow_below node_below)

    other : (flow node : ℕ) → node < 128 → ((f ≡ flow) → (v ≡ node) → ⊥)
        → slice_index (set newest (place_at f v) (max (get_or newest (place_at f v) 0) (block + 1))) (place_at flow node)
        ≡ slice_index newest (place_at flow node)
    other flow node within apart =
        get_or-set_other newest (place_at f v) (place_at flow node) (max (get_or newest (place_at f v) 0) (block + 1)) 0
        (λ at. let one = place-one flow node f v within node_below at in apart (sym one.0) (sym one.1))

    to : (flow node b : ℕ) → flow < length d.flows → node < 128
        → slice_index (set newest (place_at f v) (max (get_or newest (place_at f v) 0) (block + 1))) (place_at flow node) ≤ b
        → All (IsBefore d.times flow node b) (events ++ Send p f v time reading delay ∷ [])
    to flow node b below within low = elim (cases_eq f flow) [
      | inr away ↦
          All-push (IsBefore d.times flow node b) events (Send p f v time reading delay)
          ((known.least flow node b below within).0 (omega (arith, low, other flow node within (λ i _. away i))))
          (λ i _. absurd (away i))
      | inl is_flow ↦ elim (cases_eq v node) [
        | inr away ↦
            All-push (IsBefore d.times flow node b) events (Send p f v time reading delay)
            ((known.least flow node b below within).0 (omega (arith, low, other flow node within (λ _ i. away i))))
            (λ _ i. absurd (away i))
        | inl is_node ↦
            let is = same flow node is_flow is_node in
            let left = le-max_left (get_or newest (place_at f v) 0) (block + 1) in
            let right = le-max_right (get_or newest (place_at f v) 0) (block + 1) in
            let place : place_at flow node ≡ place_at f v = ap (λ n. place_at n node) (sym is_flow) ∙ ap (λ n. place_at f n) (sym is_node) in
            let old : slice_index newest (place_at flow node) ≡ get_or newest (place_at f v) 0 = ap (λ k. slice_index newest k) place in
            All-push (IsBefore d.times flow node b) events (Send p f v time reading delay)
            ((known.least flow node b below within).0 (omega (arith, low, is, left, old)))
            (λ _ _. omega (arith, low, is, right, here))
      ]
    ]

    from : (flow node b : ℕ) → flow < length d.flows → node < 128
        → All (IsBefore d.times flow node b) (events ++ Send p f v time reading delay ∷ [])
        → slice_index (set newest (place_at f v) (max (get_or newest (place_at f v) 0) (block + 1))) (place_at flow node) ≤ b
    from flow node b below within all =
        let before = (known.least flow node b below within).1 (all-left (IsBefore d.times flow node b) events (Send p f v time reading delay ∷ []) all) in
        let last : IsBefore d.times flow node b (Send p f v time reading delay)
        = All-head (IsBefore d.times flow node b) (Send p f v time reading delay) []
        (all-right (IsBefore d.times flow node b) events (Send p f v time reading delay ∷ []) all) in
        elim (cases_eq f flow) [
          | inr away ↦ omega (arith, before, other flow node within (λ i _. away i))
          | inl is_flow ↦ elim (cases_eq v node) [
            | inr away ↦ omega (arith, before, other flow node within (λ _ i. away i))
            | inl is_node ↦
                let is = same flow node is_flow is_node in
                let place : place_at flow node ≡ place_at f v = ap (λ n. place_at n node) (sym is_flow) ∙ ap (λ n. place_at f n) (sym is_node) in
                let old : slice_index newest (place_at flow node) ≡ get_or newest (place_at f v) 0 = ap (λ k. slice_index newest k) place in
                let in' : block_at d.times reading < b = last is_flow is_node in
                let low : get_or newest (place_at f v) 0 ≤ b = omega (arith, before, old) in
                let high : block + 1 ≤ b = omega (arith, in', here) in
                let both : max (get_or newest (place_at f v) 0) (block + 1) ≤ b = max-le low high in
                omega (arith, is, both)
          ]
        ]

-- events without a send change nothing
pub newest-kept : (d : DomainValue) (events own : List Event) (newest : List ℕ) → AreLeastNew d events newest
    → ((flow node block : ℕ) → All (IsBefore d.times flow node block) own) → AreLeastNew d (events ++ own) newest
newest-kept d events own newest known none = record {
  each = known.each;
  least = λ flow node block below within. (
    (λ low. All-append (IsBefore d.times flow node block) events own ((known.least flow node block below within).0 low) (none flow node block)),
    (λ all. (known.least flow node block below within).1 (all-left (IsBefore d.times flow node block) events own all)),
  );
}
