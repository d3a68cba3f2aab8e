-- Where the rows of a scope stand in a loss table, and what holds of each of them.
use Rattle.std.proofs.Common.{◌≡◌, ◌∙◌, ℕ, ◌+◌, ◌-◌, ◌*◌, ◌<◌, ◌≤◌, List, [], ◌∷◌, ◌++◌, length, get_or, take, refl, sym, ap, subst, arith}
use Rattle.std.specs.Prelude.{flat_map, map, slice_get, Some, All}
use Rattle.std.specs.List.{range_with_len}
use Rattle.std.proofs.Math.Nat.{suc-mul}
use Rattle.std.proofs.lemmas.Nat.{mul-add-lt}
use Rattle.std.proofs.lemmas.List.{length-append, length-take-le, get_or_append_left, get_or-append-add}
use Rattle.std.proofs.lemmas.List.Elements.{All-nil, All-append, All-head, All-tail, All-map}
use Rattle.std.proofs.lemmas.List.Concat.{get_or-flat_map}
use Rattle.std.proofs.lemmas.Option.{get_or_from_slice_get}
use Rattle.std.proofs.lemmas.List.FromFn.{length-range_with_len, get_or-range_with_len, length-map-range_with_len, get_or-map-range_with_len}
use Rattle.am_graph.specs.Clusters.{count_of}
use Rattle.am_control.specs.declared.row.Scope.{Scope}
use Rattle.am_control.specs.declared.row.Scope.TheVariants.{Cluster, Network}
use Rattle.am_control.specs.declared.row.LossRow.{LossRow}
use Rattle.am_domain.specs.Domains.{DomainValue, IsLawful}
use Rattle.am_domain.specs.Values.{FlowValue}
use Rattle.am_control.specs.Controls.{HasRow}
use Rattle.am_control.specs.Plans.{IsPlanOf}
use Rattle.am_control.specs.Rows.{Measured, scopes, loss_row, flow_rows, scope_rows, loss_rows}

-- how long so many pieces of one length are
pub flat-length : {X A : Type 0} (f : X → List A) (n : ℕ) → ((x : X) → length (f x) ≡ n) → (xs : List X)
    → length (flat_map f xs) ≡ length xs * n
flat-length f n each [] = omega arith
flat-length f n each (x ∷ xs) =
    omega (arith, length-append (f x) (flat_map f xs), each x, flat-length f n each xs, suc-mul (length xs) n)

-- an item of one of the pieces
pub flat-at : {X A : Type 0} (f : X → List A) (n : ℕ) → ((x : X) → length (f x) ≡ n) → (xs : List X) (i j : ℕ) (e : X) (d : A)
    → i < length xs → j < n → get_or (flat_map f xs) (i * n + j) d ≡ get_or (f (get_or xs i e)) j d
flat-at f n each xs i j e d within below =
    let before : length (flat_map f (take i xs)) ≡ i * n
    = flat-length f n each (take i xs) ∙ ap (λ l. l * n) (length-take-le i xs (omega arith)) in
    subst (λ p. get_or (flat_map f xs) (p + j) d ≡ get_or (f (get_or xs i e)) j d) before
    (get_or-flat_map f xs i j e d within (omega (arith, each (get_or xs i e))))

pub scopes-length : (count : ℕ) → length (scopes count) ≡ count + 1
scopes-length count =
    omega (arith, length-append (map (λ k. Cluster k) (range_with_len 0 count)) (Network ∷ []), length-map-range_with_len (λ k. Cluster k) 0 count)

pub scope-cluster : (count k : ℕ) → k < count → get_or (scopes count) k Network ≡ Cluster k
scope-cluster count k below =
    get_or_append_left (map (λ k. Cluster k) (range_with_len 0 count)) (Network ∷ []) Network k
    (omega (arith, length-map-range_with_len (λ k. Cluster k) 0 count))
    ∙ get_or-map-range_with_len (λ k. Cluster k) 0 count k k Network below (omega arith)

pub scope-network : (count : ℕ) → get_or (scopes count) count Network ≡ Network
scope-network count =
    let clusters = map (λ k. Cluster k) (range_with_len 0 count) in
    let long : length clusters + 0 ≡ count = omega (arith, length-map-range_with_len (λ k. Cluster k) 0 count) in
    subst (λ p. get_or (clusters ++ Network ∷ []) p Network ≡ Network) long (get_or-append-add clusters (Network ∷ []) 0 Network)

module _ (m : Measured) where
  flow-length : (scope : Scope) (flow : ℕ) → length (flow_rows m scope flow) ≡ m.plan.end - m.plan.first
  flow-length scope flow = length-map-range_with_len (loss_row m scope flow) m.plan.first (m.plan.end - m.plan.first)

  pub scope-length : (scope : Scope) → length (scope_rows m scope) ≡ m.plan.flows * (m.plan.end - m.plan.first)
  scope-length scope =
      flat-length (flow_rows m scope) (m.plan.end - m.plan.first) (flow-length scope) (range_with_len 0 m.plan.flows)
      ∙ ap (λ l. l * (m.plan.end - m.plan.first)) (length-range_with_len 0 m.plan.flows)

  -- how many rows there are
  pub rows-length : length (loss_rows m) ≡ (count_of m.plan.clusters + 1) * (m.plan.flows * (m.plan.end - m.plan.first))
  unfolding loss_rows
  rows-length =
      flat-length (scope_rows m) (m.plan.flows * (m.plan.end - m.plan.first)) scope-length (scopes (count_of m.plan.clusters))
      ∙ ap (λ l. l * (m.plan.flows * (m.plan.end - m.plan.first))) (scopes-length (count_of m.plan.clusters))

  -- a row of a scope is one of the table, behind those of the scopes before
  pub row-of-scope : (at k : ℕ) (scope : Scope) (d : LossRow) → at < count_of m.plan.clusters + 1
      → get_or (scopes (count_of m.plan.clusters)) at Network ≡ scope → k < m.plan.flows * (m.plan.end - m.plan.first)
      → get_or (loss_rows m) (at * (m.plan.flows * (m.plan.end - m.plan.first)) + k) d ≡ get_or (scope_rows m scope) k d
  unfolding loss_rows
  row-of-scope at k scope d within is below =
      flat-at (scope_rows m) (m.plan.flows * (m.plan.end - m.plan.first)) scope-length (scopes (count_of m.plan.clusters)) at k Network d
      (omega (arith, scopes-length (count_of m.plan.clusters))) below
      ∙ ap (λ s. get_or (scope_rows m s) k d) is

  -- there is such a row
  pub row-within : (at k : ℕ) → at < count_of m.plan.clusters + 1 → k < m.plan.flows * (m.plan.end - m.plan.first)
      → at * (m.plan.flows * (m.plan.end - m.plan.first)) + k < length (loss_rows m)
  row-within at k within below =
      omega (arith, rows-length, mul-add-lt at (m.plan.flows * (m.plan.end - m.plan.first)) k (count_of m.plan.clusters + 1) within below)

  -- the row of a number in the table is that of the scope
  pub row-here : (at k cells : ℕ) (scope : Scope) (r : LossRow) → cells ≡ m.plan.flows * (m.plan.end - m.plan.first)
      → at < count_of m.plan.clusters + 1 → get_or (scopes (count_of m.plan.clusters)) at Network ≡ scope → k < cells
      → slice_get (loss_rows m) (at * cells + k) ≡ Some r → get_or (scope_rows m scope) k r ≡ r
  row-here at k cells scope r is within here below got =
      let low : k < m.plan.flows * (m.plan.end - m.plan.first) = subst (λ n. k < n) is below in
      let there : slice_get (loss_rows m) (at * (m.plan.flows * (m.plan.end - m.plan.first)) + k) ≡ Some r
      = subst (λ n. slice_get (loss_rows m) (at * n + k) ≡ Some r) is got in
      sym (row-of-scope at k scope r within here low)
      ∙ get_or_from_slice_get (loss_rows m) (at * (m.plan.flows * (m.plan.end - m.plan.first)) + k) r r there

  -- how many rows a scope has, as it is reckoned
  pub cells-are : (d : DomainValue) (flows : List FlowValue) (end first : ℕ) → IsPlanOf d m.plan → flows ≡ d.flows → end ≡ d.end → first ≡ d.first
      → length flows * (end - first) ≡ m.plan.flows * (m.plan.end - m.plan.first)
  cells-are d flows end first planned ef ee es =
      rw (ef, ee, es, planned.flows, planned.end, planned.first) refl

-- they are not many
pub few-cells : (d : DomainValue) (flows : List FlowValue) (end first : ℕ) → IsLawful d → flows ≡ d.flows → end ≡ d.end → first ≡ d.first
    → length flows * (end - first) ≤ 32768
few-cells d flows end first lawful ef ee es = rw (ef, ee, es) lawful.few_cells

-- what holds of all items of all pieces
pub all-flat : {X A : Type 0} (P : A → Type 0) (f : X → List A) (xs : List X) → All (λ x. All P (f x)) xs → All P (flat_map f xs)
all-flat P f [] each = All-nil P
all-flat P f (x ∷ xs) each =
    All-append P (f x) (flat_map f xs) (All-head (λ y. All P (f y)) x xs each) (all-flat P f xs (All-tail (λ y. All P (f y)) x xs each))

-- the numbers of a run
pub run-all : (P : ℕ → Type 0) (a n : ℕ) → ((k : ℕ) → a ≤ k → k < a + n → P k) → All P (range_with_len a n)
run-all P a n each = λ k d h.
    let below : k < n = omega (arith, h, length-range_with_len a n) in
    subst P (sym (get_or-range_with_len a n k d below)) (each (a + k) (omega arith) (omega (arith, below)))

-- the row is that of the scope, of its flow and block, which the plan has
pub record IsRowOf (m : Measured) (scope : Scope) (r : LossRow) : Type 0 where
  pub is : r ≡ loss_row m scope r.flow r.block
  pub there : HasRow m.plan r.flow r.block

one-row : (m : Measured) (scope : Scope) (flow block : ℕ) → HasRow m.plan flow block → IsRowOf m scope (loss_row m scope flow block)
unfolding loss_row
one-row m scope flow block there = record { is = refl; there = there }

-- so is each row of the scope
pub rows-of-scope : (m : Measured) (scope : Scope) → All (IsRowOf m scope) (scope_rows m scope)
rows-of-scope m scope =
    all-flat (IsRowOf m scope) (flow_rows m scope) (range_with_len 0 m.plan.flows)
    (run-all (λ flow. All (IsRowOf m scope) (flow_rows m scope flow)) 0 m.plan.flows
    (λ flow _ low. All-map (IsRowOf m scope) (loss_row m scope flow) (range_with_len m.plan.first (m.plan.end - m.plan.first))
    (run-all (λ block. IsRowOf m scope (loss_row m scope flow block)) m.plan.first (m.plan.end - m.plan.first)
    (λ block from until. one-row m scope flow block
    (record { flow_there = omega (arith, low); from = from; until = omega (arith, from, until) })))))
