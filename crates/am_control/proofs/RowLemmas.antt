-- Where a row stands in a loss table.
use Rattle.std.proofs.Common.{◌≡◌, ◌∙◌, ℕ, ◌+◌, ◌-◌, ◌*◌, ◌/◌, ◌%◌, ◌<◌, ◌≤◌, List, [], ◌∷◌, ◌++◌, length, get_or, take, refl, sym, ap, subst, arith, zero-add}
use Rattle.std.specs.Prelude.{flat_map, map, slice_get, Some}
use Rattle.std.specs.List.{range_with_len}
use Rattle.std.proofs.Math.Nat.{suc-mul, mul_assoc, mul_comm, add-mul}
use Rattle.std.proofs.lemmas.Nat.{div_below, mod_below, mul-add-lt}
use Rattle.std.proofs.lemmas.List.{length-append, length-take-le, get_or_append_left, get_or-append-add}
use Rattle.std.proofs.lemmas.List.Concat.{get_or-flat_map}
use Rattle.std.proofs.lemmas.Option.{slice_get_read}
use Rattle.std.proofs.lemmas.List.FromFn.{length-range_with_len, get_or-range_with_len, length-map-range_with_len, get_or-map-range_with_len}
use Rattle.am_graph.specs.Clusters.{count_of}
use Rattle.am_control.specs.declared.row.Scope.{Scope}
use Rattle.am_control.specs.declared.row.Scope.TheVariants.{Cluster, Network}
use Rattle.am_control.specs.declared.row.LossRow.{LossRow}
use Rattle.am_control.specs.Rows.{Measured, scopes, loss_row, flow_rows, scope_rows, loss_rows}

-- how long so many pieces of one length are
pub flat-length : {X A : Type 0} (f : X → List A) (n : ℕ) → ((x : X) → length (f x) ≡ n) → (xs : List X)
    → length (flat_map f xs) ≡ length xs * n
flat-length f n each [] = omega arith
flat-length f n each (x ∷ xs) =
    omega (arith, length-append (f x) (flat_map f xs), each x, flat-length f n each xs, suc-mul (length xs) n)

-- an item of one of the pieces
pub flat-at : {X A : Type 0} (f : X → List A) (n : ℕ) → ((x : X) → length (f x) ≡ n) → (xs : List X) (i j : ℕ) (e : X) (d : A)
    → i < length xs → j < n → get_or (flat_map f xs) (i * n + j) d ≡ get_or (f (get_or xs i e)) j d
flat-at f n each xs i j e d within below =
    let before : length (flat_map f (take i xs)) ≡ i * n
    = flat-length f n each (take i xs) ∙ ap (λ l. l * n) (length-take-le i xs (omega arith)) in
    subst (λ p. get_or (flat_map f xs) (p + j) d ≡ get_or (f (get_or xs i e)) j d) before
    (get_or-flat_map f xs i j e d within (omega (arith, each (get_or xs i e))))

-- a number of three digits
pub three-digits : (k flows blocks : ℕ) → 0 < flows → 0 < blocks
    → k / blocks / flows * (flows * blocks) + (k / blocks % flows * blocks + k % blocks) ≡ k
three-digits k flows blocks some_flow some_block =
    let scope = k / blocks / flows in
    let flow = k / blocks % flows in
    let low : k / blocks * blocks + k % blocks ≡ k = omega (arith, mul_comm (k / blocks) blocks) in
    let high : scope * flows + flow ≡ k / blocks = omega (arith, mul_comm scope flows) in
    let wide : (scope * flows + flow) * blocks ≡ k / blocks * blocks = ap (λ q. q * blocks) high in
    omega (arith, low, wide, add-mul (scope * flows) flow blocks, mul_assoc scope flows blocks)

pub scopes-length : (count : ℕ) → length (scopes count) ≡ count + 1
scopes-length count =
    omega (arith, length-append (map (λ k. Cluster k) (range_with_len 0 count)) (Network ∷ []), length-map-range_with_len (λ k. Cluster k) 0 count)

pub scope-cluster : (count k : ℕ) → k < count → get_or (scopes count) k Network ≡ Cluster k
scope-cluster count k below =
    get_or_append_left (map (λ k. Cluster k) (range_with_len 0 count)) (Network ∷ []) Network k
    (omega (arith, length-map-range_with_len (λ k. Cluster k) 0 count))
    ∙ get_or-map-range_with_len (λ k. Cluster k) 0 count k k Network below (omega arith)

pub scope-network : (count : ℕ) → get_or (scopes count) count Network ≡ Network
scope-network count =
    let clusters = map (λ k. Cluster k) (range_with_len 0 count) in
    let long : length clusters + 0 ≡ count = omega (arith, length-map-range_with_len (λ k. Cluster k) 0 count) in
    subst (λ p. get_or (clusters ++ Network ∷ []) p Network ≡ Network) long (get_or-append-add clusters (Network ∷ []) 0 Network)

module _ (m : Measured) where
  flow-length : (scope : Scope) (flow : ℕ) → length (flow_rows m scope flow) ≡ m.plan.end - m.plan.first
  flow-length scope flow = length-map-range_with_len (loss_row m scope flow) m.plan.first (m.plan.end - m.plan.first)

  scope-length : (scope : Scope) → length (scope_rows m scope) ≡ m.plan.flows * (m.plan.end - m.plan.first)
  scope-length scope =
      flat-length (flow_rows m scope) (m.plan.end - m.plan.first) (flow-length scope) (range_with_len 0 m.plan.flows)
      ∙ ap (λ l. l * (m.plan.end - m.plan.first)) (length-range_with_len 0 m.plan.flows)

  -- how many rows there are
  pub rows-length : length (loss_rows m) ≡ (count_of m.plan.clusters + 1) * (m.plan.flows * (m.plan.end - m.plan.first))
  unfolding loss_rows
  rows-length =
      flat-length (scope_rows m) (m.plan.flows * (m.plan.end - m.plan.first)) scope-length (scopes (count_of m.plan.clusters))
      ∙ ap (λ l. l * (m.plan.flows * (m.plan.end - m.plan.first))) (scopes-length (count_of m.plan.clusters))

  -- the row of a scope, a flow and a block
  pub row-there : (i flow j : ℕ) (d : LossRow) → i < count_of m.plan.clusters + 1 → flow < m.plan.flows → j < m.plan.end - m.plan.first
      → get_or (loss_rows m) (i * (m.plan.flows * (m.plan.end - m.plan.first)) + (flow * (m.plan.end - m.plan.first) + j)) d
      ≡ loss_row m (get_or (scopes (count_of m.plan.clusters)) i Network) flow (m.plan.first + j)
  unfolding loss_rows
  row-there i flow j d within flow_there below =
      let blocks = m.plan.end - m.plan.first in
      let scope = get_or (scopes (count_of m.plan.clusters)) i Network in
      let inner : flow * blocks + j < m.plan.flows * blocks
      = omega (arith, mul-add-lt flow blocks j m.plan.flows flow_there below, mul_comm m.plan.flows blocks) in
      let one = flat-at (scope_rows m) (m.plan.flows * blocks) scope-length (scopes (count_of m.plan.clusters)) i (flow * blocks + j) Network d
      (omega (arith, scopes-length (count_of m.plan.clusters))) inner in
      let two = flat-at (flow_rows m scope) blocks (flow-length scope) (range_with_len 0 m.plan.flows) flow j 0 d
      (omega (arith, length-range_with_len 0 m.plan.flows)) below in
      let three = ap (λ f. get_or (flow_rows m scope f) j d) (get_or-range_with_len 0 m.plan.flows flow 0 flow_there ∙ zero-add flow) in
      let four = get_or-map-range_with_len (loss_row m scope flow) m.plan.first blocks j (m.plan.first + j) d below refl in
      one ∙ two ∙ three ∙ four

  -- how many rows there are, as it is reckoned
  pub rows-counted : (clusters flows first end : ℕ) → clusters ≡ count_of m.plan.clusters → flows ≡ m.plan.flows
      → first ≡ m.plan.first → end ≡ m.plan.end → (clusters + 1) * flows * (end - first) ≡ length (loss_rows m)
  rows-counted clusters flows first end ec ef es ee =
      mul_assoc (clusters + 1) flows (end - first) ∙ rw (ec, ef, es, ee) (sym rows-length)

  -- the scope of a row is one of them
  pub scope-within : (k flows blocks : ℕ) → flows ≡ m.plan.flows → blocks ≡ m.plan.end - m.plan.first
      → 0 < flows → 0 < blocks → k < length (loss_rows m) → k / blocks / flows < count_of m.plan.clusters + 1
  scope-within k flows blocks ef eb some_flow some_block within =
      let total : length (loss_rows m) ≡ (count_of m.plan.clusters + 1) * (flows * blocks) = rw (ef, eb) rows-length in
      let wide : k < (count_of m.plan.clusters + 1) * flows * blocks
      = omega (arith, total, mul_assoc (count_of m.plan.clusters + 1) flows blocks) in
      div_below (k / blocks) flows (count_of m.plan.clusters + 1) some_flow
      (div_below k blocks ((count_of m.plan.clusters + 1) * flows) some_block wide)

  -- the row of a number, by the digits of which its scope, flow and block are found
  pub row-at : (k flows blocks : ℕ) (row : LossRow) → flows ≡ m.plan.flows → blocks ≡ m.plan.end - m.plan.first
      → 0 < flows → 0 < blocks → k < length (loss_rows m)
      → row ≡ loss_row m (get_or (scopes (count_of m.plan.clusters)) (k / blocks / flows) Network) (k / blocks % flows) (m.plan.first + k % blocks)
      → slice_get (loss_rows m) k ≡ Some row
  row-at k flows blocks row ef eb some_flow some_block within is =
      let scope = k / blocks / flows in
      let high = scope-within k flows blocks ef eb some_flow some_block within in
      let there = row-there scope (k / blocks % flows) (k % blocks) row high
      (omega (arith, mod_below (k / blocks) flows some_flow)) (omega (arith, mod_below k blocks some_block)) in
      let place = three-digits k flows blocks some_flow some_block in
      let here : get_or (loss_rows m) k row ≡ row
      = subst (λ p. get_or (loss_rows m) p row ≡ row) place (rw (ef, eb) (rw (ef, eb) at there ∙ sym (rw (ef, eb) at is))) in
      slice_get_read (loss_rows m) (length (loss_rows m)) k row refl within (sym here)

-- the scope of a place among the clusters, and of the one behind them
pub scope-last : (count i : ℕ) → count ≤ i → i < count + 1 → get_or (scopes count) i Network ≡ Network
scope-last count i from until =
    let e : i ≡ count = omega arith in
    ap (λ j. get_or (scopes count) j Network) e ∙ scope-network count
