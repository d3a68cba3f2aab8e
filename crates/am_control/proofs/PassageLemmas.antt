-- The passages of a scope, and where each stands among them.
use Rattle.std.proofs.Common.{◌≡◌, ◌∙◌, ℕ, suc, ◌+◌, ◌-◌, ◌*◌, ◌<◌, ◌≤◌, List, [], ◌∷◌, ◌++◌, length, get_or, map, refl, sym, ap, subst, arith, append_assoc, add-one, zero-add}
use Rattle.std.specs.Prelude.{flat_map}
use Rattle.std.specs.List.{range_with_len}
use Rattle.std.proofs.Math.Nat.{mul_comm, suc-mul, mul-le-mul_right}
use Rattle.std.proofs.lemmas.Nat.{mul-add-lt}
use Rattle.std.proofs.lemmas.List.{append-nil, map-append}
use Rattle.std.proofs.lemmas.List.Concat.{flat_map-append}
use Rattle.std.proofs.lemmas.List.FromFn.{length-range_with_len, get_or-range_with_len, length-map-range_with_len, get_or-map-range_with_len}
use Rattle.am_cells.specs.declared.cell.Cell.{Cell}
use Rattle.am_cells.specs.Counts.{no_packets}
use Rattle.am_cells.specs.declared.cells.TheConstants.{MAX_CELLS}
use Rattle.am_control.specs.declared.row.Scope.{Scope}
use Rattle.am_control.specs.declared.row.LossRow.{LossRow}
use Rattle.am_control.specs.declared.passage.Passage.{Passage}
use Rattle.am_control.specs.Rows.{Measured, side_cell, row_between, loss_row}
use Rattle.am_control.specs.Controls.{ControlValue, HasRow, IsControl, measured_of}
use Rattle.am_control.specs.Plans.{entering, leaving}
use Rattle.am_control.specs.Passages.{passage_at, block_passages, scope_passages}
use Rattle.am_control.proofs.ReportLemmas.{row-made}
use Rattle.am_control.proofs.RowLemmas.{flat-length, flat-at}
use Rattle.am_control.proofs.SideLemmas.{range-more}

-- what stands where there is no passage
abbrev pub no-passage : Passage
no-passage = record { came = no_packets; went = no_packets }

-- what passed both sides of a scope is its passage
pub passage-made : (m : Measured) (scope : Scope) (block flow : ℕ) (came went : Cell)
    → came ≡ side_cell m.cells flow block (entering m.plan scope) → went ≡ side_cell m.cells flow block (leaving m.plan scope)
    → (let p : Passage = record { came = came; went = went } in p) ≡ passage_at m scope block flow
passage-made m scope block flow came went p q =
    ap (λ x. record { came = x; went = went }) p
    ∙ ap (λ x. record { came = side_cell m.cells flow block (entering m.plan scope); went = x }) q

-- the row of a passage
pub row-from : (m : Measured) (scope : Scope) (flow block : ℕ) (passage : Passage) (row : LossRow)
    → passage ≡ passage_at m scope block flow → row ≡ row_between scope flow block passage.came passage.went
    → row ≡ loss_row m scope flow block
row-from m scope flow block passage row is made =
    made ∙ row-made m scope flow block passage.came passage.went (ap (λ p. p.came) is) (ap (λ p. p.went) is)

module _ (m : Measured) (scope : Scope) where
  -- the passages of a block and the flows so far, and of the blocks before one
  abbrev pub flows-before : ℕ → ℕ → List Passage
  flows-before block flow = map (passage_at m scope block) (range_with_len 0 flow)

  abbrev pub blocks-before : ℕ → List Passage
  blocks-before block = flat_map (block_passages m scope) (range_with_len m.plan.first (block - m.plan.first))

  pub flows-long : (block flow : ℕ) → length (flows-before block flow) ≡ flow
  flows-long block flow = length-map-range_with_len (passage_at m scope block) 0 flow

  -- one passage more
  pub flows-more : (held : List Passage) (block flow : ℕ) (passage : Passage) → passage ≡ passage_at m scope block flow
      → (held ++ flows-before block flow) ++ passage ∷ [] ≡ held ++ flows-before block (flow + 1)
  flows-more held block flow passage is =
      let f = passage_at m scope block in
      let next : flows-before block (flow + 1) ≡ flows-before block flow ++ f flow ∷ []
      = ap (λ n. map f (range_with_len 0 n)) (add-one flow) ∙ ap (map f) (range-more 0 flow)
      ∙ map-append f (range_with_len 0 flow) ((0 + flow) ∷ [])
      ∙ ap (λ n. map f (range_with_len 0 flow) ++ f n ∷ []) (zero-add flow) in
      append_assoc held (flows-before block flow) (passage ∷ [])
      ∙ ap (λ t. held ++ t) (ap (λ p. flows-before block flow ++ p ∷ []) is ∙ sym next)

  block-long : (block : ℕ) → length (block_passages m scope block) ≡ m.plan.flows
  block-long block = flows-long block m.plan.flows

  pub blocks-none : (block : ℕ) → block ≡ m.plan.first → blocks-before block ≡ []
  blocks-none block is =
      let none : block - m.plan.first ≡ 0 = omega (arith, is) in
      rw none refl

  pub blocks-long : (block : ℕ) → length (blocks-before block) ≡ (block - m.plan.first) * m.plan.flows
  blocks-long block =
      flat-length (block_passages m scope) m.plan.flows block-long (range_with_len m.plan.first (block - m.plan.first))
      ∙ ap (λ l. l * m.plan.flows) (length-range_with_len m.plan.first (block - m.plan.first))

  -- there is room for those of one block more
  pub block-fits : (block : ℕ) → m.plan.first ≤ block → block < m.plan.end
      → length (blocks-before block) + m.plan.flows ≤ m.plan.flows * (m.plan.end - m.plan.first)
  block-fits block from until =
      let most : (block - m.plan.first) * m.plan.flows + m.plan.flows ≤ (m.plan.end - m.plan.first) * m.plan.flows
      = rows-fit (block - m.plan.first) (m.plan.end - m.plan.first) m.plan.flows (omega (arith, from, until)) in
      omega (arith, blocks-long block, most, mul_comm (m.plan.end - m.plan.first) m.plan.flows)
    where
      rows-fit : (a b n : ℕ) → a < b → a * n + n ≤ b * n
      rows-fit a b n less = omega (arith, mul-le-mul_right {m = suc a} {n = b} n (omega arith), suc-mul a n)

  -- those of one block more
  pub blocks-more : (block : ℕ) → m.plan.first ≤ block
      → blocks-before block ++ block_passages m scope block ≡ blocks-before (block + 1)
  blocks-more block from =
      let f = block_passages m scope in
      let first = m.plan.first in
      let count = block - first in
      let next : block + 1 - first ≡ suc count = omega (arith, from) in
      let here : first + count ≡ block = omega (arith, from) in
      sym (ap (λ n. flat_map f (range_with_len first n)) next ∙ ap (flat_map f) (range-more first count)
      ∙ flat_map-append f (range_with_len first count) ((first + count) ∷ [])
      ∙ ap (λ b. flat_map f (range_with_len first count) ++ (f b ++ [])) here
      ∙ ap (λ t. flat_map f (range_with_len first count) ++ t) (append-nil (f block)))

  pub blocks-all : (block : ℕ) → block ≡ m.plan.end → blocks-before block ≡ scope_passages m scope
  blocks-all block is = rw is refl

  -- the place of a passage is among them
  pub place-within : (passages : List Passage) (flow block flows first : ℕ) → flows ≡ m.plan.flows → first ≡ m.plan.first
      → passages ≡ scope_passages m scope → HasRow m.plan flow block → (block - first) * flows + flow < length passages
  place-within passages flow block flows first ef ei are there =
      let long = ap length are ∙ blocks-long m.plan.end in
      let below = mul-add-lt (block - m.plan.first) m.plan.flows flow (m.plan.end - m.plan.first)
      (omega (arith, there.from, there.until)) there.flow_there in
      rw (ef, ei) (omega (arith, long, below))

  -- and so below the most cells of a table
  pub place-few : (c : ControlValue) (passages : List Passage) (flow block flows first : ℕ) → measured_of c ≡ m → IsControl c
      → flows ≡ m.plan.flows → first ≡ m.plan.first → passages ≡ scope_passages m scope → HasRow m.plan flow block
      → (block - first) * flows + flow < MAX_CELLS
  place-few c passages flow block flows first is control ef ei are there =
      let few : m.plan.flows * (m.plan.end - m.plan.first) ≤ MAX_CELLS
      = subst (λ m. m.plan.flows * (m.plan.end - m.plan.first) ≤ MAX_CELLS) is control.few_cells in
      let long = ap length are ∙ blocks-long m.plan.end in
      omega (
        arith,
        place-within passages flow block flows first ef ei are there,
        long,
        few,
        mul_comm (m.plan.end - m.plan.first) m.plan.flows,
      )

  -- and there it stands
  pub passage-there : (passages : List Passage) (flow block flows first : ℕ) → flows ≡ m.plan.flows → first ≡ m.plan.first
      → passages ≡ scope_passages m scope → HasRow m.plan flow block
      → get_or passages ((block - first) * flows + flow) no-passage ≡ passage_at m scope block flow
  passage-there passages flow block flows begin ef ei are there =
      let first = m.plan.first in
      let count = m.plan.end - first in
      let below : block - first < count = omega (arith, there.from, there.until) in
      let place : (block - begin) * flows + flow ≡ (block - first) * m.plan.flows + flow = rw (ef, ei) refl in
      let one = flat-at (block_passages m scope) m.plan.flows block-long (range_with_len first count) (block - first) flow 0 no-passage
      (omega (arith, length-range_with_len first count)) there.flow_there in
      let here : get_or (range_with_len first count) (block - first) 0 ≡ block
      = get_or-range_with_len first count (block - first) 0 below ∙ omega (arith, there.from) in
      let two = ap (λ b. get_or (block_passages m scope b) flow no-passage) here in
      let three = get_or-map-range_with_len (passage_at m scope block) 0 m.plan.flows flow flow no-passage there.flow_there (omega arith) in
      ap (λ n. get_or passages n no-passage) place ∙ ap (λ ps. get_or ps ((block - first) * m.plan.flows + flow) no-passage) are
      ∙ one ∙ two ∙ three
