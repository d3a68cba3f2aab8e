-- Where the cells of a table stand, and what is left where one of them, or all, were changed.
use Rattle.std.proofs.Common.{◌≡◌, ◌≢◌, ◌⊎◌, ◌∙◌, ℕ, suc, ◌+◌, ◌-◌, ◌*◌, ◌/◌, ◌%◌, ◌<◌, ◌≤◌, List, [], ◌∷◌, ◌++◌, get_or, set, take, drop, length, refl, sym, ap, subst, arith, inl, inr}
use Rattle.std.specs.Prelude.{All, sum_by}
use Rattle.std.proofs.lemmas.Nat.{mul-add-lt, same_from_place, div_below, mod_below}
use Rattle.std.proofs.Math.Nat.{mul_comm}
use Rattle.std.proofs.lemmas.List.{get_or-set_same, get_or-set_other, get_or_default, ext_get_or, drop_all, take_all, append-nil}
use Rattle.std.proofs.lemmas.List.Sums.{sum_by-set, sum_by-cons}
use Rattle.am_cells.specs.declared.cell.Cell.{Cell}
use Rattle.am_cells.specs.declared.cell.TheConstants.{MAX_COUNT}
use Rattle.am_cells.specs.Counts.{IsLawfulCell, no_packets, together}
use Rattle.am_cells.specs.CellTables.{CellTable, HasCell, HaveOneShape, IsCellTable, AddsTo, AddsAll, cell_number, cell_in, cell_at, total_of}

-- the cell of each flow and block stands among those of the table
pub number-below : (flows first end flow block : ℕ) → flow < flows → first ≤ block → block < end
    → (block - first) * flows + flow < flows * (end - first)
number-below flows first end flow block there from until =
    let h : block - first < end - first = omega arith in
    mul-add-lt (block - first) flows flow (end - first) h there

pub cell-below : (t : CellTable) (flow block : ℕ) → IsCellTable t → HasCell t flow block → cell_number t flow block < length t.cells
cell-below t flow block table there =
    rw table.whole (number-below t.flows t.first t.end flow block there.flow_there there.from there.until)

-- cells of two flows, or of two blocks, stand apart
pub number-other : (flows first f b flow block : ℕ) → f < flows → flow < flows → first ≤ b → first ≤ block
    → (f ≢ flow) ⊎ (b ≢ block) → (b - first) * flows + f ≢ (block - first) * flows + flow
number-other flows first f b flow block fh gh bh ch (inl n) e =
    n (same_from_place (b - first) f (block - first) flow flows fh gh e).1
number-other flows first f b flow block fh gh bh ch (inr n) e =
    let rows : b - first ≡ block - first = (same_from_place (b - first) f (block - first) flow flows fh gh e).0 in
    let same : b ≡ block = omega arith in
    n same

-- a table with other cells
abbrev pub with-cells : CellTable → List Cell → CellTable
with-cells t cells = record { flows = t.flows; first = t.first; end = t.end; cells = cells }

-- how many packets are counted where those of one cell were added to
pub put-total : (t : CellTable) (n : ℕ) (more : Cell) → n < length t.cells
    → total_of (with-cells t (set t.cells n (together (cell_in t.cells n) more))) ≡ total_of t + more.count
put-total t n more below =
    omega (arith, sum_by-set (λ (c : Cell). c.count) t.cells n (together (cell_in t.cells n) more) no_packets below)

-- the packets of a cell were added to those of one flow and block
pub put-adds : (t : CellTable) (flow block : ℕ) (more : Cell) → IsCellTable t → HasCell t flow block
    → AddsTo t (with-cells t (set t.cells (cell_number t flow block) (together (cell_at t flow block) more))) flow block more
put-adds t flow block more table there =
    let below = cell-below t flow block table there in
    record {
      changes = record {
        shape = record { flows_are = refl; first_is = refl; end_is = refl };
        changed = get_or-set_same t.cells (cell_number t flow block) (together (cell_at t flow block) more) no_packets below;
        others = λ f b h ne. get_or-set_other t.cells (cell_number t flow block) (cell_number t f b)
            (together (cell_at t flow block) more) no_packets
            (number-other t.flows t.first f b flow block h.flow_there there.flow_there h.from there.from ne);
      };
      total = put-total t (cell_number t flow block) more below;
    }

-- the packets of each two cells were put together
pub merged-total : (xs ys zs : List Cell) → length ys ≡ length xs → length zs ≡ length xs
    → ((k : ℕ) → k < length xs → cell_in zs k ≡ together (cell_in xs k) (cell_in ys k))
    → sum_by (λ (c : Cell). c.count) zs ≡ sum_by (λ (c : Cell). c.count) xs + sum_by (λ (c : Cell). c.count) ys
merged-total [] [] [] ly lz e = refl
merged-total [] (y ∷ ys) zs ly lz e = absurd (omega arith)
merged-total [] [] (z ∷ zs) ly lz e = absurd (omega arith)
merged-total (x ∷ xs) [] zs ly lz e = absurd (omega arith)
merged-total (x ∷ xs) (y ∷ ys) [] ly lz e = absurd (omega arith)
merged-total (x ∷ xs) (y ∷ ys) (z ∷ zs) ly lz e =
    let ly' : length ys ≡ length xs = omega arith in
    let lz' : length zs ≡ length xs = omega arith in
    let first : z ≡ together x y = e 0 (omega arith) in
    let more = merged-total xs ys zs ly' lz' (λ k h. e (suc k) (omega arith)) in
    let counts : z.count ≡ x.count + y.count = ap (λ (c : Cell). c.count) first in
    rw (sum_by-cons (λ (c : Cell). c.count) z zs, sum_by-cons (λ (c : Cell). c.count) x xs, sum_by-cons (λ (c : Cell). c.count) y ys)
    (omega (arith, more, counts))

-- tables of one shape with equal cells are equal
same-parts : (a b c a' b' c' : ℕ) (cells cells' : List Cell) → a ≡ a' → b ≡ b' → c ≡ c' → cells ≡ cells'
    → (let t : CellTable = record { flows = a; first = b; end = c; cells = cells } in t)
    ≡ record { flows = a'; first = b'; end = c'; cells = cells' }
same-parts a b c a' b' c' cells cells' p q r s = cc

-- the flow and the block of the cell before which so many stand
number-there : (flows first end k : ℕ) → 1 ≤ flows → first < end → k < flows * (end - first)
    → (k % flows < flows) × (first + k / flows < end) × ((first + k / flows - first) * flows + k % flows ≡ k)
number-there flows first end k some block below =
    let low : k % flows < flows = mod_below k flows some in
    let turned : k < (end - first) * flows = rw (mul_comm (end - first) flows) below in
    let row : k / flows < end - first = div_below k flows (end - first) some turned in
    let plain : first + k / flows - first ≡ k / flows = omega arith in
    let parts : k / flows * flows + k % flows ≡ k = omega (arith, mul_comm (k / flows) flows) in
    (low, omega arith, rw plain parts)

pub same-table : (a b : CellTable) → IsCellTable a → IsCellTable b → HaveOneShape a b
    → ((flow block : ℕ) → HasCell a flow block → cell_at b flow block ≡ cell_at a flow block) → a ≡ b
same-table a b at bt shape each =
    let long : length a.cells ≡ length b.cells = at.whole ∙ sym (rw (shape.flows_are, shape.first_is, shape.end_is) at bt.whole) in
    same-parts a.flows a.first a.end b.flows b.first b.end a.cells b.cells
    (sym shape.flows_are) (sym shape.first_is) (sym shape.end_is)
    (ext_get_or no_packets a.cells b.cells long (λ k below.
    let at-k = number-there a.flows a.first a.end k at.some_flow at.some_block (rw (sym at.whole) below) in
    let there : HasCell a (k % a.flows) (a.first + k / a.flows) = record { flow_there = at-k.0; from = omega arith; until = at-k.1 } in
    let same = each (k % a.flows) (a.first + k / a.flows) there in
    sym (rw (shape.flows_are, shape.first_is, at-k.2) at same)))

-- the packets of a cell were added to those of one flow and block, whose cell was found by its number
pub added : (t s : CellTable) (flow block n : ℕ) (more old new : Cell) → t ≡ s
    → IsCellTable s → HasCell s flow block → n ≡ cell_number s flow block → n < length s.cells
    → old ≡ get_or t.cells n old → new ≡ together old more
    → AddsTo s (with-cells t (set t.cells n new)) flow block more
added t s flow block n more old new same table there number below here sum =
    subst (λ (u : CellTable). IsCellTable u → HasCell u flow block → n ≡ cell_number u flow block → n < length u.cells
    → AddsTo u (with-cells t (set t.cells n new)) flow block more) same
    (λ ut uh un ub.
    let found : old ≡ cell_at t flow block = here ∙ get_or_default t.cells n old no_packets ub ∙ ap (λ (k : ℕ). cell_in t.cells k) un in
    rw (sum, found, un) (put-adds t flow block more ut uh))
    table there number below

-- all cells were written again
pub written-again : (xs ys : List Cell) (n : ℕ) → n ≡ length xs → length ys ≡ length xs
    → take n (ys ++ drop (length ys) xs) ≡ ys
written-again xs ys n long same =
    rw (drop_all (length ys) xs (omega arith), append-nil ys) (take_all n ys (omega arith))

-- tables of one shape have as many cells
pub as-long : (s o : CellTable) → IsCellTable s → IsCellTable o → HaveOneShape s o → length o.cells ≡ length s.cells
as-long s o st ot shape = rw (shape.flows_are, shape.first_is, shape.end_is) at ot.whole ∙ sym st.whole

-- the packets of two tables were put together
pub merged-adds : (s o : CellTable) (ys : List Cell) → IsCellTable s → IsCellTable o → HaveOneShape s o → length ys ≡ length s.cells
    → ((k : ℕ) → k < length s.cells → cell_in ys k ≡ together (cell_in s.cells k) (cell_in o.cells k))
    → AddsAll s o (with-cells s ys)
merged-adds s o ys st ot shape long each = record {
  shape = record { flows_are = refl; first_is = refl; end_is = refl };
  each = λ f b there. rw (shape.flows_are, shape.first_is) (each (cell_number s f b) (cell-below s f b st there));
  total = merged-total s.cells o.cells ys (as-long s o st ot shape) long each;
}

pub merged-table : (s o : CellTable) (ys : List Cell) → IsCellTable s → IsCellTable o → HaveOneShape s o → length ys ≡ length s.cells
    → ((k : ℕ) → k < length s.cells → cell_in ys k ≡ together (cell_in s.cells k) (cell_in o.cells k))
    → All IsLawfulCell ys → total_of s + total_of o ≤ MAX_COUNT
    → IsCellTable (with-cells s ys)
merged-table s o ys st ot shape long each lawful room = record {
  some_flow = st.some_flow;
  some_block = st.some_block;
  whole = long ∙ st.whole;
  few = rw long st.few;
  lawful = lawful;
  counted = rw (merged-total s.cells o.cells ys (as-long s o st ot shape) long each) room;
}

-- each cell is that of a flow and a block
pub cell-place : (t : CellTable) (number : ℕ) → IsCellTable t → number < length t.cells
    → (flow : ℕ) × (block : ℕ) × HasCell t flow block × (cell_number t flow block ≡ number)
cell-place t number table below =
    let place = number-there t.flows t.first t.end number table.some_flow table.some_block (rw (sym table.whole) below) in (
      number % t.flows,
      t.first + number / t.flows,
      record { flow_there = place.0; from = omega arith; until = place.1 },
      place.2,
    )
