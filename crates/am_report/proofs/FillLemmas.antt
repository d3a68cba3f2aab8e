-- What is left where one more row of a report was taken.
use Rattle.std.proofs.Common.{◌≡◌, ◌≢◌, ◌⊎◌, ◌∙◌, ℕ, zero, suc, ◌+◌, ◌-◌, ◌<◌, ◌≤◌, List, [], ◌∷◌, ◌++◌, get_or, length, Option, Some, None, refl, sym, ap, arith, inl, inr}
use Rattle.std.specs.Prelude.{All, IfSome, MatchOption}
use Rattle.std.proofs.lemmas.Bool.{cases_eq}
use Rattle.std.proofs.lemmas.List.{length-append}
use Rattle.std.proofs.lemmas.List.Elements.{All-nil, All-push}
use Rattle.std.proofs.lemmas.List.Sums.{sum_by_push}
use Rattle.std.proofs.lemmas.Nat.{same_from_place}
use Rattle.am_cells.specs.declared.cell.Cell.{Cell}
use Rattle.am_cells.specs.Counts.{no_packets, together}
use Rattle.am_cells.specs.CellTables.{CellTable, HasCell, HaveOneShape, AddsTo, cell_number, cell_at}
use Rattle.am_domain.specs.Domains.{DomainValue}
use Rattle.am_domain.specs.Network.{IsNumberOf}
use Rattle.am_domain.specs.Values.{NodeValue}
use Rattle.am_report.specs.Rows.{RowValue}
use Rattle.am_report.specs.Filling.{IsFilling, IsFilled}
use Rattle.am_report.specs.declared.filling.Filling.{Filling}

-- the cell of no packets takes the numbers that are added to it
from-none : (a b : Cell) → a ≡ no_packets → together a b ≡ b
from-none a b e =
    rw e (let p : 0 + b.count ≡ b.count = omega arith in
    let q : 0 + b.dcount ≡ b.dcount = omega arith in
    let r : 0 + b.sum ≡ b.sum = omega arith in
    let s : 0 + b.dsum ≡ b.dsum = omega arith in
    rw (p, q, r, s) refl)

-- the row after the last, and one before it
last-row : (rows : List RowValue) (r d : RowValue) (k : ℕ) → k ≡ length rows → get_or (rows ++ (r ∷ [])) k d ≡ r
last-row [] r d k e = rw e refl
last-row (x ∷ rows) r d k e = rw e (last-row rows r d (length rows) refl)

front-row : (rows : List RowValue) (r d : RowValue) (k : ℕ) → k < length rows → get_or (rows ++ (r ∷ [])) k d ≡ get_or rows k d
front-row [] r d k h = absurd (omega arith)
front-row (x ∷ rows) r d k h = elim k as (λ j. j < length (x ∷ rows) → get_or ((x ∷ rows) ++ (r ∷ [])) j d ≡ get_or (x ∷ rows) j d) [
  | zero ↦ λ low. refl
  | suc j ↦ λ low. front-row rows r d j (omega arith)
] h

-- names with one number are one
pub one-name : (nodes : List NodeValue) (a b : List ℕ) (n : ℕ) → IsNumberOf nodes a n → IsNumberOf nodes b n → a ≡ b
one-name nodes a b n p q =
    let some : NodeValue = record { name = []; capture = []; from = 0; until = 0 } in
    sym (p.here some) ∙ q.here some

-- the place that is wanted is the one before which the rows stand
place-of : (d : DomainValue) (f : Filling) (taken : List RowValue) → IsFilling d f → IsFilled d f taken
    → cell_number f.cells f.flow f.block ≡ length taken
place-of d f taken sound filled =
    rw (sound.shape.flows_are, sound.shape.first_is) (omega (arith, sound.number, filled.number))

-- the cell of another place
other-place : (d : DomainValue) (f : Filling) (flow block : ℕ) → IsFilling d f → HasCell f.cells flow block
    → cell_number f.cells flow block ≢ cell_number f.cells f.flow f.block → (flow ≢ f.flow) ⊎ (block ≢ f.block)
other-place d f flow block sound there apart = elim (cases_eq flow f.flow) [
  | inl same ↦ inr (λ e. apart (rw (same, e) refl))
  | inr differ ↦ inl differ
]

same-place : (d : DomainValue) (f : Filling) (flow block : ℕ) → IsFilling d f → HasCell f.cells flow block
    → cell_number f.cells flow block ≡ cell_number f.cells f.flow f.block → (flow ≡ f.flow) × (block ≡ f.block)
same-place d f flow block sound there e =
    let here : f.flow < f.cells.flows = rw sound.shape.flows_are sound.flow_there in
    let low : f.cells.first ≤ f.block = rw sound.shape.first_is sound.from in
    let parts = same_from_place (block - f.cells.first) flow (f.block - f.cells.first) f.flow f.cells.flows there.flow_there here e in
    (parts.1, omega (arith, parts.0, there.from, low))

-- a cell that is in the new table is in the old one, at the same place
was-there : (old new : CellTable) (flow block : ℕ) → HaveOneShape old new → HasCell new flow block → HasCell old flow block
was-there old new flow block shape has = record {
  flow_there = rw shape.flows_are at has.flow_there;
  from = rw shape.first_is at has.from;
  until = rw shape.end_is at has.until;
}

same-number : (old new : CellTable) (flow block : ℕ) → HaveOneShape old new
    → cell_number new flow block ≡ cell_number old flow block
same-number old new flow block shape = rw (shape.first_is, shape.flows_are) refl

there-more : (d : DomainValue) (f g : Filling) (taken : List RowValue) (r : RowValue)
    → IsFilling d f → IsFilled d f taken → AddsTo f.cells g.cells f.flow f.block r.cell
    → HasCell f.cells f.flow f.block → cell_number f.cells f.flow f.block ≡ length taken
    → (flow block : ℕ) (dr : RowValue) → HasCell g.cells flow block
    → cell_number g.cells flow block < length (taken ++ (r ∷ []))
    → cell_at g.cells flow block ≡ (get_or (taken ++ (r ∷ [])) (cell_number g.cells flow block) dr).cell
there-more d f g taken r sound filled adds wanted place flow block dr has low =
    let shape = adds.changes.shape in
    let old = was-there f.cells g.cells flow block shape has in
    let number = same-number f.cells g.cells flow block shape in
    let long = length-append taken (r ∷ []) in
    let row = λ (k : ℕ). (get_or (taken ++ (r ∷ [])) k dr).cell in
    elim (cases_eq (cell_number f.cells flow block) (length taken)) [
      | inl here ↦
          let parts = same-place d f flow block sound old (here ∙ sym place) in
          let none = filled.ahead f.flow f.block wanted (omega (arith, place)) in
          let added : cell_at g.cells f.flow f.block ≡ r.cell = adds.changes.changed ∙ from-none _ r.cell none in
          let last = last-row taken r dr (cell_number f.cells flow block) here in
          ap (λ (x : ℕ). cell_at g.cells x block) parts.0 ∙ ap (λ (x : ℕ). cell_at g.cells f.flow x) parts.1
          ∙ added ∙ ap (λ (q : RowValue). q.cell) (sym last) ∙ ap row (sym number)
      | inr apart ↦
          let below : cell_number f.cells flow block < length taken = omega (arith, low, long, number, apart) in
          let kept = adds.changes.others flow block old (other-place d f flow block sound old (λ e. apart (e ∙ place))) in
          kept ∙ filled.there flow block dr old below
          ∙ ap (λ (q : RowValue). q.cell) (sym (front-row taken r dr (cell_number f.cells flow block) below)) ∙ ap row (sym number)
    ]

ahead-more : (d : DomainValue) (f g : Filling) (taken : List RowValue) (r : RowValue)
    → IsFilling d f → IsFilled d f taken → AddsTo f.cells g.cells f.flow f.block r.cell
    → cell_number f.cells f.flow f.block ≡ length taken
    → (flow block : ℕ) → HasCell g.cells flow block
    → length (taken ++ (r ∷ [])) ≤ cell_number g.cells flow block → cell_at g.cells flow block ≡ no_packets
ahead-more d f g taken r sound filled adds place flow block has high =
    let shape = adds.changes.shape in
    let old = was-there f.cells g.cells flow block shape has in
    let number = same-number f.cells g.cells flow block shape in
    let long = length-append taken (r ∷ []) in
    let behind : length taken < cell_number f.cells flow block = omega (arith, high, long, number) in
    let apart = λ (e : cell_number f.cells flow block ≡ cell_number f.cells f.flow f.block). let no : ⊥ = omega (arith, e, place, behind) in no in
    adds.changes.others flow block old (other-place d f flow block sound old apart)
    ∙ filled.ahead flow block old (omega (arith, behind))

nodes-more : (d : DomainValue) (first : Option ℕ) (taken : List RowValue) (r : RowValue) (n : ℕ)
    → MatchOption first (taken ≡ []) (λ m. (0 < length taken) × All (λ q. IsNumberOf d.nodes q.node m) taken)
    → IfSome first (λ m. n ≡ m) → IsNumberOf d.nodes r.node n
    → All (λ q. IsNumberOf d.nodes q.node n) (taken ++ (r ∷ []))
nodes-more d None taken r n none same number =
    rw none (All-push (λ q. IsNumberOf d.nodes q.node n) [] r (All-nil (λ q. IsNumberOf d.nodes q.node n)) number)
nodes-more d (Some m) taken r n some same number =
    All-push (λ q. IsNumberOf d.nodes q.node n) taken r (rw same some.1) number

-- a row more, whose cell was added where it is wanted
pub filled-more : (d : DomainValue) (f g : Filling) (taken : List RowValue) (r : RowValue) (n : ℕ)
    → IsFilling d f → IsFilled d f taken
    → AddsTo f.cells g.cells f.flow f.block r.cell → f.block < d.end → g.row ≡ f.row + 1 → g.node ≡ Some n
    → IsNumberOf d.nodes r.node n → IfSome f.node (λ m. n ≡ m)
    → IsFilled d g (taken ++ (r ∷ []))
filled-more d f g taken r n sound filled adds left row node number same =
    let place = place-of d f taken sound filled in
    let shape = adds.changes.shape in
    let long = length-append taken (r ∷ []) in
    let wanted : HasCell f.cells f.flow f.block = record {
      flow_there = rw sound.shape.flows_are sound.flow_there;
      from = rw sound.shape.first_is sound.from;
      until = rw sound.shape.end_is left;
    } in
    record {
      number = omega (arith, row, filled.number, long);
      there = λ flow block dr has low. there-more d f g taken r sound filled adds wanted place flow block dr has low;
      ahead = λ flow block has high. ahead-more d f g taken r sound filled adds place flow block has high;
      counted = adds.total ∙ (rw filled.counted (sym (sum_by_push (λ (q : RowValue). q.cell.count) taken r)));
      node = rw node (omega (arith, long), nodes-more d f.node taken r n filled.node same number);
    }
