-- Rows that are read one after another, and what their text is then.
use Rattle.std.proofs.Common.{◌≡◌, ◌∙◌, ℕ, ◌+◌, ◌-◌, ◌*◌, ◌^◌, ◌<◌, List, [], ◌∷◌, ◌++◌, get_or, length, add-zero, Some, Result, Ok, Err, sym, ap, arith}
use Rattle.std.specs.Prelude.{IfOk, IfErr, map}
use Rattle.std.proofs.lemmas.List.{ext_get_or}
use Rattle.std.proofs.lemmas.Nat.{same_from_place}
use Rattle.std.proofs.Math.ListN.{get_or-map, length-map}
use Rattle.std.proofs.Math.Nat.{mul_comm}
use Rattle.am_cells.specs.declared.cell.Cell.{Cell}
use Rattle.am_cells.specs.Counts.{IsLawfulCell, no_packets}
use Rattle.am_cells.specs.CellTables.{CellTable, IsCellTable, HasCell, cell_number}
use Rattle.am_domain.specs.Domains.{DomainValue}
use Rattle.am_report.specs.Rows.{RowValue, SpellsRow}
use Rattle.am_report.specs.Reports.{IsTaken, TakesRows, AreAllTaken, IsRowRefusal, IsReportOf, IsWanted, TellsReportRefusal}
use Rattle.am_report.specs.Filling.{IsFilling, IsFilled, Comes}
use Rattle.am_report.specs.declared.filling.Filling.{Filling}
use Rattle.am_report.specs.declared.read.Report.{Report}
use Rattle.am_report.specs.declared.error.ReportError.{ReportError}
use Rattle.am_report.specs.declared.error.ReportError.TheVariants.{BadHeader, BadRow, UnknownNode, OtherNode, UnknownFlow, NotInOrder, Short, Memory}
use Rattle.am_report.proofs.DecimalLemmas.{decimal-one}
use Rattle.am_report.proofs.FieldLemmas.{fields-by-row}

-- the numbers of a lawful cell have 128 bits
pub cell-fits : (c : Cell) → IsLawfulCell c
    → (c.count < 2 ^ 64) × (c.sum < 2 ^ 128) × (c.dcount < 2 ^ 64) × (c.dsum < 2 ^ 128)
cell-fits c h = (omega arith, omega arith, omega arith, omega arith)

pub some-one : (a b : List ℕ) → Some a ≡ Some b → a ≡ b
some-one a b e = cc

pub wider : (n : ℕ) → n < 2 ^ 64 → n < 2 ^ 128
wider n h = omega arith

row-parts : (node node' flow flow' : List ℕ) (block block' count count' total total' dcount dcount' dsum dsum' : ℕ)
    → node ≡ node' → flow ≡ flow' → block ≡ block' → count ≡ count' → total ≡ total' → dcount ≡ dcount' → dsum ≡ dsum'
    → (let r : RowValue = record { node = node; flow = flow; block = block; cell = record { count = count; dcount = dcount; sum = total; dsum = dsum } } in r)
    ≡ record { node = node'; flow = flow'; block = block'; cell = record { count = count'; dcount = dcount'; sum = total'; dsum = dsum' } }
row-parts node node' flow flow' block block' count count' total total' dcount dcount' dsum dsum' a b c d e f g = cc

-- fields are those of one row at most
pub one-row : (fs : List (List ℕ)) (r s : RowValue) → SpellsRow fs r → SpellsRow fs s → r ≡ s
one-row fs r s p q =
    let a = fields-by-row fs r p.spelled in
    let b = fields-by-row fs s q.spelled in
    let m = cell-fits r.cell p.lawful in
    let n = cell-fits s.cell q.lawful in
    let node = some-one r.node s.node (sym a.node ∙ b.node) in
    let flow = some-one r.flow s.flow (sym a.flow ∙ b.flow) in
    let block = decimal-one r.block s.block (wider _ p.block_fits) (wider _ q.block_fits) (some-one _ _ (sym a.block ∙ b.block)) in
    let count = decimal-one r.cell.count s.cell.count (wider _ m.0) (wider _ n.0) (some-one _ _ (sym a.count ∙ b.count)) in
    let total = decimal-one r.cell.sum s.cell.sum m.1 n.1 (some-one _ _ (sym a.sum ∙ b.sum)) in
    let dcount = decimal-one r.cell.dcount s.cell.dcount (wider _ m.2) (wider _ n.2) (some-one _ _ (sym a.dcount ∙ b.dcount)) in
    let dsum = decimal-one r.cell.dsum s.cell.dsum m.3 n.3 (some-one _ _ (sym a.dsum ∙ b.dsum)) in
    row-parts _ _ _ _ _ _ _ _ _ _ _ _ _ _ node flow block count total dcount dsum

-- one row more is taken
pub takes-more : (d : DomainValue) (before : List RowValue) (rows : List (List (List ℕ))) (after : List RowValue)
    → (fields : List (List ℕ)) (r : RowValue) → TakesRows d before rows after → IsTaken d after fields r
    → TakesRows d before (rows ++ (fields ∷ [])) (after ++ (r ∷ []))
takes-more d before [] after fields r e t = (r, rw (sym e) t, ap (λ (rs : List RowValue). rs ++ (r ∷ [])) e)
takes-more d before (first ∷ rows) after fields r h t =
    (h.0, h.1, takes-more d (before ++ (h.0 ∷ [])) rows after fields r h.2 t)

-- what is said of a row that is refused is what the text is refused by
pub tells-row : (d : DomainValue) (bytes : List ℕ) (e : ReportError) → IsRowRefusal d bytes e → TellsReportRefusal d bytes e
tells-row d bytes BadHeader h = absurd h.refused
tells-row d bytes (BadRow row) h = h
tells-row d bytes (UnknownNode row) h = h
tells-row d bytes (OtherNode row) h = h
tells-row d bytes (UnknownFlow row) h = h
tells-row d bytes (NotInOrder row) h = h
tells-row d bytes (Short flow block) h = absurd h.refused
tells-row d bytes Memory h = tt

pub same-parts : (a b c a' b' c' : ℕ) (cells cells' : List Cell) → a ≡ a' → b ≡ b' → c ≡ c' → cells ≡ cells'
    → (let t : CellTable = record { flows = a; first = b; end = c; cells = cells } in t)
    ≡ record { flows = a'; first = b'; end = c'; cells = cells' }
same-parts a b c a' b' c' cells cells' p q r s = cc

-- where all rows were taken, the table has their cells
pub whole-table : (d : DomainValue) (f : Filling) (taken : List RowValue) → IsCellTable f.cells
    → ((number : ℕ) → number < length f.cells.cells
    → (flow : ℕ) × (block : ℕ) × HasCell f.cells flow block × (cell_number f.cells flow block ≡ number))
    → IsFilling d f → IsFilled d f taken → f.block ≡ d.end
    → (length taken ≡ length d.flows * (d.end - d.first))
    × (f.cells ≡ record { flows = length d.flows; first = d.first; end = d.end; cells = map (λ (r : RowValue). r.cell) taken })
whole-table d f taken table places sound filled over =
    let none = sound.whole over in
    let counted : length taken ≡ (f.block - d.first) * length d.flows + f.flow = omega (arith, sound.number, filled.number) in
    let rows : length taken ≡ length d.flows * (d.end - d.first) =
    (rw (over, none) at counted) ∙ add-zero _ ∙ mul_comm (d.end - d.first) (length d.flows) in
    let cell_of = λ (r : RowValue). r.cell in
    let whole = rw (sound.shape.flows_are, sound.shape.first_is, sound.shape.end_is) at table.whole in
    let long : length f.cells.cells ≡ length (map cell_of taken) = whole ∙ sym rows ∙ sym (length-map taken cell_of) in
    let some : RowValue = record { node = []; flow = []; block = 0; cell = no_packets } in
    let each : (k : ℕ) → k < length f.cells.cells → get_or f.cells.cells k no_packets ≡ get_or (map cell_of taken) k no_packets =
    λ k below.
    let place = places k below in
    let low : cell_number f.cells place.0 place.1 < length taken = omega (arith, place.3, below, whole, rows) in
    (rw place.3 at (filled.there place.0 place.1 some place.2 low)) ∙ sym (get_or-map cell_of taken k some) in (
      rows,
      same-parts _ _ _ _ _ _ _ _ sound.shape.flows_are sound.shape.first_is sound.shape.end_is
          (ext_get_or no_packets f.cells.cells (map cell_of taken) long each),
    )

-- where more rows are wanted, the next one is
pub next-wanted : (d : DomainValue) (f : Filling) (taken : List RowValue) → IsFilling d f → IsFilled d f taken → f.block < d.end
    → IsWanted d (length taken) f.flow f.block
next-wanted d f taken sound filled left = record {
  flow_there = sound.flow_there;
  from = sound.from;
  until = left;
  next = omega (arith, sound.number, filled.number);
}

-- no other one is
pub only-wanted : (d : DomainValue) (f : Filling) (taken : List RowValue) (flow block : ℕ) → IsFilling d f → IsFilled d f taken
    → IsWanted d (length taken) flow block → (flow ≡ f.flow) × (block ≡ f.block)
only-wanted d f taken flow block sound filled wanted =
    let same : (block - d.first) * length d.flows + flow ≡ (f.block - d.first) * length d.flows + f.flow =
    omega (arith, wanted.next, sound.number, filled.number) in
    let parts = same_from_place (block - d.first) flow (f.block - d.first) f.flow (length d.flows) wanted.flow_there sound.flow_there same in
    (parts.1, omega (arith, parts.0, wanted.from, sound.from))

-- all rows were taken, and they come to this
pub said-report : (d : DomainValue) (bytes : List ℕ) (taken : List RowValue) (result : Result Report ReportError)
    → AreAllTaken d bytes taken → Comes d taken result
    → IfOk result (IsReportOf d bytes) × IfErr result (TellsReportRefusal d bytes)
said-report d bytes taken (Ok r) all h = (record { taken = taken; all = all; whole = h.0; node = h.1; cells = h.2 }, tt)
said-report d bytes taken (Err (Short flow block)) all h = (tt, record { taken = taken; all = all; wanted = h })
said-report d bytes taken (Err BadHeader) all h = absurd h
said-report d bytes taken (Err (BadRow n)) all h = absurd h
said-report d bytes taken (Err (UnknownNode n)) all h = absurd h
said-report d bytes taken (Err (OtherNode n)) all h = absurd h
said-report d bytes taken (Err (UnknownFlow n)) all h = absurd h
said-report d bytes taken (Err (NotInOrder n)) all h = absurd h
said-report d bytes taken (Err Memory) all h = absurd h
