-- The parts of a row are the row.
use Rattle.std.proofs.Common.{◌≡◌, ◌∙◌, ℕ, ◌^◌, ◌<◌, List, length, Some, None, sym}
use Rattle.std.specs.Prelude.{codes}
use Rattle.csv.specs.Records.{field_at}
use Rattle.am_cells.specs.declared.cell.Cell.{Cell}
use Rattle.am_report.specs.Rows.{RowValue, SpellsRow}
use Rattle.am_report.specs.RowParts.{IsNumberField, IsCellThere}
use Rattle.am_report.proofs.DecimalLemmas.{decimal-one}
use Rattle.am_report.proofs.FieldLemmas.{RowFields, fields-by-row, row-by-fields}
use Rattle.am_report.proofs.ReadLemmas.{cell-fits, some-one, wider}

-- a field says one number
pub one-number-field : (fields : List (List ℕ)) (place m n : ℕ) → m < 2 ^ 128 → n < 2 ^ 128
    → IsNumberField fields place m → IsNumberField fields place n → m ≡ n
one-number-field fields place m n p q a b = decimal-one m n p q (some-one _ _ (sym a ∙ b))

cell-parts : (a b c d a' b' c' d' : ℕ) → a ≡ a' → b ≡ b' → c ≡ c' → d ≡ d'
    → (let x : Cell = record { count = a; dcount = b; sum = c; dsum = d } in x) ≡ record { count = a'; dcount = b'; sum = c'; dsum = d' }
cell-parts a b c d a' b' c' d' p q r s = cc

-- the four fields say one cell, lawful or not
pub same-cell : (fields : List (List ℕ)) (c e : Cell) → (c.count < 2 ^ 64) × (c.sum < 2 ^ 128) × (c.dcount < 2 ^ 64) × (c.dsum < 2 ^ 128)
    → IsNumberField fields 4 c.count → IsNumberField fields 5 c.sum → IsNumberField fields 6 c.dcount → IsNumberField fields 7 c.dsum
    → IsCellThere fields e → c ≡ e
same-cell fields c e fits count total dcount dsum there =
    let n = cell-fits e there.lawful in
    cell-parts _ _ _ _ _ _ _ _ (one-number-field fields 4 c.count e.count (wider _ fits.0) (wider _ n.0) count there.count)
    (one-number-field fields 6 c.dcount e.dcount (wider _ fits.2) (wider _ n.2) dcount there.dcount)
    (one-number-field fields 5 c.sum e.sum fits.1 n.1 total there.sum)
    (one-number-field fields 7 c.dsum e.dsum fits.3 n.3 dsum there.dsum)

-- a row's parts stand in its fields
pub parts-of : (fields : List (List ℕ)) (r : RowValue) → SpellsRow fields r → RowFields fields r
parts-of fields r s = fields-by-row fields r s.spelled

pub cell-of : (fields : List (List ℕ)) (r : RowValue) → SpellsRow fields r → IsCellThere fields r.cell
cell-of fields r s =
    let p = fields-by-row fields r s.spelled in
    record { count = p.count; sum = p.sum; dcount = p.dcount; dsum = p.dsum; lawful = s.lawful }

-- fields with the parts of a row are that row's
pub row-of-parts : (fields : List (List ℕ)) (r : RowValue) → length fields ≡ 8
    → field_at fields 0 ≡ Some (codes "1") → field_at fields 1 ≡ Some r.node → field_at fields 2 ≡ Some r.flow
    → IsNumberField fields 3 r.block → r.block < 2 ^ 64 → IsCellThere fields r.cell → SpellsRow fields r
row-of-parts fields r long version node flow block fits there = record {
  spelled = row-by-fields fields r (record {
    long = long;
    version = version;
    node = node;
    flow = flow;
    block = block;
    count = there.count;
    sum = there.sum;
    dcount = there.dcount;
    dsum = there.dsum;
  });
  block_fits = fits;
  lawful = there.lawful;
}

-- a place where a row has a field isn't empty
pub none-there : (fields : List (List ℕ)) (place : ℕ) (text : List ℕ) → field_at fields place ≡ None → field_at fields place ≡ Some text → ⊥
none-there fields place text none some = cc (sym none ∙ some)
