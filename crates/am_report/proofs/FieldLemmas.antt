-- The fields of a row, one by one.
use Rattle.std.proofs.Common.{◌≡◌, ℕ, zero, suc, ◌<◌, List, [], ◌∷◌, get_or, length, Some, refl, arith}
use Rattle.std.specs.Prelude.{codes, decimal}
use Rattle.csv.specs.Records.{field_at}
use Rattle.am_report.specs.Rows.{RowValue, row_fields}

-- eight fields are a list of eight
pub eight : (fs : List (List ℕ)) (a b c d e f g h : List ℕ) → length fs ≡ 8
    → field_at fs 0 ≡ Some a → field_at fs 1 ≡ Some b → field_at fs 2 ≡ Some c → field_at fs 3 ≡ Some d
    → field_at fs 4 ≡ Some e → field_at fs 5 ≡ Some f → field_at fs 6 ≡ Some g → field_at fs 7 ≡ Some h
    → fs ≡ a ∷ b ∷ c ∷ d ∷ e ∷ f ∷ g ∷ h ∷ []
unfolding field_at
eight (s ∷ t ∷ u ∷ v ∷ w ∷ x ∷ y ∷ z ∷ []) a b c d e f g h l p0 p1 p2 p3 p4 p5 p6 p7 = cc
eight fs a b c d e f g h l p0 p1 p2 p3 p4 p5 p6 p7 = absurd (omega (arith, l))

-- the fields of a row by their places
pub record RowFields (fs : List (List ℕ)) (r : RowValue) : Type 0 where
  pub long : length fs ≡ 8
  pub version : field_at fs 0 ≡ Some (codes "1")
  pub node : field_at fs 1 ≡ Some r.node
  pub flow : field_at fs 2 ≡ Some r.flow
  pub block : field_at fs 3 ≡ Some (decimal r.block)
  pub count : field_at fs 4 ≡ Some (decimal r.cell.count)
  pub sum : field_at fs 5 ≡ Some (decimal r.cell.sum)
  pub dcount : field_at fs 6 ≡ Some (decimal r.cell.dcount)
  pub dsum : field_at fs 7 ≡ Some (decimal r.cell.dsum)

pub row-by-fields : (fs : List (List ℕ)) (r : RowValue) → RowFields fs r → fs ≡ row_fields r
row-by-fields fs r p = eight fs _ _ _ _ _ _ _ _ p.long p.version p.node p.flow p.block p.count p.sum p.dcount p.dsum

literal-fields : (r : RowValue) → RowFields (row_fields r) r
unfolding field_at
literal-fields r = record {
  long = refl;
  version = refl;
  node = refl;
  flow = refl;
  block = refl;
  count = refl;
  sum = refl;
  dcount = refl;
  dsum = refl;
}

pub fields-by-row : (fs : List (List ℕ)) (r : RowValue) → fs ≡ row_fields r → RowFields fs r
fields-by-row fs r e = rw e (literal-fields r)

-- lists of fields that are alike at each place are one
pub same-fields : (fs gs : List (List ℕ)) → length fs ≡ length gs
    → ((k : ℕ) → k < length fs → field_at fs k ≡ Some (get_or gs k [])) → fs ≡ gs
unfolding field_at
same-fields [] [] l e = refl
same-fields [] (g ∷ gs) l e = absurd (omega (arith, l))
same-fields (f ∷ fs) [] l e = absurd (omega (arith, l))
same-fields (f ∷ fs) (g ∷ gs) l e =
    let first = e 0 (omega arith) in
    let others = same-fields fs gs (omega (arith, l)) (λ k h. e (suc k) (omega (arith, h))) in
    cc

-- a field of a list, at its place
pub field-of : (gs : List (List ℕ)) (k : ℕ) → k < length gs → field_at gs k ≡ Some (get_or gs k [])
unfolding field_at
field-of [] k h = absurd (omega arith)
field-of (g ∷ gs) k h = elim k as (λ j. j < length (g ∷ gs) → field_at (g ∷ gs) j ≡ Some (get_or (g ∷ gs) j [])) [
  | zero ↦ λ low. refl
  | suc j ↦ λ low. field-of gs j (omega arith)
] h
