-- Why the next row of a report is taken, or how it is refused.
use Rattle.std.proofs.Common.{◌≡◌, ◌≢◌, ◌⊎◌, ◌∙◌, ℕ, ◌+◌, ◌-◌, ◌<◌, ◌≤◌, List, [], ◌∷◌, ◌++◌, length, Option, Some, None, sym, ap, arith, inl, inr}
use Rattle.std.specs.Prelude.{All, IfSome, MatchOption, IsSomeAnd}
use Rattle.std.proofs.lemmas.List.Elements.{All-head}
use Rattle.am_cells.specs.declared.cell.TheConstants.{MAX_COUNT}
use Rattle.am_cells.specs.CellTables.{AddsTo, total_of}
use Rattle.am_domain.specs.Domains.{DomainValue}
use Rattle.am_domain.specs.Network.{IsNumberOf}
use Rattle.am_domain.specs.Values.{no_node}
use Rattle.am_report.specs.Rows.{RowValue, SpellsRow, node_name}
use Rattle.am_report.specs.Reports.{IsRow, IsTaken, IsOfFirstNode, IsFlowNumber, IsWanted, KnowsNode, RefusesRow}
use Rattle.am_report.specs.Filling.{IsFilling, IsFilled, TellsNode, TellsPair}
use Rattle.am_report.specs.declared.filling.Filling.{Filling}
use Rattle.am_report.specs.declared.error.ReportError.{ReportError}
use Rattle.am_report.specs.declared.error.ReportError.TheVariants.{BadHeader, BadRow, UnknownNode, OtherNode, UnknownFlow, NotInOrder, Short, Memory}
use Rattle.am_report.proofs.FillLemmas.{one-name, filled-more}
use Rattle.am_report.proofs.ReadLemmas.{one-row, next-wanted, only-wanted}

pub refuse-count : (d : DomainValue) (f : Filling) (before : List RowValue) (fields : List (List ℕ)) (s : RowValue)
    → IsFilled d f before → SpellsRow fields s → MAX_COUNT - total_of f.cells < s.cell.count
    → RefusesRow d before fields (BadRow f.row)
refuse-count d f before fields s filled spells many = (
  filled.number,
  λ r row.
      let same = ap (λ (q : RowValue). q.cell.count) (one-row fields r s row.spells spells) in
      let no : ⊥ = omega (arith, row.counted, same, filled.counted, many) in
      no,
)

pub is-row : (d : DomainValue) (f : Filling) (before : List RowValue) (fields : List (List ℕ)) (s : RowValue)
    → IsFilled d f before → SpellsRow fields s → total_of f.cells ≤ MAX_COUNT → s.cell.count ≤ MAX_COUNT - total_of f.cells
    → IsRow before fields s
is-row d f before fields s filled spells most few =
    record { spells = spells; counted = omega (arith, filled.counted, most, few) }

not-first : (d : DomainValue) (first : Option ℕ) (before : List RowValue) (s : RowValue)
    → MatchOption first (before ≡ []) (λ n. (0 < length before) × All (λ r. IsNumberOf d.nodes r.node n) before)
    → IsSomeAnd first (λ k. node_name d k ≢ s.node) → IsOfFirstNode before s → ⊥
not-first d None before s node other same = other
not-first d (Some k) [] s node other same = absurd (omega (arith, node.0))
not-first d (Some k) (b ∷ bs) s node other same =
    let number = All-head (λ r. IsNumberOf d.nodes r.node k) b bs node.1 in
    other (number.here no_node ∙ sym same)

pub refuse-node : (d : DomainValue) (f : Filling) (before : List RowValue) (fields : List (List ℕ)) (s : RowValue) (e : ReportError)
    → IsFilled d f before → IsRow before fields s → TellsNode d f.node f.row s.node e → RefusesRow d before fields e
refuse-node d f before fields s BadHeader filled row h = absurd h
refuse-node d f before fields s (BadRow n) filled row h = absurd h
refuse-node d f before fields s (UnknownNode n) filled row h = (h.0 ∙ filled.number, s, row, h.1)
refuse-node d f before fields s (OtherNode n) filled row h = (
  h.0 ∙ filled.number,
  s,
  record { row = row; node = (h.1, h.2) },
  not-first d f.node before s filled.node h.3,
)
refuse-node d f before fields s (UnknownFlow n) filled row h = absurd h
refuse-node d f before fields s (NotInOrder n) filled row h = absurd h
refuse-node d f before fields s (Short flow block) filled row h = absurd h
refuse-node d f before fields s Memory filled row h = absurd h

pub of-first : (d : DomainValue) (first : Option ℕ) (before : List RowValue) (s : RowValue) (n : ℕ)
    → MatchOption first (before ≡ []) (λ m. (0 < length before) × All (λ r. IsNumberOf d.nodes r.node m) before)
    → IfSome first (λ m. n ≡ m) → IsNumberOf d.nodes s.node n → IsOfFirstNode before s
of-first d first [] s n node same number = tt
of-first d None (b ∷ bs) s n node same number = cc node
of-first d (Some m) (b ∷ bs) s n node same number =
    let first = All-head (λ r. IsNumberOf d.nodes r.node m) b bs node.1 in
    one-name d.nodes s.node b.node m (rw same at number) first

pub refuse-flow : (d : DomainValue) (f : Filling) (before : List RowValue) (fields : List (List ℕ)) (s : RowValue) (e : ReportError)
    → IsFilling d f → IsFilled d f before → KnowsNode d before fields s → IsOfFirstNode before s
    → TellsPair d f.flow f.row s.flow e → RefusesRow d before fields e
refuse-flow d f before fields s BadHeader sound filled knows first h = absurd h
refuse-flow d f before fields s (BadRow n) sound filled knows first h = absurd h
refuse-flow d f before fields s (UnknownNode n) sound filled knows first h = absurd h
refuse-flow d f before fields s (OtherNode n) sound filled knows first h = absurd h
refuse-flow d f before fields s (UnknownFlow n) sound filled knows first h = (h.0 ∙ filled.number, s, knows, first, h.1)
refuse-flow d f before fields s (NotInOrder n) sound filled knows first h = (
  h.0 ∙ filled.number,
  s,
  knows,
  first,
  h.1,
  h.2,
  λ wanted. h.3 ((only-wanted d f before h.1 s.block sound filled wanted).0),
)
refuse-flow d f before fields s (Short flow block) sound filled knows first h = absurd h
refuse-flow d f before fields s Memory sound filled knows first h = absurd h

unwanted : (d : DomainValue) (f : Filling) (before : List RowValue) (s : RowValue) → IsFilling d f → IsFilled d f before
    → IsWanted d (length before) f.flow s.block → (f.block ≡ d.end) ⊎ (s.block ≢ f.block) → ⊥
unwanted d f before s sound filled wanted (inl over) =
    let block = (only-wanted d f before f.flow s.block sound filled wanted).1 in
    let no : ⊥ = omega (arith, block, wanted.until, over) in
    no
unwanted d f before s sound filled wanted (inr differ) =
    differ ((only-wanted d f before f.flow s.block sound filled wanted).1)

pub refuse-block : (d : DomainValue) (f : Filling) (before : List RowValue) (fields : List (List ℕ)) (s : RowValue)
    → IsFilling d f → IsFilled d f before → KnowsNode d before fields s → IsOfFirstNode before s → IsFlowNumber d s.flow f.flow
    → (f.block ≡ d.end) ⊎ (s.block ≢ f.block) → RefusesRow d before fields (NotInOrder f.row)
refuse-block d f before fields s sound filled knows first named other = (
  filled.number,
  s,
  knows,
  first,
  f.flow,
  named,
  λ wanted. unwanted d f before s sound filled wanted other,
)

pub taken-row : (d : DomainValue) (f : Filling) (before : List RowValue) (fields : List (List ℕ)) (s : RowValue) (n : ℕ)
    → IsFilling d f → IsFilled d f before → IsRow before fields s → IsNumberOf d.nodes s.node n → IfSome f.node (λ m. n ≡ m)
    → IsFlowNumber d s.flow f.flow → f.block < d.end → s.block ≡ f.block → IsTaken d before fields s
taken-row d f before fields s n sound filled row number same named left block = record {
  row = row;
  node = (n, number);
  of_first = of-first d f.node before s n filled.node same number;
  flow = f.flow;
  flow_is = named;
  wanted = rw block (next-wanted d f before sound filled left);
}

-- the row is taken, and its cell is in the table
pub takes-it : (d : DomainValue) (f g : Filling) (before : List RowValue) (fields : List (List ℕ)) (s : RowValue) (n : ℕ)
    → IsFilling d f → IsFilled d f before → IsRow before fields s → IsNumberOf d.nodes s.node n → IfSome f.node (λ m. n ≡ m)
    → IsFlowNumber d s.flow f.flow → f.block < d.end → s.block ≡ f.block
    → AddsTo f.cells g.cells f.flow f.block s.cell → g.row ≡ f.row + 1 → g.node ≡ Some n
    → (r : RowValue) × IsTaken d before fields r × IsFilled d g (before ++ (r ∷ []))
takes-it d f g before fields s n sound filled row number same named left block adds next node = (
  s,
  taken-row d f before fields s n sound filled row number same named left block,
  filled-more d f g before s n sound filled adds left next node number same,
)

-- a row of a node of the domain
pub knows : (d : DomainValue) (before : List RowValue) (fields : List (List ℕ)) (s : RowValue) (n : ℕ)
    → IsRow before fields s → IsNumberOf d.nodes s.node n → KnowsNode d before fields s
knows d before fields s n row number = record { row = row; node = (n, number) }
