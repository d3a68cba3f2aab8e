-- A text is a report in one way, or is refused in one way.
use Rattle.std.proofs.Common.{◌≡◌, ◌⊎◌, ◌∙◌, ℕ, ◌-◌, ◌*◌, ◌<◌, List, [], ◌∷◌, ◌++◌, length, Result, Ok, Err, refl, sym, ap, subst, arith, inl, inr}
use Rattle.std.specs.Prelude.{All, IfOk, IfErr}
use Rattle.std.proofs.Math.Nat.{zero-mul}
use Rattle.std.proofs.lemmas.List.Elements.{All-head}
use Rattle.am_cells.specs.CellTables.{CellTable}
use Rattle.am_domain.specs.Domains.{DomainValue, IsLawful}
use Rattle.am_domain.specs.Network.{IsNumberOf}
use Rattle.am_report.specs.Rows.{RowValue, column_names}
use Rattle.am_report.specs.Reports.{IsTaken, IsWanted, RefusesRow, TakesRows, AreAllTaken, IsReportOf, IsRowRefusal, IsShortReport, LacksHeader, BeginsWithRows, IsReportRefusal, TellsReportRefusal, IsReportAnswer}
use Rattle.am_report.specs.declared.read.Report.{Report}
use Rattle.am_report.specs.declared.error.ReportError.{ReportError}
use Rattle.am_report.specs.declared.error.ReportError.TheVariants.{BadHeader, BadRow, UnknownNode, OtherNode, UnknownFlow, NotInOrder, Short, Memory}
use Rattle.am_report.proofs.RowsAlone.{all-begin, both-begin, one-rows, has-header}
use Rattle.am_report.proofs.TakenAlone.{same-row, same-takes, one-number, one-wanted, fewer, taken-refused}
use Rattle.am_report.proofs.RefusedAlone.{same-refusal}

abbrev Fields : Type 0
Fields = List (List ℕ)

-- what is not empty
not-nil : (xs more : List Fields) (x : Fields) → (xs ++ (x ∷ [])) ++ more ≡ [] → ⊥
not-nil [] more x e = cc e
not-nil (y ∷ ys) more x e = cc e

-- a list that begins with some rows and one more: these are all of its rows, or all but the last begin so
last-or-before : (xs ys more : List Fields) (x y : Fields) → (xs ++ (x ∷ [])) ++ more ≡ ys ++ (y ∷ [])
    → ((xs ≡ ys) × (x ≡ y)) ⊎ ((left : List Fields) × (ys ≡ (xs ++ (x ∷ [])) ++ left))
last-or-before [] [] more x y e = inl (refl, cc e)
last-or-before [] (z ∷ zs) more x y e = inr (zs, cc e)
last-or-before (a ∷ xs) [] more x y e =
    let none : (xs ++ (x ∷ [])) ++ more ≡ [] = cc e in
    absurd (not-nil xs more x none)
last-or-before (a ∷ xs) (z ∷ zs) more x y e =
    let first : a ≡ z = cc e in
    let others : (xs ++ (x ∷ [])) ++ more ≡ zs ++ (y ∷ []) = cc e in
    elim (last-or-before xs zs more x y others) [
      | inl same ↦ inl (rw (first, same.0) refl, same.1)
      | inr w ↦ inr (w.0, rw first (ap (λ (t : List Fields). z ∷ t) w.1))
    ]

-- where rows were taken of which these are the first, so were these, and then the next one
takes-next : (d : DomainValue) (before : List RowValue) (rows more : List Fields) (fields : Fields) (all some : List RowValue)
    → TakesRows d before ((rows ++ (fields ∷ [])) ++ more) all → TakesRows d before rows some → (r : RowValue) × IsTaken d some fields r
takes-next d before [] more fields all some h k =
    (h.0, subst (λ (t : List RowValue). IsTaken d t fields h.0) (sym k) h.1)
takes-next d before (g ∷ rows) more fields all some h k =
    let same = same-row before g h.0 k.0 h.1.row k.1.row in
    takes-next d (before ++ (k.0 ∷ [])) rows more fields all some
    (subst (λ (r : RowValue). TakesRows d (before ++ (r ∷ [])) ((rows ++ (fields ∷ [])) ++ more) all) same h.2) k.2

-- where rows were taken of which these are the first, the next one was not refused
not-refused : (d : DomainValue) (rows more : List Fields) (fields : Fields) (all some : List RowValue) (e : ReportError) → IsLawful d
    → TakesRows d [] ((rows ++ (fields ∷ [])) ++ more) all → TakesRows d [] rows some → RefusesRow d some fields e → ⊥
not-refused d rows more fields all some e lawful h k refused =
    let next = takes-next d [] rows more fields all some h k in
    taken-refused d some fields next.0 e lawful next.1 refused

begins-of : (d : DomainValue) (bytes : List ℕ) (taken : List RowValue) (all : AreAllTaken d bytes taken)
    → BeginsWithRows bytes (column_names ∷ all.fields)
begins-of d bytes taken all = (all.rows.0, all.rows.1, all.rows.2)

same-tail : (a b : Fields) (xs ys : List Fields) → a ∷ xs ≡ b ∷ ys → xs ≡ ys
same-tail a b xs ys e = cc e

-- all rows are taken in one way
same-all : (d : DomainValue) (bytes : List ℕ) (a b : List RowValue) → AreAllTaken d bytes a → AreAllTaken d bytes b → a ≡ b
same-all d bytes a b p q =
    let rows = same-tail _ _ _ _ (one-rows bytes _ _ p.rows q.rows) in
    same-takes d [] q.fields a b (subst (λ (t : List Fields). TakesRows d [] t a) rows p.takes) q.takes

-- where all rows are taken, none is refused
all-not-refused : (d : DomainValue) (bytes : List ℕ) (taken : List RowValue) (e : ReportError) → IsLawful d
    → AreAllTaken d bytes taken → IsRowRefusal d bytes e → ⊥
all-not-refused d bytes taken e lawful p q =
    let m = all-begin bytes _ _ p.rows q.rows in
    let rows : p.fields ≡ (q.before ++ (q.fields ∷ [])) ++ m.0 = same-tail _ _ _ _ m.1 in
    not-refused d q.before m.0 q.fields taken q.taken e lawful
    (subst (λ (t : List Fields). TakesRows d [] t taken) rows p.takes) q.takes q.refused

-- of two refused rows, the first is the second or stands before it
not-before : (d : DomainValue) (bytes : List ℕ) (a b : ReportError) → IsLawful d
    → (p : IsRowRefusal d bytes a) (q : IsRowRefusal d bytes b) (more : List Fields)
    → (p.before ++ (p.fields ∷ [])) ++ more ≡ q.before ++ (q.fields ∷ []) → a ≡ b
not-before d bytes a b lawful p q more e = elim (last-or-before p.before q.before more p.fields q.fields e) [
  | inl same ↦
      let taken = same-takes d [] q.before p.taken q.taken (subst (λ (t : List Fields). TakesRows d [] t p.taken) same.0 p.takes) q.takes in
      let refused = subst (λ (t : List RowValue). RefusesRow d t p.fields a) taken p.refused in
      let here = subst (λ (t : Fields). RefusesRow d q.taken t a) same.1 refused in
      same-refusal d q.taken q.fields a b here q.refused
  | inr w ↦
      absurd (not-refused d p.before w.0 p.fields q.taken p.taken a lawful
      (subst (λ (t : List Fields). TakesRows d [] t q.taken) w.1 q.takes) p.takes p.refused)
]

same-row-refusal : (d : DomainValue) (bytes : List ℕ) (a b : ReportError) → IsLawful d → IsRowRefusal d bytes a → IsRowRefusal d bytes b → a ≡ b
same-row-refusal d bytes a b lawful p q = elim (both-begin bytes _ _ p.rows q.rows) [
  | inl m ↦ not-before d bytes a b lawful p q m.0 (same-tail _ _ _ _ m.1)
  | inr m ↦ sym (not-before d bytes b a lawful q p m.0 (same-tail _ _ _ _ m.1))
]

same-numbers : (nodes : DomainValue) (m n : ℕ) (taken : List RowValue) → 0 < length taken
    → All (λ r. IsNumberOf nodes.nodes r.node m) taken → All (λ r. IsNumberOf nodes.nodes r.node n) taken → m ≡ n
same-numbers d m n [] some p q = absurd (omega arith)
same-numbers d m n (r ∷ rs) some p q =
    one-number d.nodes r.node m n (All-head (λ s. IsNumberOf d.nodes s.node m) r rs p) (All-head (λ s. IsNumberOf d.nodes s.node n) r rs q)

some-rows : (d : DomainValue) → IsLawful d → 0 < length d.flows * (d.end - d.first)
some-rows d lawful =
    let none : d.first - d.first ≡ 0 = omega arith in
    fewer d 0 0 d.first (record {
      flow_there = omega (arith, lawful.some_flow);
      from = omega arith;
      until = lawful.some_block;
      next = rw (none, zero-mul (length d.flows)) refl;
    })

report-parts : (m n : ℕ) (s t : CellTable) → m ≡ n → s ≡ t
    → (let r : Report = record { node = m; cells = s } in r) ≡ record { node = n; cells = t }
report-parts m n s t p q = cc

pub one-report : (d : DomainValue) (bytes : List ℕ) (a b : Report) → IsLawful d → IsReportOf d bytes a → IsReportOf d bytes b → a ≡ b
one-report d bytes a b lawful p q =
    let taken = same-all d bytes p.taken q.taken p.all q.all in
    let some : 0 < length p.taken = rw p.whole (some-rows d lawful) in
    let node = same-numbers d a.node b.node p.taken some p.node (subst (λ (t : List RowValue). All (λ r. IsNumberOf d.nodes r.node b.node) t) (sym taken) q.node) in
    report-parts _ _ _ _ node (p.cells ∙ (rw taken (sym q.cells)))

-- where a report is said, no further row is wanted
report-not-short : (d : DomainValue) (bytes : List ℕ) (r : Report) (flow block : ℕ) → IsReportOf d bytes r → IsShortReport d bytes flow block → ⊥
report-not-short d bytes r flow block p q =
    let taken = same-all d bytes q.taken p.taken q.all p.all in
    let less = fewer d (length q.taken) flow block q.wanted in
    let whole : length q.taken ≡ length d.flows * (d.end - d.first) = ap (λ (t : List RowValue). length t) taken ∙ p.whole in
    omega (arith, less, whole)

same-short : (d : DomainValue) (bytes : List ℕ) (f b f' b' : ℕ) → IsShortReport d bytes f b → IsShortReport d bytes f' b' → Short f b ≡ Short f' b'
same-short d bytes f b f' b' p q =
    let taken = same-all d bytes p.taken q.taken p.all q.all in
    let parts = one-wanted d (length q.taken) f b f' b' (subst (λ (t : List RowValue). IsWanted d (length t) f b) taken p.wanted) q.wanted in
    let x = parts.0 in
    let y = parts.1 in
    cc

-- a refusal of a row, or what it is else
no-row-refusal : (d : DomainValue) (bytes : List ℕ) (e : ReportError) → IsRowRefusal d bytes e → LacksHeader bytes → ⊥
no-row-refusal d bytes e p lacks = has-header bytes _ p.rows lacks

no-all : (d : DomainValue) (bytes : List ℕ) (taken : List RowValue) → AreAllTaken d bytes taken → LacksHeader bytes → ⊥
no-all d bytes taken p lacks = has-header bytes p.fields (begins-of d bytes taken p) lacks

pub either : (d : DomainValue) (bytes : List ℕ) (r : Report) (e : ReportError) → IsLawful d → IsReportOf d bytes r → IsReportRefusal d bytes e → ⊥
either d bytes r BadHeader lawful p h = no-all d bytes p.taken p.all h
either d bytes r (Short flow block) lawful p h = report-not-short d bytes r flow block p h
either d bytes r Memory lawful p h = h
either d bytes r (BadRow n) lawful p h = all-not-refused d bytes p.taken (BadRow n) lawful p.all h
either d bytes r (UnknownNode n) lawful p h = all-not-refused d bytes p.taken (UnknownNode n) lawful p.all h
either d bytes r (OtherNode n) lawful p h = all-not-refused d bytes p.taken (OtherNode n) lawful p.all h
either d bytes r (UnknownFlow n) lawful p h = all-not-refused d bytes p.taken (UnknownFlow n) lawful p.all h
either d bytes r (NotInOrder n) lawful p h = all-not-refused d bytes p.taken (NotInOrder n) lawful p.all h

-- what is said of a refusal, by its kind: of the header, of the rows that end early, or of a row
abbrev Kind : DomainValue → List ℕ → ReportError → Type 0
Kind d bytes e =
    ((e ≡ BadHeader) × LacksHeader bytes)
    ⊎ ((flow : ℕ) × (block : ℕ) × (e ≡ Short flow block) × IsShortReport d bytes flow block)
    ⊎ IsRowRefusal d bytes e

kind : (d : DomainValue) (bytes : List ℕ) (e : ReportError) → IsReportRefusal d bytes e → Kind d bytes e
kind d bytes BadHeader h = inl (refl, h)
kind d bytes (Short flow block) h = inr (inl (flow, block, refl, h))
kind d bytes Memory h = absurd h
kind d bytes (BadRow n) h = inr (inr h)
kind d bytes (UnknownNode n) h = inr (inr h)
kind d bytes (OtherNode n) h = inr (inr h)
kind d bytes (UnknownFlow n) h = inr (inr h)
kind d bytes (NotInOrder n) h = inr (inr h)

same-kind : (d : DomainValue) (bytes : List ℕ) (a b : ReportError) → IsLawful d → Kind d bytes a → Kind d bytes b → a ≡ b
same-kind d bytes a b lawful (inl p) (inl q) = p.0 ∙ sym q.0
same-kind d bytes a b lawful (inl p) (inr (inl q)) = absurd (no-all d bytes _ q.3.all p.1)
same-kind d bytes a b lawful (inl p) (inr (inr q)) = absurd (no-row-refusal d bytes b q p.1)
same-kind d bytes a b lawful (inr (inl p)) (inl q) = absurd (no-all d bytes _ p.3.all q.1)
same-kind d bytes a b lawful (inr (inl p)) (inr (inl q)) = p.2 ∙ same-short d bytes _ _ _ _ p.3 q.3 ∙ sym q.2
same-kind d bytes a b lawful (inr (inl p)) (inr (inr q)) = absurd (all-not-refused d bytes _ b lawful p.3.all q)
same-kind d bytes a b lawful (inr (inr p)) (inl q) = absurd (no-row-refusal d bytes a p q.1)
same-kind d bytes a b lawful (inr (inr p)) (inr (inl q)) = absurd (all-not-refused d bytes _ a lawful q.3.all p)
same-kind d bytes a b lawful (inr (inr p)) (inr (inr q)) = same-row-refusal d bytes a b lawful p q

pub one-refusal : (d : DomainValue) (bytes : List ℕ) (a b : ReportError) → IsLawful d
    → IsReportRefusal d bytes a → IsReportRefusal d bytes b → a ≡ b
one-refusal d bytes a b lawful p q = same-kind d bytes a b lawful (kind d bytes a p) (kind d bytes b q)

-- what is answered where there is no report is want of memory, or how the text is refused
tells : (d : DomainValue) (bytes : List ℕ) (e : ReportError) → TellsReportRefusal d bytes e → (e ≡ Memory) ⊎ IsReportRefusal d bytes e
tells d bytes Memory h = inl refl
tells d bytes BadHeader h = inr h
tells d bytes (Short flow block) h = inr h
tells d bytes (BadRow n) h = inr h
tells d bytes (UnknownNode n) h = inr h
tells d bytes (OtherNode n) h = inr h
tells d bytes (UnknownFlow n) h = inr h
tells d bytes (NotInOrder n) h = inr h

pub report-answered : (d : DomainValue) (bytes : List ℕ) (result : Result Report ReportError) → IsLawful d
    → IfOk result (IsReportOf d bytes) → IfErr result (TellsReportRefusal d bytes)
    → (r : Report) → IsReportOf d bytes r → IsReportAnswer result (Ok r)
report-answered d bytes (Ok a) lawful ok err r p = inr (ap Ok (one-report d bytes a r lawful ok p))
report-answered d bytes (Err e) lawful ok err r p = elim (tells d bytes e err) [
  | inl m ↦ inl (ap Err m)
  | inr h ↦ absurd (either d bytes r e lawful p h)
]

pub refusal-answered : (d : DomainValue) (bytes : List ℕ) (result : Result Report ReportError) → IsLawful d
    → IfOk result (IsReportOf d bytes) → IfErr result (TellsReportRefusal d bytes)
    → (e : ReportError) → IsReportRefusal d bytes e → IsReportAnswer result (Err e)
refusal-answered d bytes (Ok a) lawful ok err e p = absurd (either d bytes a e lawful ok p)
refusal-answered d bytes (Err b) lawful ok err e p = elim (tells d bytes b err) [
  | inl m ↦ inl (ap Err m)
  | inr h ↦ inr (ap Err (one-refusal d bytes b e lawful h p))
]
