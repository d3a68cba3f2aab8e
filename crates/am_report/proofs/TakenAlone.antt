-- Rows are taken in one way, and a row that is taken isn't refused.
use Rattle.std.proofs.Common.{◌≡◌, ◌∙◌, ℕ, ◌+◌, ◌-◌, ◌*◌, ◌<◌, List, [], ◌∷◌, ◌++◌, length, sym, subst, arith, inl, inr}
use Rattle.std.proofs.lemmas.Bool.{cases_lt}
use Rattle.std.proofs.lemmas.Nat.{same_from_place, mul-add-lt}
use Rattle.am_domain.specs.Domains.{DomainValue, IsLawful}
use Rattle.am_domain.specs.Network.{IsNode, IsNoNode, IsNumberOf}
use Rattle.am_domain.specs.Values.{NodeValue, no_node}
use Rattle.am_report.specs.Rows.{RowValue, no_flow}
use Rattle.am_report.specs.Reports.{IsRow, IsTaken, IsOfFirstNode, IsFlowNumber, IsWanted, RefusesRow, TakesRows}
use Rattle.am_report.specs.declared.error.ReportError.{ReportError}
use Rattle.am_report.specs.declared.error.ReportError.TheVariants.{BadHeader, BadRow, UnknownNode, OtherNode, UnknownFlow, NotInOrder, Short, Memory}
use Rattle.am_report.proofs.ReadLemmas.{one-row}

pub same-row : (before : List RowValue) (fields : List (List ℕ)) (r s : RowValue) → IsRow before fields r → IsRow before fields s → r ≡ s
same-row before fields r s p q = one-row fields r s p.spells q.spells

pub same-takes : (d : DomainValue) (before : List RowValue) (rows : List (List (List ℕ))) (a b : List RowValue)
    → TakesRows d before rows a → TakesRows d before rows b → a ≡ b
same-takes d before [] a b p q = p ∙ sym q
same-takes d before (fields ∷ more) a b p q =
    let same = same-row before fields q.0 p.0 q.1.row p.1.row in
    same-takes d (before ++ (p.0 ∷ [])) more a b p.2
    (subst (λ (r : RowValue). TakesRows d (before ++ (r ∷ [])) more b) same q.2)

-- a name has one number
pub one-number : (nodes : List NodeValue) (name : List ℕ) (m n : ℕ) → IsNumberOf nodes name m → IsNumberOf nodes name n → m ≡ n
one-number nodes name m n p q = elim (cases_lt m n) [
  | inl below ↦ absurd (q.before m no_node below (p.here no_node))
  | inr above ↦ elim (cases_lt n m) [
    | inl less ↦ absurd (p.before n no_node less (q.here no_node))
    | inr same ↦ omega arith
  ]
]

pub no-such : (nodes : List NodeValue) (name : List ℕ) → IsNoNode nodes name → IsNode nodes name → ⊥
no-such nodes name none node = none node.0 no_node node.1.within (node.1.here no_node)

pub one-flow : (d : DomainValue) (name : List ℕ) (m n : ℕ) → IsLawful d → IsFlowNumber d name m → IsFlowNumber d name n → m ≡ n
one-flow d name m n lawful p q = elim (cases_lt m n) [
  | inl below ↦ absurd (lawful.flow_names_differ n no_flow q.within m no_flow below (p.named ∙ sym q.named))
  | inr above ↦ elim (cases_lt n m) [
    | inl less ↦ absurd (lawful.flow_names_differ m no_flow p.within n no_flow less (q.named ∙ sym p.named))
    | inr same ↦ omega arith
  ]
]

-- the row that is wanted next is one
pub one-wanted : (d : DomainValue) (rows f b f' b' : ℕ) → IsWanted d rows f b → IsWanted d rows f' b' → (f ≡ f') × (b ≡ b')
one-wanted d rows f b f' b' p q =
    let same : (b - d.first) * length d.flows + f ≡ (b' - d.first) * length d.flows + f' = sym p.next ∙ q.next in
    let parts = same_from_place (b - d.first) f (b' - d.first) f' (length d.flows) p.flow_there q.flow_there same in
    (parts.1, omega (arith, parts.0, p.from, q.from))

-- where a row is wanted, there are fewer rows than all
pub fewer : (d : DomainValue) (rows flow block : ℕ) → IsWanted d rows flow block → rows < length d.flows * (d.end - d.first)
fewer d rows flow block w =
    rw w.next (mul-add-lt (block - d.first) (length d.flows) flow (d.end - d.first) (omega (arith, w.from, w.until)) w.flow_there)

pub taken-refused : (d : DomainValue) (before : List RowValue) (fields : List (List ℕ)) (r : RowValue) (e : ReportError)
    → IsLawful d → IsTaken d before fields r → RefusesRow d before fields e → ⊥
taken-refused d before fields r BadHeader lawful t h = h
taken-refused d before fields r (BadRow n) lawful t h = h.1 r t.row
taken-refused d before fields r (UnknownNode n) lawful t h =
    no-such d.nodes h.1.node h.3 (subst (λ (s : RowValue). IsNode d.nodes s.node) (same-row before fields r h.1 t.row h.2) t.node)
taken-refused d before fields r (OtherNode n) lawful t h =
    h.3 (subst (λ (s : RowValue). IsOfFirstNode before s) (same-row before fields r h.1 t.row h.2.row) t.of_first)
taken-refused d before fields r (UnknownFlow n) lawful t h =
    h.4 t.flow (subst (λ (s : RowValue). IsFlowNumber d s.flow t.flow) (same-row before fields r h.1 t.row h.2.row) t.flow_is)
taken-refused d before fields r (NotInOrder n) lawful t h =
    let same = same-row before fields r h.1 t.row h.2.row in
    let named = subst (λ (s : RowValue). IsFlowNumber d s.flow t.flow) same t.flow_is in
    let flow = one-flow d h.1.flow t.flow h.4 lawful named h.5 in
    let wanted = subst (λ (s : RowValue). IsWanted d (length before) t.flow s.block) same t.wanted in
    h.6 (rw flow at wanted)
taken-refused d before fields r (Short flow block) lawful t h = h
taken-refused d before fields r Memory lawful t h = h
