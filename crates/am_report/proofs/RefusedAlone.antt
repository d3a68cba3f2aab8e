-- A row is refused in one way.
use Rattle.std.proofs.Common.{◌≡◌, ◌∙◌, ℕ, List, sym, ap, subst}
use Rattle.am_domain.specs.Domains.{DomainValue}
use Rattle.am_domain.specs.Network.{IsNode, IsNoNode}
use Rattle.am_report.specs.Rows.{RowValue}
use Rattle.am_report.specs.Reports.{IsRow, KnowsNode, IsOfFirstNode, IsFlowNumber, IsNoFlow, RefusesRow}
use Rattle.am_report.specs.declared.error.ReportError.{ReportError}
use Rattle.am_report.specs.declared.error.ReportError.TheVariants.{BadHeader, BadRow, UnknownNode, OtherNode, UnknownFlow, NotInOrder, Short, Memory}
use Rattle.am_report.proofs.TakenAlone.{same-row, no-such}

-- a row is refused for its node, and known with one
no-node-known : (d : DomainValue) (before : List RowValue) (fields : List (List ℕ)) (r s : RowValue)
    → IsRow before fields r → IsNoNode d.nodes r.node → KnowsNode d before fields s → ⊥
no-node-known d before fields r s row none known =
    no-such d.nodes r.node none
    (subst (λ (q : RowValue). IsNode d.nodes q.node) (same-row before fields s r known.row row) known.node)

-- a row is of another node than the first one, and of its node
other-and-first : (d : DomainValue) (before : List RowValue) (fields : List (List ℕ)) (r s : RowValue)
    → KnowsNode d before fields r → (IsOfFirstNode before r → ⊥) → KnowsNode d before fields s → IsOfFirstNode before s → ⊥
other-and-first d before fields r s known other seen first =
    other (subst (λ (q : RowValue). IsOfFirstNode before q) (same-row before fields s r seen.row known.row) first)

-- a row is of no flow, and of one
no-flow-known : (d : DomainValue) (before : List RowValue) (fields : List (List ℕ)) (r s : RowValue) (flow : ℕ)
    → KnowsNode d before fields r → IsNoFlow d r.flow → KnowsNode d before fields s → IsFlowNumber d s.flow flow → ⊥
no-flow-known d before fields r s flow known none seen named =
    none flow (subst (λ (q : RowValue). IsFlowNumber d q.flow flow) (same-row before fields s r seen.row known.row) named)

-- of two refusals of a row, that of the rule which is looked at first leaves no room for the other
pub same-refusal : (d : DomainValue) (before : List RowValue) (fields : List (List ℕ)) (a b : ReportError)
    → RefusesRow d before fields a → RefusesRow d before fields b → a ≡ b
same-refusal d before fields BadHeader b h k = absurd h
same-refusal d before fields (Short f g) b h k = absurd h
same-refusal d before fields Memory b h k = absurd h
same-refusal d before fields (BadRow m) (BadRow n) h k = ap BadRow (h.0 ∙ sym k.0)
same-refusal d before fields (BadRow m) (UnknownNode n) h k = absurd (h.1 k.1 k.2)
same-refusal d before fields (BadRow m) (OtherNode n) h k = absurd (h.1 k.1 k.2.row)
same-refusal d before fields (BadRow m) (UnknownFlow n) h k = absurd (h.1 k.1 k.2.row)
same-refusal d before fields (BadRow m) (NotInOrder n) h k = absurd (h.1 k.1 k.2.row)
same-refusal d before fields (BadRow m) BadHeader h k = absurd k
same-refusal d before fields (BadRow m) (Short f g) h k = absurd k
same-refusal d before fields (BadRow m) Memory h k = absurd k
same-refusal d before fields (UnknownNode m) (BadRow n) h k = absurd (k.1 h.1 h.2)
same-refusal d before fields (UnknownNode m) (UnknownNode n) h k = ap UnknownNode (h.0 ∙ sym k.0)
same-refusal d before fields (UnknownNode m) (OtherNode n) h k = absurd (no-node-known d before fields h.1 k.1 h.2 h.3 k.2)
same-refusal d before fields (UnknownNode m) (UnknownFlow n) h k = absurd (no-node-known d before fields h.1 k.1 h.2 h.3 k.2)
same-refusal d before fields (UnknownNode m) (NotInOrder n) h k = absurd (no-node-known d before fields h.1 k.1 h.2 h.3 k.2)
same-refusal d before fields (UnknownNode m) BadHeader h k = absurd k
same-refusal d before fields (UnknownNode m) (Short f g) h k = absurd k
same-refusal d before fields (UnknownNode m) Memory h k = absurd k
same-refusal d before fields (OtherNode m) (BadRow n) h k = absurd (k.1 h.1 h.2.row)
same-refusal d before fields (OtherNode m) (UnknownNode n) h k = absurd (no-node-known d before fields k.1 h.1 k.2 k.3 h.2)
same-refusal d before fields (OtherNode m) (OtherNode n) h k = ap OtherNode (h.0 ∙ sym k.0)
same-refusal d before fields (OtherNode m) (UnknownFlow n) h k = absurd (other-and-first d before fields h.1 k.1 h.2 h.3 k.2 k.3)
same-refusal d before fields (OtherNode m) (NotInOrder n) h k = absurd (other-and-first d before fields h.1 k.1 h.2 h.3 k.2 k.3)
same-refusal d before fields (OtherNode m) BadHeader h k = absurd k
same-refusal d before fields (OtherNode m) (Short f g) h k = absurd k
same-refusal d before fields (OtherNode m) Memory h k = absurd k
same-refusal d before fields (UnknownFlow m) (BadRow n) h k = absurd (k.1 h.1 h.2.row)
same-refusal d before fields (UnknownFlow m) (UnknownNode n) h k = absurd (no-node-known d before fields k.1 h.1 k.2 k.3 h.2)
same-refusal d before fields (UnknownFlow m) (OtherNode n) h k = absurd (other-and-first d before fields k.1 h.1 k.2 k.3 h.2 h.3)
same-refusal d before fields (UnknownFlow m) (UnknownFlow n) h k = ap UnknownFlow (h.0 ∙ sym k.0)
same-refusal d before fields (UnknownFlow m) (NotInOrder n) h k = absurd (no-flow-known d before fields h.1 k.1 k.4 h.2 h.4 k.2 k.5)
same-refusal d before fields (UnknownFlow m) BadHeader h k = absurd k
same-refusal d before fields (UnknownFlow m) (Short f g) h k = absurd k
same-refusal d before fields (UnknownFlow m) Memory h k = absurd k
same-refusal d before fields (NotInOrder m) (BadRow n) h k = absurd (k.1 h.1 h.2.row)
same-refusal d before fields (NotInOrder m) (UnknownNode n) h k = absurd (no-node-known d before fields k.1 h.1 k.2 k.3 h.2)
same-refusal d before fields (NotInOrder m) (OtherNode n) h k = absurd (other-and-first d before fields k.1 h.1 k.2 k.3 h.2 h.3)
same-refusal d before fields (NotInOrder m) (UnknownFlow n) h k = absurd (no-flow-known d before fields k.1 h.1 h.4 k.2 k.4 h.2 h.5)
same-refusal d before fields (NotInOrder m) (NotInOrder n) h k = ap NotInOrder (h.0 ∙ sym k.0)
same-refusal d before fields (NotInOrder m) BadHeader h k = absurd k
same-refusal d before fields (NotInOrder m) (Short f g) h k = absurd k
same-refusal d before fields (NotInOrder m) Memory h k = absurd k
