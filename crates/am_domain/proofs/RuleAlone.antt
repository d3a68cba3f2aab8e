-- The first broken rule is one alone, and no rule is broken where all are kept.
use Rattle.std.proofs.Common.{◌≡◌, ℕ, ◌-◌, ◌*◌, ◌<◌, ◌≤◌, ◌↔◌, List, [], ◌∷◌, length, slice_index_or, subst, sym, ap, ◌∙◌, refl, inl, inr, arith}
use Rattle.std.proofs.lemmas.Bool.{cases_order}
use Rattle.std.specs.List.{AllZip}
use Rattle.am_addr.specs.Bits.{Span}
use Rattle.am_clock.specs.Times.{Times, IsTiming}
use Rattle.am_clock.specs.Refusals.{IsFirstFault}
use Rattle.am_clock.specs.declared.timing.TimingError.{TimingError}
use Rattle.am_clock.specs.declared.timing.TimingError.TheVariants.{ZeroBlock, OddBlock, BlockTooLong, DelayTooLong, BoundsCrossed, GuardTooWide}
use Rattle.am_domain.specs.Values.{FlowValue, NodeValue, LinkValue}
use Rattle.am_domain.specs.Lists.{IsFirstPlace, IsFirstPair}
use Rattle.am_domain.specs.Fields.{FieldsValue}
use Rattle.am_domain.specs.Network.{IsNumberOf, IsNoNode, IsNode, IsBetween, IsLoose, Joins, SameEnds, HasLink, IsLone, StartsBelow, EndsBelow, IsFirstBlock, IsEndBlock}
use Rattle.am_domain.specs.Rules.{few_nodes, few_flows, flow_names_differ, node_names_differ, place, AreDistinct, Each, EndsDiffer, SameFlowName, SameFlowId, SameNodeName, IsLaidOut, Keeps, Tells, rule_of, IsFirstBroken}
use Rattle.am_domain.specs.Domains.{DomainValue, IsMadeOf}
use Rattle.am_domain.specs.declared.link.Edge.{Edge}
use Rattle.am_domain.specs.declared.error.Key.{Key}
use Rattle.am_domain.specs.declared.error.Key.TheVariants.{From, To}
use Rattle.am_domain.specs.declared.error.Part.{Part}
use Rattle.am_domain.specs.declared.error.Part.TheVariants as part
use Rattle.am_domain.specs.declared.error.Repeated.{Repeated}
use Rattle.am_domain.specs.declared.error.Repeated.TheVariants.{FlowName, FlowId, NodeName}
use Rattle.am_domain.specs.declared.error.DomainError.{DomainError}
use Rattle.am_domain.specs.declared.error.DomainError.TheVariants.{NotToml, BadField, Timing, TooMany, Twice, UnknownNode, SelfLink, LinkTwice, LoneNode, NoBlock, TooManyCells, Memory}
use Rattle.am_domain.proofs.RuleLemmas.{kept-rule, kept-before}

-- a flow, a node and a link, for a place past the end of a list
any_flow : FlowValue
any_flow = let none : Span = record { bytes = []; length = 0 } in record { name = []; id = 0; source = none; destination = none }

any_node : NodeValue
any_node = record { name = []; capture = []; from = 0; until = 0 }

any_link : LinkValue
any_link = record { from = []; to = [] }

-- ---- places and pairs

-- two first pairs of a list are the same
pair_alone : {X : Type 0} (Same : X → X → Type 0) → ((a b c : X) → Same a c → Same b c → Same a b) → (d : X) (xs : List X) (i j i' j' : ℕ) → IsFirstPair Same xs i j → IsFirstPair Same xs i' j'
    → (i ≡ i') × (j ≡ j')
pair_alone Same joins d xs i j i' j' a b =
    let seconds : j ≡ j' = elim (cases_order j j') [
      | inl e ↦ e
      | inr h ↦ elim h [
        | inl before ↦ absurd (b.before j d before i d a.order (a.same d))
        | inr behind ↦ absurd (a.before j' d behind i' d b.order (b.same d))
      ]
    ] in
    let same' : Same (slice_index_or xs i' d) (slice_index_or xs j d) = subst (λ (n : ℕ). Same (slice_index_or xs i' d) (slice_index_or xs n d)) (sym seconds) (b.same d) in
    let firsts : i ≡ i' = elim (cases_order i i') [
      | inl e ↦ e
      | inr h ↦ elim h [
        | inl before ↦ absurd (a.before i' d (omega (arith, b.order, seconds)) i d before (joins _ _ _ (a.same d) same'))
        | inr behind ↦ absurd (a.before i d a.order i' d behind (joins _ _ _ same' (a.same d)))
      ]
    ] in
    (firsts, seconds)

-- a list in which no two are the same has no such pair
no_pair : {X : Type 0} (Same : X → X → Type 0) (d : X) (xs : List X) (i j : ℕ) → AreDistinct Same xs → IsFirstPair Same xs i j → ⊥
no_pair Same d xs i j apart a = apart j d a.within i d a.order (a.same d)

-- two first places of a list are the same, where P and Q exclude each other
place_alone : {X : Type 0} (P Q Q' : X → Type 0) → ((x : X) → P x → Q x → ⊥) → ((x : X) → P x → Q' x → ⊥) → (d : X) (xs : List X) (i i' : ℕ) → IsFirstPlace P Q xs i → IsFirstPlace P Q' xs i' → i ≡ i'
place_alone P Q Q' not not' d xs i i' a b =
    elim (cases_order i i') [
      | inl e ↦ e
      | inr h ↦ elim h [
        | inl before ↦ absurd (not _ (b.before i d before) (a.here d))
        | inr behind ↦ absurd (not' _ (a.before i' d behind) (b.here d))
      ]
    ]

-- where each has P, no place lacks it
no_place : {X : Type 0} (P Q : X → Type 0) → ((x : X) → P x → Q x → ⊥) → (d : X) (xs : List X) (i : ℕ) → Each P xs → IsFirstPlace P Q xs i → ⊥
no_place P Q not d xs i all a = not _ (all i d a.within) (a.here d)

-- ---- nodes and links

-- the number of a name is one alone
number_alone : (nodes : List NodeValue) (name : List ℕ) (i i' : ℕ) → IsNumberOf nodes name i → IsNumberOf nodes name i' → i ≡ i'
number_alone nodes name i i' a b =
    elim (cases_order i i') [
      | inl e ↦ e
      | inr h ↦ elim h [
        | inl before ↦ absurd (b.before i any_node before (a.here any_node))
        | inr behind ↦ absurd (a.before i' any_node behind (b.here any_node))
      ]
    ]

-- a name that no node has is no node's
not_named : (nodes : List NodeValue) (name : List ℕ) → IsNode nodes name → IsNoNode nodes name → ⊥
not_named nodes name a none = none a.0 any_node a.1.within (a.1.here any_node)

loose_not : (nodes : List NodeValue) (end : Key) (link : LinkValue) → IsBetween nodes link → IsLoose nodes end link → ⊥
loose_not nodes From link a b = not_named nodes link.from a.0 b
loose_not nodes To link a b = not_named nodes link.to a.1 b.1
loose_not nodes _ link a b = b

-- which end is loose is one alone
end_alone : (nodes : List NodeValue) (end end' : Key) (link : LinkValue) → IsLoose nodes end link → IsLoose nodes end' link → end ≡ end'
end_alone nodes From From link a b = refl
end_alone nodes To To link a b = refl
end_alone nodes From To link a b = absurd (not_named nodes link.from b.0 a)
end_alone nodes To From link a b = absurd (not_named nodes link.from a.0 b)
end_alone nodes From _ link a b = absurd b
end_alone nodes To _ link a b = absurd b
end_alone nodes _ end' link a b = absurd a

lone_not : (links : List LinkValue) (node : NodeValue) → HasLink links node → IsLone links node → ⊥
lone_not links node a none = none a.number any_link a.within (a.here any_link)

ends_join : (a b c : LinkValue) → SameEnds a c → SameEnds b c → SameEnds a b
ends_join a b c p q = (p.0 ∙ sym q.0, p.1 ∙ sym q.1)

-- ---- the layout

edge_alone : (nodes : List NodeValue) (link : LinkValue) (a b : Edge) → Joins nodes link a → Joins nodes link b → a ≡ b
edge_alone nodes link a b p q =
    let from = number_alone nodes link.from a.from b.from p.from q.from in
    let to = number_alone nodes link.to a.to b.to p.to q.to in
    λ i. record { from = from i; to = to i }

edges_alone : (nodes : List NodeValue) (links : List LinkValue) (a b : List Edge) → AllZip (Joins nodes) links a → AllZip (Joins nodes) links b → a ≡ b
edges_alone nodes [] [] [] p q = refl
edges_alone nodes [] [] (y ∷ b) p q = absurd q
edges_alone nodes [] (x ∷ a) b p q = absurd p
edges_alone nodes (l ∷ links) [] b p q = absurd p
edges_alone nodes (l ∷ links) (x ∷ a) [] p q = absurd q
edges_alone nodes (l ∷ links) (x ∷ a) (y ∷ b) p q =
    let heads : x ≡ y = edge_alone nodes l x y p.0 q.0 in
    rw heads (ap (λ t. y ∷ t) (edges_alone nodes links a b p.1 q.1))

first_same : (P : ℕ → Type 0) (a b : ℕ) → ((n : ℕ) → (a ≤ n) ↔ P n) → ((n : ℕ) → (b ≤ n) ↔ P n) → a ≡ b
first_same P a b p q =
    let ab : b ≤ a = (q a).1 ((p a).0 (omega arith)) in
    let ba : a ≤ b = (p b).1 ((q b).0 (omega arith)) in
    omega arith

end_same : (P : ℕ → Type 0) (a b : ℕ) → ((n : ℕ) → (n < a) ↔ P n) → ((n : ℕ) → (n < b) ↔ P n) → a ≡ b
end_same P a b p q =
    elim (cases_order a b) [
      | inl e ↦ e
      | inr h ↦ elim h [
        | inl before ↦ let no : a < a = (p a).1 ((q a).0 before) in absurd (omega arith)
        | inr behind ↦ let no : b < b = (q b).1 ((p b).0 behind) in absurd (omega arith)
      ]
    ]

-- the layout of a file is one alone
pub layout_alone : (f : FieldsValue) (es es' : List Edge) (a b a' b' : ℕ) → IsLaidOut f es a b → IsLaidOut f es' a' b' → (es ≡ es') × (a ≡ a') × (b ≡ b')
layout_alone f es es' a b a' b' p q =
    let e : es ≡ es' = edges_alone f.nodes f.links es es' p.joined q.joined in
    let starts : IsFirstBlock f.times f.nodes es' a = subst (λ (x : List Edge). IsFirstBlock f.times f.nodes x a) e p.starts in
    let ends : IsEndBlock f.times f.nodes es' b = subst (λ (x : List Edge). IsEndBlock f.times f.nodes x b) e p.ends in
    (e, first_same (StartsBelow f.times f.nodes es' (length f.nodes)) a a' starts q.starts, end_same (EndsBelow f.times f.nodes es' (length f.nodes)) b b' ends q.ends)

-- ---- the faults of a timing

fault_not : (t : Times) (e : TimingError) → IsTiming t → IsFirstFault t e → ⊥
fault_not t ZeroBlock h a = omega (arith, h.nonzero, a)
fault_not t OddBlock h a = omega (arith, h.even, a)
fault_not t BlockTooLong h a = omega (arith, h.short, a)
fault_not t DelayTooLong h a = omega (arith, h.near, a)
fault_not t BoundsCrossed h a = omega (arith, h.in_order, a)
fault_not t (GuardTooWide wide most) h a = omega (arith, h.guarded, a)

fault_alone : (t : Times) (e e' : TimingError) → IsFirstFault t e → IsFirstFault t e' → e ≡ e'
fault_alone t ZeroBlock ZeroBlock a b = refl
fault_alone t OddBlock OddBlock a b = refl
fault_alone t BlockTooLong BlockTooLong a b = refl
fault_alone t DelayTooLong DelayTooLong a b = refl
fault_alone t BoundsCrossed BoundsCrossed a b = refl
fault_alone t (GuardTooWide w m) (GuardTooWide w' m') a b = rw (a.4, a.5, b.4, b.5) refl
fault_alone t ZeroBlock OddBlock a b = absurd (omega (arith, a, b))
fault_alone t ZeroBlock _ a b = absurd (omega arith)
fault_alone t OddBlock _ a b = absurd (omega arith)
fault_alone t BlockTooLong _ a b = absurd (omega arith)
fault_alone t DelayTooLong _ a b = absurd (omega arith)
fault_alone t BoundsCrossed _ a b = absurd (omega arith)
fault_alone t (GuardTooWide w m) _ a b = absurd (omega arith)

-- ---- the rules

-- a rule that is kept is not broken
kept_not : (f : FieldsValue) (e : DomainError) → Keeps f (rule_of e) → Tells f e → ⊥
kept_not f (Timing fault) h a = fault_not f.times fault h a
kept_not f (TooMany part.Node count) h a = omega (arith, h, a.0)
kept_not f (TooMany part.Link count) h a = omega (arith, h, a.0)
kept_not f (TooMany part.Flow count) h a = omega (arith, h, a.0)
kept_not f (TooMany _ count) h a = a
kept_not f (Twice FlowName first second) h a = no_pair SameFlowName any_flow f.flows first second h a
kept_not f (Twice FlowId first second) h a = no_pair SameFlowId any_flow f.flows first second h a
kept_not f (Twice NodeName first second) h a = no_pair SameNodeName any_node f.nodes first second h a
kept_not f (UnknownNode link end) h a = no_place (IsBetween f.nodes) (IsLoose f.nodes end) (loose_not f.nodes end) any_link f.links link h a
kept_not f (SelfLink link) h a = no_place EndsDiffer (λ l. l.from ≡ l.to) (λ l not e. not e) any_link f.links link h a
kept_not f (LinkTwice first second) h a = no_pair SameEnds any_link f.links first second h a
kept_not f (LoneNode node) h a = no_place (HasLink f.links) (IsLone f.links) (lone_not f.links) any_node f.nodes node h a
kept_not f (NoBlock first end) h a =
    let same = layout_alone f h.0 a.0 h.1 h.2 first end h.3 a.1 in
    omega (arith, h.4, a.2, same.1, same.2)
kept_not f (TooManyCells count) h a =
    let same = layout_alone f h.0 a.0 h.1 h.2 a.1 a.2 h.3 a.3 in
    let cells : length f.flows * (h.2 - h.1) ≡ length f.flows * (a.2 - a.1) = rw (same.1, same.2) refl in
    omega (arith, h.4, a.4, a.5, cells)
kept_not f _ h a = a

-- where the rules on counts and on repeats stand
many-between : (p : Part) (n : ℕ) → (place few_nodes ≤ place (rule_of (TooMany p n))) × (place (rule_of (TooMany p n)) ≤ place few_flows)
many-between part.Node n = (omega arith, omega arith)
many-between part.Link n = (omega arith, omega arith)
many-between _ n = (omega arith, omega arith)

twice-between : (w : Repeated) (i j : ℕ) → (place flow_names_differ ≤ place (rule_of (Twice w i j))) × (place (rule_of (Twice w i j)) ≤ place node_names_differ)
twice-between FlowName i j = (omega arith, omega arith)
twice-between FlowId i j = (omega arith, omega arith)
twice-between NodeName i j = (omega arith, omega arith)

-- what is told of a rule is one alone
told_alone : (f : FieldsValue) (e e' : DomainError) → place (rule_of e) ≡ place (rule_of e') → Tells f e → Tells f e' → e ≡ e'
told_alone f (Timing x) (Timing y) r a b = ap Timing (fault_alone f.times x y a b)
told_alone f (Timing x) (TooMany p n) r a b = absurd (omega (arith, r, many-between p n))
told_alone f (Timing x) (Twice w u v) r a b = absurd (omega (arith, r, twice-between w u v))
told_alone f (Timing x) _ r a b = absurd (omega (arith, r))
told_alone f (TooMany part.Node x) (TooMany part.Node y) r a b = ap (TooMany part.Node) (a.1 ∙ sym b.1)
told_alone f (TooMany part.Node x) (TooMany part.Link y) r a b = absurd (omega (arith, r))
told_alone f (TooMany part.Node x) (TooMany part.Flow y) r a b = absurd (omega (arith, r))
told_alone f (TooMany part.Node x) (TooMany _ y) r a b = absurd b
told_alone f (TooMany part.Node x) (Twice w i j) r a b = absurd (omega (arith, r, twice-between w i j))
told_alone f (TooMany part.Node x) _ r a b = absurd (omega (arith, r))
told_alone f (TooMany part.Link x) (TooMany part.Link y) r a b = ap (TooMany part.Link) (a.1 ∙ sym b.1)
told_alone f (TooMany part.Link x) (TooMany part.Node y) r a b = absurd (omega (arith, r))
told_alone f (TooMany part.Link x) (TooMany part.Flow y) r a b = absurd (omega (arith, r))
told_alone f (TooMany part.Link x) (TooMany _ y) r a b = absurd b
told_alone f (TooMany part.Link x) (Twice w i j) r a b = absurd (omega (arith, r, twice-between w i j))
told_alone f (TooMany part.Link x) _ r a b = absurd (omega (arith, r))
told_alone f (TooMany part.Flow x) (TooMany part.Flow y) r a b = ap (TooMany part.Flow) (a.1 ∙ sym b.1)
told_alone f (TooMany part.Flow x) (TooMany part.Node y) r a b = absurd (omega (arith, r))
told_alone f (TooMany part.Flow x) (TooMany part.Link y) r a b = absurd (omega (arith, r))
told_alone f (TooMany part.Flow x) (TooMany _ y) r a b = absurd b
told_alone f (TooMany part.Flow x) (Twice w i j) r a b = absurd (omega (arith, r, twice-between w i j))
told_alone f (TooMany part.Flow x) _ r a b = absurd (omega (arith, r))
told_alone f (TooMany _ x) e' r a b = absurd a
told_alone f (Twice FlowName i j) (Twice FlowName i' j') r a b =
    let p = pair_alone SameFlowName (λ x y z p q. p ∙ sym q) any_flow f.flows i j i' j' a b in rw (p.0, p.1) refl
told_alone f (Twice FlowName i j) (Twice FlowId i' j') r a b = absurd (omega (arith, r))
told_alone f (Twice FlowName i j) (Twice NodeName i' j') r a b = absurd (omega (arith, r))
told_alone f (Twice FlowName i j) (TooMany p n) r a b = absurd (omega (arith, r, many-between p n))
told_alone f (Twice FlowName i j) _ r a b = absurd (omega (arith, r))
told_alone f (Twice FlowId i j) (Twice FlowId i' j') r a b =
    let p = pair_alone SameFlowId (λ x y z p q. p ∙ sym q) any_flow f.flows i j i' j' a b in rw (p.0, p.1) refl
told_alone f (Twice FlowId i j) (Twice FlowName i' j') r a b = absurd (omega (arith, r))
told_alone f (Twice FlowId i j) (Twice NodeName i' j') r a b = absurd (omega (arith, r))
told_alone f (Twice FlowId i j) (TooMany p n) r a b = absurd (omega (arith, r, many-between p n))
told_alone f (Twice FlowId i j) _ r a b = absurd (omega (arith, r))
told_alone f (Twice NodeName i j) (Twice NodeName i' j') r a b =
    let p = pair_alone SameNodeName (λ x y z p q. p ∙ sym q) any_node f.nodes i j i' j' a b in rw (p.0, p.1) refl
told_alone f (Twice NodeName i j) (Twice FlowName i' j') r a b = absurd (omega (arith, r))
told_alone f (Twice NodeName i j) (Twice FlowId i' j') r a b = absurd (omega (arith, r))
told_alone f (Twice NodeName i j) (TooMany p n) r a b = absurd (omega (arith, r, many-between p n))
told_alone f (Twice NodeName i j) _ r a b = absurd (omega (arith, r))
told_alone f (UnknownNode i x) (UnknownNode i' y) r a b =
    let p = place_alone (IsBetween f.nodes) (IsLoose f.nodes x) (IsLoose f.nodes y) (loose_not f.nodes x) (loose_not f.nodes y) any_link f.links i i' a b in
    let e = end_alone f.nodes x y (slice_index_or f.links i' any_link) (subst (λ (n : ℕ). IsLoose f.nodes x (slice_index_or f.links n any_link)) p (a.here any_link)) (b.here any_link) in
    rw (p, e) refl
told_alone f (UnknownNode i x) (TooMany p n) r a b = absurd (omega (arith, r, many-between p n))
told_alone f (UnknownNode i x) (Twice w u v) r a b = absurd (omega (arith, r, twice-between w u v))
told_alone f (UnknownNode i x) _ r a b = absurd (omega (arith, r))
told_alone f (SelfLink i) (SelfLink i') r a b =
    ap SelfLink (place_alone EndsDiffer (λ l. l.from ≡ l.to) (λ l. l.from ≡ l.to) (λ l not e. not e) (λ l not e. not e) any_link f.links i i' a b)
told_alone f (SelfLink i) (TooMany p n) r a b = absurd (omega (arith, r, many-between p n))
told_alone f (SelfLink i) (Twice w u v) r a b = absurd (omega (arith, r, twice-between w u v))
told_alone f (SelfLink i) _ r a b = absurd (omega (arith, r))
told_alone f (LinkTwice i j) (LinkTwice i' j') r a b =
    let p = pair_alone SameEnds ends_join any_link f.links i j i' j' a b in rw (p.0, p.1) refl
told_alone f (LinkTwice i j) (TooMany p n) r a b = absurd (omega (arith, r, many-between p n))
told_alone f (LinkTwice i j) (Twice w u v) r a b = absurd (omega (arith, r, twice-between w u v))
told_alone f (LinkTwice i j) _ r a b = absurd (omega (arith, r))
told_alone f (LoneNode i) (LoneNode i') r a b =
    ap LoneNode (place_alone (HasLink f.links) (IsLone f.links) (IsLone f.links) (lone_not f.links) (lone_not f.links) any_node f.nodes i i' a b)
told_alone f (LoneNode i) (TooMany p n) r a b = absurd (omega (arith, r, many-between p n))
told_alone f (LoneNode i) (Twice w u v) r a b = absurd (omega (arith, r, twice-between w u v))
told_alone f (LoneNode i) _ r a b = absurd (omega (arith, r))
told_alone f (NoBlock x y) (NoBlock x' y') r a b =
    let p = layout_alone f a.0 b.0 x y x' y' a.1 b.1 in rw (p.1, p.2) refl
told_alone f (NoBlock x y) (TooMany p n) r a b = absurd (omega (arith, r, many-between p n))
told_alone f (NoBlock x y) (Twice w u v) r a b = absurd (omega (arith, r, twice-between w u v))
told_alone f (NoBlock x y) _ r a b = absurd (omega (arith, r))
told_alone f (TooManyCells n) (TooManyCells n') r a b =
    let p = layout_alone f a.0 b.0 a.1 a.2 b.1 b.2 a.3 b.3 in
    ap TooManyCells (a.4 ∙ rw (p.1, p.2) refl ∙ sym b.4)
told_alone f (TooManyCells n) NotToml r a b = absurd b
told_alone f (TooManyCells n) (BadField p i k) r a b = absurd b
told_alone f (TooManyCells n) Memory r a b = absurd b
told_alone f (TooManyCells n) (TooMany part.Node y) r a b = absurd (omega (arith, r))
told_alone f (TooManyCells n) (TooMany part.Link y) r a b = absurd (omega (arith, r))
told_alone f (TooManyCells n) (TooMany part.Flow y) r a b = absurd (omega (arith, r))
told_alone f (TooManyCells n) (TooMany _ y) r a b = absurd b
told_alone f (TooManyCells n) (Twice w i j) r a b = absurd (omega (arith, r, twice-between w i j))
told_alone f (TooManyCells n) _ r a b = absurd (omega (arith, r))
told_alone f _ e' r a b = absurd a

-- the first broken rule is one alone
pub broken_alone : (f : FieldsValue) (e e' : DomainError) → IsFirstBroken f e → IsFirstBroken f e' → e ≡ e'
broken_alone f e e' a b =
    elim (cases_order (place (rule_of e)) (place (rule_of e'))) [
      | inl same ↦ told_alone f e e' same a.told b.told
      | inr h ↦ elim h [
        | inl before ↦ absurd (kept_not f e (kept-before f (rule_of e') b.kept (rule_of e) before) a.told)
        | inr behind ↦ absurd (kept_not f e' (kept-before f (rule_of e) a.kept (rule_of e') behind) b.told)
      ]
    ]

-- a file of which a domain is made breaks no rule
pub made_not : (f : FieldsValue) (d : DomainValue) (e : DomainError) → IsMadeOf f d → IsFirstBroken f e → ⊥
made_not f d e made a = kept_not f e (kept-rule f made.kept (rule_of e)) a.told

-- the domain that is made of a file is one alone
pub made_alone : (f : FieldsValue) (d d' : DomainValue) → IsMadeOf f d → IsMadeOf f d' → d ≡ d'
made_alone f d d' a b =
    let p = layout_alone f d.links d'.links d.first d.end d'.first d'.end a.laid_out b.laid_out in
    let times = a.times ∙ sym b.times in
    let kind = a.kind ∙ sym b.kind in
    let workers = a.workers ∙ sym b.workers in
    let flows = a.flows ∙ sym b.flows in
    let nodes = a.nodes ∙ sym b.nodes in
    λ i. record { times = times i; kind = kind i; workers = workers i; flows = flows i; nodes = nodes i; links = p.0 i; first = p.1 i; end = p.2 i }
