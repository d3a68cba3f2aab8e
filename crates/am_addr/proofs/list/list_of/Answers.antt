use Rattle.std.proofs.Common.{arith, sym, subst, ◌∙◌, ◌≡◌, ℕ, ◌+◌, ◌<◌, ◌≤◌, ◌⊎◌, ◌↔◌, List, [], ◌∷◌, ◌++◌, length, drop, get_or, drop-cons, add-one, IfSome, IfNone, IsSomeAnd, Option, Some, None}
use Rattle.std.proofs.lemmas.List.{drop_all}
use Rattle.am_addr.specs.declared.groups.Groups.{Groups}
use Rattle.am_addr.specs.Text.{IsList}
use Rattle.am_addr.specs.Walk.{listed, Reads}
use Rattle.am_addr.proofs.Walk.{list_empty, list_reads, reads_list, reads_end, end_reads, stops_end}
use Rattle.am_addr.proofs.list.list_of.Goals as goal

pub returns-then-is_empty-clause-found : goal.returns-then-is_empty-clause-found
returns-then-is_empty-clause-found c values few l =
    c.new.ensures ∙ list_empty values c.args.text.now (grind (arith, c.if-is_empty.ensures)) l

next_of : (text : List ℕ) (i : ℕ) → i < length text → drop i text ≡ get_or text i 0 ∷ drop (i + 1) text
next_of text i h = rw (add-one, drop-cons text i 0)

pub returns-in_default-clause-found : goal.returns-in_default-clause-found
returns-in_default-clause-found c values few l =
    let text = c.args.text.now in
    let some : 0 < length text = omega arith in
    let here = (c.loop-byte.invariant values).0 (list_reads values text some l) in
    c.in_default.ensures.none _ values few
    (subst (λ (t : List ℕ). Reads (listed c.loop-byte.reading.ended) c.loop-byte.reading.digits c.loop-byte.reading.value t values)
    (next_of text c.loop-byte.byte-index (omega arith)) here)

only_end :
    (r : Option Groups) (text rest ended : List ℕ) (n v : ℕ) → rest ≡ []
    → IfSome r (λ g. (0 < n) × (listed g ≡ ended ++ v ∷ []))
    → ((values : List ℕ) → Reads [] 0 0 text values ↔ Reads ended n v rest values)
    → IfSome r (λ g. IsList (listed g) text)
only_end None text rest ended n v e h both = tt
only_end (Some g) text rest ended n v e h both =
    let there = subst (λ (t : List ℕ). Reads ended n v t (ended ++ v ∷ [])) (sym e) (end_reads ended n v h.0) in
    reads_list (listed g) text (subst (λ (vs : List ℕ). Reads [] 0 0 text vs) (sym h.1) ((both (ended ++ v ∷ [])).1 there))

found_end :
    (r : Option Groups) (text rest ended : List ℕ) (n v : ℕ) → rest ≡ [] → 0 < length text
    → IfSome r (λ g. (0 < n) × (listed g ≡ ended ++ v ∷ []))
    → IfNone r ((n ≡ 0) ⊎ (length ended ≡ 8))
    → ((values : List ℕ) → Reads [] 0 0 text values ↔ Reads ended n v rest values)
    → (values : List ℕ) → length values ≤ 8 → IsList values text → IsSomeAnd r (λ g. listed g ≡ values)
found_end None text rest ended n v e some h k both values few l =
    stops_end ended n v values k few (subst (λ (t : List ℕ). Reads ended n v t values) e ((both values).0 (list_reads values text some l)))
found_end (Some g) text rest ended n v e some h k both values few l =
    let here = subst (λ (t : List ℕ). Reads ended n v t values) e ((both values).0 (list_reads values text some l)) in
    h.1 ∙ sym (reads_end ended n v values here)

pub returns-clause-only : goal.returns-clause-only
returns-clause-only c =
    only_end c.end.result c.args.text.now (drop c.loop-byte.byte-index c.args.text.now) _ _ _
    (drop_all c.loop-byte.byte-index c.args.text.now (omega arith)) c.end.ensures.ended c.loop-byte.invariant

pub returns-clause-found : goal.returns-clause-found
returns-clause-found c =
    found_end c.end.result c.args.text.now (drop c.loop-byte.byte-index c.args.text.now) _ _ _
    (drop_all c.loop-byte.byte-index c.args.text.now (omega arith)) (grind (arith, c.if-is_empty.ensures))
    c.end.ensures.ended c.end.ensures.none c.loop-byte.invariant
