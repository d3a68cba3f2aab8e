-- The first bad part is one alone, and there is none where the document says something.
use Rattle.std.proofs.Common.{◌≡◌, ℕ, slice_get, Option, Some, subst, sym, ap, ◌∙◌, refl, inl, inr}
use Rattle.std.proofs.lemmas.Bool.{cases_order, true≢false}
use Rattle.std.proofs.lemmas.Option.{same_Some}
use Rattle.toml.specs.Data.{Members}
use Rattle.am_domain.specs.Tables.{SaysFlow, SaysNode, SaysLink}
use Rattle.am_domain.specs.Fields.{FieldsValue, SaysTimes, SaysMarking, Says, at_part, IsRightPart, IsBadPart, parts, part_place, IsBadField}
use Rattle.am_domain.specs.declared.error.Part.{Part}
use Rattle.am_domain.specs.declared.error.Part.TheVariants.{Top, Timing, Marking, Flow, Node, Link}
use Rattle.am_domain.specs.declared.error.Key.{Key}
use Rattle.am_domain.proofs.ListLemmas.{one-of-first}
use Rattle.am_domain.proofs.FirstAlone.{flow_right, node_right, link_right, times_right, marking_right, array_alone, array_says, table_alone, table_says}

part_at : (p : Part) → slice_get parts (part_place p) ≡ Some p
part_at Top = refl
part_at Timing = refl
part_at Marking = refl
part_at Flow = refl
part_at Node = refl
part_at Link = refl

-- a part that is right is not bad
right_bad : (ms : Members) (p : Part) (i : Option ℕ) (k : Option Key) → IsRightPart ms p → IsBadPart ms p i k → ⊥
right_bad ms Top i k h b = true≢false (sym b.2 ∙ h)
right_bad ms Timing i k h b = table_says Timing SaysTimes times_right (at_part ms Timing) h.0 i k h.1 b
right_bad ms Marking i k h b = table_says Marking SaysMarking marking_right (at_part ms Marking) h.0 i k h.1 b
right_bad ms Flow i k h b = array_says Flow SaysFlow flow_right (at_part ms Flow) h.0 i k h.1 b
right_bad ms Node i k h b = array_says Node SaysNode node_right (at_part ms Node) h.0 i k h.1 b
right_bad ms Link i k h b = array_says Link SaysLink link_right (at_part ms Link) h.0 i k h.1 b

-- what is wrong with a part is one alone
part_alone : (ms : Members) (p : Part) (i i' : Option ℕ) (k k' : Option Key) → IsBadPart ms p i k → IsBadPart ms p i' k' → (i ≡ i') × (k ≡ k')
part_alone ms Top i i' k k' a b = (a.0 ∙ sym b.0, a.1 ∙ sym b.1)
part_alone ms Timing i i' k k' a b = table_alone Timing (at_part ms Timing) i i' k k' a b
part_alone ms Marking i i' k k' a b = table_alone Marking (at_part ms Marking) i i' k k' a b
part_alone ms Flow i i' k k' a b = array_alone Flow SaysFlow flow_right (at_part ms Flow) i i' k k' a b
part_alone ms Node i i' k k' a b = array_alone Node SaysNode node_right (at_part ms Node) i i' k k' a b
part_alone ms Link i i' k k' a b = array_alone Link SaysLink link_right (at_part ms Link) i i' k k' a b

-- each part of a document that says something is right
right_part : (ms : Members) (f : FieldsValue) (p : Part) → Says ms f → IsRightPart ms p
right_part ms f Top h = h.known
right_part ms f Timing h = (f.times, h.timing)
right_part ms f Marking h = (f.marking, h.marking)
right_part ms f Flow h = (f.flows, h.flows)
right_part ms f Node h = (f.nodes, h.nodes)
right_part ms f Link h = (f.links, h.links)

-- a document that says something has no bad field
pub field_says : (ms : Members) (f : FieldsValue) (p : Part) (i : Option ℕ) (k : Option Key) → Says ms f → IsBadField ms p i k → ⊥
field_says ms f p i k h b = right_bad ms p i k (right_part ms f p h) b.bad

same_part : (ms : Members) (p p' : Part) (i i' : Option ℕ) (k k' : Option Key) → IsBadField ms p i k → IsBadField ms p' i' k' → p ≡ p'
same_part ms p p' i i' k k' a b =
    elim (cases_order (part_place p) (part_place p')) [
      | inl e ↦ same_Some p p' (sym (part_at p) ∙ ap (slice_get parts) e ∙ part_at p')
      | inr h ↦ elim h [
        | inl before ↦ absurd (right_bad ms p i k (one-of-first (IsRightPart ms) parts (part_place p') (part_place p) p b.before before (part_at p)) a.bad)
        | inr behind ↦ absurd (right_bad ms p' i' k' (one-of-first (IsRightPart ms) parts (part_place p) (part_place p') p' a.before behind (part_at p')) b.bad)
      ]
    ]

-- the first bad field is one alone
pub field_alone : (ms : Members) (p p' : Part) (i i' : Option ℕ) (k k' : Option Key) → IsBadField ms p i k → IsBadField ms p' i' k' → (p ≡ p') × (i ≡ i') × (k ≡ k')
field_alone ms p p' i i' k k' a b =
    let same = same_part ms p p' i i' k k' a b in
    let r = part_alone ms p' i i' k k' (subst (λ (q : Part). IsBadPart ms q i k) same a.bad) b.bad in
    (same, r.0, r.1)
