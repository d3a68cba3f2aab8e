-- The first flow of each pair of prefixes, and the first that holds a packet's addresses.
use Rattle.std.proofs.Common.{arith, refl, sym, subst, ap, cond, ⊎_elim, ◌∙◌, ◌≡◌, ◌≢◌, ℕ, ◌+◌, ◌<◌, ◌≤◌, Bool, true, false, ◌&&◌, min, List, length, get_or, Contains, Option, Some, None, IfSome, IfNone, MatchOption, eq-eqb}
use Rattle.std.proofs.Math.Dec.{eqb}
use Rattle.std.proofs.lemmas.Bool.{cases_lt, cases_Bool, eqb-true}
use Rattle.std.proofs.lemmas.List.{get_or_default}
use Rattle.std.proofs.lemmas.Slice.Eq.{bytes_eq-Decides}
use Rattle.std.specs.Option.{is_some, option_copied}
use denote.Ref.{Bor}
use Rattle.std.specs.HashMap.{HashMap, IsEmpty, get}
use Rattle.std.specs.Map.{lookup}
use Rattle.am_domain.specs.Values.{FlowValue}
use Rattle.am_domain.specs.Lookups.{IsFirstWith, NoneHas, Holds}
use Rattle.am_domain.specs.Index.{lengths_of, ends_at, ends_of, same_ends, IsFirstBelow, IsIndex, earlier_of, or_place, IsAdded}
use Rattle.am_domain.specs.declared.index.Lengths.{Lengths}
use Rattle.am_domain.specs.declared.index.Ends.{Ends}
use Rattle.am_domain.specs.declared.index.Index.{Index}

both : (p q : Bool) → (p && q) ≡ true → (p ≡ true) × (q ≡ true)
both true q e = (refl, e)
both false q e = cc

and_both : (p q : Bool) → p ≡ true → q ≡ true → (p && q) ≡ true
and_both p q e f = rw e f

same_lengths : (a b : Lengths) → a.source ≡ b.source → a.destination ≡ b.destination → a ≡ b
same_lengths a b e f = grind arith

same_parts : (a b : Ends) → a.lengths ≡ b.lengths → a.source ≡ b.source → a.destination ≡ b.destination → a ≡ b
same_parts a b e f g = grind arith

-- the test of two pairs of lengths says whether they are the same
pub lengths-true : (a b : Lengths) → (eqb a.source b.source && eqb a.destination b.destination) ≡ true → a ≡ b
lengths-true a b e = let parts = both _ _ e in same_lengths a b (eqb-true _ _ parts.0) (eqb-true _ _ parts.1)

-- the test says whether two are the same
pub same-true : (a b : Ends) → same_ends a b ≡ true → a ≡ b
same-true a b e =
    let parts = both _ _ e in
    let bytes = both _ _ parts.1 in
    same_parts a b
    (lengths-true a.lengths b.lengths parts.0)
    ((bytes_eq-Decides a.source b.source).0 bytes.0) ((bytes_eq-Decides a.destination b.destination).0 bytes.1)

pub same-itself : (a : Ends) → same_ends a a ≡ true
same-itself a =
    and_both _ _ (and_both _ _ (eq-eqb a.lengths.source a.lengths.source refl) (eq-eqb a.lengths.destination a.lengths.destination refl))
    (and_both _ _ ((bytes_eq-Decides a.source a.source).1 refl) ((bytes_eq-Decides a.destination a.destination).1 refl))

-- a place that is there stays
some-kept : (old : Option ℕ) (at : ℕ) → is_some old ≡ true → old ≡ or_place old at
some-kept None at h = cc
some-kept (Some x) at h = refl

pub kept-added :
    (old : Ends → Option ℕ) (ends other : Ends) (at : ℕ) → is_some (old ends) ≡ true → IsAdded ends at other (old other) (old other)
kept-added old ends other at h = record {
  same = λ e. subst (λ q. old q ≡ or_place (old q) at) (sym e) (some-kept (old ends) at h);
  apart = λ n. refl;
}

none-added : (old : Option ℕ) (at : ℕ) → is_some old ≡ false → Some at ≡ or_place old at
none-added None at h = refl
none-added (Some x) at h = cc

-- where none is there, the place is added
pub new-added :
    (old new : Ends → Option ℕ) (ends other : Ends) (at : ℕ) → is_some (old ends) ≡ false
    → ((q : Ends) → new q ≡ cond (same_ends ends q) (Some at) (old q)) → IsAdded ends at other (old other) (new other)
new-added old new ends other at h updates = record {
  same = λ e.
      let yes : same_ends ends other ≡ true = subst (λ q. same_ends ends q ≡ true) (sym e) (same-itself ends) in
      let value : new other ≡ Some at = updates other ∙ ap (λ b. cond b (Some at) (old other)) yes in
      value ∙ subst (λ q. Some at ≡ or_place (old q) at) (sym e) (none-added (old ends) at h);
  apart = λ n.
      ⊎_elim (λ yes. absurd (n (sym (same-true ends other yes))))
      (λ no. updates other ∙ ap (λ b. cond b (Some at) (old other)) no) (cases_Bool (same_ends ends other));
}

pub copied_some : (r : Option (Bor ℕ)) → is_some (option_copied r) ≡ is_some r
copied_some None = refl
copied_some (Some x) = refl

-- none is the first of no flows
pub below-none : (flows : List FlowValue) (ends : Ends) → IsFirstBelow 0 flows ends None
below-none flows ends = λ k d lt. absurd (omega (arith, lt))

-- one more flow
below-later :
    (flows : List FlowValue) (ends : Ends) (n : ℕ) (old : Option ℕ) → ((d : FlowValue) → ends_of (get_or flows n d) ≢ ends)
    → IsFirstBelow n flows ends old → IsFirstBelow (n + 1) flows ends old
below-later flows ends n None other first = λ k d lt.
    ⊎_elim (λ before. first k d before)
    (λ past.
    let last : k ≡ n = omega (arith, lt, past) in subst (λ j. ends_of (get_or flows j d) ≢ ends) (sym last) (other d))
    (cases_lt k n)
below-later flows ends n (Some x) other first = (omega (arith, first.0), first.1)

below-here :
    (flows : List FlowValue) (ends : Ends) (n : ℕ) (old : Option ℕ) → n < length flows
    → ((d : FlowValue) → ends_of (get_or flows n d) ≡ ends) → IsFirstBelow n flows ends old → IsFirstBelow (n + 1) flows ends (or_place old n)
below-here flows ends n None within here first = (omega arith, record { within = within; before = first; here = here })
below-here flows ends n (Some x) within here first = (omega (arith, first.0), first.1)

pub below-more :
    (flows : List FlowValue) (n : ℕ) (f : FlowValue) (ends other : Ends) (old new : Option ℕ) → n < length flows
    → f ≡ get_or flows n f → ends ≡ ends_of f → IsAdded ends n other old new → IsFirstBelow n flows other old
    → IsFirstBelow (n + 1) flows other new
below-more flows n f ends other old new within at_n is added first =
    let here : (d : FlowValue) → ends_of (get_or flows n d) ≡ ends =
    λ d. ap ends_of (get_or_default flows n d f within ∙ sym at_n) ∙ sym is in
    ⊎_elim
    (λ same.
    let e : other ≡ ends = sym (same-true ends other same) in
    subst (IsFirstBelow (n + 1) flows other) (sym (added.same e))
    (below-here flows other n old within (λ d. here d ∙ sym e) first))
    (λ no.
    let apart : other ≢ ends = λ e. cc (sym (subst (λ q. same_ends ends q ≡ true) (sym e) (same-itself ends)) ∙ no) in
    subst (IsFirstBelow (n + 1) flows other) (sym (added.apart apart))
    (below-later flows other n old (λ d e. apart (sym e ∙ here d)) first))
    (cases_Bool (same_ends ends other))

-- the lengths of one more flow
pub lengths-more :
    (flows : List FlowValue) (n : ℕ) (f : FlowValue) (ends : Ends) (old new : List Lengths) → n < length flows
    → f ≡ get_or flows n f → ends ≡ ends_of f → Contains new ends.lengths → ((x : Lengths) → Contains old x → Contains new x)
    → ((i : ℕ) (d : FlowValue) → i < n → Contains old (lengths_of (get_or flows i d)))
    → (i : ℕ) (d : FlowValue) → i < n + 1 → Contains new (lengths_of (get_or flows i d))
lengths-more flows n f ends old new within at_n is added kept so_far i d lt =
    ⊎_elim (λ before. kept (lengths_of (get_or flows i d)) (so_far i d before))
    (λ past.
    let last : n ≡ i = omega (arith, lt, past) in
    let here : ends.lengths ≡ lengths_of (get_or flows i d) =
    ap (λ (x : Ends). x.lengths) is ∙ ap lengths_of (at_n ∙ get_or_default flows n f d within ∙ ap (λ k. get_or flows k d) last) in
    subst (λ x. Contains new x) here added)
    (cases_lt i n)

-- the first flow so far that holds the addresses: among those of the first n pairs of lengths
pub record IsFirstSoFar (flows : List FlowValue) (source destination : List ℕ) (lengths : List Lengths) (n : ℕ) (first : Option ℕ) : Type 0 where
  pub holds : IfSome first (λ b. (b < length flows) × ((d : FlowValue) → Holds source destination (get_or flows b d)))
  pub least : (m i : ℕ) (x : Lengths) (d : FlowValue) → m < n → i < length flows → get_or lengths m x ≡ lengths_of (get_or flows i d)
      → Holds source destination (get_or flows i d) → MatchOption first ⊥ (λ b. b ≤ i)

pub so_far-none : (flows : List FlowValue) (source destination : List ℕ) (lengths : List Lengths) → IsFirstSoFar flows source destination lengths 0 None
so_far-none flows source destination lengths = record { holds = tt; least = λ m i x d lt within e h. omega (arith, lt) }

-- flows of these lengths hold the addresses where they ask for these bits
ends-from_holds :
    (source destination : List ℕ) (n : Lengths) (f : FlowValue) → n ≡ lengths_of f → Holds source destination f
    → ends_of f ≡ ends_at n source destination
ends-from_holds source destination n f e h =
    subst (λ m. ends_of f ≡ ends_at m source destination) (sym e)
    (same_parts (ends_of f) (ends_at (lengths_of f) source destination) refl (sym h.of_source) (sym h.of_destination))

holds-from_ends :
    (source destination : List ℕ) (n : Lengths) (f : FlowValue) → ends_of f ≡ ends_at n source destination → Holds source destination f
holds-from_ends source destination n f e =
    let sizes : lengths_of f ≡ n = ap (λ (x : Ends). x.lengths) e in
    let same = subst (λ m. ends_of f ≡ ends_at m source destination) (sym sizes) e in
    record { of_source = sym (ap (λ (x : Ends). x.source) same); of_destination = sym (ap (λ (x : Ends). x.destination) same) }

-- what a look-up says of the flows of these lengths
looked-holds :
    (flows : List FlowValue) (source destination : List ℕ) (n : Lengths) (c : Option ℕ)
    → IsFirstBelow (length flows) flows (ends_at n source destination) c
    → IfSome c (λ b. (b < length flows) × ((d : FlowValue) → Holds source destination (get_or flows b d)))
looked-holds flows source destination n None first = tt
looked-holds flows source destination n (Some b) first =
    (first.0, λ d. holds-from_ends source destination n (get_or flows b d) (first.1.here d))

looked-least :
    (flows : List FlowValue) (source destination : List ℕ) (n : Lengths) (c : Option ℕ)
    → IsFirstBelow (length flows) flows (ends_at n source destination) c
    → (i : ℕ) (d : FlowValue) → i < length flows → n ≡ lengths_of (get_or flows i d) → Holds source destination (get_or flows i d)
    → MatchOption c ⊥ (λ b. b ≤ i)
looked-least flows source destination n None first i d within e h =
    first i d within (ends-from_holds source destination n (get_or flows i d) e h)
looked-least flows source destination n (Some b) first i d within e h =
    ⊎_elim (λ before. absurd (first.1.before i d before (ends-from_holds source destination n (get_or flows i d) e h))) (λ past. past) (cases_lt i b)

-- the earlier of two
earlier-some :
    (P : ℕ → Type 0) (a b : Option ℕ) → IfSome a P → IfSome b P → IfSome (earlier_of a b) P
earlier-some P None b p q = q
earlier-some P (Some x) None p q = p
earlier-some P (Some x) (Some y) p q =
    ⊎_elim (λ less. let e : x ≡ min x y = omega (arith, less) in subst P e p) (λ more. let e : y ≡ min x y = omega (arith, more) in subst P e q) (cases_lt x y)

earlier-left : (a b : Option ℕ) (i : ℕ) → MatchOption a ⊥ (λ x. x ≤ i) → MatchOption (earlier_of a b) ⊥ (λ x. x ≤ i)
earlier-left None b i p = absurd p
earlier-left (Some x) None i p = p
earlier-left (Some x) (Some y) i p = omega (arith, p)

earlier-right : (a b : Option ℕ) (i : ℕ) → MatchOption b ⊥ (λ x. x ≤ i) → MatchOption (earlier_of a b) ⊥ (λ x. x ≤ i)
earlier-right None b i p = p
earlier-right (Some x) None i p = absurd p
earlier-right (Some x) (Some y) i p = omega (arith, p)

so_far-more :
    (flows : List FlowValue) (source destination : List ℕ) (lengths : List Lengths) (n : ℕ) (l : Lengths) (first c : Option ℕ)
    → IsFirstSoFar flows source destination lengths n first → l ≡ get_or lengths n l → n < length lengths
    → IsFirstBelow (length flows) flows (ends_at l source destination) c
    → IsFirstSoFar flows source destination lengths (n + 1) (earlier_of first c)
so_far-more flows source destination lengths n l first c so_far at_n within looked = record {
  holds = earlier-some (λ b. (b < length flows) × ((d : FlowValue) → Holds source destination (get_or flows b d))) first c so_far.holds
      (looked-holds flows source destination l c looked);
  least = λ m i x d lt inside e h.
      ⊎_elim (λ before. earlier-left first c i (so_far.least m i x d before inside e h))
      (λ past.
      let last : n ≡ m = omega (arith, lt, past) in
      let here : l ≡ lengths_of (get_or flows i d) =
      at_n ∙ get_or_default lengths n l x within ∙ ap (λ k. get_or lengths k x) last ∙ e in
      earlier-right first c i (looked-least flows source destination l c looked i d inside here h))
      (cases_lt m n);
}

-- one look-up more, at the pair of lengths at this place
pub so_far-step :
    (flows : List FlowValue) (source destination : List ℕ) (index : Index) (items : List Lengths) (n : ℕ) (l : Lengths) (ends : Ends)
    (first c r : Option ℕ) → IsIndex flows index → items ≡ index.lengths.items → n < length items → l ≡ get_or items n l
    → ends ≡ ends_at l source destination → c ≡ get same_ends index.firsts ends → r ≡ earlier_of first c
    → IsFirstSoFar flows source destination index.lengths.items n first → IsFirstSoFar flows source destination index.lengths.items (n + 1) r
so_far-step flows source destination index items n l ends first c r is same lt at_n ends_is c_is r_is so_far =
    let all = index.lengths.items in
    let within : n < length all = omega (arith, lt, ap length same) in
    let looked : IsFirstBelow (length flows) flows (ends_at l source destination) c =
    subst (λ q. IsFirstBelow (length flows) flows q c) ends_is (subst (IsFirstBelow (length flows) flows ends) (sym c_is) (is.firsts ends)) in
    subst (IsFirstSoFar flows source destination all (n + 1)) (sym r_is)
    (so_far-more flows source destination all n l first c so_far (at_n ∙ ap (λ (x : List Lengths). get_or x n l) same) within looked)

-- after all pairs of lengths, the first flow of all
least_of_all :
    (flows : List FlowValue) (source destination : List ℕ) (index : Index) (n : ℕ) (first : Option ℕ) → IsIndex flows index
    → length index.lengths.items ≤ n → IsFirstSoFar flows source destination index.lengths.items n first
    → (i : ℕ) (d : FlowValue) → i < length flows → Holds source destination (get_or flows i d) → MatchOption first ⊥ (λ b. b ≤ i)
least_of_all flows source destination index n first is all so_far i d within h =
    let at = is.lengths i d within in
    so_far.least at.0 i (lengths_of (get_or flows i d)) d (omega (arith, at.1, all)) within at.2 h

first_of_all :
    (flows : List FlowValue) (source destination : List ℕ) (index : Index) (n : ℕ) (first : Option ℕ) → IsIndex flows index
    → length index.lengths.items ≤ n → IsFirstSoFar flows source destination index.lengths.items n first
    → MatchOption first (NoneHas (Holds source destination) flows) (IsFirstWith (Holds source destination) flows)
first_of_all flows source destination index n None is all so_far = λ i d within h.
    least_of_all flows source destination index n None is all so_far i d within h
first_of_all flows source destination index n (Some b) is all so_far = record {
  within = so_far.holds.0;
  before = λ i d before h. omega (arith, before, least_of_all flows source destination index n (Some b) is all so_far i d (omega (arith, before, so_far.holds.0)) h);
  here = λ d. so_far.holds.1 d;
}

pub found_of_all :
    (flows : List FlowValue) (source destination : List ℕ) (index : Index) (n : ℕ) (first : Option ℕ) → IsIndex flows index
    → length index.lengths.items ≤ n → IsFirstSoFar flows source destination index.lengths.items n first
    → IfSome first (IsFirstWith (Holds source destination) flows)
found_of_all flows source destination index n None is all so_far = tt
found_of_all flows source destination index n (Some b) is all so_far =
    first_of_all flows source destination index n (Some b) is all so_far

pub none_of_all :
    (flows : List FlowValue) (source destination : List ℕ) (index : Index) (n : ℕ) (first : Option ℕ) → IsIndex flows index
    → length index.lengths.items ≤ n → IsFirstSoFar flows source destination index.lengths.items n first
    → IfNone first (NoneHas (Holds source destination) flows)
none_of_all flows source destination index n None is all so_far =
    first_of_all flows source destination index n None is all so_far
none_of_all flows source destination index n (Some b) is all so_far = tt

-- an empty map has nothing
pub get-none : {S : Type 0} (m : HashMap Ends ℕ S) (ends : Ends) → IsEmpty m → get same_ends m ends ≡ None
get-none m ends e = ap (λ es. lookup (same_ends ends) es) e
