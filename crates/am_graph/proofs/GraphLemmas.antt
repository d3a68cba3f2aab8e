-- Tables of what lies beside each place, one pair after another.
use Rattle.std.proofs.Common.{◌≡◌, ℕ, ◌+◌, ◌<◌, ◌⊎◌, ◌↔◌, List, [], ◌∷◌, ◌++◌, Contains, length, inl, inr, refl, sym, ap, ◌∙◌, subst, arith}
use Rattle.std.proofs.Math.ListN.{length-set}
use Rattle.std.proofs.lemmas.List.{get_or-set_same, get_or-set_other}
use Rattle.std.proofs.lemmas.List.Elements.{Contains-append_left, Contains-push, Contains-push_cases}
use Rattle.std.proofs.lemmas.Bool.{cases_lt, cases_eq}
use Rattle.am_graph.specs.Lists.{list_at, with_item}
use Rattle.am_domain.specs.declared.link.Edge.{Edge}
use Rattle.am_graph.specs.Graphs.{IsTable, IsIndexed, Leads, start_of, end_of}

-- one of the first n pairs is this one
pub record IsPair (place_of item_of : ℕ → ℕ) (n place item : ℕ) : Type 0 where
  pub number : ℕ
  pub within : number < n
  pub place_is : place_of number ≡ place
  pub item_is : item_of number ≡ item

pair-old : (f g : ℕ → ℕ) (n place item : ℕ) → IsPair f g n place item → IsPair f g (n + 1) place item
pair-old f g n place item p = record { number = p.number; within = omega (arith, p.within); place_is = p.place_is; item_is = p.item_is }

pair-here : (f g : ℕ → ℕ) (n place item : ℕ) → f n ≡ place → g n ≡ item → IsPair f g (n + 1) place item
pair-here f g n place item e i = record { number = n; within = omega arith; place_is = e; item_is = i }

pair-cases : (f g : ℕ → ℕ) (n place item : ℕ) → IsPair f g (n + 1) place item → IsPair f g n place item ⊎ ((f n ≡ place) × (g n ≡ item))
pair-cases f g n place item p = elim (cases_lt p.number n) [
  | inl less ↦ inl (record { number = p.number; within = less; place_is = p.place_is; item_is = p.item_is })
  | inr more ↦ (
      let e : p.number ≡ n = omega (arith, p.within, more) in inr (ap f (sym e) ∙ p.place_is, ap g (sym e) ∙ p.item_is)
      )
]

-- the next pair stands in the list of its place
pub table-more :
    (f g : ℕ → ℕ) (n count : ℕ) (lists : List (List ℕ)) → f n < count → IsTable (IsPair f g n) count lists
    → IsTable (IsPair f g (n + 1)) count (with_item lists (f n) (g n))
table-more f g n count lists within t =
    let one : f n < length lists = omega (arith, within, t.each) in
    let here : list_at (with_item lists (f n) (g n)) (f n) ≡ list_at lists (f n) ++ g n ∷ [] =
    get_or-set_same lists (f n) (list_at lists (f n) ++ g n ∷ []) [] one in
    let other : (place : ℕ) → (place ≡ f n → ⊥) → list_at (with_item lists (f n) (g n)) place ≡ list_at lists place =
    λ place ne. get_or-set_other lists (f n) place (list_at lists (f n) ++ g n ∷ []) [] ne in
    record {
      each = length-set lists (f n) (list_at lists (f n) ++ g n ∷ []) ∙ t.each;
      has = λ place item. elim (cases_eq place (f n)) [
        | inl e ↦ subst (λ p. Contains (list_at (with_item lists (f n) (g n)) p) item ↔ IsPair f g (n + 1) p item) (sym e) (
          λ h. elim (Contains-push_cases (list_at lists (f n)) (g n) item (subst (λ xs. Contains xs item) here h)) [
            | inl was ↦ pair-old f g n (f n) item ((t.has (f n) item).0 was)
            | inr i ↦ pair-here f g n (f n) item refl i
          ],
          λ p. subst (λ xs. Contains xs item) (sym here) (elim (pair-cases f g n (f n) item p) [
            | inl old ↦ Contains-append_left (list_at lists (f n)) (g n ∷ []) item ((t.has (f n) item).1 old)
            | inr new ↦ subst (Contains (list_at lists (f n) ++ g n ∷ [])) new.1 (Contains-push (list_at lists (f n)) (g n))
          ]),
        )
        | inr ne ↦ (
          λ h. pair-old f g n place item ((t.has place item).0 (subst (λ xs. Contains xs item) (other place ne) h)),
          λ p. subst (λ xs. Contains xs item) (sym (other place ne)) (elim (pair-cases f g n place item p) [
            | inl old ↦ (t.has place item).1 old
            | inr new ↦ absurd (ne (sym new.0))
          ]),
        )
      ];
    }

-- a table of the same
pub table-same : (R S : ℕ → ℕ → Type 0) (count : ℕ) (lists : List (List ℕ)) → ((p i : ℕ) → R p i → S p i) → ((p i : ℕ) → S p i → R p i) → IsTable R count lists → IsTable S count lists
table-same R S count lists to from t = record {
  each = t.each;
  has = λ p i. (λ h. to p i ((t.has p i).0 h), λ s. (t.has p i).1 (from p i s));
}

-- one of all links leads so exactly where it is one of the pairs
pair-leads : (links : List Edge) (p i : ℕ) → IsPair (start_of links) (end_of links) (length links) p i → Leads links p i
pair-leads links p i h = record { number = h.number; within = h.within; begins = h.place_is; ends = h.item_is }

leads-pair : (links : List Edge) (p i : ℕ) → Leads links p i → IsPair (start_of links) (end_of links) (length links) p i
leads-pair links p i h = record { number = h.number; within = h.within; place_is = h.begins; item_is = h.ends }

pair-turned : (f g : ℕ → ℕ) (n p i : ℕ) → IsPair f g n p i → IsPair g f n i p
pair-turned f g n p i h = record { number = h.number; within = h.within; place_is = h.item_is; item_is = h.place_is }

-- the tables of all links
pub indexed :
    (nodes n : ℕ) (links : List Edge) (ahead back : List (List ℕ)) → n ≡ length links
    → ((k : ℕ) → k < length links → (start_of links k < nodes) × (end_of links k < nodes))
    → IsTable (IsPair (start_of links) (end_of links) n) nodes ahead → IsTable (IsPair (end_of links) (start_of links) n) nodes back
    → IsIndexed nodes links ahead back
indexed nodes n links ahead back all within a b =
    let ahead_all : IsTable (IsPair (start_of links) (end_of links) (length links)) nodes ahead =
    subst (λ m. IsTable (IsPair (start_of links) (end_of links) m) nodes ahead) all a in
    let back_all : IsTable (IsPair (end_of links) (start_of links) (length links)) nodes back =
    subst (λ m. IsTable (IsPair (end_of links) (start_of links) m) nodes back) all b in
    record {
      starts_within = λ k h. (within k h).0;
      ends_within = λ k h. (within k h).1;
      ahead = table-same (IsPair (start_of links) (end_of links) (length links)) (Leads links) nodes ahead (pair-leads links) (leads-pair links) ahead_all;
      back = table-same (IsPair (end_of links) (start_of links) (length links)) (λ end start. Leads links start end) nodes back
          (λ p i h. pair-leads links i p (pair-turned (end_of links) (start_of links) (length links) p i h))
          (λ p i h. pair-turned (start_of links) (end_of links) (length links) i p (leads-pair links i p h)) back_all;
    }
