-- Ascending lists, one number after another.
use Rattle.std.proofs.Common.{◌≡◌, ℕ, ◌+◌, ◌<◌, List, [], ◌∷◌, ◌++◌, Contains, length, get_or, set, map, replicate, zero, suc, inl, inr, refl, sym, ap, ◌∙◌, subst, arith, length-append}
use Rattle.std.proofs.lemmas.List.{get_or-set_same, get_or-set_other, get_or_append_left, get_or_default, get_or-map, map-set}
use Rattle.std.proofs.Math.Seq.{get_or-append_seam}
use Rattle.std.proofs.lemmas.List.Elements.{Contains-append_left, Contains-push, Contains-push_cases}
use Rattle.std.proofs.lemmas.Bool.{cases_lt, cases_eq}
use Rattle.am_graph.specs.Lists.{list_at, with_item, Ascends, IsListOf}

-- the list of those that have P is that of those that have Q, where these are the same
pub list-same : (P Q : ℕ → Type 0) (xs : List ℕ) → ((x : ℕ) → P x → Q x) → ((x : ℕ) → Q x → P x) → IsListOf P xs → IsListOf Q xs
list-same P Q xs to from l = record {
  ascends = l.ascends;
  has = λ x. (λ h. to x ((l.has x).0 h), λ h. (l.has x).1 (from x h));
}

-- a number that has not P adds nothing
pub list-same_below : (P : ℕ → Type 0) (i : ℕ) (xs : List ℕ) → (P i → ⊥) → IsListOf (λ x. (x < i) × P x) xs → IsListOf (λ x. (x < i + 1) × P x) xs
list-same_below P i xs none l =
    list-same (λ x. (x < i) × P x) (λ x. (x < i + 1) × P x) xs
    (λ x h. (omega (arith, h.0), h.1))
    (λ x h. elim (cases_lt x i) [ inl less ↦ (less, h.1) | inr more ↦ absurd (none (let e : x ≡ i = omega (arith, h.0) in subst P e h.1)) ])
    l

contains-below : (P : ℕ → Type 0) (i : ℕ) (xs : List ℕ) → IsListOf (λ x. (x < i) × P x) xs → (k : ℕ) → k < length xs → get_or xs k 0 < i
contains-below P i xs l k within = ((l.has (get_or xs k 0)).0 (k, within, get_or_default xs k _ 0 within)).0

ascends-more : (xs : List ℕ) (i : ℕ) → Ascends xs → ((k : ℕ) → k < length xs → get_or xs k 0 < i) → Ascends (xs ++ i ∷ [])
ascends-more xs i a below = λ j k lt within.
    let n = length-append xs (i ∷ []) in
    elim (cases_lt k (length xs)) [
      | inl less ↦ (
          let e = get_or_append_left xs (i ∷ []) 0 j (omega (arith, lt, less)) in
          let f = get_or_append_left xs (i ∷ []) 0 k less in
          let g = a j k lt less in omega (arith, e, f, g)
          )
      | inr more ↦ (
          let same : k ≡ length xs = omega (arith, n, within, more) in
          let small : j < length xs = omega (arith, lt, same) in
          let e = get_or_append_left xs (i ∷ []) 0 j small in
          let f : get_or (xs ++ i ∷ []) k 0 ≡ i = subst (λ z. get_or (xs ++ i ∷ []) z 0 ≡ i) (sym same) (get_or-append_seam xs i [] 0) in
          let g = below j small in omega (arith, e, f, g)
          )
    ]

-- a number that has P stands at the end
pub list-more : (P : ℕ → Type 0) (i : ℕ) (xs : List ℕ) → P i → IsListOf (λ x. (x < i) × P x) xs → IsListOf (λ x. (x < i + 1) × P x) (xs ++ i ∷ [])
list-more P i xs here l = record {
  ascends = ascends-more xs i l.ascends (contains-below P i xs l);
  has = λ x. (
    λ h. elim (Contains-push_cases xs i x h) [
      | inl old ↦ (let o = (l.has x).0 old in (omega (arith, o.0), o.1))
      | inr e ↦ (omega (arith, e), subst P e here)
    ],
    λ h. elim (cases_lt x i) [
      | inl less ↦ Contains-append_left xs (i ∷ []) x ((l.has x).1 (less, h.1))
      | inr more ↦ (let e : i ≡ x = omega (arith, h.0, more) in subst (Contains (xs ++ i ∷ [])) e (Contains-push xs i))
    ],
  );
}

-- the lists of as many properties, with the next number put into the one that it has
pub lists-more :
    (P : ℕ → ℕ → Type 0) (i place : ℕ) (lists : List (List ℕ)) → place < length lists → P place i → ((c : ℕ) → P c i → c ≡ place)
    → ((c : ℕ) → c < length lists → IsListOf (λ x. (x < i) × P c x) (list_at lists c))
    → (c : ℕ) → c < length lists → IsListOf (λ x. (x < i + 1) × P c x) (list_at (with_item lists place i) c)
lists-more P i place lists within here only all c h = elim (cases_eq c place) [
  | inl e ↦ subst (λ z. IsListOf (λ x. (x < i + 1) × P z x) (list_at (with_item lists place i) z)) (sym e)
      (subst (IsListOf (λ x. (x < i + 1) × P place x)) (sym (get_or-set_same lists place (list_at lists place ++ i ∷ []) [] within))
      (list-more (P place) i (list_at lists place) here (all place within)))
  | inr ne ↦ subst (IsListOf (λ x. (x < i + 1) × P c x)) (sym (get_or-set_other lists place c (list_at lists place ++ i ∷ []) [] ne))
      (list-same_below (P c) i (list_at lists c) (λ p. ne (only c p)) (all c h))
]

-- the next number has none of the properties
pub lists-same :
    (P : ℕ → ℕ → Type 0) (i : ℕ) (lists : List (List ℕ)) → ((c : ℕ) → P c i → ⊥)
    → ((c : ℕ) → c < length lists → IsListOf (λ x. (x < i) × P c x) (list_at lists c))
    → (c : ℕ) → c < length lists → IsListOf (λ x. (x < i + 1) × P c x) (list_at lists c)
lists-same P i lists none all c h = list-same_below (P c) i (list_at lists c) (none c) (all c h)

pub empty-at : (n c : ℕ) → list_at (replicate n []) c ≡ []
empty-at zero c = refl
empty-at (suc n) zero = refl
empty-at (suc n) (suc c) = empty-at n c

-- lists that others hold: one more item in the one at this place
pub pushed :
    {V : Type 0} (f : V → List ℕ) (held : List V) (place item : ℕ) (old new : V) → place < length held → old ≡ get_or held place old
    → f new ≡ f old ++ item ∷ [] → map f (set held place new) ≡ with_item (map f held) place item
pushed f held place item old new within is more =
    map-set f held place new
    ∙ ap (λ (xs : List ℕ). set (map f held) place xs)
    (more ∙ ap (λ (xs : List ℕ). xs ++ item ∷ []) (ap f is ∙ sym (get_or-map f held place old [] within)))
