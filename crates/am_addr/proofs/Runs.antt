-- Runs of zeros, and how values are printed around the longest.
use Rattle.std.proofs.Common.{arith, refl, ap, sym, subst, ◌∙◌, inl, inr, ◌≡◌, ℕ, zero, suc, ◌+◌, ◌<◌, ◌≤◌, ◌⊎◌, List, [], ◌∷◌, ◌++◌, length, take, drop, get_or, replicate, append_assoc, length-append}
use Rattle.std.proofs.lemmas.List.{take-append-drop, drop-drop, length-take-le, length-replicate}
use Rattle.std.proofs.lemmas.Grind.{take_at_read}
use Rattle.std.proofs.Math.Seq.{drop-append_seam}
use Rattle.am_addr.specs.Print.{IsRun, IsBestBelow, IsCompressed, IsUncompressed, list_of, group_of}

split_lt : (a b : ℕ) → a < b + 1 → (a < b) ⊎ (a ≡ b)
split_lt zero zero h = inr refl
split_lt zero (suc b) h = inl (omega arith)
split_lt (suc a) zero h = absurd (omega arith)
split_lt (suc a) (suc b) h = elim (split_lt a b (omega arith)) [ inl l ↦ inl (omega arith) | inr e ↦ inr (omega arith) ]

-- how many zeros are at a place, where no more follow
abbrev pub AreMost : List ℕ → ℕ → Type 0
AreMost rest many = (n : ℕ) (back : List ℕ) → rest ≡ replicate n 0 ++ back → n ≤ many

at_place :
    (values front back : List ℕ) (place n many : ℕ) → AreMost (drop place values) many → IsRun values front n back → length front ≡ place
    → n ≤ many
at_place values front back place n many most run e =
    most n back (
    ap (λ m. drop m values) (sym e)
    ∙ ap (λ (l : List ℕ). drop (length front) l) (run.parts ∙ append_assoc front (replicate n 0) back)
    ∙ drop-append_seam front (replicate n 0 ++ back)
    )

pub kept_best :
    (values : List ℕ) (place at count many : ℕ) → IsBestBelow values place at count → AreMost (drop place values) many
    → many ≤ count → at ≤ place → IsBestBelow values (place + 1) at count
kept_best values place at count many best most le early front n back run lt =
    elim (split_lt (length front) place lt) [
      | inl l ↦ best front n back run l
      | inr e ↦
          let few = at_place values front back place n many most run e in
          elim (split_lt n count (omega arith)) [ inl l ↦ inl l | inr s ↦ inr (s, omega arith) ]
    ]

pub new_best :
    (values : List ℕ) (place at count many : ℕ) → IsBestBelow values place at count → AreMost (drop place values) many
    → count < many → IsBestBelow values (place + 1) place many
new_best values place at count many best most more front n back run lt =
    elim (split_lt (length front) place lt) [
      | inl l ↦ elim (best front n back run l) [ inl k ↦ inl (omega arith) | inr s ↦ inl (omega (arith, s.0)) ]
      | inr e ↦
          let few = at_place values front back place n many most run e in
          elim (split_lt n many (omega arith)) [ inl l ↦ inl l | inr s ↦ inr (s, omega arith) ]
    ]

list_push : (xs : List ℕ) (v : ℕ) → 0 < length xs → list_of (xs ++ v ∷ []) ≡ list_of xs ++ 58 ∷ group_of v
list_push [] v h = absurd (omega arith)
list_push (a ∷ []) v h = refl
list_push (a ∷ b ∷ xs) v h =
    ap (λ (l : List ℕ). group_of a ++ 58 ∷ l) (list_push (b ∷ xs) v (omega arith))
    ∙ sym (append_assoc (group_of a) (58 ∷ list_of (b ∷ xs)) (58 ∷ group_of v))

pub more_first :
    (text old new xs : List ℕ) (i : ℕ) → i ≡ 0 → i < length xs → old ≡ text ++ list_of (take i xs) → new ≡ old ++ group_of (get_or xs i 0)
    → new ≡ text ++ list_of (take (i + 1) xs)
more_first text old new xs i z h e f =
    let before : list_of (take i xs) ≡ [] = ap (λ m. list_of (take m xs)) z in
    let now : take (i + 1) xs ≡ take i xs ++ get_or xs i 0 ∷ [] = (take_at_read xs i 0 h).1 in
    let none : take i xs ≡ [] = ap (λ m. take m xs) z in
    f ∙ ap (λ (l : List ℕ). l ++ group_of (get_or xs i 0)) e
    ∙ append_assoc text (list_of (take i xs)) (group_of (get_or xs i 0))
    ∙ ap (λ (l : List ℕ). text ++ (l ++ group_of (get_or xs i 0))) before
    ∙ ap (λ (l : List ℕ). text ++ list_of (l ++ get_or xs i 0 ∷ [])) (sym none)
    ∙ ap (λ (l : List ℕ). text ++ list_of l) (sym now)

pub more_later :
    (text old mid new xs : List ℕ) (i : ℕ) → 0 < i → i < length xs → old ≡ text ++ list_of (take i xs) → mid ≡ old ++ 58 ∷ []
    → new ≡ mid ++ group_of (get_or xs i 0)
    → new ≡ text ++ list_of (take (i + 1) xs)
more_later text old mid new xs i z h e m f =
    let now : take (i + 1) xs ≡ take i xs ++ get_or xs i 0 ∷ [] = (take_at_read xs i 0 h).1 in
    let some : 0 < length (take i xs) = omega (arith, length-take-le i xs (omega arith)) in
    f ∙ ap (λ (l : List ℕ). l ++ group_of (get_or xs i 0)) (m ∙ ap (λ (l : List ℕ). l ++ 58 ∷ []) e)
    ∙ append_assoc (text ++ list_of (take i xs)) (58 ∷ []) (group_of (get_or xs i 0))
    ∙ append_assoc text (list_of (take i xs)) (58 ∷ group_of (get_or xs i 0))
    ∙ ap (λ (l : List ℕ). text ++ l) (sym (list_push (take i xs) (get_or xs i 0) some))
    ∙ ap (λ (l : List ℕ). text ++ list_of l) (sym now)

pub cut_parts :
    (xs : List ℕ) (at n : ℕ) → take n (drop at xs) ≡ replicate n 0 → xs ≡ take at xs ++ replicate n 0 ++ drop (at + n) xs
cut_parts xs at n z =
    sym (take-append-drop at xs)
    ∙ ap (λ (l : List ℕ). take at xs ++ l) (sym (take-append-drop n (drop at xs)))
    ∙ ap (λ (l : List ℕ). take at xs ++ (l ++ drop n (drop at xs))) z
    ∙ ap (λ (l : List ℕ). take at xs ++ (replicate n 0 ++ l)) (drop-drop n at xs)
    ∙ sym (append_assoc (take at xs) (replicate n 0) (drop (at + n) xs))

run_within : (values front back : List ℕ) (n : ℕ) → IsRun values front n back → length front < length values
run_within values front back n run =
    omega (arith, run.some, ap length run.parts, length-append (front ++ replicate n 0) back, length-append front (replicate n 0), length-replicate {A = ℕ} n 0)

pub is_cut :
    (text values : List ℕ) (at n : ℕ) → at + n ≤ length values → take n (drop at values) ≡ replicate n 0
    → IsBestBelow values (length values) at n → 2 ≤ n → text ≡ list_of (take at values) ++ 58 ∷ 58 ∷ list_of (drop n (drop at values))
    → IsCompressed text values
is_cut text values at n within many best two e = record {
  before = take at values;
  count = n;
  longest = record {
    behind = drop (at + n) values;
    run = record { some = omega arith; parts = cut_parts values at n many };
    best = λ front m back run.
        let size : length (take at values) ≡ at = length-take-le at values (omega arith) in
        subst (λ s. (m < n) ⊎ ((m ≡ n) × (s ≤ length front))) (sym size) (best front m back run (run_within values front back m run));
  };
  two = two;
  spelled = e ∙ ap (λ (l : List ℕ). list_of (take at values) ++ 58 ∷ 58 ∷ list_of l) (drop-drop n at values);
}

pub is_uncut :
    (text values : List ℕ) (at n : ℕ) → IsBestBelow values (length values) at n → n < 2 → text ≡ list_of values → IsUncompressed text values
is_uncut text values at n best few e = record {
  short = λ front m back run. elim (best front m back run (run_within values front back m run)) [ inl l ↦ omega arith | inr s ↦ omega (arith, s.0) ];
  spelled = e;
}

-- what was written one after another
pub spell :
    (s0 s1 s2 s3 x y front back : List ℕ) → s0 ≡ [] → s1 ≡ s0 ++ list_of x → s2 ≡ s1 ++ 58 ∷ 58 ∷ [] → s3 ≡ s2 ++ list_of y
    → x ≡ front → y ≡ back → s3 ≡ list_of front ++ 58 ∷ 58 ∷ list_of back
spell s0 s1 s2 s3 x y front back a b c d e f =
    d ∙ ap (λ (l : List ℕ). l ++ list_of y) (c ∙ ap (λ (l : List ℕ). l ++ 58 ∷ 58 ∷ []) (b ∙ ap (λ (l : List ℕ). l ++ list_of x) a))
    ∙ append_assoc (list_of x) (58 ∷ 58 ∷ []) (list_of y)
    ∙ ap (λ (l : List ℕ). list_of l ++ 58 ∷ 58 ∷ list_of y) e
    ∙ ap (λ (l : List ℕ). list_of front ++ 58 ∷ 58 ∷ list_of l) f
