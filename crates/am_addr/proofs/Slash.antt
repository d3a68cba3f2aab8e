-- No text of an address has a `/`, so a prefix's text has one alone.
use Rattle.std.proofs.Common.{arith, sym, subst, inl, inr, ◌≡◌, ℕ, zero, suc, ◌+◌, ◌*◌, ◌<◌, List, [], ◌∷◌, ◌++◌, length, get_or}
use Rattle.am_addr.specs.Text.{IsDigit, IsList, IsTextOf, IsAddressText}
use Rattle.am_addr.specs.Walk.{GoesOn}
use Rattle.am_addr.proofs.Walk.{list_goes}

Lacks : List ℕ → Type 0
Lacks [] = Unit {0}
Lacks (c ∷ cs) = (c ≡ 47 → ⊥) × Lacks cs

lacks_append : (xs ys : List ℕ) → Lacks xs → Lacks ys → Lacks (xs ++ ys)
unfolding Lacks
lacks_append [] ys h k = k
lacks_append (x ∷ xs) ys h k = (h.0, lacks_append xs ys h.1 k)

lacks_at : (xs : List ℕ) → Lacks xs → (i : ℕ) → i < length xs → get_or xs i 0 ≡ 47 → ⊥
unfolding Lacks
lacks_at [] h i l e = omega arith
lacks_at (x ∷ xs) h zero l e = h.0 e
lacks_at (x ∷ xs) h (suc i) l e = lacks_at xs h.1 i (omega arith) e

digit_no_slash : (c d : ℕ) → IsDigit c d → c ≡ 47 → ⊥
digit_no_slash c d (inl p) e = omega (arith, p.0, p.1)
digit_no_slash c d (inr p) e = elim p.2 [ inl a ↦ omega (arith, p.0, p.1, a) | inr a ↦ omega (arith, p.0, p.1, a) ]

goes_lacks : (text values : List ℕ) (n v : ℕ) → GoesOn n v text values → Lacks text
unfolding GoesOn Lacks
goes_lacks [] values n v h = tt
goes_lacks (c ∷ cs) values n v (inl p) = (λ e. omega (arith, p.0), goes_lacks cs p.2.0 0 0 p.2.2)
goes_lacks (c ∷ cs) values n v (inr q) = (digit_no_slash c q.0 q.1, goes_lacks cs values (n + 1) (v * 16 + q.0) q.3)

list_lacks : (text values : List ℕ) → IsList values text → Lacks text
unfolding Lacks
list_lacks [] values l = tt
list_lacks (c ∷ cs) values l = goes_lacks (c ∷ cs) values 0 0 (list_goes values (c ∷ cs) l (omega arith))

stands_lacks : (text values : List ℕ) → IsAddressText text values → Lacks text
unfolding Lacks
stands_lacks text values (inl f) = list_lacks text values f.list
stands_lacks text values (inr s) =
    let colon : 58 ≡ 47 → ⊥ = λ e. omega (arith, e) in
    let tail : Lacks (58 ∷ 58 ∷ s.back) = (colon, (colon, list_lacks s.back s.short.behind s.short.list_behind)) in
    subst (λ (t : List ℕ). Lacks t) (sym s.split)
    (lacks_append s.front (58 ∷ 58 ∷ s.back) (list_lacks s.front s.short.before s.short.list_before) tail)

pub no_slash : (text bytes : List ℕ) → IsTextOf text bytes → (i : ℕ) → i < length text → get_or text i 0 ≡ 47 → ⊥
no_slash text bytes h = lacks_at text (stands_lacks text h.values h.stands)
