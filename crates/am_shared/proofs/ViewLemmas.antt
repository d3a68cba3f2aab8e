-- What a step makes of the shares of a view and of what it has seen, place by place.
use Rattle.std.proofs.Common.{◌≡◌, ◌≢◌, ℕ, zero, suc, ◌+◌, ◌*◌, ◌≤◌, max, List, [], ◌∷◌, slice_index, sym, refl, ap, arith, subst, ◌∙◌, le_refl}
use mathlib.Core.Logic.{dite}
use native.Mathlib.Decide.{ℕ_discrete}
use Rattle.am_shared.specs.declared.rule.View.{View}
use Rattle.am_shared.specs.declared.tally.TheConstants.{MAX_OFFSET}
use Rattle.am_shared.specs.Views.{changed, zipped, share_at, seen_at, rights, raised, counted}
use Rattle.am_shared.specs.Rule.{IsConsistent}

pub changed-here : (f : ℕ → ℕ) (xs : List ℕ) (i : ℕ) → slice_index (changed f xs i) i ≡ f (slice_index xs i)
changed-here f [] zero = refl
changed-here f [] (suc i) = changed-here f [] i
changed-here f (x ∷ xs) zero = refl
changed-here f (x ∷ xs) (suc i) = changed-here f xs i

pub changed-else : (f : ℕ → ℕ) (xs : List ℕ) (i j : ℕ) → j ≢ i → slice_index (changed f xs i) j ≡ slice_index xs j
changed-else f [] zero zero apart = absurd (apart refl)
changed-else f [] zero (suc j) apart = refl
changed-else f [] (suc i) zero apart = refl
changed-else f [] (suc i) (suc j) apart = changed-else f [] i j (λ e. apart (ap suc e))
changed-else f (x ∷ xs) zero zero apart = absurd (apart refl)
changed-else f (x ∷ xs) zero (suc j) apart = refl
changed-else f (x ∷ xs) (suc i) zero apart = refl
changed-else f (x ∷ xs) (suc i) (suc j) apart = changed-else f xs i j (λ e. apart (ap suc e))

pub sums-at : (xs ys : List ℕ) (i : ℕ) → slice_index (zipped (λ x y. x + y) xs ys) i ≡ slice_index xs i + slice_index ys i
sums-at [] ys i = omega arith
sums-at (x ∷ xs) [] zero = omega arith
sums-at (x ∷ xs) [] (suc i) = omega arith
sums-at (x ∷ xs) (y ∷ ys) zero = refl
sums-at (x ∷ xs) (y ∷ ys) (suc i) = sums-at xs ys i

pub greatest-at : (xs ys : List ℕ) (i : ℕ) → slice_index (zipped max xs ys) i ≡ max (slice_index xs i) (slice_index ys i)
greatest-at [] ys i = omega arith
greatest-at (x ∷ xs) [] zero = omega arith
greatest-at (x ∷ xs) [] (suc i) = omega arith
greatest-at (x ∷ xs) (y ∷ ys) zero = refl
greatest-at (x ∷ xs) (y ∷ ys) (suc i) = greatest-at xs ys i

-- the pass of the view v added k to the word i, and has the view w then
pub record Raises (v w : View) (i k : ℕ) : Type 0 where
  pub rights_same : rights w ≡ rights v
  pub made_more : v.made ≤ w.made
  pub budget_same : w.budget ≡ v.budget
  pub here : share_at w i ≡ share_at v i + k
  pub others : (j : ℕ) → j ≢ i → share_at w j ≡ share_at v j
  -- what was seen of each word rises to the share
  pub sees : (j : ℕ) → seen_at w j ≡ max (seen_at v j) (share_at w j)

shares-after : (v : View) (i k : ℕ) → share_at (raised i k v) i ≡ share_at v i + k
shares-after v i k = changed-here (λ n. n + k) v.shares i

others-after : (v : View) (i k j : ℕ) → j ≢ i → share_at (raised i k v) j ≡ share_at v j
others-after v i k j apart = changed-else (λ n. n + k) v.shares i j apart

sees-after : (v : View) (i k : ℕ) → IsConsistent v → (j : ℕ) → seen_at (raised i k v) j ≡ max (seen_at v j) (share_at (raised i k v) j)
sees-after v i k sound j = dite (ℕ_discrete j i)
    (λ (e : j ≡ i). let P : ℕ → Type 0 = λ z. seen_at (raised i k v) z ≡ max (seen_at v z) (share_at (raised i k v) z) in
    subst P (sym e) (changed-here (λ n. max n (share_at v i + k)) v.seen i ∙ ap (λ n. max (seen_at v i) n) (sym (shares-after v i k))))
    (λ (apart : j ≢ i). let own = sound.own_seen j in
    let s = changed-else (λ n. max n (share_at v i + k)) v.seen i j apart in
    let o = others-after v i k j apart in omega arith)

pub raised-raises : (v : View) (i k : ℕ) → IsConsistent v → Raises v (raised i k v) i k
raised-raises v i k sound = record {
  rights_same = refl;
  made_more = le_refl v.made;
  budget_same = refl;
  here = shares-after v i k;
  others = others-after v i k;
  sees = sees-after v i k sound;
}

pub counted-raises : (v : View) (i : ℕ) → IsConsistent v → 1 ≤ v.left → Raises v (counted i v) i 1
counted-raises v i sound some_left = record {
  rights_same = omega arith;
  made_more = omega arith;
  budget_same = refl;
  here = shares-after v i 1;
  others = others-after v i 1;
  sees = sees-after v i 1 sound;
}

-- an add keeps a view sound where its share stays within the bound
pub raises-sound : (v w : View) (i k : ℕ) → IsConsistent v → Raises v w i k → share_at w i ≤ w.made * MAX_OFFSET → IsConsistent w
raises-sound v w i k sound raises room = record {
  bounded = λ j. dite (ℕ_discrete j i)
      (λ (e : j ≡ i). let P : ℕ → Type 0 = λ z. share_at w z ≤ w.made * MAX_OFFSET in subst P (sym e) room)
      (λ (apart : j ≢ i). let same = raises.others j apart in let before = sound.bounded j in let more = raises.made_more in omega arith);
  own_seen = λ j. let s = raises.sees j in omega arith;
  small = let same = raises.rights_same in let before = sound.small in omega arith;
}
