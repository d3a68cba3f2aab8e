-- Each kind of step keeps the rule.
use Rattle.std.proofs.Common.{◌≡◌, ◌≢◌, ℕ, zero, suc, ◌+◌, ◌*◌, ◌%◌, ◌^◌, ◌<◌, ◌≤◌, max, List, [], ◌∷◌, length, slice_index, set, sym, refl, ap, subst, ◌∙◌, inl, inr, ⊎_elim, arith, length-set, get_or-set_same, get_or-set_other, mul-le-mul_right, add-mul}
use mathlib.Core.Option.{some, none, some-ne-none}
use mathlib.Core.Logic.{dite}
use native.Mathlib.Decide.{ℕ_discrete}
use lib.ListN.{get_elem?}
use Rattle.atomic_table.specs.Table.{State, step, keeps, stepped, Allows, Splits, Joins}
use Rattle.atomic_table.proofs.Lists.{at_set, at_snoc, set_again, set_here, set_else}
use Rattle.am_shared.specs.declared.rule.View.{View}
use Rattle.am_shared.specs.declared.rule.Scope.{Scope}
use Rattle.am_shared.specs.declared.tally.TheConstants.{MAX_BUDGET, MAX_OFFSET}
use Rattle.am_shared.specs.Views.{share_at, seen_at, rights, zipped, raised, counted, looked, joined_views, spent, after_giving, newcomer}
use Rattle.am_shared.specs.Rule.{total, IsConsistent, Fits, IsBalanced}
use Rattle.am_shared.specs.Steps.{Sat, Finds, did_count, did_raise, did_look, did_check}
use Rattle.am_shared.proofs.Sums.{total-set, total-snoc, part-le, total-le, total-le-times, sole}
use Rattle.am_shared.proofs.ViewLemmas.{Raises, raised-raises, counted-raises, raises-sound, changed-here, changed-else, sums-at, greatest-at}

abbrev St : Type 0
St = State (Unit {0}) View

-- no word is above the whole budget times the greatest offset
pub words-bounded : (scope : Scope) (s : St) → IsBalanced scope s → (i : ℕ) → slice_index s.words i ≤ MAX_BUDGET * MAX_OFFSET
words-bounded scope s h i =
    let shares : total (λ v. share_at v i) s.views ≤ total (λ v. v.made) s.views * MAX_OFFSET =
    total-le-times (λ v. share_at v i) (λ v. v.made) MAX_OFFSET s.views (λ j v at. (h.each j v at).sound.bounded i) in
    let made : total (λ v. v.made) s.views ≤ total rights s.views = total-le (λ v. v.made) rights s.views (λ v. omega arith) in
    let whole = h.whole in
    let small = h.small in
    let most : total (λ v. v.made) s.views ≤ MAX_BUDGET = omega arith in
    let scaled : total (λ v. v.made) s.views * MAX_OFFSET ≤ MAX_BUDGET * MAX_OFFSET = mul-le-mul_right MAX_OFFSET most in
    let is = h.summed i in
    omega arith

-- one view changes, and one word by as much as its share
record Moves (v w : View) (i k : ℕ) : Type 0 where
  rights_same : rights w ≡ rights v
  budget_same : w.budget ≡ v.budget
  here : share_at w i ≡ share_at v i + k
  others : (j : ℕ) → j ≢ i → share_at w j ≡ share_at v j
  sound : IsConsistent w

sums-after : (s : St) (id i k n : ℕ) (v w : View) → ((j : ℕ) → slice_index s.words j ≡ total (λ u. share_at u j) s.views)
    → get_elem? s.views id ≡ some v → i < length s.words → Moves v w i k → n ≡ slice_index s.words i + k
    → (j : ℕ) → slice_index (set s.words i n) j ≡ total (λ u. share_at u j) (set s.views id w)
sums-after s id i k n v w sums at lt m is j =
    let t = total-set (λ u. share_at u j) s.views id v w at in
    let before = sums j in
    dite (ℕ_discrete j i)
    (λ (e : j ≡ i).
    let P : ℕ → Type 0 = λ z. share_at w z ≡ share_at v z + k in
    let here : share_at w j ≡ share_at v j + k = subst P (sym e) m.here in
    let Q : ℕ → Type 0 = λ z. slice_index (set s.words i n) z ≡ n in
    let word : slice_index (set s.words i n) j ≡ n = subst Q (sym e) (get_or-set_same s.words i n 0 lt) in
    let R : ℕ → Type 0 = λ z. n ≡ slice_index s.words z + k in
    let is' : n ≡ slice_index s.words j + k = subst R (sym e) is in
    omega arith)
    (λ (apart : j ≢ i).
    let same = m.others j apart in
    let word : slice_index (set s.words i n) j ≡ slice_index s.words j = get_or-set_other s.words i j n 0 apart in
    omega arith)

words-grow : (words : List ℕ) (i n : ℕ) → i < length words → slice_index words i ≤ n → (j : ℕ) → slice_index words j ≤ slice_index (set words i n) j
words-grow words i n lt le j = dite (ℕ_discrete j i)
    (λ (e : j ≡ i). let P : ℕ → Type 0 = λ z. slice_index words z ≤ slice_index (set words i n) z in
    let same = get_or-set_same words i n 0 lt in subst P (sym e) (omega arith))
    (λ (apart : j ≢ i). let same = get_or-set_other words i j n 0 apart in omega arith)

fits-more : (scope : Scope) (words more : List ℕ) (v : View) → ((j : ℕ) → slice_index words j ≤ slice_index more j) → Fits scope words v → Fits scope more v
fits-more scope words more v grow f = record {
  sound = f.sound;
  seen_there = λ j. let a = f.seen_there j in let b = grow j in omega arith;
  carries = f.carries;
}

-- a step of one pass keeps the rule, if what the pass has seen then is there
moved : (scope : Scope) (s : St) → IsBalanced scope s → (id i k n : ℕ) (v w : View) (c : List (ℕ × Unit {0})) → get_elem? s.views id ≡ some v → i < scope.words
    → v.budget ≡ scope.budget → Moves v w i k → n ≡ slice_index s.words i + k → ((j : ℕ) → seen_at w j ≤ slice_index (set s.words i n) j)
    → IsBalanced scope (stepped s i n id c w keeps)
moved scope s h id i k n v w c at lt budget m is seen =
    let wide = h.wide in
    let lt' : i < length s.words = omega arith in
    let grow = words-grow s.words i n lt' (omega arith) in
    record {
      wide = length-set s.words i n ∙ h.wide;
      small = h.small;
      summed = sums-after s id i k n v w h.summed at lt' m is;
      whole = let t = total-set rights s.views id v w at in let same = m.rights_same in let whole = h.whole in omega arith;
      each = λ j u e. ⊎_elim
          (λ (x : (j ≡ id) × (w ≡ u)). let P : View → Type 0 = λ z. Fits scope (set s.words i n) z in
          subst P x.1 (record { sound = m.sound; seen_there = seen; carries = inl (m.budget_same ∙ budget) }))
          (λ (x : (j ≢ id) × (get_elem? s.views j ≡ some u)). fits-more scope s.words (set s.words i n) u grow (h.each j u x.1))
          (at_set s.views id j w u e);
    }

pub at-below : (views : List View) (i : ℕ) (v : View) → get_elem? views i ≡ some v → i < length views
at-below [] i v at = absurd (some-ne-none v (sym at))
at-below (x ∷ xs) zero v at = omega arith
at-below (x ∷ xs) (suc i) v at = let r = at-below xs i v at in omega arith

-- what a pass that added has seen is there
seen-after : (s : St) (id i k n : ℕ) (v w : View) (scope : Scope) → IsBalanced scope s → get_elem? s.views id ≡ some v → i < scope.words → Raises v w i k → IsConsistent w
    → n ≡ slice_index s.words i + k → (j : ℕ) → seen_at w j ≤ slice_index (set s.words i n) j
seen-after s id i k n v w scope h at lt r sound is j =
    let wide = h.wide in
    let lt' : i < length s.words = omega arith in
    let m : Moves v w i k = record { rights_same = r.rights_same; budget_same = r.budget_same; here = r.here; others = r.others; sound = sound } in
    let sum = sums-after s id i k n v w h.summed at lt' m is j in
    let long : id < length s.views = at-below s.views id v at in
    let mine = part-le (λ u. share_at u j) (set s.views id w) id w (set_here s.views id w long) in
    let grow = words-grow s.words i n lt' (omega arith) j in
    let before = (h.each id v at).seen_there j in
    let now = r.sees j in
    omega arith

-- an add of k to a word keeps the rule and tells what it says
pub adds : (scope : Scope) (slots id i k : ℕ) (me : Sat) (w : View) (then : ℕ → Sat → Type 0) → i < scope.words → me.0.budget ≡ scope.budget
    → Raises me.0 w i k → IsConsistent w → ((n : ℕ) → then n (w, me.1))
    → Allows (IsBalanced scope) slots id me i (λ n. (n + k) % 2 ^ 64) then
adds scope slots id i k me w then lt budget r sound tells s h homes at small =
    let n : ℕ = slice_index s.words i in
    let m : Moves me.0 w i k = record { rights_same = r.rights_same; budget_same = r.budget_same; here = r.here; others = r.others; sound = sound } in
    let after : IsBalanced scope (stepped s i (n + k) id me.1 w keeps) =
    moved scope s h id i k (n + k) me.0 w me.1 at lt budget m refl (seen-after s id i k (n + k) me.0 w scope h at lt r sound refl) in
    let wide = h.wide in
    let lt' : i < length s.words = omega arith in
    let bound : slice_index (set s.words i (n + k)) i ≤ MAX_BUDGET * MAX_OFFSET = words-bounded scope (stepped s i (n + k) id me.1 w keeps) after i in
    let same = get_or-set_same s.words i (n + k) 0 lt' in
    let sum : ℕ = n + k in
    let fits : sum < 18446744073709551616 = omega arith in
    let whole : sum ≡ sum % 18446744073709551616 = omega arith in
    let P : ℕ → Type 0 = λ z. IsBalanced scope (stepped s i z id me.1 w keeps) in
    (w, keeps, tt, subst P whole after, tells n)

pub counted-sound : (v : View) (i : ℕ) → IsConsistent v → 1 ≤ v.left → IsConsistent (counted i v)
counted-sound v i sound some_left =
    let r = counted-raises v i sound some_left in
    let before = sound.bounded i in
    let here = r.here in
    raises-sound v (counted i v) i 1 sound r (omega arith)

pub raised-sound : (v : View) (i k : ℕ) → IsConsistent v → share_at v i + k ≤ v.made * MAX_OFFSET → IsConsistent (raised i k v)
raised-sound v i k sound room =
    let r = raised-raises v i k sound in
    let here = r.here in
    raises-sound v (raised i k v) i k sound r (omega arith)

pub counts : (scope : Scope) (slots id i : ℕ) (me : Sat) → i < scope.words → me.0.budget ≡ scope.budget → IsConsistent me.0 → 1 ≤ me.0.left
    → Allows (IsBalanced scope) slots id me i (λ n. (n + 1) % 2 ^ 64) (did_count (step slots i 1 0 none) me)
counts scope slots id i me lt budget sound some_left =
    adds scope slots id i 1 me (counted i me.0) (did_count (step slots i 1 0 none) me) lt budget (counted-raises me.0 i sound some_left)
    (counted-sound me.0 i sound some_left) (λ n. refl)

pub raises : (scope : Scope) (slots id i k : ℕ) (me : Sat) → i < scope.words → me.0.budget ≡ scope.budget → IsConsistent me.0
    → share_at me.0 i + k ≤ me.0.made * MAX_OFFSET
    → Allows (IsBalanced scope) slots id me i (λ n. (n + k) % 2 ^ 64) (did_raise (step slots i k 0 none) me)
raises scope slots id i k me lt budget sound room =
    adds scope slots id i k me (raised i k me.0) (did_raise (step slots i k 0 none) me) lt budget (raised-raises me.0 i k sound)
    (raised-sound me.0 i k sound room) (λ n. refl)

-- no share is above its word
share-there : (scope : Scope) (s : St) → IsBalanced scope s → (id : ℕ) (v : View) → get_elem? s.views id ≡ some v → (i : ℕ) → share_at v i ≤ slice_index s.words i
share-there scope s h id v at i =
    let part = part-le (λ u. share_at u i) s.views id v at in
    let is = h.summed i in
    omega arith

-- a read is no less than the share and than what was seen, and the share where the pass has the whole budget
finds : (scope : Scope) (s : St) → IsBalanced scope s → (id : ℕ) (v : View) → get_elem? s.views id ≡ some v → v.budget ≡ scope.budget → (i : ℕ) → Finds v i (slice_index s.words i)
finds scope s h id v at budget i = record {
  share = share-there scope s h id v at i;
  seen = (h.each id v at).seen_there i;
  exact = λ all.
      let whole : total rights s.views ≡ rights v = h.whole ∙ sym budget ∙ sym all in
      let one : total (λ u. share_at u i) s.views ≡ share_at v i =
      sole (λ u. share_at u i) rights s.views id v at
      (λ j u at' none. let most = (h.each j u at').sound.bounded i in
      let no_adds : u.made ≡ 0 = omega arith in
      let P : ℕ → Type 0 = λ z. share_at u i ≤ z * MAX_OFFSET in
      let least : share_at u i ≤ 0 = subst P no_adds most in
      omega arith)
      whole in
      h.summed i ∙ one;
}

pub looked-sound : (v : View) (i n : ℕ) → IsConsistent v → share_at v i ≤ n → IsConsistent (looked i n v)
looked-sound v i n sound le = record {
  bounded = sound.bounded;
  own_seen = λ j. dite (ℕ_discrete j i)
      (λ (e : j ≡ i). let P : ℕ → Type 0 = λ z. share_at v z ≤ seen_at (looked i n v) z in
      let now = changed-here (λ _. n) v.seen i in subst P (sym e) (omega arith))
      (λ (apart : j ≢ i). let now = changed-else (λ _. n) v.seen i j apart in let own = sound.own_seen j in omega arith);
  small = sound.small;
}

pub looks : (scope : Scope) (slots id i : ℕ) (me : Sat) → i < scope.words → me.0.budget ≡ scope.budget → IsConsistent me.0
    → Allows (IsBalanced scope) slots id me i (λ n. n) (did_look (step slots i 0 0 none) me)
looks scope slots id i me lt budget sound s h homes at small =
    let n : ℕ = slice_index s.words i in
    let w : View = looked i n me.0 in
    let found : Finds me.0 i n = finds scope s h id me.0 at budget i in
    let sound' : IsConsistent w = looked-sound me.0 i n sound found.share in
    let wide = h.wide in
    let lt' : i < length s.words = omega arith in
    let m : Moves me.0 w i 0 = record { rights_same = refl; budget_same = refl; here = omega arith; others = λ j apart. refl; sound = sound' } in
    let seen : (j : ℕ) → seen_at w j ≤ slice_index (set s.words i n) j =
    λ j. dite (ℕ_discrete j i)
    (λ (e : j ≡ i). let P : ℕ → Type 0 = λ z. seen_at w z ≤ slice_index (set s.words i n) z in
    let now = changed-here (λ _. n) me.0.seen i in let word = get_or-set_same s.words i n 0 lt' in subst P (sym e) (omega arith))
    (λ (apart : j ≢ i). let now = changed-else (λ _. n) me.0.seen i j apart in let word = get_or-set_other s.words i j n 0 apart in
    let before = (h.each id me.0 at).seen_there j in omega arith) in
    (w, keeps, tt, moved scope s h id i 0 n me.0 w me.1 at lt budget m (omega arith) seen, (refl, found))

-- what stands at a place, written there again
set-same : (words : List ℕ) (i : ℕ) → i < length words → set words i (slice_index words i) ≡ words
set-same [] i lt = refl
set-same (x ∷ xs) zero lt = refl
set-same (x ∷ xs) (suc i) lt = ap (λ (l : List ℕ). x ∷ l) (set-same xs i (omega arith))

-- a load that changes nothing tells that a pass has no more than the whole budget
pub checks : (scope : Scope) (slots id i : ℕ) (me : Sat) → i < scope.words
    → Allows (IsBalanced scope) slots id me i (λ n. n) (did_check (step slots i 0 0 none) me)
checks scope slots id i me lt s h homes at small =
    let n : ℕ = slice_index s.words i in
    let wide = h.wide in
    let lt' : i < length s.words = omega arith in
    let words : set s.words i n ≡ s.words = set-same s.words i lt' in
    let views : set s.views id me.0 ≡ s.views = set_again s.views id me.0 at in
    let P : List ℕ → List View → Type 0 = λ ws vs. IsBalanced scope record { words = ws; homes = s.homes; views = vs } in
    let part = part-le rights s.views id me.0 at in
    let whole = h.whole in
    let most = h.small in
    (me.0, keeps, tt, subst (λ ws. P ws (set s.views id me.0)) (sym words) (subst (λ vs. P s.words vs) (sym views) h), (refl, omega arith))

pub given-sound : (v : View) (g : ℕ) → IsConsistent v → g ≤ v.left → IsConsistent (newcomer g v)
given-sound v g sound le = record {
  bounded = λ i. omega arith;
  own_seen = λ i. omega arith;
  small = let small = sound.small in omega arith;
}

pub after-sound : (v : View) (g : ℕ) → IsConsistent v → g ≤ v.left → IsConsistent (after_giving g v)
after-sound v g sound le = record {
  bounded = sound.bounded;
  own_seen = sound.own_seen;
  small = let small = sound.small in omega arith;
}

pub gives : (scope : Scope) (id g : ℕ) (v : View) → v.budget ≡ scope.budget → g ≤ v.left
    → Splits {S = Unit {0}} (IsBalanced scope) id v (after_giving g v) (newcomer g v)
gives scope id g v budget le s h at =
    let left : View = after_giving g v in
    let right : View = newcomer g v in
    let mine = h.each id v at in
    let P : View → Type 0 = λ z. Fits scope s.words z in
    record {
      wide = h.wide;
      small = h.small;
      summed = λ i.
          let t = total-set (λ u. share_at u i) s.views id v left at in
          let more = total-snoc (λ u. share_at u i) (set s.views id left) right in
          let is = h.summed i in
          omega arith;
      whole =
          let t = total-set rights s.views id v left at in
          let more = total-snoc rights (set s.views id left) right in
          let is = h.whole in
          omega arith;
      each = λ j u e. ⊎_elim
          (λ (was : get_elem? (set s.views id left) j ≡ some u). ⊎_elim
          (λ (x : (j ≡ id) × (left ≡ u)).
          subst P x.1 (record { sound = after-sound v g mine.sound le; seen_there = mine.seen_there; carries = inl budget }))
          (λ (x : (j ≢ id) × (get_elem? s.views j ≡ some u)). h.each j u x.1)
          (at_set s.views id j left u was))
          (λ (same : right ≡ u). subst P same (record { sound = given-sound v g mine.sound le; seen_there = mine.seen_there; carries = inl budget }))
          (at_snoc (set s.views id left) right u j e);
    }

pub joins-at : (v w : View) (i : ℕ) → share_at (joined_views v w) i ≡ share_at v i + share_at w i
joins-at v w i = sums-at v.shares w.shares i

pub joins-seen : (v w : View) (i : ℕ) → seen_at (joined_views v w) i ≡ max (max (seen_at v i) (seen_at w i)) (share_at (joined_views v w) i)
joins-seen v w i = greatest-at (zipped max v.seen w.seen) (joined_views v w).shares i ∙ ap (λ n. max n (share_at (joined_views v w) i)) (greatest-at v.seen w.seen i)

pub joined-sound : (v w : View) → IsConsistent v → IsConsistent w → rights (joined_views v w) ≤ MAX_BUDGET → IsConsistent (joined_views v w)
joined-sound v w sv sw small = record {
  bounded = λ i. let both = joins-at v w i in let a = sv.bounded i in let b = sw.bounded i in omega (arith, add-mul v.made w.made MAX_OFFSET);
  own_seen = λ i. let now = joins-seen v w i in omega arith;
  small = small;
}

spent-fits : (scope : Scope) (words : List ℕ) → Fits scope words spent
spent-fits scope words = record {
  sound = record { bounded = λ i. omega arith; own_seen = λ i. omega arith; small = omega arith };
  seen_there = λ i. omega arith;
  carries = inr refl;
}

pub joins : (scope : Scope) (id : ℕ) (v : View) (other : ℕ) (w : View) → v.budget ≡ scope.budget
    → Joins {S = Unit {0}} (IsBalanced scope) id v other w (joined_views v w) spent
joins scope id v other w budget s h at apart at' =
    let both : View = joined_views v w in
    let vs : List View = set s.views id both in
    let mine = h.each id v at in
    let theirs : Fits scope s.words w = h.each other w (sym (set_else s.views id other both apart) ∙ at') in
    let sums : (i : ℕ) → slice_index s.words i ≡ total (λ u. share_at u i) (set vs other spent) =
    λ i.
    let t = total-set (λ u. share_at u i) s.views id v both at in
    let t' = total-set (λ u. share_at u i) vs other w spent at' in
    let is = h.summed i in
    let more = joins-at v w i in
    omega arith in
    let whole : total rights (set vs other spent) ≡ scope.budget =
    let t = total-set rights s.views id v both at in
    let t' = total-set rights vs other w spent at' in
    let is = h.whole in
    omega arith in
    let here : get_elem? (set vs other spent) id ≡ some both =
    set_else vs other id spent (λ e. apart (sym e)) ∙ set_here s.views id both (at-below s.views id v at) in
    let most = h.small in
    let part = part-le rights (set vs other spent) id both here in
    let sound : IsConsistent both = joined-sound v w mine.sound theirs.sound (omega arith) in
    let seen : (i : ℕ) → seen_at both i ≤ slice_index s.words i =
    λ i.
    let now = joins-seen v w i in
    let a = mine.seen_there i in
    let b = theirs.seen_there i in
    let p = part-le (λ u. share_at u i) (set vs other spent) id both here in
    let is = sums i in
    omega arith in
    let P : View → Type 0 = λ z. Fits scope s.words z in
    record {
      wide = h.wide;
      small = h.small;
      summed = sums;
      whole = whole;
      each = λ j u e. ⊎_elim
          (λ (x : (j ≡ other) × (spent ≡ u)). subst P x.1 (spent-fits scope s.words))
          (λ (x : (j ≢ other) × (get_elem? vs j ≡ some u)). ⊎_elim
          (λ (y : (j ≡ id) × (both ≡ u)). subst P y.1 (record { sound = sound; seen_there = seen; carries = inl budget }))
          (λ (y : (j ≢ id) × (get_elem? s.views j ≡ some u)). h.each j u y.1)
          (at_set s.views id j both u x.1))
          (at_set vs other j spent u e);
    }

-- a pass that holds no slot
pub no-slot : (slots : List (ℕ × Unit {0})) → length slots ≡ 0 → slots ≡ []
no-slot [] h = refl
no-slot (x ∷ xs) h = absurd (omega arith)
