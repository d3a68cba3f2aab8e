-- What holds of the words and of all views, whatever was done and in whichever thread. No step breaks it.
use Rattle.std.specs.Prelude.{◌≡◌, ℕ, ◌+◌, ◌*◌, ◌≤◌, ◌⊎◌, List, [], ◌∷◌, length, slice_index}
use mathlib.Core.Option.{some}
use lib.ListN.{get_elem?}
use Rattle.atomic_table.specs.Table.{State}
use Rattle.am_shared.specs.declared.tally.TheConstants.{MAX_BUDGET, MAX_OFFSET}
use Rattle.am_shared.specs.declared.rule.View.{View}
use Rattle.am_shared.specs.declared.rule.Scope.{Scope}
use Rattle.am_shared.specs.Views.{share_at, seen_at, rights, spent}

-- a number of each view, added up
abbrev pub total : (View → ℕ) → List View → ℕ
total f [] = 0
total f (v ∷ vs) = f v + total f vs

-- what a view has of itself
pub record IsConsistent (v : View) : Type 0 where
  -- each of its adds gave a word at most the greatest offset
  pub bounded : (i : ℕ) → share_at v i ≤ v.made * MAX_OFFSET
  -- it has seen what it added
  pub own_seen : (i : ℕ) → share_at v i ≤ seen_at v i
  pub small : rights v ≤ MAX_BUDGET

-- a view beside the words
pub record Fits (scope : Scope) (words : List ℕ) (v : View) : Type 0 where
  pub sound : IsConsistent v
  -- no word is less than what was seen of it
  pub seen_there : (i : ℕ) → seen_at v i ≤ slice_index words i
  -- it carries the whole budget, or it is spent
  pub carries : (v.budget ≡ scope.budget) ⊎ (v ≡ spent)

-- the words and all views
pub record IsBalanced (scope : Scope) (s : State (Unit {0}) View) : Type 0 where
  pub wide : length s.words ≡ scope.words
  pub small : scope.budget ≤ MAX_BUDGET
  -- each word is the sum of all shares of it
  pub summed : (i : ℕ) → slice_index s.words i ≡ total (λ v. share_at v i) s.views
  -- what is left and what was made are the whole budget
  pub whole : total rights s.views ≡ scope.budget
  pub each : (j : ℕ) (v : View) → get_elem? s.views j ≡ some v → Fits scope s.words v
