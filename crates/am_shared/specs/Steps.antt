-- What one step does to the view of its pass, and what it tells.
use Rattle.std.specs.Prelude.{◌≡◌, ℕ, ◌≤◌}
use Rattle.atomic_table.specs.Table.{Me, Step}
use Rattle.am_shared.specs.declared.tally.TheConstants.{MAX_BUDGET}
use Rattle.am_shared.specs.declared.rule.View.{View}
use Rattle.am_shared.specs.Views.{share_at, seen_at, rights, counted, raised, looked}

-- what a seat is in a table without slots
abbrev pub Sat : Type 0
Sat = Me (Unit {0}) View

-- the first step of an add: 1 to a Count word
abbrev pub did_count : Step (Unit {0}) → Sat → ℕ → Sat → Type 0
did_count s before found after = after ≡ (counted s.word before.0, before.1)

-- the further steps of an add
abbrev pub did_raise : Step (Unit {0}) → Sat → ℕ → Sat → Type 0
did_raise s before found after = after ≡ (raised s.word s.first before.0, before.1)

-- what a read finds: no less than the share and than what was seen, and the share where the pass has the whole budget
pub record Finds (v : View) (i found : ℕ) : Type 0 where
  pub share : share_at v i ≤ found
  pub seen : seen_at v i ≤ found
  pub exact : rights v ≡ v.budget → found ≡ share_at v i

-- a read
abbrev pub did_look : Step (Unit {0}) → Sat → ℕ → Sat → Type 0
did_look s before found after =
    (after ≡ (looked s.word found before.0, before.1)) × Finds before.0 s.word found

-- a load that leaves the view: what the pass may add and has added is within the whole budget
abbrev pub did_check : Step (Unit {0}) → Sat → ℕ → Sat → Type 0
did_check s before found after = (after ≡ before) × (rights before.0 ≤ MAX_BUDGET)
