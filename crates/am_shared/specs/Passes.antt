-- What a tally and a pass are to those who call them.
use Rattle.std.specs.Prelude.{◌≡◌, ℕ, List, Bool}
use Rattle.am_shared.specs.declared.tally.Tally.{Tally}
use Rattle.am_shared.specs.declared.pass.Pass.{Pass}
use Rattle.am_shared.specs.declared.word.Word.{Word}
use Rattle.am_shared.specs.declared.rule.View.{View}
use Rattle.am_shared.specs.Places.{word_number}
use Rattle.am_shared.specs.Views.{share_at, seen_at}

-- how many slots a tally has
abbrev pub slots_of : Tally → ℕ
slots_of t = t.slots

-- how many adds all passes of a tally may make together
abbrev pub budget_of : Tally → ℕ
budget_of t = t.table.shared.key.budget

-- what a pass knows
abbrev pub view_of : Pass → View
view_of p = p.seat.me.0

-- how many adds a pass may still make
abbrev pub left_of : Pass → ℕ
left_of p = p.left

-- how many adds were made through a pass, and through those joined into it
abbrev pub made_of : Pass → ℕ
made_of p = p.made

-- the pass is of this tally
pub record IsOf (t : Tally) (p : Pass) : Type 0 where
  pub seated : p.seat.table_id ≡ t.table.shared.table_id
  pub carries : (view_of p).budget ≡ budget_of t

-- the shares of a pass and what it has seen, by the words' numbers
abbrev pub pass_shares : Pass → List ℕ
pass_shares p = (view_of p).shares

abbrev pub pass_seens : Pass → List ℕ
pass_seens p = (view_of p).seen

-- what was added to a word through a pass, and through those joined into it
abbrev pub pass_share : Pass → ℕ → Bool → Word → ℕ
pass_share p slot colour word = share_at (view_of p) (word_number slot colour word)

-- what a pass has seen of a word
abbrev pub pass_seen : Pass → ℕ → Bool → Word → ℕ
pass_seen p slot colour word = seen_at (view_of p) (word_number slot colour word)
