-- What held bytes end as, once the record that was lent of them has ended.
use Rattle.std.specs.Prelude.{◌≡◌, ⊤, ℕ, List}
use Rattle.std.specs.Borrow.{Fml, MutBor, follows_so}
use mathlib.Core.Option.{none}
use Rattle.am_pcap.specs.contracts.held.Held.{the_row}

-- they are these
abbrev pub LeavesBytes : MutBor (List ℕ) → List ℕ → Fml
LeavesBytes h after = follows_so the_row the_row h.ghost_name none (λ _ _. ⊤) (λ n. n ≡ after)
