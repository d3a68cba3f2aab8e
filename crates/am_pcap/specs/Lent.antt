-- What a decoder ends as, once the record that it lent has ended.
use Rattle.std.specs.Prelude.{◌≡◌, ⊤}
use Rattle.std.specs.Borrow.{Fml, MutBor, follows_so}
use mathlib.Core.Option.{none}
use Rattle.am_pcap.specs.Decoded.{Decoded}
use Rattle.am_pcap.specs.contracts.decoder.Decoder.{the_row}

-- it has this
abbrev pub Leaves : MutBor Decoded → Decoded → Fml
Leaves d after = follows_so the_row the_row d.ghost_name none (λ _ _. ⊤) (λ n. n ≡ after)
