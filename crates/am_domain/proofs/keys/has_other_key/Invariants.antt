use Rattle.std.proofs.Common.{◌≡◌}
use Rattle.toml.specs.View.{table_view}
use Rattle.am_domain.specs.Keys.{spellings, has_other}
use Rattle.am_domain.proofs.TextLemmas.{some_other}
use Rattle.am_domain.proofs.keys.has_other_key.Given as goal

-- the keys so far may stand there
abbrev pub invariant-loop-key : goal.invariant-loop-key
invariant-loop-key l = has_other (spellings l.part) (table_view l.table) ≡ some_other (spellings l.part) l.key-iterator
