-- Where no front of an option spells a mark, the option spells none.
use Rattle.am_opts.specs.Lent.{placed}
use Rattle.am_ip6.proofs.MarkLemmas.{spells_none, if_none}
use Rattle.am_ip6.proofs.options.first_of.Goals as goal

pub returns-in_default-clause-none : goal.returns-in_default-clause-none
returns-in_default-clause-none c =
    if_none c.args.found _ (spells_none (placed c.args.option) (λ n m within s. absurd (cc (c.in_default.ensures.found n m within s))))
