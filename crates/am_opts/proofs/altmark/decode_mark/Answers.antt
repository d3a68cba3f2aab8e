-- The word's bytes are the data of one mark: the one that is answered.
use Rattle.std.proofs.Common.{rules, refl, ap, Some}
use Rattle.am_opts.specs.Marking.{Marking}
use Rattle.am_opts.proofs.Spelling.{spells-one, spells-six}
use Rattle.am_opts.proofs.altmark.decode_mark.Goals as goal

pub returns-clause-found : goal.returns-clause-found
returns-clause-found c n mark fits spells =
    ap (λ (m : Marking). Some (m, 6))
    (spells-one c.args.bytes.now n _ _ mark c.from_be_bytes-word.ensures c.mark_in.ensures.from c.mark_in.ensures.until spells)

pub returns-clause-only : goal.returns-clause-only
returns-clause-only c = (
  refl,
  spells-six c.args.bytes.now _ _ (search rules) (search rules) (search rules) c.from_be_bytes-word.ensures
      c.mark_in.ensures.from c.mark_in.ensures.until c.mark_in.ensures.fits,
)
