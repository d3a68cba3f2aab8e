-- The word is the mark's data with reserved bits zero.
use Rattle.std.proofs.Common.{◌<◌, ◌^◌, ◌∙◌, ap, subst}
use Rattle.am_opts.specs.Marking.{Marking, data_of}
use Rattle.am_opts.proofs.Spelling.{data-written, canonical-written, canonical-alone}
use Rattle.am_opts.proofs.altmark.encode_mark.Goals as goal

pub returns-clause-canonical : goal.returns-clause-canonical
returns-clause-canonical c =
    let word = data-written c.mark.inside.flow c.mark.inside.loss c.mark.inside.delay _ _ c.from.ensures c.from-2.ensures in
    canonical-written c.to_be_bytes.result _ c.args.mark c.to_be_bytes.ensures
    (word ∙ ap (λ (m : Marking). data_of m 0) c.mark.view_is)
    (subst (λ (m : Marking). m.flow < 2 ^ 20) c.mark.view_is c.mark.invariant)

pub returns-clause-read_back : goal.returns-clause-read_back
returns-clause-read_back c more n other fits = canonical-alone _ more c.args.mark (returns-clause-canonical c) n other fits
