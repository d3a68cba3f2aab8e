-- Eight bytes come in at the spot, which begin with what it announces.
use Rattle.am_insert.proofs.Planned.{puts-header}
use Rattle.am_insert.proofs.insert.put_header.Goals as goal

pub returns-clause-puts : goal.returns-clause-puts
returns-clause-puts c = λ hs has.
    puts-header c.args.bytes.now c.args.place c.args.spot _ _ _ _ hs (c.requires.spot.spot hs has) c.requires.payload
    c.number_of.ensures c.eight.ensures
