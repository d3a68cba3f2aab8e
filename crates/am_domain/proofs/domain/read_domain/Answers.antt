use Rattle.am_domain.proofs.ReadAlone.{domain_answered, refusal_answered}
use Rattle.am_domain.proofs.domain.read_domain.Goals as goal

pub returns-clause-found : goal.returns-clause-found
returns-clause-found c =
    let law = c.domain_law.ensures in
    domain_answered law.domain law.refusal law.either c.args.bytes.now c.said_by.result c.said_by.ensures.ok c.said_by.ensures.err

pub returns-clause-refused : goal.returns-clause-refused
returns-clause-refused c =
    let law = c.domain_law.ensures in
    refusal_answered law.domain law.refusal law.either c.args.bytes.now c.said_by.result c.said_by.ensures.ok c.said_by.ensures.err
