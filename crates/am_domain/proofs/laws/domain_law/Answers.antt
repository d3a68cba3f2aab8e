use Rattle.am_domain.proofs.ReadAlone.{one_domain, one_refusal, said_lawful, either}
use Rattle.am_domain.proofs.laws.domain_law.Goals as goal

pub returns-clause-domain : goal.returns-clause-domain
returns-clause-domain c = one_domain c.prefix_text_law.ensures.prefix

pub returns-clause-refusal : goal.returns-clause-refusal
returns-clause-refusal c = one_refusal c.prefix_text_law.ensures.prefix

pub returns-clause-lawful : goal.returns-clause-lawful
returns-clause-lawful c = said_lawful c.prefix_text_law.ensures.prefix

pub returns-clause-either : goal.returns-clause-either
returns-clause-either c = either c.prefix_text_law.ensures.prefix
