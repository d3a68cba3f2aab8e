use Rattle.am_addr.proofs.TextAlone.{address-alone, prefix-alone}
use Rattle.am_addr.proofs.laws.prefix_text_law.Goals as goal

pub returns-clause-address : goal.returns-clause-address
returns-clause-address c = address-alone

pub returns-clause-prefix : goal.returns-clause-prefix
returns-clause-prefix c = prefix-alone
