use Rattle.std.proofs.Common.{rules}
use Rattle.am_domain.proofs.domain.Domain.shift.Goals as goal

pub returns-clause-value : goal.returns-clause-value
returns-clause-value c =
    let value = c.shift_of.ensures.value c.args.self.now.nodes in
    search (rules, value)
