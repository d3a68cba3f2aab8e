use Rattle.std.proofs.Common.{rules}
use Rattle.std.proofs.lemmas.List.{drop_all}
use Rattle.am_tail.proofs.tail.Tail.clear.Goals as goal

pub returns : goal.returns
returns c = drop_all 320 c.self.inside.bytes (search rules)
