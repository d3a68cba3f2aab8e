-- Where a place is there it stays, and elsewhere it is added.
use Rattle.std.proofs.Common.{sym, ap, ◌∙◌}
use Rattle.std.specs.HashMap.{get}
use Rattle.std.specs.Option.{is_some}
use Rattle.am_domain.specs.Index.{same_ends}
use Rattle.am_domain.proofs.IndexLemmas.{kept-added, new-added, copied_some}
use Rattle.am_domain.proofs.index.add_first.Goals as goal

pub returns-then-is_some : goal.returns-then-is_some
returns-then-is_some c = λ other.
    kept-added (get same_ends c.args.firsts.now) c.args.ends other c.args.at
    (sym (ap is_some c.get.ensures.value) ∙ copied_some c.get.result ∙ sym c.is_some.ensures ∙ c.if-is_some.true)

pub returns : goal.returns
returns c = λ other.
    new-added (get same_ends c.args.firsts.now) (get same_ends c.insert.new.self) c.args.ends other c.args.at
    (sym (ap is_some c.get.ensures.value) ∙ copied_some c.get.result ∙ sym c.is_some.ensures ∙ c.if-is_some.false)
    c.in_ok-insert.ensures.updates.0
