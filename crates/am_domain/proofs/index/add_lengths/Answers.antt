-- What is added is there, and what was there stays.
use Rattle.std.proofs.Common.{sym, subst, ◌∷◌, [], get_or, Contains}
use Rattle.std.proofs.lemmas.List.Elements.{Contains-push, Contains-append_left}
use Rattle.am_domain.proofs.IndexLemmas.{lengths-true}
use Rattle.am_domain.proofs.index.add_lengths.Goals as goal

pub returns-then-contains-clause-added : goal.returns-then-contains-clause-added
returns-then-contains-clause-added c =
    let at = c.if-contains.ensures.cases in
    subst (λ xs. Contains xs c.args.more) c.as_slice.ensures.value
    (at.0, at.1, lengths-true (get_or c.as_slice.result.now at.0 c.args.more) c.args.more (at.2 c.args.more))

pub returns-clause-added : goal.returns-clause-added
returns-clause-added c = subst (λ xs. Contains xs c.args.more) (sym c.in_ok-push.ensures.items) (Contains-push c.args.all.now.items c.args.more)

pub returns-clause-kept : goal.returns-clause-kept
returns-clause-kept c = λ x there.
    subst (λ xs. Contains xs x) (sym c.in_ok-push.ensures.items) (Contains-append_left c.args.all.now.items (c.args.more ∷ []) x there)
