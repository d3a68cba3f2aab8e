-- A search by number ends at the number, or nowhere.
use Rattle.std.proofs.Common.{rules}
use Rattle.std.proofs.lemmas.List.Sorted.{answers_always}
use Rattle.am_domain.proofs.NumberLemmas.{found-at, none-at}
use Rattle.am_domain.proofs.numbers.place_of.Goals as goal

pub returns-in-Ok-clause-found : goal.returns-in-Ok-clause-found
returns-in-Ok-clause-found c =
    found-at c.args.numbers.now c.args.id c.in-Ok.k _ c.in-Ok.ensures.bound
    (c.in-Ok.ensures.position (λ n. n.id) (answers_always _ _ _ (λ f a r g called. search rules)))

pub returns-in-Err-clause-none : goal.returns-in-Err-clause-none
returns-in-Err-clause-none c =
    none-at c.args.numbers.now c.args.id c.in-Err.field-0 c.requires
    (c.in-Err.ensures.position (λ n. n.id) (answers_always _ _ _ (λ f a r g called. search rules)))
