-- The options that were lent are the longest front; those so far and the next one end within the area.
use Rattle.std.proofs.Common.{arith, ap, sym, ◌∙◌, List, length, map, ◌++◌}
use Rattle.std.proofs.lemmas.List.{length-map}
use Rattle.am_opts.specs.Options.{Placed, joined}
use Rattle.am_opts.specs.Lent.{placed, left}
use Rattle.am_opts.proofs.Longest.{yields_rest, yields_all, room, all_of, none_of}
use Rattle.am_opts.proofs.options.check_options.Goals as goal

pub overflow_add-end : goal.overflow_add-end
overflow_add-end c =
    let so_far = yields_rest placed left _ c.loop-option.yielded _ c.loop-option.yielded_by in
    let all = ap left (sym c.into_iter-option-iterator.ensures.into_iter_gives) ∙ so_far
    ∙ ap (λ (rest : List Placed). map placed c.loop-option.yielded ++ rest) c.in-Some.ensures.steps in
    let fits = room c.args.area.now _ (map placed c.loop-option.yielded) (placed c.in-Some.option) _ c.over-option-items.ensures.longest all in
    omega (arith, fits, c.loop-option.invariant.3, c.requires)

pub returns-then-end-area-clause-refused : goal.returns-then-end-area-clause-refused
returns-then-end-area-clause-refused c is =
    let all = ap left (sym c.into_iter-option-iterator.ensures.into_iter_gives)
    ∙ yields_all placed left _ c.loop-option.yielded _ c.loop-option.yielded_by c.in-None.ensures.steps.0 in
    let size = ap (λ (os : List Placed). length (joined os)) all in
    none_of c.args.area.now _ c.over-option-items.ensures.longest
    (λ e. omega (arith, e, size, c.loop-option.invariant.3)) is.0 is.1

pub returns-then-end-area-clause-whole : goal.returns-then-end-area-clause-whole
returns-then-end-area-clause-whole c is = absurd (returns-then-end-area-clause-refused c is)

pub returns-clause-count : goal.returns-clause-count
returns-clause-count c =
    let all = ap left (sym c.into_iter-option-iterator.ensures.into_iter_gives)
    ∙ yields_all placed left _ c.loop-option.yielded _ c.loop-option.yielded_by c.in-None.ensures.steps.0 in
    let size = ap (λ (os : List Placed). length (joined os)) all in
    let whole = all_of c.args.area.now _ c.over-option-items.ensures.longest (omega (arith, size, c.loop-option.invariant.3)) in
    record {
      options = left c.over-option-items.result;
      list = whole;
      count = c.loop-option.invariant.2 ∙ sym (length-map c.loop-option.yielded placed) ∙ sym (ap length all);
    }
