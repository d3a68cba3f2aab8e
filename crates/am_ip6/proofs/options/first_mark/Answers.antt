-- The options that are lent are the longest front: those so far, and then the one in hand.
use Rattle.std.proofs.Common.{arith, sym, ap, subst, ◌∙◌, List, map, [], ◌∷◌, ◌++◌, length, length-append}
use Rattle.std.proofs.lemmas.Grind.{flat_map-append}
use Rattle.std.proofs.lemmas.List.{map-append, append-nil}
use Rattle.am_opts.specs.Options.{Placed, IsLongest, joined}
use Rattle.am_opts.specs.Lent.{placed, left}
use Rattle.am_ip6.proofs.Yields.{yields-rest, yields-all}
use Rattle.am_ip6.proofs.MarkLemmas.{FoundIn, stands_in, found-more, found-all, found-within, whole_list, listed}
use Rattle.am_ip6.proofs.options.first_mark.Goals as goal

-- the option in hand stands behind those that were lent
pub first_of-found-requires : goal.first_of-found-requires
first_of-found-requires c =
    let all = ap left (sym c.into_iter-option-iterator.ensures.into_iter_gives)
    ∙ yields-rest placed left _ c.loop-option.yielded _ c.loop-option.yielded_by
    ∙ ap (λ (rest : List Placed). map placed c.loop-option.yielded ++ rest) c.in-Some.ensures.steps in
    (stands_in c.args.area.now _ (map placed c.loop-option.yielded) (placed c.in-Some.option) _ c.over-option-items.ensures.longest all).option

pub overflow_add-end : goal.overflow_add-end
overflow_add-end c =
    let all = ap left (sym c.into_iter-option-iterator.ensures.into_iter_gives)
    ∙ yields-rest placed left _ c.loop-option.yielded _ c.loop-option.yielded_by
    ∙ ap (λ (rest : List Placed). map placed c.loop-option.yielded ++ rest) c.in-Some.ensures.steps in
    let here = stands_in c.args.area.now _ (map placed c.loop-option.yielded) (placed c.in-Some.option) _ c.over-option-items.ensures.longest all in
    omega (arith, here.within, c.loop-option.invariant.end, c.requires)

pub loop-option-preserved : goal.loop-option-preserved
loop-option-preserved c =
    let more = map-append placed c.loop-option.yielded (c.in-Some.option ∷ []) in
    let bytes = flat_map-append (λ (o : Placed). o.bytes) (map placed c.loop-option.yielded) (placed c.in-Some.option ∷ []) in
    record {
      can_next = tt;
      is_finite = tt;
      so_far = subst (λ x. FoundIn c.first_of-found.result x) (sym more)
          (found-more c.loop-option.found c.first_of-found.result (map placed c.loop-option.yielded) (placed c.in-Some.option)
          c.loop-option.invariant.so_far c.first_of-found.ensures.kept c.first_of-found.ensures.none c.first_of-found.ensures.spelled
          c.first_of-found.ensures.at);
      end = omega (
        arith,
        c.loop-option.invariant.end,
        ap (λ x. length (joined x)) more,
        ap length bytes,
        length-append (joined (map placed c.loop-option.yielded)) (joined (placed c.in-Some.option ∷ [])),
        ap length (append-nil c.in-Some.option.bytes.now),
      );
    }

-- those that were lent are the longest front
pub returns-then-end-area-clause-stops : goal.returns-then-end-area-clause-stops
returns-then-end-area-clause-stops c =
    let all = ap left (sym c.into_iter-option-iterator.ensures.into_iter_gives)
    ∙ yields-all placed left _ c.loop-option.yielded _ c.loop-option.yielded_by c.in-None.ensures.steps.0 in
    record {
      options = map placed c.loop-option.yielded;
      longest = subst (λ x. IsLongest 0 c.args.area.now x) all c.over-option-items.ensures.longest;
      place_is = c.loop-option.invariant.end;
    }

pub returns-then-end-area-clause-short : goal.returns-then-end-area-clause-short
returns-then-end-area-clause-short c =
    let stops = returns-then-end-area-clause-stops c in
    omega (arith, stops.place_is, ap length stops.longest.split, length-append (joined stops.options) stops.longest.rest)

pub returns-then-end-area-clause-bad : goal.returns-then-end-area-clause-bad
returns-then-end-area-clause-bad c is =
    let stops = returns-then-end-area-clause-stops c in
    c.if-end-area.true (stops.place_is ∙ listed c.args.area.now stops.options stops.longest is)

pub returns-clause-cases : goal.returns-clause-cases
returns-clause-cases c =
    let all = ap left (sym c.into_iter-option-iterator.ensures.into_iter_gives)
    ∙ yields-all placed left _ c.loop-option.yielded _ c.loop-option.yielded_by c.in-None.ensures.steps.0 in
    let longest = subst (λ x. IsLongest 0 c.args.area.now x) all c.over-option-items.ensures.longest in
    found-all c.loop-option.found c.args.area.now _
    (whole_list c.args.area.now _ longest (sym c.loop-option.invariant.end ∙ c.if-end-area.false)) c.loop-option.invariant.so_far

pub returns-clause-within : goal.returns-clause-within
returns-clause-within c =
    let all = ap left (sym c.into_iter-option-iterator.ensures.into_iter_gives)
    ∙ yields-all placed left _ c.loop-option.yielded _ c.loop-option.yielded_by c.in-None.ensures.steps.0 in
    let longest = subst (λ x. IsLongest 0 c.args.area.now x) all c.over-option-items.ensures.longest in
    found-within c.loop-option.found c.args.area.now _ longest c.loop-option.invariant.so_far
