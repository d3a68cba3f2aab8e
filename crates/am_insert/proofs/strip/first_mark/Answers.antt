-- The options that are lent are all of the area: those so far, and then the one in hand.
use Rattle.std.proofs.Common.{refl, sym, ap, subst, ◌∙◌, List, map, [], ◌∷◌, ◌++◌, All}
use Rattle.std.proofs.lemmas.List.{map-append}
use Rattle.std.proofs.lemmas.List.Elements.{All-nil, All-push}
use Rattle.am_opts.specs.Options.{Placed}
use Rattle.am_opts.specs.Lent.{placed, left}
use Rattle.am_ip6.specs.Marks.{IsNoMark}
use Rattle.am_insert.proofs.Headers.{yields-rest, yields-all}
use Rattle.am_insert.proofs.FirstMark.{Pads, pads-none, pads-push, whole-list, shows-first, shows-none, spells_none}
use Rattle.am_insert.proofs.strip.first_mark.Goals as goal

pub loop-option-init : goal.loop-option-init
loop-option-init c = record { can_next = tt; is_finite = tt; none = All-nil IsNoMark; pads = pads-none }

pub returns-in-Some-decode_mark : goal.returns-in-Some-decode_mark
returns-in-Some-decode_mark c =
    let all = ap left (sym c.into_iter-option-iterator.ensures.into_iter_gives)
    ∙ yields-rest placed left _ c.loop-option.yielded _ c.loop-option.yielded_by
    ∙ ap (λ (rest : List Placed). map placed c.loop-option.yielded ++ rest) c.in-Some.ensures.steps in
    shows-first c.args.area.now _ (map placed c.loop-option.yielded) _ (placed c.in-Some.option) _
    (whole-list c.args.area.now _ (c.longest_front_law.ensures c.args.area.now) c.requires c.over-option-items.ensures.longest)
    all c.loop-option.invariant.none c.in-Some-decode_mark.ensures.only.1 refl c.loop-option.invariant.pads

pub loop-option-preserved : goal.loop-option-preserved
loop-option-preserved c =
    let more = map-append placed c.loop-option.yielded (c.in-Some.option ∷ []) in
    record {
      can_next = tt;
      is_finite = tt;
      none =
          subst (λ x. All IsNoMark x) (sym more)
          (All-push IsNoMark (map placed c.loop-option.yielded) (placed c.in-Some.option) c.loop-option.invariant.none
          (spells_none (placed c.in-Some.option) (λ n m within s. absurd (cc (c.in_default.ensures.found n m within s)))));
      pads =
          subst (λ x. Pads c.is_empty_pad-padded.result x) (sym more)
          (pads-push (map placed c.loop-option.yielded) (placed c.in-Some.option) c.is_empty_pad-padded.result c.is_empty_pad-padded.ensures);
    }

pub returns : goal.returns
returns c =
    let all = ap left (sym c.into_iter-option-iterator.ensures.into_iter_gives)
    ∙ yields-all placed left _ c.loop-option.yielded _ c.loop-option.yielded_by c.in-None.ensures.steps.0 in
    shows-none c.args.area.now _ (map placed c.loop-option.yielded)
    (whole-list c.args.area.now _ (c.longest_front_law.ensures c.args.area.now) c.requires c.over-option-items.ensures.longest)
    all c.loop-option.invariant.none
