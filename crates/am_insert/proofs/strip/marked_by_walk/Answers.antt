-- The headers that are lent are those of the packet: those so far, and then the one in hand.
use Rattle.std.proofs.Common.{arith, refl, sym, ap, subst, ◌∙◌, List, map, [], ◌∷◌, ◌++◌, All}
use Rattle.std.proofs.lemmas.List.{map-append}
use Rattle.std.proofs.lemmas.List.Elements.{All-nil, All-push}
use Rattle.am_ip6.specs.Chains.{Lent, Spot, first_spot, spot_after}
use Rattle.am_ip6.specs.Marks.{IsPassed}
use Rattle.am_ip6.specs.Shown.{lent}
use Rattle.am_ip6.specs.Left.{headers_left}
use Rattle.am_insert.proofs.Headers.{yields-rest, yields-all, member-in, after-push, marked-from, passed-from}
use Rattle.am_insert.proofs.Planned.{bounds, in-options}
use Rattle.am_insert.proofs.strip.marked_by_walk.Goals as goal

pub loop-header-init : goal.loop-header-init
loop-header-init c = record {
  can_next = tt;
  is_finite = tt;
  passed = All-nil (IsPassed c.number_of-kind.result);
  told = refl;
}

pub mark_of_kind-requires-clause-least : goal.mark_of_kind-requires-clause-least
mark_of_kind-requires-clause-least c =
    let all = ap headers_left (sym c.into_iter-header-iterator.ensures.into_iter_gives)
    ∙ yields-rest lent headers_left _ c.loop-header.yielded _ c.loop-header.yielded_by
    ∙ ap (λ (rest : List Lent). map lent c.loop-header.yielded ++ rest) c.in-Some.ensures.steps in
    let here = member-in c.args.bytes.now _ (map lent c.loop-header.yielded) _ (lent c.in-Some.header) c.over-header-items.ensures.headers all in
    omega (arith, (bounds c.args.bytes.now (lent c.in-Some.header) here).size)

pub mark_of_kind-requires-clause-options : goal.mark_of_kind-requires-clause-options
mark_of_kind-requires-clause-options c =
    let all = ap headers_left (sym c.into_iter-header-iterator.ensures.into_iter_gives)
    ∙ yields-rest lent headers_left _ c.loop-header.yielded _ c.loop-header.yielded_by
    ∙ ap (λ (rest : List Lent). map lent c.loop-header.yielded ++ rest) c.in-Some.ensures.steps in
    let here = member-in c.args.bytes.now _ (map lent c.loop-header.yielded) _ (lent c.in-Some.header) c.over-header-items.ensures.headers all in
    in-options c.args.bytes.now (lent c.in-Some.header) here

pub returns-in-Some-mark_of_kind : goal.returns-in-Some-mark_of_kind
returns-in-Some-mark_of_kind c = λ hs has.
    let all = ap headers_left (sym c.into_iter-header-iterator.ensures.into_iter_gives)
    ∙ yields-rest lent headers_left _ c.loop-header.yielded _ c.loop-header.yielded_by
    ∙ ap (λ (rest : List Lent). map lent c.loop-header.yielded ++ rest) c.in-Some.ensures.steps in
    marked-from c.args.bytes.now c.args.whole c.number_of-kind.result _ _ hs _ (map lent c.loop-header.yielded) _
    (c.walk_law.ensures c.args.bytes.now c.args.whole) c.over-header-items.ensures.headers has all c.loop-header.invariant.passed
    c.in-Some-mark_of_kind.ensures c.loop-header.invariant.told c.number_of-kind.ensures

pub loop-header-preserved : goal.loop-header-preserved
loop-header-preserved c =
    let more = map-append lent c.loop-header.yielded (c.in-Some.header ∷ []) in
    record {
      can_next = tt;
      is_finite = tt;
      passed =
          subst (λ x. All (IsPassed c.number_of-kind.result) x) (sym more)
          (All-push (IsPassed c.number_of-kind.result) (map lent c.loop-header.yielded) (lent c.in-Some.header)
          c.loop-header.invariant.passed c.in_default.ensures);
      told =
          sym (ap (λ (x : List Lent). (spot_after c.args.bytes.now (first_spot c.args.bytes.now) x).told_at) more
          ∙ ap (λ (s : Spot). s.told_at) (after-push c.args.bytes.now (first_spot c.args.bytes.now) (map lent c.loop-header.yielded) (lent c.in-Some.header)));
    }

pub returns : goal.returns
returns c = λ hs has.
    let all = ap headers_left (sym c.into_iter-header-iterator.ensures.into_iter_gives)
    ∙ yields-all lent headers_left _ c.loop-header.yielded _ c.loop-header.yielded_by c.in-None.ensures.steps.0 in
    passed-from c.args.bytes.now c.args.whole c.number_of-kind.result _ _ hs (map lent c.loop-header.yielded)
    (c.walk_law.ensures c.args.bytes.now c.args.whole) c.over-header-items.ensures.headers has all c.loop-header.invariant.passed
    c.number_of-kind.ensures
