-- The headers that are lent are those of the packet: those so far, and then the one in hand.
use Rattle.std.proofs.Common.{sym, ap, subst, ◌∙◌, ◌≢◌, List, map, [], ◌∷◌, ◌++◌, All}
use Rattle.std.proofs.lemmas.List.{map-append}
use Rattle.std.proofs.lemmas.List.Elements.{All-push}
use Rattle.am_ip6.specs.Chains.{Lent}
use Rattle.am_ip6.specs.Shown.{lent}
use Rattle.am_ip6.specs.Left.{headers_left}
use Rattle.am_insert.proofs.Headers.{yields-rest, yields-all, member-in, first-from, none-from}
use Rattle.am_insert.proofs.Planned.{bounds}
use Rattle.am_insert.proofs.shape.first_header.Goals as goal

pub returns-then-header-kind-clause-stands : goal.returns-then-header-kind-clause-stands
returns-then-header-kind-clause-stands c =
    let all = ap headers_left (sym c.into_iter-header-iterator.ensures.into_iter_gives)
    ∙ yields-rest lent headers_left _ c.loop-header.yielded _ c.loop-header.yielded_by
    ∙ ap (λ (rest : List Lent). map lent c.loop-header.yielded ++ rest) c.in-Some.ensures.steps in
    bounds c.args.bytes.now (lent c.in-Some.header)
    (member-in c.args.bytes.now _ (map lent c.loop-header.yielded) _ (lent c.in-Some.header) c.over-header-items.ensures.headers all)

pub returns-then-header-kind-clause-first : goal.returns-then-header-kind-clause-first
returns-then-header-kind-clause-first c = λ hs has.
    let all = ap headers_left (sym c.into_iter-header-iterator.ensures.into_iter_gives)
    ∙ yields-rest lent headers_left _ c.loop-header.yielded _ c.loop-header.yielded_by
    ∙ ap (λ (rest : List Lent). map lent c.loop-header.yielded ++ rest) c.in-Some.ensures.steps in
    first-from c.args.bytes.now c.args.whole c.number_of-kind.result _ _ hs (map lent c.loop-header.yielded) (lent c.in-Some.header) _
    (c.walk_law.ensures c.args.bytes.now c.args.whole) c.over-header-items.ensures.headers has all c.loop-header.invariant.others
    c.if-header-kind.true c.number_of-kind.ensures

pub loop-header-preserved : goal.loop-header-preserved
loop-header-preserved c = record {
  can_next = tt;
  is_finite = tt;
  others =
      subst (λ x. All (λ h. h.kind ≢ c.number_of-kind.result) x) (sym (map-append lent c.loop-header.yielded (c.in-Some.header ∷ [])))
      (All-push (λ h. h.kind ≢ c.number_of-kind.result) (map lent c.loop-header.yielded) (lent c.in-Some.header)
      c.loop-header.invariant.others c.if-header-kind.false);
}

pub returns-clause-first : goal.returns-clause-first
returns-clause-first c = λ hs has.
    let all = ap headers_left (sym c.into_iter-header-iterator.ensures.into_iter_gives)
    ∙ yields-all lent headers_left _ c.loop-header.yielded _ c.loop-header.yielded_by c.in-None.ensures.steps.0 in
    none-from c.args.bytes.now c.args.whole c.number_of-kind.result _ _ hs (map lent c.loop-header.yielded)
    (c.walk_law.ensures c.args.bytes.now c.args.whole) c.over-header-items.ensures.headers has all c.loop-header.invariant.others
    c.number_of-kind.ensures
