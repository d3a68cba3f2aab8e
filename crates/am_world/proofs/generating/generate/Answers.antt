use Rattle.std.proofs.Common.{◌≡◌, ◌∙◌, length, ap}
use Rattle.am_world.specs.Generating.{entries}
use Rattle.am_world.specs.Making.{RoutesValue}
use Rattle.am_world.proofs.MadeLemmas.{some-made, made-whole}
use Rattle.am_world.proofs.MakingLemmas.{some-there}
use Rattle.am_world.proofs.OneLemmas.{made-one}
use Rattle.am_world.proofs.generating.generate.Goals as goal

pub returns-clause-no_breach : goal.returns-clause-no_breach
returns-clause-no_breach c =
    let d = c.args.domain.now in
    let into = c.entries.result.now in
    let is : into ≡ entries d = c.entries.ensures ∙ ap (λ (r : RoutesValue). r.entries) c.in_ok-routes.ensures.value in
    let made = some-made d c.args.number c.args.packets c.in_ok-events.events.items c.of-2.result into is
    (some-there (length into) c.is_empty.result c.is_empty.ensures c.if-is_empty.false) c.of-2.ensures c.in_ok-events.ensures in
    (made-whole d c.args.number c.args.packets c.of-2.result c.of.ensures.lawful made).0

pub returns-clause-length : goal.returns-clause-length
returns-clause-length c =
    let d = c.args.domain.now in
    let into = c.entries.result.now in
    let is : into ≡ entries d = c.entries.ensures ∙ ap (λ (r : RoutesValue). r.entries) c.in_ok-routes.ensures.value in
    let made = some-made d c.args.number c.args.packets c.in_ok-events.events.items c.of-2.result into is
    (some-there (length into) c.is_empty.result c.is_empty.ensures c.if-is_empty.false) c.of-2.ensures c.in_ok-events.ensures in
    (made-whole d c.args.number c.args.packets c.of-2.result c.of.ensures.lawful made).1

pub returns-clause-only : goal.returns-clause-only
returns-clause-only c = λ events other.
    let d = c.args.domain.now in
    let into = c.entries.result.now in
    let is : into ≡ entries d = c.entries.ensures ∙ ap (λ (r : RoutesValue). r.entries) c.in_ok-routes.ensures.value in
    let made = some-made d c.args.number c.args.packets c.in_ok-events.events.items c.of-2.result into is
    (some-there (length into) c.is_empty.result c.is_empty.ensures c.if-is_empty.false) c.of-2.ensures c.in_ok-events.ensures in
    made-one d c.args.number c.args.packets events c.of-2.result other made
