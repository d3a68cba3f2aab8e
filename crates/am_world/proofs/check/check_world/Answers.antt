use Rattle.std.proofs.Common.{◌≡◌, false, true, length, sym, rules, subst, arith}
use Rattle.std.specs.Prelude.{All, is_some}
use Rattle.am_world.specs.Trips.{NamesLink}
use Rattle.am_world.specs.Breaches.{KeepRules, TellsBreach, TellsUnfinished}
use Rattle.am_world.proofs.BreachLemmas.{told-first, told-none, told-kept, last-first, last-none, names-links}
use Rattle.am_world.proofs.check.check_world.Goals as goal

pub returns-then-is_some : goal.returns-then-is_some
returns-then-is_some c =
    let told = subst (λ events. TellsBreach c.args.domain.now events c.in_ok-broken.broken) c.events-events.ensures
    c.in_ok-broken.ensures in
    let there : is_some c.in_ok-broken.broken ≡ true = first_of (grind arith, search rules) in
    record {
      first = told-first c.args.domain.now c.args.world.now c.in_ok-broken.broken told;
      none = told-none c.args.domain.now c.args.world.now c.in_ok-broken.broken told there;
    }

pub trips_of-requires : goal.trips_of-requires
trips_of-requires c =
    let away : is_some c.in_ok-broken.broken ≡ false = first_of (grind arith, search rules) in
    let keep = told-kept c.args.domain.now c.events-events.result.now c.in_ok-broken.broken c.in_ok-broken.ensures away in
    subst (λ links. All (NamesLink links) c.events-events.result.now) (sym c.edges.ensures.value)
    (names-links c.args.domain.now c.events-events.result.now keep)

pub returns : goal.returns
returns c =
    let away : is_some c.in_ok-broken.broken ≡ false = first_of (grind arith, search rules) in
    let d = c.args.domain.now in
    let found = c.first_unfinished.result in
    let keep = subst (λ events. KeepRules d events (length events)) c.events-events.ensures
    (told-kept d c.events-events.result.now c.in_ok-broken.broken c.in_ok-broken.ensures away) in
    let told = subst (λ events. TellsUnfinished d events found) c.events-events.ensures c.first_unfinished.ensures in
    record {
      first = last-first d c.args.world.now found keep told;
      none = last-none d c.args.world.now found keep told;
    }
