use Rattle.std.proofs.Common.{refl, subst, arith, Ok}
use Rattle.am_domain.specs.Domains.{IsDomainOf, TellsRefusal}
use Rattle.am_chain.specs.Chains.{inputs}
use Rattle.am_chain.specs.Inputs.{JudgesDomain}
use Rattle.am_chain.specs.Shown.{stop_shown, domain_answer}
use Rattle.am_chain.proofs.InputLemmas.{judged-of, whole-at-end, stop-answer, domain-stops}
use Rattle.am_chain.proofs.inputs.take_domain.Goals as goal

pub returns-in-Ok-read_domain : goal.returns-in-Ok-read_domain
returns-in-Ok-read_domain g c = (
  c.in-Ok-read_domain.domain,
  judged-of (g.S.Shelf.told c.args.shelf.now) c.args.name.now JudgesDomain c.in-Ok.bytes.items (Ok c.in-Ok-read_domain.domain) c.in-Ok.ensures.bytes (
    omega (arith, c.in-Ok.ensures.bound),
    subst (λ x. IsDomainOf x c.in-Ok-read_domain.domain) c.deref.ensures.value c.in-Ok-read_domain.ensures.ok,
  ),
  record {
    kept = c.in-Ok.ensures.files;
    faults = c.in-Ok.ensures.faults_stay;
    missed = c.in-Ok.ensures.missed_stay;
    at_end = whole-at-end (g.S.Shelf.told c.args.shelf.now) (g.S.Shelf.told c.read_file.new.shelf) c.args.name.now c.in-Ok.bytes.items c.in-Ok.ensures.whole;
  },
  refl,
)

pub returns : goal.returns
returns g c =
    stop-answer (inputs (g.S.Shelf.told c.args.shelf.now) (g.S.Shelf.faults c.args.shelf.now) (g.S.Shelf.missed c.args.shelf.now))
    (inputs (g.S.Shelf.told c.read_file.new.shelf) (g.S.Shelf.faults c.read_file.new.shelf) (g.S.Shelf.missed c.read_file.new.shelf))
    c.args.name.now JudgesDomain (domain_answer c.args.name.now c.in-Err-read_domain.error) (stop_shown c.of_domain.result)
    (domain-stops (inputs (g.S.Shelf.told c.args.shelf.now) (g.S.Shelf.faults c.args.shelf.now) (g.S.Shelf.missed c.args.shelf.now))
    (inputs (g.S.Shelf.told c.read_file.new.shelf) (g.S.Shelf.faults c.read_file.new.shelf) (g.S.Shelf.missed c.read_file.new.shelf))
    c.args.name.now c.in-Ok.bytes.items c.in-Err-read_domain.error c.in-Ok.ensures.bytes (omega (arith, c.in-Ok.ensures.bound))
    (subst (λ x. TellsRefusal x c.in-Err-read_domain.error) c.deref.ensures.value c.in-Err-read_domain.ensures.err))
    c.of_domain.ensures
