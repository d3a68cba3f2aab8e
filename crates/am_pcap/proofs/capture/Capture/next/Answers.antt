use Rattle.std.proofs.Common.{arith, refl, subst, ◌∙◌}
use Rattle.am_pcap.specs.Answers.{GivesEnd, GivesError}
use Rattle.am_pcap.specs.Decoded.{Passed}
use Rattle.am_pcap.specs.Seeking.{Found, reading_with}
use Rattle.am_pcap.proofs.Gives.{gave}
use Rattle.am_pcap.proofs.Passing.{gave-passed}
use Rattle.am_pcap.proofs.ReadFiles.{ends-so, stops-at}
use Rattle.am_pcap.proofs.capture.Capture.next.Goals as goal

pub returns-in-Some : goal.returns-in-Some
returns-in-Some g c =
    let passed = subst (λ x. Passed c.self.inside.decoder c.pass.new.self c.self.inside.head.form.big x c.in-Some.n) c.bytes.ensures c.in-Some.ensures.passed in
    let all = gave-passed c.args.self.now c.pass.new.self c.lend.follows.lender-at-none c.self.inside.head c.in-Some.n (g.S.Shelf.told c.args.shelf.now) c.lend.result
    c.self.view_is c.requires c.self.invariant passed c.lend.follows.holds-at-none c.lend.ensures.packet
    (c.lend.ensures.number ∙ c.count-number.ensures) in (
      (refl, (λ _. tt), all.given),
      record {
        leaves = tt;
        number = all.number;
        few = all.few;
        ended = tt;
        at_end = tt;
        refused = tt;
        error = tt;
        read_fault = λ e. absurd (cc (e));
        faults_stay = omega arith;
        missed_stay = omega arith;
      },
    )

pub returns-in-Ok-true : goal.returns-in-Ok-true
returns-in-Ok-true g c =
    let found = subst (λ x. Found (reading_with x c.self.inside.held c.self.inside.read) (reading_with c.seek.new.decoder c.seek.new.held c.seek.new.read)
    (g.S.Shelf.told c.args.shelf.now) (g.S.Shelf.told c.seek.new.shelf)) c.in-None.ensures.unchanged (rw c.in-Ok-true.field-0-test at c.in-Ok-true.ensures.sought) in
    let all = gave c.args.self.now (reading_with c.seek.new.decoder c.seek.new.held c.seek.new.read)
    (g.S.Shelf.told c.args.shelf.now) (g.S.Shelf.told c.seek.new.shelf) c.take.follows.lender-at-none c.take.result
    c.self.view_is c.requires found c.take.follows.holds-at-none c.take.ensures.record in (
      (refl, (λ _. tt), all.given),
      record {
        leaves = tt;
        number = all.number;
        few = all.few;
        ended = all.ended;
        at_end = all.at_end;
        refused = tt;
        error = tt;
        read_fault = λ e. absurd (cc (e));
        faults_stay = c.in-Ok-true.ensures.faults_stay;
        missed_stay = c.in-Ok-true.ensures.missed_stay;
      },
    )

pub returns-in-Ok-false : goal.returns-in-Ok-false
returns-in-Ok-false g c =
    let end = subst (λ x. GivesEnd (reading_with x c.self.inside.held c.self.inside.read) (g.S.Shelf.told c.args.shelf.now) (g.S.Shelf.told c.seek.new.shelf))
    c.in-None.ensures.unchanged (rw c.in-Ok-false.field-0-test at c.in-Ok-false.ensures.sought) in
    let ends = ends-so c.args.self.now (g.S.Shelf.told c.args.shelf.now) (g.S.Shelf.told c.seek.new.shelf) c.self.view_is c.requires end in (
      (refl, (λ _. tt), tt),
      record {
        leaves = tt;
        number = tt;
        few = tt;
        ended = ends.ended;
        at_end = ends.at_end;
        refused = tt;
        error = tt;
        read_fault = λ e. absurd (cc (e));
        faults_stay = c.in-Ok-false.ensures.faults_stay;
        missed_stay = c.in-Ok-false.ensures.missed_stay;
      },
    )

pub returns-in-Err : goal.returns-in-Err
returns-in-Err g c =
    let error = subst (λ x. GivesError (reading_with x c.self.inside.held c.self.inside.read) (g.S.Shelf.told c.args.shelf.now) (g.S.Shelf.told c.seek.new.shelf) c.in-Err.error)
    c.in-None.ensures.unchanged c.in-Err.ensures.refused in
    let stops = stops-at c.args.self.now (g.S.Shelf.told c.args.shelf.now) (g.S.Shelf.told c.seek.new.shelf) c.in-Err.error c.self.view_is c.requires error in (
      (refl, (λ _. tt), tt),
      record {
        leaves = tt;
        number = tt;
        few = tt;
        ended = tt;
        at_end = tt;
        refused = stops.refused;
        error = stops.error;
        read_fault = λ is. c.in-Err.ensures.read_fault (cc (is));
        faults_stay = c.in-Err.ensures.faults_stay;
        missed_stay = c.in-Err.ensures.missed_stay;
      },
    )
