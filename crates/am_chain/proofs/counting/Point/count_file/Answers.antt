-- The marked records that were given so far, and one more.
use Rattle.std.proofs.Common.{arith, sym, ap, ◌∙◌, ◌+◌, ◌++◌, [], ◌∷◌, Err}
use Rattle.am_ip6.specs.declared.marks.Place.TheVariants.{HopByHop}
use Rattle.am_chain.specs.Chains.{inputs}
use Rattle.am_chain.specs.Shown.{stop_shown}
use Rattle.am_chain.specs.Counting.{one_in}
use Rattle.am_chain.proofs.InputLemmas.{stream-not-opened-stops, stream-stops, stream-taken}
use Rattle.am_chain.proofs.CountLemmas.{count_in-append, count_in-few}
use Rattle.am_chain.proofs.counting.Point.count_file.Goals as goal

pub returns-in-Err-clause-takes : goal.returns-in-Err-clause-takes
returns-in-Err-clause-takes g c =
    stream-not-opened-stops
    (inputs (g.S.Shelf.told c.args.shelf.now) (g.S.Shelf.faults c.args.shelf.now) (g.S.Shelf.missed c.args.shelf.now))
    (inputs (g.S.Shelf.told c.open.new.shelf) (g.S.Shelf.faults c.open.new.shelf) (g.S.Shelf.missed c.open.new.shelf))
    c.args.name.now c.in-Err.error (stop_shown c.of_stream.result) c.in-Err.ensures.refused
    (λ e. c.in-Err.ensures.missing (ap (λ x. Err x) e)) (λ e. c.in-Err.ensures.read_fault (ap (λ x. Err x) e)) c.of_stream.ensures

pub returns-in-Ok-None-clause-takes : goal.returns-in-Ok-None-clause-takes
returns-in-Ok-None-clause-takes g c =
    let ended = rw c.in-Ok-None.field-0-is at c.in-Ok-None.ensures.ended in
    let taken = stream-taken
    (inputs (g.S.Shelf.told c.args.shelf.now) (g.S.Shelf.faults c.args.shelf.now) (g.S.Shelf.missed c.args.shelf.now))
    (inputs (g.S.Shelf.told c.records.shelf) (g.S.Shelf.faults c.records.shelf) (g.S.Shelf.missed c.records.shelf))
    (inputs (g.S.Shelf.told c.next.new.shelf) (g.S.Shelf.faults c.next.new.shelf) (g.S.Shelf.missed c.next.new.shelf))
    c.args.name.now c.records.stream c.records.invariant.marked c.records.invariant.on ended
    c.records.invariant.faults_stay c.records.invariant.missed_stay c.in-Ok-None.ensures.faults_stay c.in-Ok-None.ensures.missed_stay in
    (c.records.invariant.marked, taken.0, taken.1, c.records.invariant.here)

pub returns-in-Err-next-clause-takes : goal.returns-in-Err-next-clause-takes
returns-in-Err-next-clause-takes g c =
    stream-stops
    (inputs (g.S.Shelf.told c.args.shelf.now) (g.S.Shelf.faults c.args.shelf.now) (g.S.Shelf.missed c.args.shelf.now))
    (inputs (g.S.Shelf.told c.records.shelf) (g.S.Shelf.faults c.records.shelf) (g.S.Shelf.missed c.records.shelf))
    (inputs (g.S.Shelf.told c.next.new.shelf) (g.S.Shelf.faults c.next.new.shelf) (g.S.Shelf.missed c.next.new.shelf))
    c.args.name.now c.records.stream c.records.invariant.marked c.in-Err-next.error (stop_shown c.of_stream-in-Err-next.result)
    c.records.invariant.on c.in-Err-next.ensures.stopped
    (λ e. c.in-Err-next.ensures.read_fault (ap (λ x. Err x) e)) c.records.invariant.faults_stay c.of_stream-in-Err-next.ensures

pub count-requires-clause-fits : goal.count-requires-clause-fits
count-requires-clause-fits g c = λ b.
    let gives = rw c.in-Ok-Some.field-0-is at c.in-Ok-Some.ensures.gives in
    omega (
      arith,
      c.records.invariant.here b,
      count_in-few c.args.self.now.timing c.args.self.now.flow c.args.self.now.shift c.records.invariant.marked b,
      c.records.invariant.on.few,
      gives.above,
      gives.few,
    )

pub records-preserved : goal.records-preserved
records-preserved g c =
    let gives = rw c.in-Ok-Some.field-0-is at c.in-Ok-Some.ensures.gives in
    record {
      marked = c.records.invariant.marked ++ c.in-Ok-Some.marked ∷ [];
      on = gives.streams (g.S.Shelf.told c.args.shelf.now) c.args.name.now HopByHop c.records.invariant.marked c.records.invariant.on;
      here = λ b. c.in-Ok-count.ensures.here b
          ∙ ap (λ n. n + one_in c.args.self.now.timing c.args.self.now.flow c.args.self.now.shift b c.in-Ok-Some.marked) (c.records.invariant.here b)
          ∙ sym (count_in-append c.args.self.now.timing c.args.self.now.flow c.args.self.now.shift c.records.invariant.marked c.in-Ok-Some.marked b);
      there = λ b. c.in-Ok-count.ensures.there b ∙ c.records.invariant.there b;
      counted = c.in-Ok-count.ensures.counted;
      faults_stay = omega (arith, c.records.invariant.faults_stay, c.in-Ok-Some.ensures.faults_stay);
      missed_stay = omega (arith, c.records.invariant.missed_stay, c.in-Ok-Some.ensures.missed_stay);
    }
