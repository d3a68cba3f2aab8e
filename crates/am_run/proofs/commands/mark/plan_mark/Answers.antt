-- The mark of a record, and why it has none.
use Rattle.std.proofs.Common.{ap, sym, subst, refl, ◌∙◌, ℕ, List, get_or, drop, inr}
use Rattle.std.proofs.lemmas.List.{get_or_default}
use Rattle.am_clock.specs.Times.{Times, IsMarkedIn, parity}
use Rattle.am_insert.specs.Inserting.{Inserted, IsOpen}
use Rattle.am_insert.specs.Edits.{edited}
use Rattle.am_domain.specs.Values.{FlowValue}
use Rattle.am_run.proofs.RewriteLemmas.{slice-rest}
use Rattle.am_run.proofs.commands.mark.plan_mark.Goals as goal

pub returns-then-is_full-clause-refused : goal.returns-then-is_full-clause-refused
returns-then-is_full-clause-refused c =
    let rest = slice-rest c.args.found.at c.args.packet.now.bytes.now in
    let open_there : IsOpen (drop c.args.found.at c.args.packet.now.bytes.now) c.whole.result c.place.result =
    subst (λ (x : List ℕ). IsOpen x c.whole.result c.place.result) rest c.in-Ok.ensures.open in
    inr (refl, rw (c.whole.ensures, c.place.ensures) at open_there, c.if-is_full.ensures)

pub returns-clause-plan : goal.returns-clause-plan
returns-clause-plan c =
    let rest = slice-rest c.args.found.at c.args.packet.now.bytes.now in
    let open_there : IsOpen (drop c.args.found.at c.args.packet.now.bytes.now) c.whole.result c.place.result =
    subst (λ (x : List ℕ). IsOpen x c.whole.result c.place.result) rest c.in-Ok.ensures.open in
    let put : Inserted (drop c.args.found.at c.args.packet.now.bytes.now) c.in-Some.mark c.place.result
    (edited c.in-Ok.edit (drop c.args.found.at c.args.packet.now.bytes.now)) =
    subst (λ (x : List ℕ). Inserted x c.in-Some.mark c.place.result (edited c.in-Ok.edit x)) rest c.in-Ok.ensures.inserted in
    record {
      marked_in =
          subst (λ (r : ℕ). IsMarkedIn c.args.domain.now.times r c.block_near-block.result) c.reading-reading.ensures
          (subst (λ (t : Times). IsMarkedIn t c.reading-reading.result c.block_near-block.result) c.timing.ensures.value c.block_near-block.ensures);
      mark = c.in-Some.mark;
      flow = λ default. ap (λ m. m.flow) c.in-Some.ensures.value ∙ c.id.ensures ∙ ap (λ f. f.id) (c.index-flows-found.is
          ∙ ap (λ (fs : List FlowValue). get_or fs c.args.found.flow c.index-flows-found.result) c.flows.ensures.value
          ∙ get_or_default c.args.domain.now.flows c.args.found.flow c.index-flows-found.result default c.requires.of_flow.first.within);
      loss = c.colour_of.ensures ∙ ap parity (sym (ap (λ m. m.loss) c.in-Some.ensures.value));
      delay = ap (λ m. m.delay) c.in-Some.ensures.value;
      unhindered = rw (c.whole.ensures, c.place.ensures) at open_there;
      room = c.if-is_full.ensures;
      inserted = rw c.place.ensures at put;
    }
