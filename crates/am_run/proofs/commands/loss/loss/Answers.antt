-- The domain is taken, then all reports, and the table is printed or a node named.
use Rattle.std.proofs.Common.{subst, sym, inr, length, map, string_bytes, []}
use Rattle.std.proofs.lemmas.List.{length-map}
use Rattle.am_domain.specs.Domains.{DomainValue}
use Rattle.am_chain.specs.Chains.{inputs, output, Performs}
use Rattle.am_run.specs.Gathered.{TakesReports}
use Rattle.am_chain.specs.Shown.{answer_of}
use Rattle.am_run.specs.commands.Loss.{loss_from}
use Rattle.am_run.proofs.GatherLemmas.{all-reported, has-long}
use Rattle.am_run.proofs.commands.loss.loss.Goals as goal

pub print_table-requires-clause-nodes : goal.print_table-requires-clause-nodes
print_table-requires-clause-nodes g c =
    let so = c.in-Ok-take_all.ensures.taken in
    has-long c.in-Ok.domain c.take_all.new.control so.taken so.has

pub returns : goal.returns
returns g c =
    let t = c.in-Ok.ensures in
    let d = c.in-Ok.domain in
    let names = map string_bytes c.args.words.now.reports.now in
    let behind = inputs (g.S.Shelf.told c.take_domain.new.shelf) (g.S.Shelf.faults c.take_domain.new.shelf) (g.S.Shelf.missed c.take_domain.new.shelf) in
    let after = inputs (g.S.Shelf.told c.take_all.new.shelf) (g.S.Shelf.faults c.take_all.new.shelf) (g.S.Shelf.missed c.take_all.new.shelf) in
    let so : TakesReports d names (length names) behind after c.take_all.new.control =
    subst (λ n. TakesReports d names n behind after c.take_all.new.control) (sym (length-map c.args.words.now.reports.now string_bytes)) c.in-Ok-take_all.ensures.taken in
    let old = output (g.O.Sink.written c.args.out.now) (g.O.Sink.faults c.args.out.now) in
    let new = output (g.O.Sink.written c.print_table.new.out) (g.O.Sink.faults c.print_table.new.out) in
    let answer = answer_of c.print_table.result in
    inr (
      t.0,
      behind,
      t.1,
      t.2,
      subst (λ (x : DomainValue). Performs behind after old new (loss_from x names []) answer) t.3
          (all-reported d names behind after after c.take_all.new.control old new answer so (c.print_table.ensures after so.taken so.has)),
    )
