use Rattle.std.proofs.Common.{◌∙◌}
use Rattle.am_chain.specs.Tallies.{settled, rows_of}
use Rattle.am_chain.specs.declared.table.Side.TheVariants.{Entered, Left}
use Rattle.am_chain.proofs.TableLemmas.{if_ok, table-of-same}
use Rattle.am_chain.proofs.table.Table.text.Goals as goal

pub returns-clause-table : goal.returns-clause-table
returns-clause-table c =
    if_ok c.lines.result
    (λ text t entered left same_entered same_left. table-of-same (settled c.settle.new.self Entered) entered (settled c.settle.new.self Left) left
    (rows_of c.settle.new.self) (λ b. c.in_ok-settle.ensures.same Entered b ∙ same_entered b) (λ b. c.in_ok-settle.ensures.same Left b ∙ same_left b) t)
    c.lines.ensures.table
