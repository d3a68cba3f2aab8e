use Rattle.std.proofs.Common.{◌∙◌, rules}
use Rattle.std.proofs.lemmas.Int.{to_z-of_z}
use Rattle.std.specs.Int.{w128}
use Rattle.am_chain.proofs.TableLemmas.{on_ok, line_pieces}
use Rattle.am_chain.specs.Tallies.{counts_row}
use Rattle.am_chain.proofs.table.push_row.Goals as goal

pub returns : goal.returns
returns c =
    on_ok c.write.result
    (λ e. e ∙ line_pieces (counts_row c.args.block c.args.counts) _ _ (to_z-of_z w128 c.lost-lost.result (search rules) ∙ c.lost-lost.ensures))
    c.write.ensures.bytes
