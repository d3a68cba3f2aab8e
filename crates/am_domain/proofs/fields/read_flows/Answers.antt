use Rattle.std.proofs.Common.{sym, ◌∙◌}
use Rattle.toml.specs.View.{table_view}
use Rattle.am_domain.specs.Keys.{part_spelling}
use Rattle.am_domain.specs.declared.error.Part.TheVariants.{Flow}
use Rattle.am_domain.proofs.CountLemmas.{few-at}
use Rattle.am_domain.proofs.fields.read_flows.Goals as goal

pub entries-requires : goal.entries-requires
entries-requires c = λ ds is. few-at (part_spelling Flow) (table_view c.args.table.now) c.requires ds (sym c.value_at.ensures ∙ is)
