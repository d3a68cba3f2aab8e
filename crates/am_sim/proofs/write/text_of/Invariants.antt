use Rattle.std.proofs.Common.{◌≡◌, ◌++◌, take}
use Rattle.std.specs.Prelude.{flat_map, string_bytes}
use Rattle.am_sim.specs.Texts.{sim_columns, sim_line}
use Rattle.am_sim.proofs.write.text_of.Given as goal

abbrev pub invariant-loop-row : goal.invariant-loop-row
invariant-loop-row l = string_bytes l.text ≡ sim_columns ++ flat_map sim_line (take l.row-index l.rows)
