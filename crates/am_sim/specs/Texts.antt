-- What is written of a simulated network.
use Rattle.std.specs.Prelude.{ℕ, List, ◌++◌, flat_map, codes, decimal}
use Rattle.std.specs.Fmt.{signed_decimal}
use Rattle.am_control.specs.Texts.{scope_text}
use Rattle.am_sim.specs.declared.row.SimRow.{SimRow}

-- the names of the columns
abbrev pub sim_columns : List ℕ
sim_columns = codes "cluster,true,reported,cells,equal\n"

-- the line of a row: the cluster's number or `network`, both losses, the pairs, and those of which both are equal
abbrev pub sim_line : SimRow → List ℕ
sim_line r =
    scope_text r.scope ++ codes "," ++ decimal r.dropped ++ codes "," ++ signed_decimal r.lost ++ codes ","
    ++ decimal r.cells ++ codes "," ++ decimal r.equal ++ codes "\n"

-- the text of the rows
abbrev pub sim_text : List SimRow → List ℕ
sim_text rows = sim_columns ++ flat_map sim_line rows
