-- The text of a loss table: the names of the columns, and a line for each row.
use Rattle.std.specs.Prelude.{ℕ, List, [], ◌++◌, map, flat_map, slice_index_or, codes, decimal, Option, Some, None, ℤ}
use Rattle.std.specs.Fmt.{signed_decimal}
use Rattle.am_domain.specs.Values.{FlowValue}
use Rattle.am_control.specs.declared.row.Scope.{Scope}
use Rattle.am_control.specs.declared.row.Scope.TheVariants.{Cluster, Network}
use Rattle.am_control.specs.declared.row.LossRow.{LossRow}
use Rattle.am_control.specs.Rows.{Measured, loss_rows}

-- a cluster's number, or the word `network`
abbrev pub scope_text : Scope → List ℕ
scope_text (Cluster k) = decimal k
scope_text Network = codes "network"

-- a delay in nanoseconds, or `-` where there is none
abbrev pub delay_text : Option ℤ → List ℕ
delay_text (Some delay) = signed_decimal delay
delay_text None = codes "-"

-- the name of the flow of this number
abbrev pub named_flow : List FlowValue → ℕ → List ℕ
named_flow flows number = slice_index_or (map (λ f. f.name) flows) number []

-- the line of a row
abbrev pub loss_line : List FlowValue → LossRow → List ℕ
loss_line flows r =
    scope_text r.scope ++ codes "," ++ named_flow flows r.flow ++ codes "," ++ decimal r.block
    ++ codes "," ++ decimal r.entered ++ codes "," ++ decimal r.left ++ codes "," ++ signed_decimal r.lost ++ codes "," ++ delay_text r.delay
    ++ codes "," ++ decimal r.d_entered ++ codes "," ++ decimal r.d_left ++ codes "," ++ delay_text r.d_delay ++ codes "\n"

-- how the lines of a flow in a scope begin
abbrev pub line_start : List FlowValue → Scope → ℕ → List ℕ
line_start flows scope flow = scope_text scope ++ codes "," ++ named_flow flows flow ++ codes ","

-- and what stands behind it in the line of a row
abbrev pub line_rest : LossRow → List ℕ
line_rest r =
    decimal r.block ++ codes "," ++ decimal r.entered ++ codes "," ++ decimal r.left ++ codes "," ++ signed_decimal r.lost ++ codes "," ++ delay_text r.delay
    ++ codes "," ++ decimal r.d_entered ++ codes "," ++ decimal r.d_left ++ codes "," ++ delay_text r.d_delay ++ codes "\n"

-- the names of the columns
abbrev pub loss_columns : List ℕ
loss_columns = codes "scope,flow,block,in,out,lost,delay,din,dout,ddelay\n"

-- the text of the table
abbrev pub loss_text : List FlowValue → Measured → List ℕ
loss_text flows m = loss_columns ++ flat_map (loss_line flows) (loss_rows m)
