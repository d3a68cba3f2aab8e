-- The text of a report: a row for each reported block and flow, after the names of the columns.
use Rattle.std.specs.Prelude.{◌≡◌, ℕ, ◌-◌, ◌^◌, ◌<◌, List, [], ◌∷◌, ◌++◌, map, flat_map, codes, decimal, slice_index_or, length}
use Rattle.std.specs.List.{range_with_len}
use Rattle.csv.specs.Writing.{default_writer, row_text}
use Rattle.am_cells.specs.declared.cell.Cell.{Cell}
use Rattle.am_cells.specs.Counts.{IsLawfulCell}
use Rattle.am_cells.specs.CellTables.{CellTable, cell_at}
use Rattle.am_domain.specs.Domains.{DomainValue}
use Rattle.am_domain.specs.Values.{FlowValue, no_node}

-- what a row says: the names of a node and a flow, a block, and the cell of the flow and block at the node
pub record RowValue : Type 0 where
  pub node : List ℕ
  pub flow : List ℕ
  pub block : ℕ
  pub cell : Cell

-- the names of the columns
abbrev pub column_names : List (List ℕ)
column_names =
    codes "version" ∷ codes "node" ∷ codes "flow" ∷ codes "block" ∷ codes "count" ∷ codes "sum" ∷ codes "dcount"
    ∷ codes "dsum" ∷ []

-- the fields of a row: the version of the format, the names, and the numbers in decimal
abbrev pub row_fields : RowValue → List (List ℕ)
row_fields r =
    codes "1" ∷ r.node ∷ r.flow ∷ decimal r.block ∷ decimal r.cell.count ∷ decimal r.cell.sum ∷ decimal r.cell.dcount
    ∷ decimal r.cell.dsum ∷ []

-- the fields are those of this row, whose block has 64 bits and whose cell is lawful
pub record SpellsRow (fields : List (List ℕ)) (r : RowValue) : Type 0 where
  pub spelled : fields ≡ row_fields r
  pub block_fits : r.block < 2 ^ 64
  pub lawful : IsLawfulCell r.cell

-- the line of some fields (RFC 4180, section 2): commas between them, and a line feed after the last
unfoldable pub fields_line : List (List ℕ) → List ℕ
fields_line fields = row_text default_writer fields

-- the first line of a report, and the line of a row
abbrev pub head_line : List ℕ
head_line = fields_line column_names

abbrev pub report_line : RowValue → List ℕ
report_line r = fields_line (row_fields r)

-- this stands for a flow that the domain hasn't
abbrev pub no_flow : FlowValue
no_flow = record {
  name = [];
  id = 0;
  source = record { bytes = []; length = 0 };
  destination = record { bytes = []; length = 0 };
}

-- the name of the node of this number, of which the domain has one
abbrev pub node_name : DomainValue → ℕ → List ℕ
node_name d node = (slice_index_or d.nodes node no_node).name

-- the name of the flow of this number, of which the domain has one
abbrev pub flow_name : DomainValue → ℕ → List ℕ
flow_name d flow = (slice_index_or d.flows flow no_flow).name

-- the row of a flow and block at a node
abbrev pub row_at : DomainValue → ℕ → ℕ → ℕ → Cell → RowValue
row_at d node flow block cell =
    record { node = node_name d node; flow = flow_name d flow; block = block; cell = cell }

-- the rows of a block at a node: one for each flow
abbrev pub block_rows : DomainValue → ℕ → CellTable → ℕ → List RowValue
block_rows d node cells block =
    map (λ flow. row_at d node flow block (cell_at cells flow block)) (range_with_len 0 (length d.flows))

-- the rows of a node: those of each reported block, ascending
abbrev pub report_rows : DomainValue → ℕ → CellTable → List RowValue
report_rows d node cells = flat_map (block_rows d node cells) (range_with_len d.first (d.end - d.first))

-- the report of a node with these cells
abbrev pub report_text : DomainValue → ℕ → CellTable → List ℕ
report_text d node cells = head_line ++ flat_map report_line (report_rows d node cells)
