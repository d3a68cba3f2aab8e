-- A written report is short enough to be read.
use Rattle.std.proofs.Common.{ℕ, ◌+◌, ◌-◌, ◌*◌, ◌/◌, ◌%◌, ◌^◌, ◌<◌, ◌≤◌, true, false, List, [], ◌∷◌, ◌++◌, length, sym, subst, arith, zero, suc, decimal}
use Rattle.std.specs.Prelude.{map, flat_map, if◌then◌else◌, ◌==◌}
use Rattle.std.specs.List.{range_with_len}
use Rattle.std.proofs.lemmas.Fmt.{length-decimal-le_wide}
use Rattle.std.proofs.lemmas.List.{length-append}
use Rattle.std.proofs.lemmas.List.Elements.{All-get_or}
use Rattle.csv.specs.Machine.{line_feed}
use Rattle.csv.specs.Writing.{default_writer, escaped, quoted, is_blank, field_text, fields_text, by_style, needs_quotes}
use Rattle.am_cells.specs.Counts.{IsLawfulCell, no_packets}
use Rattle.am_cells.specs.CellTables.{CellTable, IsCellTable, HasShape}
use Rattle.am_domain.specs.Domains.{DomainValue, IsLawful}
use Rattle.am_domain.specs.Values.{no_node}
use Rattle.am_report.specs.Rows.{RowValue, row_fields, fields_line, head_line, report_line, report_rows, report_text, no_flow}
use Rattle.am_report.specs.declared.read.TheConstants.{MAX_REPORT}
use Rattle.am_report.proofs.ReadBack.{row_of, all_rows, Written, block-fits, many-cells, wanted-here, all-read}

-- a byte of a field takes two at most
escaped-short : (field : List ℕ) → length (escaped default_writer field) ≤ 2 * length field
unfolding escaped
escaped-short [] = omega arith
escaped-short (b ∷ rest) =
    let more = escaped-short rest in
    elim (b == default_writer.quote) as (λ v. length (if v then (if default_writer.double_quote then default_writer.quote else default_writer.escape) ∷ b ∷ escaped default_writer rest else b ∷ escaped default_writer rest) ≤ 2 * length (b ∷ rest)) [
      | true ↦ omega (arith, more)
      | false ↦ omega (arith, more)
    ]

field-short : (field : List ℕ) → length (field_text default_writer field) ≤ 2 * length field + 2
field-short field =
    elim (by_style default_writer.style (needs_quotes default_writer field)) as (λ v. length (if v then quoted default_writer field else field) ≤ 2 * length field + 2) [
      | true ↦ omega (arith, escaped-short field, length-append (escaped default_writer field) (default_writer.quote ∷ []))
      | false ↦ omega arith
    ]

-- how many bytes a line has at most, by those of its fields
abbrev bytes_of : List (List ℕ) → ℕ
bytes_of [] = 0
bytes_of (field ∷ fields) = 2 * length field + 3 + bytes_of fields

fields-short : (fields : List (List ℕ)) → length (fields_text default_writer fields) ≤ bytes_of fields
unfolding fields_text
fields-short [] = omega arith
fields-short (field ∷ fields) =
    let here = field-short field in
    let rest = fields-short fields in
    let long : length (field_text default_writer field ++ fields_text default_writer fields) ≤ 2 * length field + 2 + bytes_of fields =
    subst (λ n. n ≤ 2 * length field + 2 + bytes_of fields) (sym (length-append (field_text default_writer field) (fields_text default_writer fields))) (omega (arith, here, rest)) in
    omega (arith, long)

line-short : (r : RowValue) → length (report_line r) ≤ bytes_of (row_fields r)
unfolding fields_line is_blank
line-short r =
    let rest : List (List ℕ) = r.node ∷ r.flow ∷ decimal r.block ∷ decimal r.cell.count ∷ decimal r.cell.sum ∷ decimal r.cell.dcount ∷ decimal r.cell.dsum ∷ [] in
    omega (arith, fields-short rest, length-append (fields_text default_writer rest) (line_feed ∷ []))

head-short : length head_line ≤ 100
unfolding fields_line is_blank escaped fields_text
head-short = omega arith

-- a row of lawful numbers and names
record IsShort (r : RowValue) : Type 0 where
  node : length r.node ≤ 32
  flow : length r.flow ≤ 32
  block : r.block < 2 ^ 64
  cell : IsLawfulCell r.cell

line-fits : (r : RowValue) → IsShort r → length (report_line r) ≤ 346
line-fits r h =
    let block = length-decimal-le_wide 20 r.block (omega arith) (omega (arith, h.block)) (omega (arith, h.block)) in
    let count = length-decimal-le_wide 13 r.cell.count (omega arith) (omega (arith, h.cell.few)) (omega (arith, h.cell.few)) in
    let sums : r.cell.sum < 10 ^ 25 = omega (arith, h.cell.few, h.cell.offsets) in
    let delayed : r.cell.dsum < 10 ^ 25 = omega (arith, h.cell.delayed_sum, sums) in
    let sum = length-decimal-le_wide 25 r.cell.sum (omega arith) sums (omega (arith, sums)) in
    let dcount = length-decimal-le_wide 13 r.cell.dcount (omega arith) (omega (arith, h.cell.few, h.cell.delayed)) (omega (arith, h.cell.few, h.cell.delayed)) in
    let dsum = length-decimal-le_wide 25 r.cell.dsum (omega arith) delayed (omega (arith, delayed)) in
    omega (arith, line-short r, h.node, h.flow, block, count, sum, dcount, dsum)

row-short : (d : DomainValue) (node : ℕ) (t : CellTable) (k : ℕ) → Written d node t → k < all_rows d → IsShort (row_of d node t k)
row-short d node t k w low =
    let wanted = wanted-here d k w.lawful low in
    let within : k < length t.cells = rw (many-cells d node t w) low in
    record {
      node = (w.lawful.node_names node no_node w.there).most;
      flow = (w.lawful.flow_names (k % length d.flows) no_flow wanted.flow_there).most;
      block = block-fits d node (d.first + k / length d.flows) w.lawful w.there wanted.from wanted.until;
      cell = All-get_or IsLawfulCell t.cells k no_packets within w.table.lawful;
    }

lines-short : (d : DomainValue) (node : ℕ) (t : CellTable) (n a : ℕ) → Written d node t → a + n ≤ all_rows d
    → length (flat_map report_line (map (row_of d node t) (range_with_len a n))) ≤ 346 * n
lines-short d node t zero a w most = omega arith
lines-short d node t (suc n) a w most =
    let here = line-fits (row_of d node t a) (row-short d node t a w (omega (arith, most))) in
    let rest = lines-short d node t n (a + 1) w (omega (arith, most)) in
    omega (arith, here, rest, length-append (report_line (row_of d node t a)) (flat_map report_line (map (row_of d node t) (range_with_len (a + 1) n))))

pub fits : (d : DomainValue) (node : ℕ) (t : CellTable) → IsLawful d → node < length d.nodes → IsCellTable t
    → HasShape t (length d.flows) d.first d.end → length (report_text d node t) ≤ MAX_REPORT
fits d node t lawful there table shape =
    let w : Written d node t = record { lawful = lawful; there = there; table = table; shape = shape } in
    let many : all_rows d ≤ 32768 = omega (arith, lawful.few_cells) in
    let lines = rw (sym (all-read d node t w)) at (lines-short d node t (all_rows d) 0 w (omega arith)) in
    omega (arith, head-short, lines, many, length-append head_line (flat_map report_line (report_rows d node t)))
