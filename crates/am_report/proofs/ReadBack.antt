-- The text that is written of a node and its cells is read back as them.
use Rattle.std.proofs.Common.{◌≡◌, ◌∙◌, ℕ, zero, suc, ◌+◌, ◌-◌, ◌*◌, ◌/◌, ◌%◌, ◌^◌, ◌<◌, ◌≤◌, List, [], ◌∷◌, ◌++◌, take, length, Option, None, refl, sym, ap, subst, arith, add-zero, add-one, zero-add, append_assoc}
use Rattle.std.specs.Prelude.{All, map, flat_map, sum_by}
use Rattle.std.specs.List.{range_with_len}
use Rattle.std.proofs.Math.Nat.{suc-mul, zero-mul, mul_comm, div-add-mod, div-lt_iff_lt-mul, le-mul_of_pos_right, mod-lt}
use Rattle.std.proofs.lemmas.Nat.{div-mul-add, mod-mul-add}
use Rattle.std.proofs.lemmas.List.{append-nil, get_or_default, map-append}
use Rattle.std.proofs.lemmas.Simd.{map-map}
use Rattle.std.proofs.lemmas.List.Elements.{All-cons, All-get_or, All-nil}
use Rattle.std.proofs.lemmas.List.FromFn.{length-map-range_with_len, map-range_with_len_more, fill_by_all, sum_by-map-range_with_len_more}
use Rattle.std.proofs.lemmas.List.Sums.{sum_by_more, sum_by_more_le}
use Rattle.csv.specs.Machine.{Read, next_record}
use Rattle.csv.specs.Reading.{Reached, default_config, strip_bom}
use Rattle.csv.specs.Writing.{fields_text, is_blank}
use Rattle.csv.specs.declared.parser.State.TheVariants as state
use Rattle.csv.proofs.RoundTrip.{read-write-many}
use Rattle.am_cells.specs.declared.cell.Cell.{Cell}
use Rattle.am_cells.specs.Counts.{IsLawfulCell, no_packets}
use Rattle.am_cells.specs.CellTables.{CellTable, IsCellTable, HasShape, cell_in, cell_at}
use Rattle.am_domain.specs.Domains.{DomainValue, IsLawful}
use Rattle.am_domain.specs.Network.{IsNumberOf}
use Rattle.am_domain.specs.Values.{NodeValue, no_node}
use Rattle.am_report.specs.Rows.{RowValue, column_names, row_fields, fields_line, head_line, report_line, row_at, block_rows, report_rows, report_text, node_name}
use Rattle.am_report.specs.Reports.{AreRows, IsTaken, IsOfFirstNode, IsWanted, TakesRows, IsReportOf, packets_of}
use Rattle.am_report.proofs.ReadLemmas.{same-parts}
use Rattle.am_report.proofs.TextLemmas.{flat-more, range-suc}

-- the row of this number
abbrev pub row_of : DomainValue → ℕ → CellTable → ℕ → RowValue
row_of d node t k = row_at d node (k % length d.flows) (d.first + k / length d.flows) (cell_in t.cells k)

-- so many rows from the first on
abbrev pub rows_of : DomainValue → ℕ → CellTable → ℕ → List RowValue
rows_of d node t count = map (row_of d node t) (range_with_len 0 count)

range-append : (a m n : ℕ) → range_with_len a (m + n) ≡ range_with_len a m ++ range_with_len (a + m) n
range-append a m zero = rw (add-zero m, append-nil (range_with_len a m)) refl
range-append a m (suc n) =
    let e : m + suc n ≡ suc (m + n) = omega arith in
    let f : a + (m + n) ≡ a + m + n = omega arith in
    rw (e, range-suc a (m + n), range-append a m n, range-suc (a + m) n, f) (append_assoc (range_with_len a m) (range_with_len (a + m) n) ((a + m + n) ∷ []))

map-shift : (f g : ℕ → RowValue) (a b n : ℕ) → ((k : ℕ) → k < n → f (b + k) ≡ g (a + k))
    → map f (range_with_len b n) ≡ map g (range_with_len a n)
map-shift f g a b zero same = refl
map-shift f g a b (suc n) same =
    let first : f b ≡ g a = rw (add-zero a, add-zero b) at (same 0 (omega arith)) in
    let others = map-shift f g (a + 1) (b + 1) n (λ k low.
    let p : b + (k + 1) ≡ b + 1 + k = omega arith in
    let q : a + (k + 1) ≡ a + 1 + k = omega arith in
    rw (p, q) at (same (k + 1) (omega arith))) in
    rw first (ap (λ (t : List RowValue). g a ∷ t) others)

row-here : (d : DomainValue) (node : ℕ) (t : CellTable) (n f : ℕ) → HasShape t (length d.flows) d.first d.end → f < length d.flows
    → row_at d node f (d.first + n) (cell_at t f (d.first + n)) ≡ row_of d node t (n * length d.flows + f)
row-here d node t n f shape low =
    let block : d.first + n - d.first ≡ n = omega arith in
    rw (shape.first_is, shape.flows_are, block, mod-mul-add n (length d.flows) f low, div-mul-add n (length d.flows) f low) refl

-- the rows of so many blocks, by their numbers
rows-numbered : (d : DomainValue) (node : ℕ) (t : CellTable) (n : ℕ) → HasShape t (length d.flows) d.first d.end
    → flat_map (block_rows d node t) (range_with_len d.first n) ≡ rows_of d node t (n * length d.flows)
rows-numbered d node t zero shape = rw (zero-mul (length d.flows)) refl
rows-numbered d node t (suc n) shape =
    let m = length d.flows in
    let row = row_of d node t in
    let here : block_rows d node t (d.first + n) ≡ map row (range_with_len (n * m) m) =
    map-shift (λ f. row_at d node f (d.first + n) (cell_at t f (d.first + n))) row (n * m) 0 m
    (λ k low. rw (zero-add k) (row-here d node t n k shape low)) in
    let parts : rows_of d node t (suc n * m) ≡ rows_of d node t (n * m) ++ map row (range_with_len (n * m) m) =
    ap (λ (ks : List ℕ). map row ks) (ap (λ (k : ℕ). range_with_len 0 k) (suc-mul n m) ∙ range-append 0 (n * m) m
    ∙ ap (λ (k : ℕ). range_with_len 0 (n * m) ++ range_with_len k m) (zero-add (n * m)))
    ∙ map-append row (range_with_len 0 (n * m)) (range_with_len (n * m) m) in
    ap (λ (bs : List ℕ). flat_map (block_rows d node t) bs) (range-suc d.first n)
    ∙ flat-more (block_rows d node t) (range_with_len d.first n) (d.first + n)
    ∙ ap (λ (rows : List RowValue). rows ++ block_rows d node t (d.first + n)) (rows-numbered d node t n shape)
    ∙ ap (λ (rows : List RowValue). rows_of d node t (n * m) ++ rows) here
    ∙ sym parts

-- how many packets the first so many rows count
packets : (d : DomainValue) (node : ℕ) (t : CellTable) (k : ℕ) → k ≤ length t.cells
    → packets_of (rows_of d node t k) ≡ sum_by (λ (c : Cell). c.count) (take k t.cells)
packets d node t zero most = refl
packets d node t (suc k) most =
    let count = λ (r : RowValue). r.cell.count in
    let more = sum_by-map-range_with_len_more count (row_of d node t) 0 k k (zero-add k) in
    let part = sum_by_more (λ (c : Cell). c.count) t.cells k no_packets (omega arith) in
    let so_far = packets d node t k (omega arith) in
    subst (λ (j : ℕ). packets_of (rows_of d node t j) ≡ sum_by (λ (c : Cell). c.count) (take j t.cells)) (add-one k)
    (more ∙ ap (λ (n : ℕ). n + (cell_in t.cells k).count) so_far ∙ sym part)

first-node : (d : DomainValue) (node : ℕ) (t : CellTable) (k j : ℕ) → IsOfFirstNode (rows_of d node t k) (row_of d node t j)
first-node d node t zero j = tt
first-node d node t (suc k) j = refl

-- the reported blocks have 64 bits
pub block-fits : (d : DomainValue) (node block : ℕ) → IsLawful d → node < length d.nodes → d.first ≤ block → block < d.end → block < 2 ^ 64
block-fits d node block lawful there from until =
    let window = lawful.windows block (from, until) node no_node there in
    let most = lawful.until_readings node no_node there in
    let some : block ≤ block * d.times.block = le-mul_of_pos_right block lawful.timing.nonzero in
    omega (arith, window.ends, most, some)

-- a written report: its domain, its node and its cells
pub record Written (d : DomainValue) (node : ℕ) (t : CellTable) : Type 0 where
  pub lawful : IsLawful d
  pub there : node < length d.nodes
  pub table : IsCellTable t
  pub shape : HasShape t (length d.flows) d.first d.end

-- how many rows there are
abbrev pub all_rows : DomainValue → ℕ
all_rows d = (d.end - d.first) * length d.flows

pub many-cells : (d : DomainValue) (node : ℕ) (t : CellTable) → Written d node t → length t.cells ≡ all_rows d
many-cells d node t w =
    (rw (w.shape.flows_are, w.shape.first_is, w.shape.end_is) at w.table.whole) ∙ mul_comm (length d.flows) (d.end - d.first)

row-number : (d : DomainValue) (node : ℕ) → IsLawful d → node < length d.nodes → IsNumberOf d.nodes (node_name d node) node
row-number d node lawful there = record {
  within = there;
  before = λ k x low same. lawful.node_names_differ node no_node there k x low same;
  here = λ x. ap (λ (n : NodeValue). n.name) (get_or_default d.nodes node x no_node there);
}

pub wanted-here : (d : DomainValue) (k : ℕ) → IsLawful d → k < all_rows d → IsWanted d k (k % length d.flows) (d.first + k / length d.flows)
wanted-here d k lawful low =
    let m = length d.flows in
    let some : 0 < m = omega (arith, lawful.some_flow) in
    let block : k / m < d.end - d.first = (div-lt_iff_lt-mul some).1 low in
    let back : d.first + k / m - d.first ≡ k / m = omega arith in
    record {
      flow_there = mod-lt k some;
      from = omega arith;
      until = omega (arith, block);
      next = rw (back, mul_comm (k / m) m) (sym (div-add-mod k m));
    }

taken-here : (d : DomainValue) (node : ℕ) (t : CellTable) (k : ℕ) → Written d node t → k < all_rows d
    → IsTaken d (rows_of d node t k) (row_fields (row_of d node t k)) (row_of d node t k)
taken-here d node t k w low =
    let m = length d.flows in
    let cells = many-cells d node t w in
    let within : k < length t.cells = rw cells low in
    let wanted = wanted-here d k w.lawful low in
    let long = length-map-range_with_len (row_of d node t) 0 k in
    record {
      row = record {
        spells = record {
          spelled = refl;
          block_fits = block-fits d node (d.first + k / m) w.lawful w.there wanted.from wanted.until;
          lawful = All-get_or IsLawfulCell t.cells k no_packets within w.table.lawful;
        };
        counted =
            let part = sum_by_more_le (λ (c : Cell). c.count) t.cells k no_packets within in
            let before = packets d node t k (omega (arith, within)) in
            omega (arith, part, before, w.table.counted);
      };
      node = (node, row-number d node w.lawful w.there);
      of_first = first-node d node t k k;
      flow = k % m;
      flow_is = record { within = wanted.flow_there; named = refl };
      wanted = rw long wanted;
    }

-- from this row on, so many are taken
taken-from : (d : DomainValue) (node : ℕ) (t : CellTable) (n k : ℕ) → Written d node t → k + n ≤ all_rows d
    → TakesRows d (rows_of d node t k) (map (λ (j : ℕ). row_fields (row_of d node t j)) (range_with_len k n)) (rows_of d node t (k + n))
taken-from d node t zero k w most = rw (add-zero k) refl
taken-from d node t (suc n) k w most =
    let more = map-range_with_len_more (row_of d node t) 0 k k (zero-add k) in
    let e : k + 1 + n ≡ k + suc n = omega arith in
    let rest = taken-from d node t n (k + 1) w (omega (arith, most)) in
    (row_of d node t k, taken-here d node t k w (omega (arith, most)), rw (more, e) at rest)

-- the lines of rows are read as these rows
rows-read : (rows : List RowValue) → Reached default_config state.StartRecord (flat_map report_line rows) (map row_fields rows) state.StartRecord []
unfolding Reached fields_line
rows-read [] = (refl, refl)
rows-read (r ∷ rows) =
    ((row_fields r, state.StartRecord, flat_map report_line rows), read-write-many _ _ _ (flat_map report_line rows), refl, rows-read rows)

-- a report begins with no byte order mark
no-mark : (text : List ℕ) → strip_bom (head_line ++ text) ≡ head_line ++ text
unfolding strip_bom is_blank fields_text fields_line
no-mark text = refl

at-end : ◌≡◌ {A = Option Read} (next_record default_config state.StartRecord [] [] []) None
unfolding next_record
at-end = refl

text-read : (rows : List RowValue) → AreRows (head_line ++ flat_map report_line rows) (column_names ∷ map row_fields rows)
unfolding Reached fields_line
text-read rows =
    let text = flat_map report_line rows in
    let read : Reached default_config state.StartRecord (head_line ++ text) (column_names ∷ map row_fields rows) state.StartRecord [] =
    ((column_names, state.StartRecord, text), read-write-many _ _ _ text, refl, rows-read rows) in
    (state.StartRecord, [], rw (no-mark text) read, at-end)

pub all-read : (d : DomainValue) (node : ℕ) (t : CellTable) → Written d node t
    → report_rows d node t ≡ rows_of d node t (all_rows d)
all-read d node t w = rows-numbered d node t (d.end - d.first) w.shape

every-node : (d : DomainValue) (node : ℕ) (t : CellTable) (n a : ℕ) → IsNumberOf d.nodes (node_name d node) node
    → All (λ (r : RowValue). IsNumberOf d.nodes r.node node) (map (row_of d node t) (range_with_len a n))
every-node d node t zero a number = All-nil (λ (r : RowValue). IsNumberOf d.nodes r.node node)
every-node d node t (suc n) a number =
    All-cons (λ (r : RowValue). IsNumberOf d.nodes r.node node) (row_of d node t a) (map (row_of d node t) (range_with_len (a + 1) n)) number
    (every-node d node t n (a + 1) number)

pub read-back : (d : DomainValue) (node : ℕ) (t : CellTable) → IsLawful d → node < length d.nodes → IsCellTable t
    → HasShape t (length d.flows) d.first d.end
    → IsReportOf d (report_text d node t) (record { node = node; cells = t })
read-back d node t lawful there table shape =
    let w : Written d node t = record { lawful = lawful; there = there; table = table; shape = shape } in
    let count = all_rows d in
    let rows = rows_of d node t count in
    let same = all-read d node t w in
    let fields_of = λ (j : ℕ). row_fields (row_of d node t j) in
    let cells : t.cells ≡ map (cell_in t.cells) (range_with_len 0 count) =
    fill_by_all (cell_in t.cells) t.cells count no_packets (many-cells d node t w) (λ k low. refl) in
    let takes : TakesRows d [] (map fields_of (range_with_len 0 count)) rows = rw (zero-add count) at (taken-from d node t count 0 w (omega arith)) in
    record {
      taken = rows;
      all = record {
        fields = map row_fields rows;
        rows = rw same (text-read rows);
        takes = rw (map-map row_fields (row_of d node t) (range_with_len 0 count)) takes;
      };
      whole = length-map-range_with_len (row_of d node t) 0 count ∙ mul_comm (d.end - d.first) (length d.flows);
      node = every-node d node t count 0 (row-number d node lawful there);
      cells = same-parts _ _ _ _ _ _ _ _ shape.flows_are shape.first_is shape.end_is
          (cells ∙ sym (map-map (λ (r : RowValue). r.cell) (row_of d node t) (range_with_len 0 count)));
    }
