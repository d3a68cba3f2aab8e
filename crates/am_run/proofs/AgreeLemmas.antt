-- The reports that `meter` prints of all nodes say the cells over the captures, so their loss table is that of the captures.
use Rattle.std.proofs.Common.{arith, refl, sym, ap, subst, ◌∙◌, ◌≡◌, ◌≢◌, ◌⊎◌, ℕ, zero, suc, ◌<◌, ◌≤◌, All, AllPairs, Contains, List, [], ◌∷◌, ◌++◌, length, get_or, map, Some, None, inl, inr, zero-add}
use Rattle.std.specs.Prelude.{unwrap_or, ◌==◌, if◌then◌else◌}
use Rattle.std.specs.List.{range_with_len}
use Rattle.std.proofs.lemmas.Bool.Decides.{eqb_tells}
use Rattle.std.proofs.lemmas.List.{ext_get_or, get_or-map, length-map}
use Rattle.std.proofs.lemmas.List.FromFn.{get_or-map-range_with_len, length-map-range_with_len}
use Rattle.am_cells.specs.CellTables.{CellTable, IsCellTable, HasCell, HasShape, HaveOneShape, cell_at}
use Rattle.am_control.specs.Rows.{no_table}
use Rattle.am_domain.specs.Domains.{DomainValue, IsLawful}
use Rattle.am_meter.specs.declared.stream.Marked.{Marked}
use Rattle.am_report.specs.Reports.{IsReportOf}
use Rattle.am_report.specs.Rows.{report_text, no_flow}
use Rattle.am_report.specs.declared.read.Report.{Report}
use Rattle.am_report.specs.declared.read.TheConstants.{MAX_REPORT}
use Rattle.am_run.specs.Agreeing.{AreNodeReports, AreTaken, LossIsAudit}
use Rattle.am_chain.specs.Gathering.{cells_of, cells_of_each, node_without}
use Rattle.am_chain.specs.NodeCells.{AreWholeCells}
use Rattle.am_run.specs.commands.Audit.{HaveCells, IsLossTable}
use Rattle.am_run.specs.commands.Loss.{IsTableOfReports}
use Rattle.am_run.specs.commands.Meter.{IsNodeReport}
use Rattle.am_run.proofs.GatherLemmas.{none-without}

-- what is known of reports and of tables of cells
pub record Known : Type 0 where
  pub same : (a b : CellTable) → IsCellTable a → IsCellTable b → HaveOneShape a b
      → ((flow block : ℕ) → HasCell a flow block → cell_at b flow block ≡ cell_at a flow block) → a ≡ b
  pub read_back : (d : DomainValue) (node : ℕ) (cells : CellTable) → IsLawful d → node < length d.nodes → IsCellTable cells
      → HasShape cells (length d.flows) d.first d.end → IsReportOf d (report_text d node cells) (record { node = node; cells = cells })
  pub fits : (d : DomainValue) (node : ℕ) (cells : CellTable) → IsLawful d → node < length d.nodes → IsCellTable cells
      → HasShape cells (length d.flows) d.first d.end → length (report_text d node cells) ≤ MAX_REPORT
  pub more : (taken : List Report) (r : Report) (node : ℕ) → cells_of taken r.node ≡ None
      → cells_of (taken ++ r ∷ []) node ≡ (if r.node == node then Some r.cells else cells_of taken node)

-- the marked records of a node's capture
abbrev at_node : List (List Marked) → ℕ → List Marked
at_node taken node = get_or taken node []

-- the cells that reports say of a node are those over its capture
record Says (d : DomainValue) (taken : List (List Marked)) (reports : List Report) (node : ℕ) : Type 0 where
  cells : CellTable
  there : cells_of reports node ≡ Some cells
  are : AreWholeCells d node (at_node taken node) cells

-- the texts were taken, and say the cells of these nodes; what was known of other nodes, is still
record Took (d : DomainValue) (taken : List (List Marked)) (before : List Report) (order : List ℕ) (texts : List (List ℕ)) : Type 0 where
  after : List Report
  all : AreTaken d before texts after
  kept : (node : ℕ) (t : CellTable) → cells_of before node ≡ Some t → cells_of after node ≡ Some t
  says : (node : ℕ) → Contains order node → Says d taken after node

-- an item is the first, or one of the others
first-or-other : (x : ℕ) (xs : List ℕ) (n : ℕ) → Contains (x ∷ xs) n → (x ≡ n) ⊎ Contains xs n
first-or-other x xs n (zero, within, here) = inl here
first-or-other x xs n (suc k, within, here) = inr (k, omega (arith, within), here)

module _ (known : Known) (d : DomainValue) (taken : List (List Marked)) (lawful : IsLawful d) where
  taking : (before : List Report) (order : List ℕ) (texts : List (List ℕ))
      → All (λ node. node < length d.nodes) order → AllPairs (λ a b. a ≢ b) order → All (λ node. cells_of before node ≡ None) order
      → AreNodeReports d taken order texts → Took d taken before order texts
  taking before [] [] within once none are = record {
    after = before;
    all = refl;
    kept = λ node t h. h;
    says = λ node h. absurd (omega (arith, h.1));
  }
  taking before [] (text ∷ texts) within once none are = absurd are
  taking before (n ∷ order) [] within once none are = absurd are
  taking before (n ∷ order) (text ∷ texts) within once none are =
      let first : IsNodeReport d n (at_node taken n) text = are.0 in
      let cells = first.cells in
      let r : Report = record { node = n; cells = cells } in
      let there : n < length d.nodes = within zero n (omega arith) in
      let lone : cells_of before n ≡ None = none zero n (omega arith) in
      let short : length text ≤ MAX_REPORT = subst (λ x. length x ≤ MAX_REPORT) (sym first.printed) (known.fits d n cells lawful there first.metered.table first.metered.metered.table) in
      let read : IsReportOf d text r = subst (λ x. IsReportOf d x r) (sym first.printed) (known.read_back d n cells lawful there first.metered.table first.metered.metered.table) in
      let still : All (λ node. cells_of (before ++ r ∷ []) node ≡ None) order =
      λ k x h.
      let node = get_or order k x in
      let more = known.more before r node lone in
      elim (eqb_tells n node) [
        | inl same ↦ absurd (once zero (suc k) x (omega arith) (omega (arith, h)) same.1)
        | inr other ↦ more ∙ ap (λ b. if b then Some cells else cells_of before node) other.0 ∙ none (suc k) x (omega (arith, h))
      ] in
      let rest = taking (before ++ r ∷ []) order texts (λ k x h. within (suc k) x (omega (arith, h)))
      (λ i j x low h. once (suc i) (suc j) x (omega (arith, low)) (omega (arith, h))) still are.1 in
      let here : cells_of (before ++ r ∷ []) n ≡ Some cells =
      known.more before r n lone ∙ elim (eqb_tells n n) [
        | inl same ↦ ap (λ b. if b then Some cells else cells_of before n) same.0
        | inr other ↦ absurd (other.1 refl)
      ] in
      record {
        after = rest.after;
        all = (r, (short, read, lone), rest.all);
        kept = λ node t h. rest.kept node t (
            let more = known.more before r node lone in
            elim (eqb_tells n node) [
              | inl same ↦ absurd (cc (h, lone, same.1))
              | inr other ↦ more ∙ ap (λ b. if b then Some cells else cells_of before node) other.0 ∙ h
            ]
            );
        says = λ node h. elim (first-or-other n order node h) [
          | inl same ↦ subst (λ m. Says d taken rest.after m) same (record { cells = cells; there = rest.kept n cells here; are = first.metered })
          | inr later ↦ rest.says node later
        ];
      }

  -- two tables of one node over one capture are one
  one-table : (node : ℕ) (a b : CellTable) → AreWholeCells d node (at_node taken node) a → AreWholeCells d node (at_node taken node) b → a ≡ b
  one-table node a b p q =
      let s = p.metered.table in
      let t = q.metered.table in
      known.same a b p.table q.table (record { flows_are = t.flows_are ∙ sym s.flows_are; first_is = t.first_is ∙ sym s.first_is; end_is = t.end_is ∙ sym s.end_is })
      (λ flow block has.
      let low : flow < length d.flows = omega (arith, has.flow_there, s.flows_are) in
      let from : d.first ≤ block = omega (arith, has.from, s.first_is) in
      let until : block < d.end = omega (arith, has.until, s.end_is) in
      q.metered.cells flow block no_flow low (from, until) ∙ sym (p.metered.cells flow block no_flow low (from, until)))

  -- where the reports say the cells of every node, these are they
  module _ (reports : List Report) (says : (node : ℕ) → node < length d.nodes → Says d taken reports node) where
    abbrev table_at : ℕ → CellTable
    table_at node = unwrap_or (cells_of reports node) no_table

    abbrev tables : List CellTable
    tables = map table_at (range_with_len 0 (length d.nodes))

    there-at : (node : ℕ) → node < length d.nodes → cells_of reports node ≡ Some (table_at node)
    there-at node h = let s = says node h in s.there ∙ ap Some (sym (ap (λ o. unwrap_or o no_table) s.there))

    are-at : (node : ℕ) → node < length d.nodes → AreWholeCells d node (at_node taken node) (table_at node)
    are-at node h = let s = says node h in subst (λ t. AreWholeCells d node (at_node taken node) t) (sym (ap (λ o. unwrap_or o no_table) s.there)) s.are

    many : length tables ≡ length d.nodes
    many = length-map-range_with_len table_at 0 (length d.nodes)

    nth : (node : ℕ) → node < length d.nodes → get_or tables node no_table ≡ table_at node
    nth node h = get_or-map-range_with_len table_at 0 (length d.nodes) node node no_table h (zero-add node)

    have-tables : HaveCells d (length d.nodes) taken tables
    have-tables = record { each = many; metered = λ node h. subst (λ t. AreWholeCells d node (at_node taken node) t) (sym (nth node h)) (are-at node h) }

    each-some : map (λ t. Some t) tables ≡ cells_of_each d reports
    each-some =
        let n = length d.nodes in
        let long : length (map (λ (t : CellTable). Some t) tables) ≡ n = length-map tables (λ t. Some t) ∙ many in
        ext_get_or None (map (λ t. Some t) tables) (cells_of_each d reports) (long ∙ sym (length-map-range_with_len (cells_of reports) 0 n))
        (λ i h.
        let inside : i < n = omega (arith, h, long) in
        get_or-map (λ t. Some t) tables i no_table None (omega (arith, inside, many)) ∙ ap Some (nth i inside) ∙ sym (there-at i inside)
        ∙ sym (get_or-map-range_with_len (cells_of reports) 0 n i i None inside (zero-add i)))

    some-alike : (xs ys : List CellTable) → map (λ t. Some t) xs ≡ map (λ t. Some t) ys → xs ≡ ys
    some-alike [] [] e = refl
    some-alike [] (y ∷ ys) e = absurd (cc e)
    some-alike (x ∷ xs) [] e = absurd (cc e)
    some-alike (x ∷ xs) (y ∷ ys) e =
        let heads : x ≡ y = cc (e) in
        let tails : map (λ t. Some t) xs ≡ map (λ t. Some t) ys = cc (e) in
        let rest = some-alike xs ys tails in
        cc (heads, rest)

    -- whatever cells the nodes have over their captures, they are these
    same-cells : (cells : List CellTable) → HaveCells d (length d.nodes) taken cells → cells ≡ tables
    same-cells cells have =
        ext_get_or no_table cells tables (have.each ∙ sym many)
        (λ i h.
        let inside : i < length d.nodes = omega (arith, h, have.each) in
        one-table i (get_or cells i no_table) (table_at i) (have.metered i inside) (are-at i inside) ∙ sym (nth i inside))

    to-audit : (text : List ℕ) → IsTableOfReports d reports text → IsLossTable d taken text
    to-audit text h = record {
      plan = h.plan;
      planned = h.planned;
      cells = h.cells;
      have = subst (λ cs. HaveCells d (length d.nodes) taken cs) (sym (some-alike h.cells tables (h.each ∙ sym each-some))) have-tables;
      printed = h.printed;
    }

    from-audit : (text : List ℕ) → IsLossTable d taken text → IsTableOfReports d reports text
    from-audit text h = record {
      plan = h.plan;
      planned = h.planned;
      cells = h.cells;
      each = ap (λ cs. map (λ t. Some t) cs) (same-cells h.cells h.have) ∙ each-some;
      printed = h.printed;
    }

    none-left : node_without d reports ≡ None
    none-left = none-without d reports tables (sym each-some)

pub agreed : Known → LossIsAudit
agreed known d taken order texts lawful ordered are =
    let took = taking known d taken lawful [] order texts ordered.within ordered.once (λ k x h. refl) are in
    let says : (node : ℕ) → node < length d.nodes → Says d taken took.after node = λ node h. took.says node (ordered.every node h) in
    record {
      reports = took.after;
      all = took.all;
      none_without = none-left known d taken lawful took.after says;
      same = λ text. (to-audit known d taken lawful took.after says text, from-audit known d taken lawful took.after says text);
    }
