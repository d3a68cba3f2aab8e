-- The text of a report, row by row.
use Rattle.std.proofs.Common.{◌≡◌, ◌∙◌, ℕ, zero, suc, ◌+◌, ◌-◌, ◌<◌, List, [], ◌∷◌, ◌++◌, get_or, append_assoc, refl, sym, ap, arith, add-zero, zero-add}
use Rattle.std.specs.Prelude.{flat_map, map, length}
use Rattle.std.specs.List.{range_with_len}
use Rattle.std.proofs.lemmas.List.{append-nil, get_or_default}
use Rattle.std.proofs.lemmas.List.FromFn.{map-range_with_len_more}
use Rattle.std.proofs.lemmas.Grind.{flat_map-append}
use Rattle.am_cells.specs.CellTables.{CellTable, cell_at}
use Rattle.am_cells.specs.declared.cell.Cell.{Cell}
use Rattle.am_domain.specs.Domains.{DomainValue}
use Rattle.am_domain.specs.Values.{FlowValue, NodeValue, no_node}
use Rattle.am_report.specs.Rows.{RowValue, head_line, report_line, row_at, block_rows, report_text, node_name, flow_name, no_flow}

-- one number more
pub range-suc : (a n : ℕ) → range_with_len a (suc n) ≡ range_with_len a n ++ ((a + n) ∷ [])
range-suc a zero = rw (add-zero a) refl
range-suc a (suc n) =
    let e : a + 1 + n ≡ a + suc n = omega arith in
    ap (λ (t : List ℕ). a ∷ t) (rw e at (range-suc (a + 1) n))

-- what one more element gives
pub flat-more : {X Y : Type 0} (f : X → List Y) (xs : List X) (x : X) → flat_map f (xs ++ (x ∷ [])) ≡ flat_map f xs ++ f x
flat-more {X} {Y} f xs x =
    flat_map-append f xs (x ∷ []) ∙ ap (λ (t : List Y). flat_map f xs ++ t) (append-nil (f x))

-- the lines of one more row of a block
pub row-more : (d : DomainValue) (node : ℕ) (cells : CellTable) (block flow : ℕ)
    → flat_map report_line (map (λ f. row_at d node f block (cell_at cells f block)) (range_with_len 0 (flow + 1)))
    ≡ flat_map report_line (map (λ f. row_at d node f block (cell_at cells f block)) (range_with_len 0 flow))
    ++ report_line (row_at d node flow block (cell_at cells flow block))
row-more d node cells block flow =
    let row : ℕ → RowValue = λ f. row_at d node f block (cell_at cells f block) in
    ap (λ (rows : List RowValue). flat_map report_line rows) (map-range_with_len_more row 0 flow flow (zero-add flow))
    ∙ flat-more report_line (map row (range_with_len 0 flow)) (row flow)

-- the lines of one more block
pub block-more : (d : DomainValue) (node : ℕ) (cells : CellTable) (first n : ℕ)
    → flat_map report_line (flat_map (block_rows d node cells) (range_with_len first (suc n)))
    ≡ flat_map report_line (flat_map (block_rows d node cells) (range_with_len first n))
    ++ flat_map report_line (block_rows d node cells (first + n))
block-more d node cells first n =
    let blocks = block_rows d node cells in
    ap (λ (bs : List ℕ). flat_map report_line (flat_map blocks bs)) (range-suc first n)
    ∙ ap (λ (rows : List RowValue). flat_map report_line rows) (flat-more blocks (range_with_len first n) (first + n))
    ∙ flat_map-append report_line (flat_map blocks (range_with_len first n)) (blocks (first + n))

-- after some text, the rows of the first so many flows of a block, and the next one
pub lines-row : (d : DomainValue) (node : ℕ) (cells : CellTable) (block flow : ℕ) (text : List ℕ) (cell : Cell)
    → cell ≡ cell_at cells flow block
    → (text ++ flat_map report_line (map (λ f. row_at d node f block (cell_at cells f block)) (range_with_len 0 flow)))
    ++ report_line (row_at d node flow block cell)
    ≡ text ++ flat_map report_line (map (λ f. row_at d node f block (cell_at cells f block)) (range_with_len 0 (flow + 1)))
lines-row d node cells block flow text cell e =
    let before = flat_map report_line (map (λ f. row_at d node f block (cell_at cells f block)) (range_with_len 0 flow)) in
    append_assoc text before (report_line (row_at d node flow block cell))
    ∙ ap (λ (t : List ℕ). text ++ t)
    (ap (λ (x : Cell). before ++ report_line (row_at d node flow block x)) e ∙ sym (row-more d node cells block flow))

-- the rows of all flows of a block
pub lines-block : (d : DomainValue) (node : ℕ) (cells : CellTable) (block flow : ℕ) (text : List ℕ) → flow ≡ length d.flows
    → text ++ flat_map report_line (map (λ f. row_at d node f block (cell_at cells f block)) (range_with_len 0 flow))
    ≡ text ++ flat_map report_line (block_rows d node cells block)
lines-block d node cells block flow text e =
    ap (λ (n : ℕ). text ++ flat_map report_line (map (λ f. row_at d node f block (cell_at cells f block)) (range_with_len 0 n))) e

-- the lines of no block, of one more, and of all
pub lines-none : (d : DomainValue) (node : ℕ) (cells : CellTable) (n : ℕ) → n ≡ 0
    → head_line ≡ head_line ++ flat_map report_line (flat_map (block_rows d node cells) (range_with_len d.first n))
lines-none d node cells n e =
    sym (append-nil head_line)
    ∙ ap (λ (k : ℕ). head_line ++ flat_map report_line (flat_map (block_rows d node cells) (range_with_len d.first k))) (sym e)

pub lines-more : (d : DomainValue) (node : ℕ) (cells : CellTable) (block n m : ℕ) → d.first + n ≡ block → m ≡ suc n
    → (head_line ++ flat_map report_line (flat_map (block_rows d node cells) (range_with_len d.first n)))
    ++ flat_map report_line (block_rows d node cells block)
    ≡ head_line ++ flat_map report_line (flat_map (block_rows d node cells) (range_with_len d.first m))
lines-more d node cells block n m here next =
    let before = flat_map report_line (flat_map (block_rows d node cells) (range_with_len d.first n)) in
    append_assoc head_line before (flat_map report_line (block_rows d node cells block))
    ∙ ap (λ (t : List ℕ). head_line ++ t)
    (ap (λ (b : ℕ). before ++ flat_map report_line (block_rows d node cells b)) (sym here) ∙ sym (block-more d node cells d.first n)
    ∙ ap (λ (k : ℕ). flat_map report_line (flat_map (block_rows d node cells) (range_with_len d.first k))) (sym next))

pub lines-all : (d : DomainValue) (node : ℕ) (cells : CellTable) (n : ℕ) → n ≡ d.end - d.first
    → head_line ++ flat_map report_line (flat_map (block_rows d node cells) (range_with_len d.first n)) ≡ report_text d node cells
lines-all d node cells n e =
    ap (λ (k : ℕ). head_line ++ flat_map report_line (flat_map (block_rows d node cells) (range_with_len d.first k))) e

-- a row's fields, one by one
pub eight-fields : (a b c x e f g h a' b' c' x' e' f' g' h' : List ℕ)
    → a ≡ a' → b ≡ b' → c ≡ c' → x ≡ x' → e ≡ e' → f ≡ f' → g ≡ g' → h ≡ h'
    → a ∷ b ∷ c ∷ x ∷ e ∷ f ∷ g ∷ h ∷ [] ≡ a' ∷ b' ∷ c' ∷ x' ∷ e' ∷ f' ∷ g' ∷ h' ∷ []
eight-fields a b c x e f g h a' b' c' x' e' f' g' h' p q r s t u v z = cc

pub node-named : (d : DomainValue) (node : ℕ) (nodes : List NodeValue) (n : NodeValue) → nodes ≡ d.nodes → n ≡ get_or nodes node n
    → node < length d.nodes → n.name ≡ node_name d node
node-named d node nodes n e is there =
    ap (λ (x : NodeValue). x.name) (is ∙ ap (λ (xs : List NodeValue). get_or xs node n) e ∙ get_or_default d.nodes node n no_node there)

pub flow-named : (d : DomainValue) (flow : ℕ) (flows : List FlowValue) (f : FlowValue) → flows ≡ d.flows → f ≡ get_or flows flow f
    → flow < length d.flows → f.name ≡ flow_name d flow
flow-named d flow flows f e is there =
    ap (λ (x : FlowValue). x.name) (is ∙ ap (λ (xs : List FlowValue). get_or xs flow f) e ∙ get_or_default d.flows flow f no_flow there)
