-- Pieces of a text that are handed to a buffer, one after another.
use Rattle.std.proofs.Common.{◌≡◌, ◌∙◌, ℕ, ◌+◌, ◌-◌, ◌<◌, ◌≤◌, suc, List, [], ◌∷◌, ◌++◌, length, get_or, take, drop, Option, Some, None, refl, sym, ap, subst, arith, append_assoc, codes, zero-add}
use Rattle.std.specs.Prelude.{ℤ, pos, flat_map, map, slice_get, decimal}
use Rattle.std.specs.Fmt.{signed_decimal}
use Rattle.std.specs.List.{range_with_len}
use Rattle.std.proofs.lemmas.List.{append-nil, take_all, get_or_append_left, get_or_default, map-append}
use Rattle.std.proofs.lemmas.List.Concat.{flat_map-append}
use Rattle.std.proofs.lemmas.List.Folds.{flat_map-map}
use Rattle.std.proofs.lemmas.List.FromFn.{length-range_with_len, get_or-range_with_len, length-map-range_with_len, get_or-map-range_with_len}
use Rattle.std.proofs.lemmas.Fmt.{decimal_digit}
use Rattle.std.proofs.lemmas.Option.{slice_get_read}
use Rattle.am_base.specs.Sinks.{AppendsFront, IsWrittenOf, HandsIn, BreaksOff}
use Rattle.am_domain.specs.Values.{FlowValue}
use Rattle.am_graph.specs.Clusters.{count_of}
use Rattle.am_control.specs.declared.row.Scope.{Scope}
use Rattle.am_control.specs.declared.row.Scope.TheVariants.{Cluster, Network}
use Rattle.am_control.specs.declared.row.LossRow.{LossRow}
use Rattle.am_control.specs.Rows.{Measured, loss_row, flow_rows, scope_rows, loss_rows, scopes}
use Rattle.am_control.specs.Texts.{loss_line, line_start, line_rest, delay_text}
use Rattle.am_control.proofs.TextLemmas.{piece-more, pieces-front, front-of-front}
use Rattle.am_control.proofs.RowLemmas.{scopes-length, scope-network}
use Rattle.am_control.proofs.SideLemmas.{range-more}

-- one text was handed in after another
hands-then :
    (o0 o1 o2 : Option (List ℕ)) (h0 h1 h2 a b : List ℕ)
    → HandsIn o0 h0 a o1 h1 → HandsIn o1 h1 b o2 h2 → HandsIn o0 h0 (a ++ b) o2 h2
hands-then o0 o1 o2 h0 h1 h2 a b f g start text w =
    subst (λ t. IsWrittenOf start o2 h2 t) (append_assoc text a b) (g start (text ++ a) (f start text w))

-- and where the second was broken off
breaks-after :
    (o0 o1 o2 : Option (List ℕ)) (h0 h1 a b : List ℕ)
    → HandsIn o0 h0 a o1 h1 → BreaksOff o1 h1 b o2 → BreaksOff o0 h0 (a ++ b) o2
breaks-after o0 o1 o2 h0 h1 a b f g start text w =
    subst (λ t. AppendsFront start o2 t) (append_assoc text a b) (g start (text ++ a) (f start text w))

-- what broke off is a front of more
breaks-early :
    (o0 o1 : Option (List ℕ)) (h0 a b : List ℕ) → BreaksOff o0 h0 a o1 → BreaksOff o0 h0 (a ++ b) o1
breaks-early o0 o1 h0 a b f start text w =
    front-of-front start o1 (text ++ (a ++ b)) (text ++ a) b (sym (append_assoc text a b)) (f start text w)

-- one piece more was
pub pieces-next : {X : Type 0} (f : X → List ℕ) (xs : List X) (k : ℕ) (x : X) (o0 o1 o2 : Option (List ℕ)) (h0 h1 h2 text : List ℕ)
    → HandsIn o0 h0 (flat_map f (take k xs)) o1 h1 → slice_get xs k ≡ Some x → text ≡ f x → HandsIn o1 h1 text o2 h2
    → HandsIn o0 h0 (flat_map f (take (k + 1) xs)) o2 h2
pieces-next f xs k x o0 o1 o2 h0 h1 h2 text before here is more =
    subst (λ t. HandsIn o0 h0 t o2 h2) (ap (λ t. flat_map f (take k xs) ++ t) is ∙ piece-more f [] xs k x here)
    (hands-then o0 o1 o2 h0 h1 h2 (flat_map f (take k xs)) text before more)

-- one piece more was broken off
pub pieces-broken : {X : Type 0} (f : X → List ℕ) (xs : List X) (k : ℕ) (x : X) (o0 o1 o2 : Option (List ℕ)) (h0 h1 text : List ℕ)
    → HandsIn o0 h0 (flat_map f (take k xs)) o1 h1 → slice_get xs k ≡ Some x → text ≡ f x → BreaksOff o1 h1 text o2
    → BreaksOff o0 h0 (flat_map f xs) o2
pieces-broken f xs k x o0 o1 o2 h0 h1 text before here is more =
    let next = ap (λ t. flat_map f (take k xs) ++ t) is ∙ piece-more f [] xs k x here in
    subst (λ t. BreaksOff o0 h0 t o2) (sym (pieces-front f [] xs (k + 1)))
    (breaks-early o0 o2 h0 (flat_map f (take (k + 1) xs)) (flat_map f (drop (k + 1) xs))
    (subst (λ t. BreaksOff o0 h0 t o2) next (breaks-after o0 o1 o2 h0 h1 (flat_map f (take k xs)) text before more)))

-- all were
pub pieces-done : {X : Type 0} (f : X → List ℕ) (xs : List X) (k : ℕ) (o0 o1 : Option (List ℕ)) (h0 h1 : List ℕ)
    → length xs ≤ k → HandsIn o0 h0 (flat_map f (take k xs)) o1 h1 → HandsIn o0 h0 (flat_map f xs) o1 h1
pieces-done f xs k o0 o1 h0 h1 all before =
    subst (λ t. HandsIn o0 h0 (flat_map f t) o1 h1) (take_all k xs all) before

-- pieces of pieces
pub flat-flat : {X Y A : Type 0} (g : Y → List A) (h : X → List Y) (xs : List X)
    → flat_map g (flat_map h xs) ≡ flat_map (λ x. flat_map g (h x)) xs
flat-flat g h [] = refl
flat-flat g h (x ∷ xs) = flat_map-append g (h x) (flat_map h xs) ∙ ap (λ t. flat_map g (h x) ++ t) (flat-flat g h xs)

flat-same : {X A : Type 0} (f g : X → List A) → ((x : X) → f x ≡ g x) → (xs : List X) → flat_map f xs ≡ flat_map g xs
flat-same f g same [] = refl
flat-same f g same (x ∷ xs) = ap (λ t. t ++ flat_map f xs) (same x) ∙ ap (λ t. g x ++ t) (flat-same f g same xs)

line-joined : (flows : List FlowValue) (r : LossRow) → line_start flows r.scope r.flow ++ line_rest r ≡ loss_line flows r
line-joined flows r = simp append_assoc

-- the row at a place; where there is none, this one
pub no-row : LossRow
no-row = record {
  scope = Network;
  flow = 0;
  block = 0;
  entered = 0;
  left = 0;
  lost = pos 0;
  delay = None;
  d_entered = 0;
  d_left = 0;
  d_delay = None;
}

pub row-there : (rows : List LossRow) (k : ℕ) → k < length rows → slice_get rows k ≡ Some (get_or rows k no-row)
row-there rows k within =
    slice_get_read rows (length rows) k (get_or rows k no-row) refl within (get_or_default rows k no-row (get_or rows k no-row) within)

-- the line of the row at a place, put from its end
pub line-put : (rows : List LossRow) (k : ℕ) (d : LossRow) (start t0 t1 t2 t3 : List ℕ) → k < length rows
    → t0 ≡ [] → t1 ≡ line_rest (get_or rows k d) ++ t0 → t2 ≡ start ++ t1 → t3 ≡ t2
    → t3 ≡ start ++ line_rest (get_or rows k no-row)
line-put rows k d start t0 t1 t2 t3 within e0 e1 e2 e3 =
    e3 ∙ e2 ∙ ap (λ t. start ++ t) (e1 ∙ ap (λ t. line_rest (get_or rows k d) ++ t) e0 ∙ append-nil (line_rest (get_or rows k d))
    ∙ ap line_rest (get_or_default rows k d no-row within))

-- the rows of a flow before a block: none before the first, and one more behind each
abbrev pub rows-before : Measured → Scope → ℕ → ℕ → List LossRow
rows-before m scope flow block = map (loss_row m scope flow) (range_with_len m.plan.first (block - m.plan.first))

pub flow-none : (m : Measured) (scope : Scope) (flow block : ℕ) → block ≡ m.plan.first → rows-before m scope flow block ≡ []
flow-none m scope flow block is =
    let none : block - m.plan.first ≡ 0 = omega (arith, is) in
    rw none refl

pub flow-some : (m : Measured) (scope : Scope) (flow block : ℕ) → length (rows-before m scope flow block) ≡ block - m.plan.first
flow-some m scope flow block = length-map-range_with_len (loss_row m scope flow) m.plan.first (block - m.plan.first)

pub flow-more : (m : Measured) (scope : Scope) (flow block : ℕ) (row : LossRow) → m.plan.first ≤ block → row ≡ loss_row m scope flow block
    → rows-before m scope flow block ++ row ∷ [] ≡ rows-before m scope flow (block + 1)
flow-more m scope flow block row from is =
    let f = loss_row m scope flow in
    let first = m.plan.first in
    let count = block - first in
    let next : block + 1 - first ≡ suc count = omega (arith, from) in
    let here : first + count ≡ block = omega (arith, from) in
    sym (ap (λ n. map f (range_with_len first n)) next ∙ ap (map f) (range-more first count)
    ∙ map-append f (range_with_len first count) ((first + count) ∷ [])
    ∙ ap (λ b. map f (range_with_len first count) ++ f b ∷ []) here ∙ ap (λ r. map f (range_with_len first count) ++ r ∷ []) (sym is))

pub flow-all : (m : Measured) (scope : Scope) (flow block : ℕ) → block ≡ m.plan.end → rows-before m scope flow block ≡ flow_rows m scope flow
flow-all m scope flow block is = rw is refl

-- the rows of a flow in a scope begin alike
pub flow-lines : (m : Measured) (flows : List FlowValue) (scope : Scope) (flow : ℕ) (start : List ℕ) → start ≡ line_start flows scope flow
    → flat_map (λ r. start ++ line_rest r) (flow_rows m scope flow) ≡ flat_map (loss_line flows) (flow_rows m scope flow)
unfolding loss_row
flow-lines m flows scope flow start is =
    let blocks = range_with_len m.plan.first (m.plan.end - m.plan.first) in
    let row = loss_row m scope flow in
    flat_map-map (λ r. start ++ line_rest r) row blocks
    ∙ flat-same (λ b. start ++ line_rest (row b)) (λ b. loss_line flows (row b))
    (λ b. ap (λ s. s ++ line_rest (row b)) is ∙ line-joined flows (row b)) blocks
    ∙ sym (flat_map-map (loss_line flows) row blocks)

-- the number at a place of those from 0 on
pub number-at : (count k : ℕ) → k < count → slice_get (range_with_len 0 count) k ≡ Some k
number-at count k below =
    slice_get_read (range_with_len 0 count) count k k (sym (length-range_with_len 0 count)) below
    (sym (get_or-range_with_len 0 count k k below ∙ zero-add k))

-- the scope of a cluster, and that of the network behind them
pub cluster-at : (count k : ℕ) → k < count → slice_get (scopes count) k ≡ Some (Cluster k)
cluster-at count k below =
    slice_get_read (scopes count) (count + 1) k (Cluster k) (sym (scopes-length count)) (omega arith)
    (sym (get_or_append_left (map (λ k. Cluster k) (range_with_len 0 count)) (Network ∷ []) (Cluster k) k
    (omega (arith, length-map-range_with_len (λ k. Cluster k) 0 count))
    ∙ get_or-map-range_with_len (λ k. Cluster k) 0 count k k (Cluster k) below (omega arith)))

pub network-at : (count : ℕ) → slice_get (scopes count) count ≡ Some Network
network-at count =
    slice_get_read (scopes count) (count + 1) count Network (sym (scopes-length count)) (omega arith) (sym (scope-network count))

rest-pieces : (t a b c d e f g h : List ℕ)
    → a ++ 44 ∷ (b ++ 44 ∷ (c ++ 44 ∷ (d ++ 44 ∷ (e ++ 44 ∷ (f ++ 44 ∷ (g ++ 44 ∷ (h ++ 10 ∷ t)))))))
    ≡ (a ++ codes "," ++ b ++ codes "," ++ c ++ codes "," ++ d ++ codes "," ++ e ++ codes "," ++ f ++ codes "," ++ g ++ codes "," ++ h ++ codes "\n") ++ t
rest-pieces t a b c d e f g h = simp append_assoc

-- what stands behind the scope and the flow of a row's line, put piece by piece from its end
pub rest-put : (r : LossRow) (z : ℤ) (t0 t1 t2 t3 t4 t5 t6 t7 t8 t9 t10 t11 t12 t13 t14 t15 t16 : List ℕ)
    → z ≡ r.lost
    → t1 ≡ 10 ∷ t0
    → t2 ≡ delay_text r.d_delay ++ t1
    → t3 ≡ 44 ∷ t2
    → t4 ≡ decimal r.d_left ++ t3
    → t5 ≡ 44 ∷ t4
    → t6 ≡ decimal r.d_entered ++ t5
    → t7 ≡ 44 ∷ t6
    → t8 ≡ delay_text r.delay ++ t7
    → t9 ≡ 44 ∷ t8
    → t10 ≡ signed_decimal z ++ t9
    → t11 ≡ 44 ∷ t10
    → t12 ≡ decimal r.left ++ t11
    → t13 ≡ 44 ∷ t12
    → t14 ≡ decimal r.entered ++ t13
    → t15 ≡ 44 ∷ t14
    → t16 ≡ decimal r.block ++ t15
    → t16 ≡ line_rest r ++ t0
rest-put r z t0 t1 t2 t3 t4 t5 t6 t7 t8 t9 t10 t11 t12 t13 t14 t15 t16 ez e1 e2 e3 e4 e5 e6 e7 e8 e9 e10 e11 e12 e13 e14 e15 e16 =
    rw (e16, e15, e14, e13, e12, e11, e10, e9, e8, e7, e6, e5, e4, e3, e2, e1, ez)
    (rest-pieces t0 (decimal r.block) (decimal r.entered) (decimal r.left) (signed_decimal r.lost) (delay_text r.delay)
    (decimal r.d_entered) (decimal r.d_left) (delay_text r.d_delay))

start-pieces : (scope name t : List ℕ) → scope ++ 44 ∷ (name ++ 44 ∷ t) ≡ (scope ++ codes "," ++ name ++ codes ",") ++ t
start-pieces scope name t = simp append_assoc

-- how a line begins, put piece by piece from its end
pub start-put : (scope name t0 t1 t2 t3 t4 : List ℕ)
    → t1 ≡ 44 ∷ t0 → t2 ≡ name ++ t1 → t3 ≡ 44 ∷ t2 → t4 ≡ scope ++ t3
    → t4 ≡ (scope ++ codes "," ++ name ++ codes ",") ++ t0
start-put scope name t0 t1 t2 t3 t4 e1 e2 e3 e4 = rw (e4, e3, e2, e1) (start-pieces scope name t0)

-- the lines of all rows are those of each scope
pub rows-flat : (m : Measured) (flows : List FlowValue)
    → flat_map (loss_line flows) (loss_rows m) ≡ flat_map (λ scope. flat_map (loss_line flows) (scope_rows m scope)) (scopes (count_of m.plan.clusters))
unfolding loss_rows
rows-flat m flows = flat-flat (loss_line flows) (scope_rows m) (scopes (count_of m.plan.clusters))

-- the digit of 0
pub decimal-zero : decimal 0 ≡ codes "0"
decimal-zero = decimal_digit 0 (omega arith)

quiet-pieces : (block : List ℕ) → block ++ codes "," ++ codes "0" ++ codes "," ++ codes "0" ++ codes "," ++ codes "0" ++ codes "," ++ codes "0" ++ codes "," ++ codes "0" ++ codes "," ++ codes "0" ++ codes "," ++ codes "0" ++ codes "\n" ≡ block ++ codes ",0,0,0,0,0,0,0\n"
quiet-pieces block = simp append_assoc

-- the line of a row in which each number behind the block is 0
pub quiet-rest : (r : LossRow) → r.entered ≡ 0 → r.left ≡ 0 → r.lost ≡ pos 0 → delay_text r.delay ≡ codes "0"
    → r.d_entered ≡ 0 → r.d_left ≡ 0 → delay_text r.d_delay ≡ codes "0"
    → line_rest r ≡ decimal r.block ++ codes ",0,0,0,0,0,0,0\n"
quiet-rest r e l z d de dl dd = rw (e, l, z, d, de, dl, dd, decimal-zero) (quiet-pieces (decimal r.block))
