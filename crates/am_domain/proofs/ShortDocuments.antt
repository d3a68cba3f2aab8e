-- The arrays of a short document have few items.
use Rattle.std.proofs.Common.{◌≡◌, ℕ, zero, suc, ◌+◌, ◌^◌, ◌<◌, ◌≤◌, Bool, true, false, cond, ◌==◌, Ordering, Less, Equal, Greater, nat_cmp, List, [], ◌∷◌, length, drop, Option, Some, None, option_map, option_and_then, IfSome, arith}
use Rattle.std.specs.Ordering.{match_ordering}
use Rattle.std.specs.Cmp.Lexicographic.{slice_cmp}
use Rattle.toml_parser.specs.Lexical.{Read, skip_blank}
use Rattle.toml_parser.specs.Strings.{Key}
use Rattle.toml.specs.Data.{table, Members, same_key}
use Rattle.toml.specs.Tables.{implicit, dotted, header, Node, value, open_table, open_array, Nodes, no_nodes, node, get_node, insert, replace, close, close_node, Edit, header_node, dot_node, by_header, by_dot, along_header, along_dots, Definition, key_value, std_table, array_table, Expression, new_node, redefine, at_found, at_key, put, Document, define_as, define}
use Rattle.toml.specs.Parse.{line, lines, skip_bom, parse_document}
use Rattle.am_domain.specs.Sizes.{item_count, array_count, HasFewItems}
use Rattle.am_domain.proofs.Shorter.{drop-short, from-short, if-short}
use Rattle.am_domain.proofs.FewItems.{push-count, IsFewDefined, Reads, line-reads}

-- how many items the array at a key has so far
abbrev size : Node → ℕ
size (value d) = array_count d
size (open_table origin ns) = 0
size (open_array done ns) = suc (item_count done)

-- each of them has at most so many
abbrev AreFew : ℕ → Nodes → Type 0
AreFew m no_nodes = Unit {0}
AreFew m (node k x ns) = (size x ≤ m) × AreFew m ns

-- ---- options

if-some : {A : Type 0} (P : A → Type 0) (b : Bool) (o p : Option A) → IfSome o P → IfSome p P → IfSome (cond b o p) P
if-some P true o p h k = h
if-some P false o p h k = k

map-some : {A B : Type 0} (P : A → Type 0) (Q : B → Type 0) (f : A → B) (o : Option A) → IfSome o P → ((a : A) → P a → Q (f a)) → IfSome (option_map f o) Q
map-some P Q f None h k = tt
map-some P Q f (Some a) h k = k a h

made-some : {A B : Type 0} (Q : B → Type 0) (f : A → B) (o : Option A) → ((a : A) → Q (f a)) → IfSome (option_map f o) Q
made-some Q f None k = tt
made-some Q f (Some a) k = k a

then-some : {A B : Type 0} (P : A → Type 0) (Q : B → Type 0) (f : A → Option B) (o : Option A) → IfSome o P → ((a : A) → P a → IfSome (f a) Q) → IfSome (option_and_then f o) Q
then-some P Q f None h k = tt
then-some P Q f (Some a) h k = k a h

read-some : {A B : Type 0} (Few : A → Type 0) (n : ℕ) (Q : B → Type 0) (f : A × List ℕ → Option B) (r : Read A) → Reads Few n r → ((p : A × List ℕ) → Few p.0 → length p.1 ≤ n → IfSome (f p) Q) → IfSome (option_and_then f r) Q
read-some Few n Q f None h k = tt
read-some Few n Q f (Some p) h k = k p h.few.0 h.few.1

-- ---- nodes

more-few : (m k : ℕ) (ns : Nodes) → m ≤ k → AreFew m ns → AreFew k ns
more-few m k no_nodes le h = tt
more-few m k (node l x ns) le h = (omega (arith, h.0), more-few m k ns le h.1)

if-few : (m : ℕ) (b : Bool) (ns ms : Nodes) → AreFew m ns → AreFew m ms → AreFew m (cond b ns ms)
if-few m true ns ms h k = h
if-few m false ns ms h k = k

ordered-few : (m : ℕ) (o : Ordering) (a b c : Nodes) → AreFew m a → AreFew m b → AreFew m c → AreFew m (match_ordering o a b c)
ordered-few m Less a b c h k l = h
ordered-few m Equal a b c h k l = k
ordered-few m Greater a b c h k l = l

got-few : (m : ℕ) (k : List ℕ) (ns : Nodes) → AreFew m ns → IfSome (get_node k ns) (λ x. size x ≤ m)
got-few m k no_nodes h = tt
got-few m k (node l x ns) h = if-some (λ y. size y ≤ m) (same_key k l) (Some x) (get_node k ns) h.0 (got-few m k ns h.1)

replaced-few : (m : ℕ) (k : List ℕ) (y : Node) (ns : Nodes) → size y ≤ m → AreFew m ns → AreFew m (replace k y ns)
replaced-few m k y no_nodes s h = tt
replaced-few m k y (node l z ns) s h =
    if-few m (same_key k l) (node l y ns) (node l z (replace k y ns)) (s, h.1) (h.0, replaced-few m k y ns s h.1)

inserted-few : (m : ℕ) (k : List ℕ) (y : Node) (ns : Nodes) → size y ≤ m → AreFew m ns → AreFew m (insert k y ns)
inserted-few m k y no_nodes s h = (s, tt)
inserted-few m k y (node l z ns) s h =
    ordered-few m (slice_cmp nat_cmp k l) (node k y (node l z ns)) (node l y ns) (node l z (insert k y ns))
    (s, h) (s, h.1) (h.0, inserted-few m k y ns s h.1)

-- ---- edits

-- after the edit each has at most one item more
abbrev Grows : ℕ → Edit → Type 0
Grows m edit = (ns : Nodes) → AreFew m ns → IfSome (edit ns) (AreFew (suc m))

dot-few : (m : ℕ) (edit : Edit) (x : Node) → IfSome (dot_node edit x) (λ y. size y ≤ suc m)
dot-few m edit (value d) = tt
dot-few m edit (open_table header inner) = tt
dot-few m edit (open_table implicit inner) = made-some (λ y. size y ≤ suc m) (open_table dotted) (edit inner) (λ a. omega arith)
dot-few m edit (open_table dotted inner) = made-some (λ y. size y ≤ suc m) (open_table dotted) (edit inner) (λ a. omega arith)
dot-few m edit (open_array done last) = tt

by-dot-few : (m : ℕ) (k : List ℕ) (edit : Edit) (ns : Nodes) (o : Option Node) → AreFew m ns → IfSome (by_dot k edit ns o) (AreFew (suc m))
by-dot-few m k edit ns None h =
    made-some (AreFew (suc m)) _ (edit no_nodes) (λ new. inserted-few (suc m) k (open_table dotted new) ns (omega arith) (more-few m (suc m) ns (omega arith) h))
by-dot-few m k edit ns (Some x) h =
    map-some (λ y. size y ≤ suc m) (AreFew (suc m)) _ (dot_node edit x) (dot-few m edit x) (λ y s. replaced-few (suc m) k y ns s (more-few m (suc m) ns (omega arith) h))

dots-grow : (m : ℕ) (path : List (List ℕ)) (edit : Edit) → Grows m edit → Grows m (along_dots path edit)
unfolding along_dots
dots-grow m [] edit g ns h = g ns h
dots-grow m (k ∷ path) edit g ns h = by-dot-few m k (along_dots path edit) ns (get_node k ns) h

header-few : (m : ℕ) (edit : Edit) (x : Node) → size x ≤ m → IfSome (header_node edit x) (λ y. size y ≤ suc m)
header-few m edit (value d) s = tt
header-few m edit (open_table origin inner) s = made-some (λ y. size y ≤ suc m) (open_table origin) (edit inner) (λ a. omega arith)
header-few m edit (open_array done last) s = made-some (λ y. size y ≤ suc m) (open_array done) (edit last) (λ a. omega (arith, s))

by-header-few : (m : ℕ) (k : List ℕ) (edit : Edit) (ns : Nodes) (o : Option Node) → IfSome o (λ x. size x ≤ m) → AreFew m ns → IfSome (by_header k edit ns o) (AreFew (suc m))
by-header-few m k edit ns None s h =
    made-some (AreFew (suc m)) _ (edit no_nodes) (λ new. inserted-few (suc m) k (open_table implicit new) ns (omega arith) (more-few m (suc m) ns (omega arith) h))
by-header-few m k edit ns (Some x) s h =
    map-some (λ y. size y ≤ suc m) (AreFew (suc m)) _ (header_node edit x) (header-few m edit x s) (λ y t. replaced-few (suc m) k y ns t (more-few m (suc m) ns (omega arith) h))

headers-grow : (m : ℕ) (path : List (List ℕ)) (edit : Edit) → Grows m edit → Grows m (along_header path edit)
unfolding along_header
headers-grow m [] edit g ns h = g ns h
headers-grow m (k ∷ path) edit g ns h = by-header-few m k (along_header path edit) ns (get_node k ns) (got-few m k ns h) h

new-few : (n m : ℕ) (what : Definition) → n ≤ m → IsFewDefined n what → size (new_node what) ≤ suc m
new-few n m (key_value d) le f = omega (arith, f)
new-few n m std_table le f = omega arith
new-few n m array_table le f = omega arith

again-few : (m : ℕ) (what : Definition) (x : Node) → size x ≤ m → IfSome (redefine what x) (λ y. size y ≤ suc m)
again-few m std_table (open_table implicit inner) s = omega arith
again-few m array_table (open_array done last) s = omega (arith, s, push-count done (table (close last)))
again-few m _ _ s = tt

found-few : (n m : ℕ) (k : List ℕ) (what : Definition) (ns : Nodes) (o : Option Node) → n ≤ m → IsFewDefined n what → IfSome o (λ x. size x ≤ m) → AreFew m ns → IfSome (at_found k what ns o) (AreFew (suc m))
found-few n m k what ns None le f s h = inserted-few (suc m) k (new_node what) ns (new-few n m what le f) (more-few m (suc m) ns (omega arith) h)
found-few n m k what ns (Some x) le f s h =
    map-some (λ y. size y ≤ suc m) (AreFew (suc m)) _ (redefine what x) (again-few m what x s) (λ y t. replaced-few (suc m) k y ns t (more-few m (suc m) ns (omega arith) h))

key-grows : (n m : ℕ) (k : List ℕ) (what : Definition) → n ≤ m → IsFewDefined n what → Grows m (at_key k what)
unfolding at_key
key-grows n m k what le f ns h = found-few n m k what ns (get_node k ns) le f (got-few m k ns h) h

-- ---- documents

defined-few : (n m : ℕ) (doc : Document) (k : Key) (what : Definition) → n ≤ m → IsFewDefined n what → AreFew m doc.0 → IfSome (define_as doc k what) (λ (d : Document). AreFew (suc m) d.0)
defined-few n m doc k (key_value d) le f h =
    map-some (AreFew (suc m)) (λ (d : Document). AreFew (suc m) d.0) _ _ (headers-grow m doc.1 (put k d) (dots-grow m k.0 (at_key k.1 (key_value d)) (key-grows n m k.1 (key_value d) le f)) doc.0 h) (λ r t. t)
defined-few n m doc k std_table le f h =
    map-some (AreFew (suc m)) (λ (d : Document). AreFew (suc m) d.0) _ _ (headers-grow m k.0 (at_key k.1 std_table) (key-grows n m k.1 std_table le f) doc.0 h) (λ r t. t)
defined-few n m doc k array_table le f h =
    map-some (AreFew (suc m)) (λ (d : Document). AreFew (suc m) d.0) _ _ (headers-grow m k.0 (at_key k.1 array_table) (key-grows n m k.1 array_table le f) doc.0 h) (λ r t. t)

define-few : (n m : ℕ) (doc : Document) (e : Expression) → n ≤ m → IsFewDefined n e.1 → AreFew m doc.0 → IfSome (define doc e) (λ (d : Document). AreFew (suc m) d.0)
unfolding define
define-few n m doc e le f h = defined-few n m doc e.0 e.1 le f h

lines-few : (n m count : ℕ) (doc : Document) (text : List ℕ) → n ≤ m → length text ≤ n → AreFew m doc.0 → IfSome (lines count doc text) (λ (d : Document). AreFew (m + count) d.0)
unfolding lines
lines-few n m zero doc text le short h = tt
lines-few n m (suc count) doc text le short h =
    let P : Document → Type 0 = λ d. AreFew (m + suc count) d.0 in
    let Few : Expression → Type 0 = λ e. IsFewDefined n e.1 in
    let start = from-short n true false text short in
    if-some P (length (skip_blank text) == 0) (Some doc) _ (more-few m (m + suc count) doc.0 (omega arith) h)
    (read-some Few n P _ (line (skip_blank text)) (line-reads n (skip_blank text) start)
    (λ e f k. then-some (λ (d : Document). AreFew (suc m) d.0) P _ (define doc e.0) (define-few n m doc e.0 le f h)
    (λ next g. more-lines count next e.1 (lines-few n (suc m) count next e.1 (omega arith) k g))))
  where
    more-lines : (count : ℕ) (next : Document) (rest : List ℕ) → IfSome (lines count next rest) (λ (d : Document). AreFew (suc m + count) d.0) → IfSome (lines count next rest) (λ (d : Document). AreFew (m + suc count) d.0)
    more-lines count next rest h = weaker (lines count next rest) h
      where
        weaker : (o : Option Document) → IfSome o (λ (d : Document). AreFew (suc m + count) d.0) → IfSome o (λ (d : Document). AreFew (m + suc count) d.0)
        weaker None h = tt
        weaker (Some d) h = more-few (suc m + count) (m + suc count) d.0 (omega arith) h

closed-few : (m : ℕ) (x : Node) → m < 2 ^ 32 → size x ≤ m → array_count (close_node x) < 2 ^ 32
closed-few m (value d) lt h = omega (arith, h)
closed-few m (open_table origin ns) lt h = omega arith
closed-few m (open_array done ns) lt h = omega (arith, h, push-count done (table (close ns)))

close-few : (m : ℕ) (ns : Nodes) → m < 2 ^ 32 → AreFew m ns → HasFewItems (close ns)
close-few m no_nodes lt h = tt
close-few m (node k x ns) lt h = (closed-few m x lt h.0, close-few m ns lt h.1)

bom-short : (n : ℕ) (text : List ℕ) → length text ≤ n → length (skip_bom text) ≤ n
unfolding skip_bom
bom-short n text h = if-short n _ (drop 3 text) text (drop-short n 3 text h) h

-- a document of at most 1,048,576 bytes has no long array
parsed-few : (bytes : List ℕ) → length bytes ≤ 1048576 → IfSome (parse_document bytes) HasFewItems
unfolding parse_document
parsed-few bytes short =
    let n = length bytes in
    let le : n ≤ n = omega arith in
    map-some (λ (d : Document). AreFew (n + suc n) d.0) HasFewItems _ _ (lines-few n n (suc n) (no_nodes, []) (skip_bom bytes) le (bom-short n bytes le) tt)
    (λ d h. close-few (n + suc n) d.0 (omega (arith, short)) h)

pub few-items : (bytes : List ℕ) (ms : Members) → length bytes ≤ 1048576 → parse_document bytes ≡ Some ms → HasFewItems ms
few-items bytes ms short is = rw is at (parsed-few bytes short)
