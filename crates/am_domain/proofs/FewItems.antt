-- A value of a text has an array of at most as many items as the text has bytes.
use Rattle.std.proofs.Common.{◌≡◌, ℕ, zero, suc, ◌+◌, ◌≤◌, Bool, true, false, cond, ◌==◌, List, [], length, drop, Option, Some, None, option_map, option_and_then, IfSome, refl, arith}
use Rattle.toml_parser.specs.Lexical.{Read, first, equals, right_bracket, right_brace, skip_ws, skip_blank}
use Rattle.toml_parser.specs.Strings.{Key, key, quoted, starts_string}
use Rattle.toml_parser.specs.Numbers.{unquoted}
use Rattle.toml_parser.specs.declared.scalar.Scalar.{Scalar}
use Rattle.toml_parser.specs.declared.scalar.Scalar.TheVariants.{Boolean, Integer, Float, Datetime}
use Rattle.toml.specs.Data.{Data, array, table, Items, no_items, item, Members, push_item}
use Rattle.toml.specs.Tables.{Nodes, no_nodes, close, put, Expression, Definition, key_value, std_table, array_table}
use Rattle.toml.specs.Parse.{after_byte, after_element, key_equals, keyval, items, members, scalar_data, atom, val, header_key, expression, line}
use Rattle.am_domain.specs.Sizes.{item_count, array_count}
use Rattle.am_domain.proofs.Shorter.{Leaves, none-leaves, some-leaves, if-leaves, then-leaves, drop-short, ws-short, from-short, key-leaves, quoted-leaves, word-leaves}

-- one item more
pub push-count : (ds : Items) (d : Data) → item_count (push_item ds d) ≡ suc (item_count ds)
push-count no_items d = refl
push-count (item e ds) d = push-more (item_count (push_item ds d)) (item_count ds) (push-count ds d)
  where
    push-more : (a b : ℕ) → a ≡ suc b → suc a ≡ suc (suc b)
    push-more a b e = omega (arith, e)

-- what was read, if anything was, is few and leaves at most so many bytes
pub record Reads {A : Type 0} (Few : A → Type 0) (n : ℕ) (r : Read A) : Type 0 where
  pub few : IfSome r (λ p. Few p.0 × (length p.1 ≤ n))

none-reads : {A : Type 0} (Few : A → Type 0) (n : ℕ) → Reads Few n None
none-reads Few n = record { few = tt }

some-reads : {A : Type 0} (Few : A → Type 0) (n : ℕ) (a : A) (text : List ℕ) → Few a → length text ≤ n → Reads Few n (Some (a, text))
some-reads Few n a text f h = record { few = (f, h) }

if-reads : {A : Type 0} (Few : A → Type 0) (n : ℕ) (b : Bool) (r s : Read A) → Reads Few n r → Reads Few n s → Reads Few n (cond b r s)
if-reads Few n true r s h k = h
if-reads Few n false r s h k = k

pub then-reads : {A B : Type 0} (Few : B → Type 0) (n : ℕ) (f : A × List ℕ → Read B) (r : Read A) → Leaves n r → ((p : A × List ℕ) → length p.1 ≤ n → Reads Few n (f p)) → Reads Few n (option_and_then f r)
then-reads Few n f None h k = none-reads Few n
then-reads Few n f (Some p) h k = k p h.most

more-reads : {A B : Type 0} (P : A → Type 0) (Few : B → Type 0) (n : ℕ) (f : A × List ℕ → Read B) (r : Read A) → Reads P n r → ((p : A × List ℕ) → P p.0 → length p.1 ≤ n → Reads Few n (f p)) → Reads Few n (option_and_then f r)
more-reads P Few n f None h k = none-reads Few n
more-reads P Few n f (Some p) h k = k p h.few.0 h.few.1

map-reads : {A B : Type 0} (P : A → Type 0) (Few : B → Type 0) (n : ℕ) (f : A × List ℕ → B × List ℕ) (r : Read A) → Reads P n r → ((p : A × List ℕ) → P p.0 → length p.1 ≤ n → Few (f p).0 × (length (f p).1 ≤ n)) → Reads Few n (option_map f r)
map-reads P Few n f None h k = none-reads Few n
map-reads P Few n f (Some p) h k = record { few = k p h.few.0 h.few.1 }

leaves-reads : {A : Type 0} (Few : A → Type 0) (n : ℕ) (r : Read A) → ((a : A) → Few a) → Leaves n r → Reads Few n r
leaves-reads Few n None f h = none-reads Few n
leaves-reads Few n (Some p) f h = record { few = (f p.0, h.most) }

reads-leaves : {A : Type 0} (Few : A → Type 0) (n : ℕ) (r : Read A) → Reads Few n r → Leaves n r
reads-leaves Few n None h = none-leaves n
reads-leaves Few n (Some p) h = record { most = h.few.1 }

-- ---- what stands between values

-- a text after another, if it is there, is short
record IsShort (n : ℕ) (o : Option (List ℕ)) : Type 0 where
  most : IfSome o (λ t. length t ≤ n)

none-short : (n : ℕ) → IsShort n None
none-short n = record { most = tt }

some-short : (n : ℕ) (t : List ℕ) → length t ≤ n → IsShort n (Some t)
some-short n t h = record { most = h }

if-short : (n : ℕ) (b : Bool) (o p : Option (List ℕ)) → IsShort n o → IsShort n p → IsShort n (cond b o p)
if-short n true o p h k = h
if-short n false o p h k = k

map-short : {B : Type 0} (n : ℕ) (f : List ℕ → B × List ℕ) (o : Option (List ℕ)) → IsShort n o → ((t : List ℕ) → length t ≤ n → length (f t).1 ≤ n) → Leaves n (option_map f o)
map-short n f None h k = none-leaves n
map-short n f (Some t) h k = record { most = k t h.most }

then-short : {B : Type 0} (Few : B → Type 0) (n : ℕ) (f : List ℕ → Read B) (o : Option (List ℕ)) → IsShort n o → ((t : List ℕ) → length t ≤ n → Reads Few n (f t)) → Reads Few n (option_and_then f o)
then-short Few n f None h k = none-reads Few n
then-short Few n f (Some t) h k = k t h.most

short-leaves : {B : Type 0} (n : ℕ) (f : List ℕ → Read B) (o : Option (List ℕ)) → IsShort n o → ((t : List ℕ) → length t ≤ n → Leaves n (f t)) → Leaves n (option_and_then f o)
short-leaves n f None h k = none-leaves n
short-leaves n f (Some t) h k = k t h.most

short-reads : {B : Type 0} (Few : B → Type 0) (n : ℕ) (f : List ℕ → B × List ℕ) (o : Option (List ℕ)) → IsShort n o → ((t : List ℕ) → length t ≤ n → Few (f t).0 × (length (f t).1 ≤ n)) → Reads Few n (option_map f o)
short-reads Few n f None h k = none-reads Few n
short-reads Few n f (Some t) h k = record { few = k t h.most }

any-leaves : {A B : Type 0} (n : ℕ) (f : A → Read B) (o : Option A) → ((a : A) → Leaves n (f a)) → Leaves n (option_and_then f o)
any-leaves n f None k = none-leaves n
any-leaves n f (Some a) k = k a

byte-short : (n byte : ℕ) (text : List ℕ) → length text ≤ n → IsShort n (after_byte byte text)
byte-short n byte text h = if-short n (first text == byte) (Some (drop 1 text)) None (some-short n _ (drop-short n 1 text h)) (none-short n)

blank-short : (n : ℕ) (text : List ℕ) → length text ≤ n → length (skip_blank text) ≤ n
blank-short n text h = from-short n true false text h

element-short : (n closing : ℕ) (text : List ℕ) → length text ≤ n → IsShort n (after_element closing text)
unfolding after_element
element-short n closing text h =
    let rest = blank-short n text h in
    if-short n _ _ _ (some-short n _ (drop-short n 1 (skip_blank text) rest)) (if-short n _ _ _ (some-short n _ rest) (none-short n))

equals-leaves : (n : ℕ) (text : List ℕ) → length text ≤ n → Leaves n (key_equals text)
unfolding key_equals
equals-leaves n text h =
    then-leaves n _ (key text) (key-leaves n 80 [] text h)
    (λ k l. map-short n (λ rest. (k.0, skip_ws rest)) (after_byte equals k.1) (byte-short n equals k.1 l) (λ t m. ws-short n t m))

-- ---- values

-- the array has at most so many items
abbrev pub IsFew : ℕ → Data → Type 0
IsFew n d = array_count d ≤ n

module _ (n : ℕ) (value : List ℕ → Read Data) (reads : (text : List ℕ) → length text ≤ n → Reads (IsFew n) n (value text)) where
  items-reads : (m : ℕ) (found : Items) (text : List ℕ) → item_count found + m ≤ n → length text ≤ n → Reads (λ (ds : Items). item_count ds ≤ n) n (items value m found text)
  unfolding items
  items-reads zero found text few h = none-reads _ n
  items-reads (suc m) found text few h =
      let start = blank-short n text h in
      let Few : Items → Type 0 = λ ds. item_count ds ≤ n in
      let all : Few found = omega arith in
      if-reads Few n _ _ _ (some-reads Few n found (drop 1 (skip_blank text)) all (drop-short n 1 (skip_blank text) start))
      (more-reads (IsFew n) Few n _ (value (skip_blank text)) (reads (skip_blank text) start)
      (λ v few' k. then-short Few n _ (after_element right_bracket v.1) (element-short n right_bracket v.1 k)
      (λ t l. items-reads m (push_item found v.0) t (omega (arith, push-count found v.0)) l)))

  keyval-reads : (text : List ℕ) → length text ≤ n → Reads (λ (e : Key × Data). IsFew n e.1) n (keyval value text)
  keyval-reads text h =
      let Few : Key × Data → Type 0 = λ e. IsFew n e.1 in
      then-reads Few n _ (key_equals text) (equals-leaves n text h)
      (λ k l. map-reads (IsFew n) Few n _ (value k.1) (reads k.1 l) (λ p f m. (f, m)))

  members-leaves : (m : ℕ) (found : Nodes) (text : List ℕ) → length text ≤ n → Leaves n (members value m found text)
  unfolding members
  members-leaves zero found text h = none-leaves n
  members-leaves (suc m) found text h =
      let start = blank-short n text h in
      if-leaves n _ _ _ (some-leaves n (close found) (drop 1 (skip_blank text)) (drop-short n 1 (skip_blank text) start))
      (then-leaves n _ (keyval value (skip_blank text)) (reads-leaves _ n _ (keyval-reads (skip_blank text) start))
      (λ e k. any-leaves n _ (put e.0.0 e.0.1 found) (λ more.
      short-leaves n _ (after_element right_brace e.1) (element-short n right_brace e.1 k) (λ t l. members-leaves m more t l))))

scalar-few : (n : ℕ) (s : Scalar) → IsFew n (scalar_data s)
scalar-few n (Boolean b) = omega arith
scalar-few n (Integer z) = omega arith
scalar-few n (Float x) = omega arith
scalar-few n (Datetime dt) = omega arith

atom-reads : (n : ℕ) (text : List ℕ) → length text ≤ n → Reads (IsFew n) n (atom text)
unfolding atom
atom-reads n text h =
    if-reads (IsFew n) n (starts_string text) _ _
    (map-reads (λ s. Unit {0}) (IsFew n) n _ (quoted text) (leaves-reads _ n _ (λ s. tt) (quoted-leaves n text h)) (λ p u k. (omega arith, k)))
    (map-reads (λ s. Unit {0}) (IsFew n) n _ (unquoted text) (leaves-reads _ n _ (λ s. tt) (word-leaves n text h)) (λ p u k. (scalar-few n p.0, k)))

pub val-reads : (n depth : ℕ) (text : List ℕ) → length text ≤ n → Reads (IsFew n) n (val depth text)
unfolding val
val-reads n zero text h = atom-reads n text h
val-reads n (suc depth) text h =
    let inner = val-reads n depth in
    let list = map-reads (λ (ds : Items). item_count ds ≤ n) (IsFew n) n (λ (p : Items × List ℕ). (array p.0, p.1)) _ (items-reads n (val depth) inner (length text) no_items (drop 1 text) (omega arith) (drop-short n 1 text h)) (λ p f k. (f, k)) in
    let inside = map-reads (λ (ms : Members). Unit {0}) (IsFew n) n (λ (p : Members × List ℕ). (table p.0, p.1)) _ (leaves-reads _ n _ (λ ms. tt) (members-leaves n (val depth) inner (length text) no_nodes (drop 1 text) (drop-short n 1 text h))) (λ p u k. (omega arith, k)) in
    if-reads (IsFew n) n _ _ _ list (if-reads (IsFew n) n _ _ _ inside (atom-reads n text h))

-- ---- lines

-- what a line defines is few
abbrev pub IsFewDefined : ℕ → Definition → Type 0
IsFewDefined n (key_value d) = IsFew n d
IsFewDefined n std_table = Unit {0}
IsFewDefined n array_table = Unit {0}

header-leaves : (n : ℕ) (text : List ℕ) → length text ≤ n → Leaves n (header_key text)
unfolding header_key
header-leaves n text h =
    then-leaves n _ (key (skip_ws text)) (key-leaves n 80 [] (skip_ws text) (ws-short n text h))
    (λ k l. map-short n (λ rest. (k.0, rest)) (after_byte right_bracket k.1) (byte-short n right_bracket k.1 l) (λ t m. m))

expression-reads : (n : ℕ) (text : List ℕ) → length text ≤ n → Reads (λ (e : Expression). IsFewDefined n e.1) n (expression text)
unfolding expression
expression-reads n text h =
    let Few : Expression → Type 0 = λ e. IsFewDefined n e.1 in
    if-reads Few n _ _ _
    (then-reads Few n _ (header_key (drop 2 text)) (header-leaves n (drop 2 text) (drop-short n 2 text h))
    (λ k l. short-reads Few n (λ rest. ((k.0, array_table), rest)) (after_byte right_bracket k.1) (byte-short n right_bracket k.1 l) (λ t m. (tt, m))))
    (if-reads Few n _ _ _
    (map-reads (λ (k : Key). Unit {0}) Few n (λ (p : Key × List ℕ). ((p.0, std_table), p.1)) (header_key (drop 1 text)) (leaves-reads _ n _ (λ k. tt) (header-leaves n (drop 1 text) (drop-short n 1 text h))) (λ p u m. (tt, m)))
    (map-reads (λ (e : Key × Data). IsFew n e.1) Few n (λ (p : (Key × Data) × List ℕ). ((p.0.0, key_value p.0.1), p.1)) (keyval (val 80) text) (keyval-reads n (val 80) (val-reads n 80) text h) (λ p f m. (f, m))))

pub line-reads : (n : ℕ) (text : List ℕ) → length text ≤ n → Reads (λ (e : Expression). IsFewDefined n e.1) n (line text)
unfolding line
line-reads n text h =
    let Few : Expression → Type 0 = λ e. IsFewDefined n e.1 in
    more-reads Few Few n _ (expression text) (expression-reads n text h)
    (λ e f k. if-reads Few n _ _ _ (some-reads Few n e.0 e.1 f k) (none-reads Few n))
