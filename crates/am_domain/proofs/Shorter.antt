-- What is read of a text leaves no more text than there was.
use Rattle.std.proofs.Common.{ℕ, zero, suc, ◌≤◌, Bool, true, false, cond, ◌==◌, List, [], ◌∷◌, ◌++◌, length, drop, take, Option, Some, None, is_some, unwrap_or, option_map, option_and_then, IfSome, inl, inr, arith, rules, length-drop}
use Rattle.std.proofs.lemmas.Bool.{cases_Bool}
use Rattle.toml_parser.specs.Lexical.{Read, line_feed, first, starts_newline, skip_ws, skip_from, skip_turn}
use Rattle.toml_parser.specs.Strings.{hex_escape, escape_char, escape, special, prepend, after_piece, body, trim_newline, one_line, quoted, simple_key, key_after, Key}
use Rattle.toml_parser.specs.Numbers.{word_len, word_value, unquoted}

-- what was read, if anything was, leaves at most so many bytes
pub record Leaves {A : Type 0} (n : ℕ) (r : Read A) : Type 0 where
  pub most : IfSome r (λ p. length p.1 ≤ n)

pub none-leaves : {A : Type 0} (n : ℕ) → Leaves {A = A} n None
none-leaves n = record { most = tt }

pub some-leaves : {A : Type 0} (n : ℕ) (a : A) (text : List ℕ) → length text ≤ n → Leaves n (Some (a, text))
some-leaves n a text h = record { most = h }

pub if-leaves : {A : Type 0} (n : ℕ) (b : Bool) (r s : Read A) → Leaves n r → Leaves n s → Leaves n (cond b r s)
if-leaves n true r s h k = h
if-leaves n false r s h k = k

pub then-leaves : {A B : Type 0} (n : ℕ) (f : A × List ℕ → Read B) (r : Read A) → Leaves n r → ((p : A × List ℕ) → length p.1 ≤ n → Leaves n (f p)) → Leaves n (option_and_then f r)
then-leaves n f None h k = none-leaves n
then-leaves n f (Some p) h k = k p h.most

pub map-leaves : {A B : Type 0} (n : ℕ) (f : A × List ℕ → B × List ℕ) (r : Read A) → Leaves n r → ((p : A × List ℕ) → length p.1 ≤ n → length (f p).1 ≤ n) → Leaves n (option_map f r)
map-leaves n f None h k = none-leaves n
map-leaves n f (Some p) h k = record { most = k p h.most }

pub made-leaves : {A B : Type 0} (n : ℕ) (f : A → B × List ℕ) (o : Option A) → ((a : A) → length (f a).1 ≤ n) → Leaves n (option_map f o)
made-leaves n f None k = none-leaves n
made-leaves n f (Some a) k = record { most = k a }

pub drop-short : (n k : ℕ) (text : List ℕ) → length text ≤ n → length (drop k text) ≤ n
drop-short n k text h = omega (arith, length-drop k text)

-- ---- what stands between tokens

pub ws-short : (n : ℕ) (text : List ℕ) → length text ≤ n → length (skip_ws text) ≤ n
unfolding skip_ws
ws-short n text h = drop-short n _ text h

pub from-short : (n : ℕ) (comments inside : Bool) (text : List ℕ) → length text ≤ n → length (skip_from comments inside text) ≤ n
unfolding skip_from
from-short n comments inside [] h = h
from-short n comments inside (c ∷ cs) h =
    let next = from-short n comments (unwrap_or (skip_turn comments inside c (first cs)) false) cs (omega arith) in
    elim (cases_Bool (is_some (skip_turn comments inside c (first cs)))) [
      | inl more ↦ rw more next
      | inr stop ↦ rw stop h
    ]

-- ---- strings

ruleset leaving = (none-leaves, some-leaves, if-leaves, made-leaves, drop-short, ws-short, from-short)

hex-leaves : (n k : ℕ) (text : List ℕ) → length text ≤ n → Leaves n (hex_escape k text)
unfolding hex_escape
hex-leaves n k text h = search (rules, leaving)

char-leaves : (n : ℕ) (text : List ℕ) → length text ≤ n → Leaves n (escape_char text)
unfolding escape_char
char-leaves n text h = search (rules, leaving, hex-leaves)

escape-leaves : (n : ℕ) (multi : Bool) (text : List ℕ) → length text ≤ n → Leaves n (escape multi text)
unfolding escape
escape-leaves n multi text h = if-leaves n _ _ _ (some-leaves n _ _ (from-short n _ _ text h)) (map-leaves n _ _ (char-leaves n text h) (λ p k. k))

special-leaves : (n delim : ℕ) (multi : Bool) (text : List ℕ) → length text ≤ n → Leaves n (special delim multi text)
unfolding special
special-leaves n delim multi text h =
    let more = map-leaves n (λ (p : List ℕ × List ℕ). (Some p.0, p.1)) _ (escape-leaves n multi (drop 1 text) (drop-short n 1 text h)) (λ p k. k) in
    search (rules, leaving, more)

prepend-leaves : (n : ℕ) (front : List ℕ) (r : Read (List ℕ)) → Leaves n r → Leaves n (prepend front r)
prepend-leaves n front r h = map-leaves n (λ (p : List ℕ × List ℕ). (front ++ p.0, p.1)) r h (λ p k. k)

piece-leaves : (n : ℕ) (more : List ℕ → Read (List ℕ)) (piece : Option (List ℕ)) (rest : List ℕ) → ((text : List ℕ) → length text ≤ n → Leaves n (more text)) → length rest ≤ n → Leaves n (after_piece more piece rest)
piece-leaves n more None rest k h = some-leaves n [] rest h
piece-leaves n more (Some bytes) rest k h = prepend-leaves n bytes (more rest) (k rest h)

body-leaves : (n delim : ℕ) (multi : Bool) (m : ℕ) (text : List ℕ) → length text ≤ n → Leaves n (body delim multi m text)
unfolding body
body-leaves n delim multi zero text h = none-leaves n
body-leaves n delim multi (suc m) text h =
    let plain = prepend-leaves n (first text ∷ []) _ (body-leaves n delim multi m (drop 1 text) (drop-short n 1 text h)) in
    let other = then-leaves n (λ (p : Option (List ℕ) × List ℕ). after_piece (body delim multi m) p.0 p.1) _ (special-leaves n delim multi text h)
    (λ p k. piece-leaves n (body delim multi m) p.0 p.1 (λ t f. body-leaves n delim multi m t f) k) in
    search (if-leaves, plain, other)

one-leaves : (n : ℕ) (text : List ℕ) → length text ≤ n → Leaves n (one_line text)
unfolding one_line
one-leaves n text h = body-leaves n _ false _ (drop 1 text) (drop-short n 1 text h)

pub if-short : (n : ℕ) (b : Bool) (x y : List ℕ) → length x ≤ n → length y ≤ n → length (cond b x y) ≤ n
if-short n true x y h k = h
if-short n false x y h k = k

trim-short : (n : ℕ) (text : List ℕ) → length text ≤ n → length (trim_newline text) ≤ n
trim-short n text h =
    if-short n (first text == line_feed) (drop 1 text) (cond (starts_newline text) (drop 2 text) text) (drop-short n 1 text h)
    (if-short n (starts_newline text) (drop 2 text) text (drop-short n 2 text h) h)

pub quoted-leaves : (n : ℕ) (text : List ℕ) → length text ≤ n → Leaves n (quoted text)
unfolding quoted
quoted-leaves n text h =
    let long = body-leaves n (first text) true (length text) (trim_newline (drop 3 text)) (trim-short n (drop 3 text) (drop-short n 3 text h)) in
    let short = one-leaves n text h in
    search (if-leaves, long, short)

-- ---- keys and words

part-leaves : (n : ℕ) (text : List ℕ) → length text ≤ n → Leaves n (simple_key text)
unfolding simple_key
part-leaves n text h =
    let quote = one-leaves n text h in
    search (rules, leaving, quote)

pub key-leaves : (n m : ℕ) (path : List (List ℕ)) (text : List ℕ) → length text ≤ n → Leaves n (key_after m path text)
unfolding key_after
key-leaves n zero path text h = none-leaves n
key-leaves n (suc m) path text h =
    then-leaves n _ _ (part-leaves n text h)
    (λ p k.
    let more = key-leaves n m (path ++ p.0 ∷ []) (skip_ws (drop 1 (skip_ws p.1))) (ws-short n _ (drop-short n 1 _ (ws-short n p.1 k))) in
    let here : Key = (path, p.0) in
    if-leaves n _ _ _ more (some-leaves n here (skip_ws p.1) (ws-short n p.1 k)))

pub word-leaves : (n : ℕ) (text : List ℕ) → length text ≤ n → Leaves n (unquoted text)
unfolding unquoted
word-leaves n text h =
    let word = made-leaves n (λ d. (d, drop (word_len text) text)) (word_value (take (word_len text) text)) (λ d. drop-short n (word_len text) text h) in
    if-leaves n _ _ _ (none-leaves n) word
