-- A changed packet written piece by piece.
use Rattle.std.proofs.Common.{arith, refl, sym, ap, subst, ◌∙◌, ◌≡◌, ℕ, ◌+◌, ◌-◌, ◌/◌, ◌%◌, ◌^◌, ◌<◌, ◌≤◌, List, ◌∷◌, ◌++◌, length, take, drop, set, append_assoc, add-one, length-append, Option, Some, None}
use Rattle.std.proofs.Math.Seq.{take-add, take-append-add, take-length}
use Rattle.std.proofs.lemmas.List.{take-append-drop, take_at, length-take-le, length-drop, length-set, set_split, set-append_left, set-append_right, drop-set-lt, take-append-le, drop-drop}
use Rattle.std.specs.Prelude.{Result, Ok, Err, OnErr}
use Rattle.std.specs.Io.KnownBytes.{append_known}
use Rattle.am_base.specs.Sinks.{AppendsFront}
use Rattle.am_insert.specs.Changes.{put_in, without_eight, with_payload}
use Rattle.am_insert.specs.Edits.{moved, goes_on}
use Rattle.am_insert.proofs.ListLemmas.{take-set-in, set-put_in}

appended-twice : (w : Option (List ℕ)) (a b : List ℕ) → append_known (append_known w a) b ≡ append_known w (a ++ b)
appended-twice None a b = refl
appended-twice (Some xs) a b = ap Some (append_assoc xs a b)

-- what holds anyhow holds of an error
pub at-err : {T E P : Type 0} (r : Result T E) → P → OnErr r P
at-err (Ok x) p = tt
at-err (Err e) p = p

-- one piece and then another
pub both-written :
    (old mid new : Option (List ℕ)) (a b : List ℕ) → mid ≡ append_known old a → new ≡ append_known mid b → new ≡ append_known old (a ++ b)
both-written old mid new a b e f = f ∙ ap (λ x. append_known x b) e ∙ appended-twice old a b

-- a front of the first piece
pub first-broken : (old new : Option (List ℕ)) (a b : List ℕ) → AppendsFront old new a → AppendsFront old new (a ++ b)
first-broken old new a b f = (
  f.0,
  omega (arith, f.1, length-append a b),
  f.2 ∙ ap (λ x. append_known old x) (sym (take-append-le f.0 a b f.1)),
)

-- the first piece, and a front of the other
pub second-broken :
    (old mid new : Option (List ℕ)) (a b : List ℕ) → mid ≡ append_known old a → AppendsFront mid new b → AppendsFront old new (a ++ b)
second-broken old mid new a b e f = (
  length a + f.0,
  omega (arith, f.1, length-append a b),
  f.2 ∙ ap (λ x. append_known x (take f.0 b)) e ∙ appended-twice old a (take f.0 b)
      ∙ ap (λ x. append_known old x) (sym (take-append-add a b f.0)),
)

-- the bytes before a place that change, in the whole packet and in the part before the place
pub take-changed :
    (p : List ℕ) (n t b at : ℕ) → 40 ≤ at → t < at → take at (set (with_payload n p) t b) ≡ set (with_payload n (take at p)) t b
take-changed p n t b at whole low =
    take-set-in at (with_payload n p) t b low
    ∙ ap (λ (l : List ℕ). set l t b) (take-set-in at (set p 4 (n / 2 ^ 8)) 5 (n % 2 ^ 8) (omega arith))
    ∙ ap (λ (l : List ℕ). set (set l 5 (n % 2 ^ 8)) t b) (take-set-in at p 4 (n / 2 ^ 8) (omega arith))

pub drop-changed : (p : List ℕ) (n t b at : ℕ) → 40 ≤ at → t < at → drop at (set (with_payload n p) t b) ≡ drop at p
drop-changed p n t b at whole low =
    drop-set-lt at (with_payload n p) t b low
    ∙ drop-set-lt at (set p 4 (n / 2 ^ 8)) 5 (n % 2 ^ 8) (omega arith)
    ∙ drop-set-lt at p 4 (n / 2 ^ 8) (omega arith)

-- the three parts of a packet with eight bytes more
pub put-parts :
    (p ys : List ℕ) (n t b at : ℕ) → 40 ≤ at → t < at
    → (set (with_payload n (take at p)) t b ++ ys) ++ drop at p ≡ put_in (set (with_payload n p) t b) at ys
put-parts p ys n t b at whole low =
    ap (λ (l : List ℕ). (l ++ ys) ++ drop at p) (sym (take-changed p n t b at whole low))
    ∙ ap (λ (l : List ℕ). (take at (set (with_payload n p) t b) ++ ys) ++ l) (sym (drop-changed p n t b at whole low))

-- the two parts of a packet with eight bytes fewer
pub cut-parts :
    (p : List ℕ) (n t b at : ℕ) → 40 ≤ at → t < at
    → set (with_payload n (take at p)) t b ++ drop (at + 8) p ≡ without_eight (set (with_payload n p) t b) at
cut-parts p n t b at whole low =
    ap (λ (l : List ℕ). l ++ drop (at + 8) p) (sym (take-changed p n t b at whole low))
    ∙ ap (λ (l : List ℕ). take at (set (with_payload n p) t b) ++ l) (sym (drop-changed p n t b (at + 8) (omega arith) (omega arith)))

-- a change behind a list
set-behind : (xs ys : List ℕ) (n k b : ℕ) → length xs ≡ n → set (xs ++ ys) (n + k) b ≡ xs ++ set ys k b
set-behind xs ys n k b size =
    let place : n + k - n ≡ k = omega arith in
    set-append_right xs ys n (n + k) b size (omega arith) ∙ ap (λ (i : ℕ). xs ++ set ys i b) place

-- the bytes that change, of a part of the packet that stands behind a list
abbrev pub changed_behind : List ℕ → ℕ → ℕ → ℕ → ℕ → List ℕ
changed_behind list from n t b = set (set (set list (from + 4) (n / 2 ^ 8)) (from + 5) (n % 2 ^ 8)) (from + t) b

behind-changed :
    (xs p : List ℕ) (from n t b : ℕ) → length xs ≡ from → changed_behind (xs ++ p) from n t b ≡ xs ++ set (with_payload n p) t b
behind-changed xs p from n t b size =
    ap (λ (l : List ℕ). set (set l (from + 5) (n % 2 ^ 8)) (from + t) b) (set-behind xs p from 4 (n / 2 ^ 8) size)
    ∙ ap (λ (l : List ℕ). set l (from + t) b) (set-behind xs (set p 4 (n / 2 ^ 8)) from 5 (n % 2 ^ 8) size)
    ∙ set-behind xs (with_payload n p) from t b size

-- eight bytes of a packet behind a list, and others over them
pub overwritten :
    (xs p ys l : List ℕ) (place n : ℕ) → place + 8 ≤ length p → l ≡ xs ++ take (place + 8) p → n ≡ length xs + place
    → take n l ++ ys ≡ xs ++ (take place p ++ ys)
overwritten xs p ys l place n more is size =
    let front : take place (take (place + 8) p) ≡ take place p =
    ap (λ (x : List ℕ). take place x) (take-add place 8 p)
    ∙ take_at (take place p) (take 8 (drop place p)) place (length-take-le place p (omega (arith, more))) in
    ap (λ (k : ℕ). take k l ++ ys) size
    ∙ ap (λ (x : List ℕ). take (length xs + place) x ++ ys) is
    ∙ ap (λ (x : List ℕ). x ++ ys) (take-append-add xs (take (place + 8) p) place ∙ ap (λ (x : List ℕ). xs ++ x) front)
    ∙ append_assoc xs (take place p) ys

-- a change before the place where eight bytes go out
set-without : (xs : List ℕ) (at i a : ℕ) → i < at → at + 8 ≤ length xs → set (without_eight xs at) i a ≡ without_eight (set xs i a) at
set-without xs at i a low within =
    let size = length-take-le at xs (omega (arith, within)) in
    set-append_left (take at xs) (drop (at + 8) xs) i a (omega (arith, low, size))
    ∙ ap (λ (l : List ℕ). l ++ drop (at + 8) xs) (sym (take-set-in at xs i a low))
    ∙ ap (λ (l : List ℕ). take at (set xs i a) ++ l) (sym (drop-set-lt (at + 8) xs i a (omega (arith, low))))

-- and before the one where eight come in or go out
set-moved :
    (p : List ℕ) (at i a : ℕ) (eight : Option (List ℕ)) → i < at → goes_on at eight ≤ length p → set (moved p at eight) i a ≡ moved (set p i a) at eight
set-moved p at i a None low within = set-without p at i a low within
set-moved p at i a (Some ys) low within = set-put_in p ys at i a low within

still-within : (p : List ℕ) (at i a : ℕ) (eight : Option (List ℕ)) → goes_on at eight ≤ length p → goes_on at eight ≤ length (set p i a)
still-within p at i a eight within = omega (arith, within, length-set p i a)

changed-moved :
    (p : List ℕ) (n t b at : ℕ) (eight : Option (List ℕ)) → 40 ≤ at → t < at → goes_on at eight ≤ length p
    → set (with_payload n (moved p at eight)) t b ≡ moved (set (with_payload n p) t b) at eight
changed-moved p n t b at eight whole low within =
    let first = set p 4 (n / 2 ^ 8) in
    let there = still-within p at 4 (n / 2 ^ 8) eight within in
    ap (λ (l : List ℕ). set (set l 5 (n % 2 ^ 8)) t b) (set-moved p at 4 (n / 2 ^ 8) eight (omega (arith, whole)) within)
    ∙ ap (λ (l : List ℕ). set l t b) (set-moved first at 5 (n % 2 ^ 8) eight (omega (arith, whole)) there)
    ∙ set-moved (with_payload n p) at t b eight low (still-within first at 5 (n % 2 ^ 8) eight there)

-- eight bytes that come in or go out behind the first bytes
moved-behind :
    (p : List ℕ) (at e : ℕ) (eight : Option (List ℕ)) → moved p (at + e) eight ≡ take at p ++ moved (drop at p) e eight
moved-behind p at e None =
    let place : at + (e + 8) ≡ at + e + 8 = omega arith in
    ap (λ (l : List ℕ). l ++ drop (at + e + 8) p) (take-add at e p)
    ∙ ap (λ (l : List ℕ). (take at p ++ take e (drop at p)) ++ l) (sym (drop-drop (e + 8) at p ∙ ap (λ (k : ℕ). drop k p) place))
    ∙ append_assoc (take at p) (take e (drop at p)) (drop (e + 8) (drop at p))
moved-behind p at e (Some ys) =
    ap (λ (l : List ℕ). (l ++ ys) ++ drop (at + e) p) (take-add at e p)
    ∙ ap (λ (l : List ℕ). ((take at p ++ take e (drop at p)) ++ ys) ++ l) (sym (drop-drop e at p))
    ∙ ap (λ (l : List ℕ). l ++ drop e (drop at p)) (append_assoc (take at p) (take e (drop at p)) ys)
    ∙ append_assoc (take at p) (take e (drop at p) ++ ys) (drop e (drop at p))

-- a list, and behind it the first bytes and the changed packet
pub behind-moved :
    (xs p : List ℕ) (from at n t b e : ℕ) (eight : Option (List ℕ)) → length xs + at ≡ from → at ≤ length p
    → 40 ≤ e → t < e → goes_on e eight ≤ length (drop at p)
    → changed_behind (xs ++ moved p (at + e) eight) from n t b ≡ xs ++ (take at p ++ moved (set (with_payload n (drop at p)) t b) e eight)
behind-moved xs p from at n t b e eight size within whole low there =
    let size_is : length (xs ++ take at p) ≡ from = omega (arith, size, length-append xs (take at p), length-take-le at p within) in
    ap (λ (l : List ℕ). changed_behind l from n t b)
    (ap (λ (l : List ℕ). xs ++ l) (moved-behind p at e eight) ∙ sym (append_assoc xs (take at p) (moved (drop at p) e eight)))
    ∙ behind-changed (xs ++ take at p) (moved (drop at p) e eight) from n t b size_is
    ∙ ap (λ (l : List ℕ). (xs ++ take at p) ++ l) (changed-moved (drop at p) n t b e eight whole low there)
    ∙ append_assoc xs (take at p) (moved (set (with_payload n (drop at p)) t b) e eight)

-- a change in the first part
pub set-first :
    (p : List ℕ) (n t b at : ℕ) → 40 ≤ at → t < at → at ≤ length p
    → set (with_payload n (take at p)) t b ++ drop at p ≡ set (with_payload n p) t b
set-first p n t b at whole low within =
    ap (λ (l : List ℕ). l ++ drop at p) (sym (take-changed p n t b at whole low))
    ∙ ap (λ (l : List ℕ). take at (set (with_payload n p) t b) ++ l) (sym (drop-changed p n t b at whole low))
    ∙ take-append-drop at (set (with_payload n p) t b)

payload-first : (p : List ℕ) (n : ℕ) → with_payload n (take 40 p) ++ drop 40 p ≡ with_payload n p
payload-first p n =
    ap (λ (l : List ℕ). set l 5 (n % 2 ^ 8) ++ drop 40 p) (sym (take-set-in 40 p 4 (n / 2 ^ 8) (omega arith)))
    ∙ ap (λ (l : List ℕ). l ++ drop 40 p) (sym (take-set-in 40 (set p 4 (n / 2 ^ 8)) 5 (n % 2 ^ 8) (omega arith)))
    ∙ ap (λ (l : List ℕ). take 40 (with_payload n p) ++ l)
    (sym (drop-set-lt 40 (set p 4 (n / 2 ^ 8)) 5 (n % 2 ^ 8) (omega arith) ∙ drop-set-lt 40 p 4 (n / 2 ^ 8) (omega arith)))
    ∙ take-append-drop 40 (with_payload n p)

-- a change in the fixed header
pub front-low :
    (p : List ℕ) (n t b : ℕ) → t < 40 → 40 ≤ length p → set (with_payload n (take 40 p)) t b ++ drop 40 p ≡ set (with_payload n p) t b
front-low p n t b low whole = set-first p n t b 40 (omega arith) low whole

-- a change behind it
pub front-high :
    (p : List ℕ) (n t b : ℕ) → 40 ≤ t → t < length p
    → (with_payload n (take 40 p) ++ take (t - 40) (drop 40 p)) ++ b ∷ drop 1 (drop (t - 40) (drop 40 p)) ≡ set (with_payload n p) t b
front-high p n t b far low =
    let fixed = with_payload n (take 40 p) in
    let rest = drop 40 p in
    let size : length fixed ≡ 40 =
    length-set (set (take 40 p) 4 (n / 2 ^ 8)) 5 (n % 2 ^ 8) ∙ length-set (take 40 p) 4 (n / 2 ^ 8) ∙ length-take-le 40 p (omega (arith, far, low)) in
    append_assoc fixed (take (t - 40) rest) (b ∷ drop 1 (drop (t - 40) rest))
    ∙ ap (λ (l : List ℕ). fixed ++ (take (t - 40) rest ++ b ∷ l)) (drop-drop 1 (t - 40) rest ∙ ap (λ k. drop k rest) (add-one (t - 40)))
    ∙ ap (λ (l : List ℕ). fixed ++ l) (sym (set_split rest (t - 40) b (omega (arith, far, low, length-drop 40 p))))
    ∙ sym (set-append_right fixed rest 40 t b size far)
    ∙ ap (λ (l : List ℕ). set l t b) (payload-first p n)

-- what comes behind the part before the place
abbrev pub tail_of : List ℕ → ℕ → Option (List ℕ) → List ℕ
tail_of p at (Some ys) = ys ++ drop at p
tail_of p at None = drop (at + 8) p

-- the changed packet in two parts
pub edited-parts :
    (p : List ℕ) (n t b at : ℕ) (eight : Option (List ℕ)) → 40 ≤ at → t < at
    → set (with_payload n (take at p)) t b ++ tail_of p at eight ≡ moved (set (with_payload n p) t b) at eight
edited-parts p n t b at None whole low = cut-parts p n t b at whole low
edited-parts p n t b at (Some ys) whole low =
    sym (append_assoc (set (with_payload n (take at p)) t b) ys (drop at p)) ∙ put-parts p ys n t b at whole low

-- a front of the first part is a front of the packet
pub broken-early :
    (old new : Option (List ℕ)) (p front : List ℕ) (n t b at : ℕ) (eight : Option (List ℕ)) → 40 ≤ at → t < at
    → front ≡ take at p → AppendsFront old new (set (with_payload n front) t b)
    → AppendsFront old new (moved (set (with_payload n p) t b) at eight)
broken-early old new p front n t b at eight whole low is f =
    subst (λ l. AppendsFront old new l) (edited-parts p n t b at eight whole low)
    (first-broken old new (set (with_payload n (take at p)) t b) (tail_of p at eight)
    (subst (λ l. AppendsFront old new (set (with_payload n l) t b)) is f))

-- the first part, and a front of the rest
pub broken-late :
    (old mid new : Option (List ℕ)) (p front rest : List ℕ) (n t b at : ℕ) (eight : Option (List ℕ)) → 40 ≤ at → t < at
    → front ≡ take at p → rest ≡ tail_of p at eight → mid ≡ append_known old (set (with_payload n front) t b) → AppendsFront mid new rest
    → AppendsFront old new (moved (set (with_payload n p) t b) at eight)
broken-late old mid new p front rest n t b at eight whole low is rest_is all f =
    subst (λ l. AppendsFront old new l) (edited-parts p n t b at eight whole low)
    (second-broken old mid new (set (with_payload n (take at p)) t b) (tail_of p at eight)
    (all ∙ ap (λ (l : List ℕ). append_known old (set (with_payload n l) t b)) is)
    (subst (λ l. AppendsFront mid new l) rest_is f))

-- the first part, and the rest
pub written-all :
    (old mid new : Option (List ℕ)) (p front rest : List ℕ) (n t b at : ℕ) (eight : Option (List ℕ)) → 40 ≤ at → t < at
    → front ≡ take at p → rest ≡ tail_of p at eight → mid ≡ append_known old (set (with_payload n front) t b) → new ≡ append_known mid rest
    → new ≡ append_known old (moved (set (with_payload n p) t b) at eight)
written-all old mid new p front rest n t b at eight whole low is rest_is all more =
    both-written old mid new (set (with_payload n (take at p)) t b) (tail_of p at eight)
    (all ∙ ap (λ (l : List ℕ). append_known old (set (with_payload n l) t b)) is)
    (more ∙ ap (λ l. append_known mid l) rest_is)
    ∙ ap (λ l. append_known old l) (edited-parts p n t b at eight whole low)

-- the fixed header in an array of its own, with its bytes changed, and the headers after it
pub low-is :
    (p begin copy headers : List ℕ) (n t b : ℕ) → begin ≡ take 40 p → headers ≡ drop 40 p → copy ≡ begin → t < 40 → 40 ≤ length p
    → set (set (set copy 4 (n / 2 ^ 8)) 5 (n % 2 ^ 8)) t b ++ headers ≡ set (with_payload n p) t b
low-is p begin copy headers n t b front back after low whole =
    ap (λ (l : List ℕ). set (with_payload n l) t b ++ headers) (after ∙ front)
    ∙ ap (λ (l : List ℕ). set (with_payload n (take 40 p)) t b ++ l) back
    ∙ front-low p n t b low whole

-- the same, where the byte that changes stands in the headers
high-is :
    (p begin copy headers before behind : List ℕ) (n t b : ℕ) → begin ≡ take 40 p → headers ≡ drop 40 p → copy ≡ begin
    → before ≡ take (t - 40) headers → behind ≡ drop (t - 40) headers → 40 ≤ t → t < length p
    → (with_payload n copy ++ before) ++ b ∷ drop 1 behind ≡ set (with_payload n p) t b
high-is p begin copy headers before behind n t b front back after early late far low =
    ap (λ (l : List ℕ). (with_payload n l ++ before) ++ b ∷ drop 1 behind) (after ∙ front)
    ∙ ap (λ (l : List ℕ). (with_payload n (take 40 p) ++ l) ++ b ∷ drop 1 behind) (early ∙ ap (λ (l : List ℕ). take (t - 40) l) back)
    ∙ ap (λ (l : List ℕ). (with_payload n (take 40 p) ++ take (t - 40) (drop 40 p)) ++ b ∷ drop 1 l) (late ∙ ap (λ (l : List ℕ). drop (t - 40) l) back)
    ∙ front-high p n t b far low

-- of what is written so: a front of the first piece
pub high-early :
    (old new : Option (List ℕ)) (p begin copy headers before behind : List ℕ) (n t b : ℕ) → begin ≡ take 40 p → headers ≡ drop 40 p → copy ≡ begin
    → before ≡ take (t - 40) headers → behind ≡ drop (t - 40) headers → 40 ≤ t → t < length p
    → AppendsFront old new (with_payload n copy ++ before) → AppendsFront old new (set (with_payload n p) t b)
high-early old new p begin copy headers before behind n t b front back after early late far low f =
    subst (λ l. AppendsFront old new l) (high-is p begin copy headers before behind n t b front back after early late far low)
    (first-broken old new (with_payload n copy ++ before) (b ∷ drop 1 behind) f)

-- the first piece, and a front of the second
pub high-late :
    (old mid new : Option (List ℕ)) (p begin copy headers before behind : List ℕ) (n t b : ℕ) → begin ≡ take 40 p → headers ≡ drop 40 p → copy ≡ begin
    → before ≡ take (t - 40) headers → behind ≡ drop (t - 40) headers → 40 ≤ t → t < length p
    → mid ≡ append_known old (with_payload n copy ++ before) → AppendsFront mid new (b ∷ drop 1 behind) → AppendsFront old new (set (with_payload n p) t b)
high-late old mid new p begin copy headers before behind n t b front back after early late far low all f =
    subst (λ l. AppendsFront old new l) (high-is p begin copy headers before behind n t b front back after early late far low)
    (second-broken old mid new (with_payload n copy ++ before) (b ∷ drop 1 behind) all f)

-- and both
pub high-all :
    (old mid new : Option (List ℕ)) (p begin copy headers before behind : List ℕ) (n t b : ℕ) → begin ≡ take 40 p → headers ≡ drop 40 p → copy ≡ begin
    → before ≡ take (t - 40) headers → behind ≡ drop (t - 40) headers → 40 ≤ t → t < length p
    → mid ≡ append_known old (with_payload n copy ++ before) → new ≡ append_known mid (b ∷ drop 1 behind) → new ≡ append_known old (set (with_payload n p) t b)
high-all old mid new p begin copy headers before behind n t b front back after early late far low all more =
    both-written old mid new (with_payload n copy ++ before) (b ∷ drop 1 behind) all more
    ∙ ap (λ l. append_known old l) (high-is p begin copy headers before behind n t b front back after early late far low)

-- the rest of a list from a place on, as a range of it
pub slice-rest : (k : ℕ) (xs : List ℕ) → take (length xs - k) (drop k xs) ≡ drop k xs
slice-rest k xs = ap (λ n. take n (drop k xs)) (sym (length-drop k xs)) ∙ take-length (drop k xs)
