-- Bytes that are gathered in front of a sink.
use Rattle.std.proofs.Common.{◌≡◌, ℕ, ◌+◌, List, [], ◌++◌, length, take, Option, None, Some, refl, ap, sym, ◌∙◌, append_assoc, arith}
use Rattle.std.proofs.Math.Seq.{take-append-add}
use Rattle.std.proofs.lemmas.List.{append-nil, length-append, take-append-le}
use Rattle.std.specs.Prelude.{Result, Ok, Err, OnErr}
use Rattle.std.specs.Io.KnownBytes.{append_known}
use Rattle.am_base.specs.Sinks.{AppendsFront, IsWrittenOf, HandsIn, BreaksOff, WritesAll, WritesFront}
use Rattle.am_base.proofs.Appends.{append_known-twice}

nothing : (w : Option (List ℕ)) → w ≡ append_known w []
nothing None = refl
nothing (Some xs) = ap Some (sym (append-nil xs))

-- with nothing handed in, nothing is held
pub gathers-nothing : (b : List ℕ) → b ≡ [] → (start : Option (List ℕ)) → IsWrittenOf start start b []
gathers-nothing b e start = record { moved = []; appended = nothing start; handed = sym e }

-- all that was held was appended
pub wrote-all : (old new : Option (List ℕ)) (held : List ℕ) → new ≡ append_known old held → WritesAll old held new
wrote-all old new held e start text w =
    e ∙ ap (λ x. append_known x held) w.appended ∙ append_known-twice start w.moved held ∙ ap (λ x. append_known start x) (sym w.handed)

-- a front of it was
pub wrote-front : (old new : Option (List ℕ)) (held : List ℕ) → AppendsFront old new held → WritesFront old held new
wrote-front old new held f start text w = (
  length w.moved + f.0,
  omega (arith, f.1, ap length w.handed, length-append w.moved held),
  f.2 ∙ ap (λ x. append_known x (take f.0 held)) w.appended ∙ append_known-twice start w.moved (take f.0 held)
      ∙ ap (λ x. append_known start x) (sym (ap (λ x. take (length w.moved + f.0) x) w.handed ∙ take-append-add w.moved held f.0)),
)

-- bytes that fit are held behind the others
pub held-more : (old : Option (List ℕ)) (held bytes kept : List ℕ) → kept ≡ held ++ bytes → HandsIn old held bytes old kept
held-more old held bytes kept e start text w = record {
  moved = w.moved;
  appended = w.appended;
  handed = ap (λ x. x ++ bytes) w.handed ∙ append_assoc w.moved held bytes ∙ ap (λ x. w.moved ++ x) (sym e);
}

all-moved : (start now : Option (List ℕ)) (text kept : List ℕ) → kept ≡ [] → now ≡ append_known start text → IsWrittenOf start now kept text
all-moved start now text kept e a = record { moved = text; appended = a; handed = sym (append-nil text) ∙ ap (λ x. text ++ x) (sym e) }

-- all that was held was handed on, and the bytes after it
pub flushed-then :
    (old now new : Option (List ℕ)) (held between bytes kept : List ℕ)
    → WritesAll old held now → between ≡ [] → HandsIn now between bytes new kept → HandsIn old held bytes new kept
flushed-then old now new held between bytes kept all e more start text w = more start text (all-moved start now text between e (all start text w))

-- the bytes themselves were handed on, with nothing held before them or after
pub passed-on :
    (old new : Option (List ℕ)) (held bytes kept : List ℕ)
    → held ≡ [] → kept ≡ [] → new ≡ append_known old bytes → HandsIn old held bytes new kept
passed-on old new held bytes kept e f a start text w =
    let all : old ≡ append_known start text = wrote-all old old held (nothing old ∙ ap (λ x. append_known old x) (sym e)) start text w in
    all-moved start new (text ++ bytes) kept f (a ∙ ap (λ x. append_known x bytes) all ∙ append_known-twice start text bytes)

-- and a front of them
pub passed-front :
    (old new : Option (List ℕ)) (held bytes : List ℕ)
    → held ≡ [] → AppendsFront old new bytes → BreaksOff old held bytes new
passed-front old new held bytes e f start text w =
    wrote-front old new bytes f start (text ++ bytes) (held-more old held bytes bytes (sym (ap (λ x. x ++ bytes) e)) start text w)

pub flushed-front :
    (old now new : Option (List ℕ)) (held between bytes : List ℕ)
    → WritesAll old held now → between ≡ [] → BreaksOff now between bytes new → BreaksOff old held bytes new
flushed-front old now new held between bytes all e front start text w = front start text (all-moved start now text between e (all start text w))

-- a front of what was handed in is one of more
pub broke-off : (old new : Option (List ℕ)) (held bytes : List ℕ) → WritesFront old held new → BreaksOff old held bytes new
broke-off old new held bytes front start text w =
    let f = front start text w in (
      f.0,
      omega (arith, f.1, length-append text bytes),
      f.2 ∙ ap (λ x. append_known start x) (sym (take-append-le f.0 text bytes f.1)),
    )

-- what holds anyhow holds of an error
pub at-err : {T E P : Type 0} (r : Result T E) → P → OnErr r P
at-err (Ok x) p = tt
at-err (Err e) p = p
