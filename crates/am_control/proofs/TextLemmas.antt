-- The text of a table that is handed on line by line.
use Rattle.std.proofs.Common.{◌≡◌, ◌∙◌, ℕ, ◌+◌, List, [], ◌∷◌, ◌++◌, length, take, drop, Option, Some, sym, ap, arith, append_assoc}
use Rattle.std.specs.Prelude.{flat_map, slice_get}
use Rattle.std.specs.Io.KnownBytes.{append_known}
use Rattle.std.proofs.lemmas.List.{length-append, take-append-le, take-append-drop, take_more, append-nil}
use Rattle.std.proofs.lemmas.List.Concat.{flat_map-append}
use Rattle.std.proofs.lemmas.Option.{slice_get_within, get_or_from_slice_get}
use Rattle.am_base.specs.Sinks.{AppendsFront}

-- the text so far, and the piece of one item more
pub piece-more : {X A : Type 0} (f : X → List A) (head : List A) (xs : List X) (k : ℕ) (x : X) → slice_get xs k ≡ Some x
    → (head ++ flat_map f (take k xs)) ++ f x ≡ head ++ flat_map f (take (k + 1) xs)
piece-more f head xs k x here =
    let within = slice_get_within xs k x here in
    let next : take (k + 1) xs ≡ take k xs ++ x ∷ []
    = take_more xs k x within ∙ ap (λ y. take k xs ++ y ∷ []) (get_or_from_slice_get xs k x x here) in
    append_assoc head (flat_map f (take k xs)) (f x)
    ∙ ap (λ t. head ++ t) (sym (ap (flat_map f) next ∙ flat_map-append f (take k xs) (x ∷ [])
    ∙ ap (λ t. flat_map f (take k xs) ++ t) (append-nil (f x))))

-- the pieces of the first items are a front of all
pub pieces-front : {X A : Type 0} (f : X → List A) (head : List A) (xs : List X) (k : ℕ)
    → head ++ flat_map f xs ≡ (head ++ flat_map f (take k xs)) ++ flat_map f (drop k xs)
pieces-front f head xs k =
    ap (λ t. head ++ t) (sym (ap (flat_map f) (take-append-drop k xs)) ∙ flat_map-append f (take k xs) (drop k xs))
    ∙ sym (append_assoc head (flat_map f (take k xs)) (flat_map f (drop k xs)))

-- a front of a front was appended
pub front-of-front : (old new : Option (List ℕ)) (text part rest : List ℕ) → text ≡ part ++ rest
    → AppendsFront old new part → AppendsFront old new text
front-of-front old new text part rest e f = (
  f.0,
  omega (arith, f.1, ap length e, length-append part rest),
  f.2 ∙ ap (λ x. append_known old x) (sym (ap (λ x. take f.0 x) e ∙ take-append-le f.0 part rest f.1)),
)
