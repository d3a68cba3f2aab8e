-- What stands at a key, from the text that was read there.
use Rattle.std.proofs.Common.{◌≡◌, ℕ, List, [], ◌∷◌, Option, Some, Bool, false, String, Global, string_bytes, bytes_eq, not, ◌||◌, refl, ap, subst}
use Rattle.std.specs.List.{list_any}
use Rattle.std.specs.Map.{keys_of}
use Rattle.toml.specs.View.{members_view}
use Rattle.toml.specs.declared.value.Value.{Value}
use Rattle.am_domain.specs.Keys.{has_other}
use Rattle.std.proofs.lemmas.Option.{same_Some}
use Rattle.toml.specs.Data.{Data}
use Rattle.am_addr.specs.Bits.{Span, IsPrefixText}
use Rattle.am_domain.specs.Texts.{text_of, IsPrefixAt}

-- a text that is the text of no prefix
pub prefix_none : (at : Option Data) (text : List ℕ) → text_of at ≡ Some text → ((span : Span) → IsPrefixText text span → ⊥) → (span : Span) → IsPrefixAt at span → ⊥
prefix_none at text read none span h =
    let same : h.0 ≡ text = same_Some _ _ (rw h.1 at read) in
    none span (subst (λ t. IsPrefixText t span) same h.2)

-- some key of the list is none of these
abbrev pub some_other : List (List ℕ) → List (String Global) → Bool
some_other known [] = false
some_other known (k ∷ ks) = not (list_any (bytes_eq (string_bytes k)) known) || some_other known ks

pub other_keys : (known : List (List ℕ)) (es : List (String Global × Value)) → has_other known (members_view es) ≡ some_other known (keys_of es)
other_keys known [] = refl
other_keys known (e ∷ es) = ap (λ b. not (list_any (bytes_eq (string_bytes e.0)) known) || b) (other_keys known es)
