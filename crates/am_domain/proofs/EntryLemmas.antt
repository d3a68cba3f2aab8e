-- Items that are read one after another.
use Rattle.std.proofs.Common.{◌≡◌, ℕ, ◌+◌, ◌<◌, List, [], ◌∷◌, ◌++◌, map, length, get_or, take, drop, Option, refl, ap, sym, ◌∙◌, arith, add-one}
use Rattle.std.proofs.lemmas.List.{take_more, map-append, length-take-le, length-map}
use Rattle.std.proofs.Math.Seq.{split_at}
use Rattle.std.specs.List.{AllZip}
use Rattle.toml.specs.Data.{Data, Members}
use Rattle.toml.specs.View.{view}
use Rattle.toml.specs.declared.value.Value.{Value}
use Rattle.am_domain.proofs.ListLemmas.{zip_more}
use Rattle.am_domain.specs.Entries.{IsTableOf, IsBadItem, IsBadAt}
use Rattle.am_domain.specs.declared.error.Part.{Part}
use Rattle.am_domain.specs.declared.error.Key.{Key}

-- one more item says something
pub says_more : {X : Type 0} (R : Data → X → Type 0) (items : List Value) (i : ℕ) (v : Value) (xs : List X) (x : X) → i < length items → v ≡ get_or items i v
    → AllZip R (map view (take i items)) xs → R (view v) x → AllZip R (map view (take (i + 1) items)) (xs ++ x ∷ [])
says_more R items i v xs x within is all here =
    rw (take_more items i v within) (rw (← is) (rw (map-append view (take i items) (v ∷ [])) (zip_more R _ xs (view v) x all here)))

-- the items around the first bad one
pub bad_at : {X : Type 0} (part : Part) (Says : Members → X → Type 0) (items : List Value) (i index : ℕ) (v : Value) (xs : List X) (key : Option Key) → i < length items → v ≡ get_or items i v → index ≡ i
    → AllZip (IsTableOf Says) (map view (take i items)) xs → IsBadItem part (view v) key → IsBadAt part Says (map view items) index key
bad_at part Says items i index v xs key within is same all bad = record {
  before = map view (take i items);
  bad = view v;
  behind = map view (drop (i + 1) items);
  split = ap (map view) (split_at items i v within ∙ rw (← is, add-one) refl) ∙ map-append view (take i items) (v ∷ drop (i + 1) items);
  place = same ∙ sym (length-map (take i items) view ∙ length-take-le i items (omega arith));
  right = xs;
  each = all;
  is_bad = bad;
}
