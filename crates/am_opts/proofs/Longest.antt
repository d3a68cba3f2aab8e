-- The longest front of an area that is an option list: that it is one alone, and how it begins.
use Rattle.std.proofs.Common.{arith, map, ⊎_elim, true, false, cond, leb, refl, ap, sym, subst, ◌∙◌, ◌≡◌, ℕ, zero, suc, ◌+◌, ◌<◌, ◌≤◌, List, [], ◌∷◌, ◌++◌, length, take, drop, append_assoc, length-append}
use Rattle.std.proofs.lemmas.List.{append-nil, take-append-drop, length-take-le, length-drop, drop-drop}
use Rattle.std.proofs.Math.Seq.{drop-append_seam}
use Rattle.std.proofs.lemmas.Grind.{flat_map-append}
use Rattle.std.specs.Iterator.{Yields, YieldsFirstBy}
use Rattle.std.proofs.lemmas.Bool.{leb-true, le-leb, cases_eq}
use Rattle.am_opts.specs.Options.{Placed, IsOption, Follow, joined, IsOptionsOf, IsOptionList, BeginsWithNone, IsLongest}
use Rattle.am_opts.specs.Lent.{option_length, told_length, options_from, options_behind}

-- an option has bytes
pub option_some : (a : List ℕ) → IsOption a → 0 < length a
option_some [] h = absurd h
option_some (k ∷ a) h = omega arith

-- lists of one length, each with more behind it, are the same where the whole lists are
same_front : (a b x y : List ℕ) → length a ≡ length b → a ++ x ≡ b ++ y → (a ≡ b) × (x ≡ y)
same_front [] [] x y l e = (refl, e)
same_front [] (q ∷ b) x y l e = absurd (omega arith)
same_front (p ∷ a) [] x y l e = absurd (omega arith)
same_front (p ∷ a) (q ∷ b) x y l e =
    let tails : a ++ x ≡ b ++ y = cc in
    let heads : p ≡ q = cc in
    let rest = same_front a b x y (omega arith) tails in
    (cc, rest.1)

-- bytes begin with one option alone
option_lengths : (a b x y : List ℕ) → IsOption a → IsOption b → a ++ x ≡ b ++ y → length a ≡ length b
option_lengths [] b x y g h e = absurd g
option_lengths (k ∷ a) [] x y g h e = absurd h
option_lengths (k ∷ []) (l ∷ []) x y g h e = refl
option_lengths (k ∷ []) (l ∷ m ∷ b) x y g h e = let same : k ≡ l = cc in absurd (omega (arith, g, h.0))
option_lengths (k ∷ n ∷ a) (l ∷ []) x y g h e = let same : k ≡ l = cc in absurd (omega (arith, g.0, h))
option_lengths (k ∷ n ∷ a) (l ∷ m ∷ b) x y g h e = let same : n ≡ m = cc in omega (arith, g.1, h.1)

pub one_option : (a b x y : List ℕ) → IsOption a → IsOption b → a ++ x ≡ b ++ y → (a ≡ b) × (x ≡ y)
one_option a b x y g h e = same_front a b x y (option_lengths a b x y g h e) e

none_longer :
    (begin : ℕ) (bytes : List ℕ) → BeginsWithNone bytes
    → (others : List Placed) (after : List ℕ) → Follow begin others → bytes ≡ joined others ++ after
    → (tail : List Placed) × ([] ≡ others ++ tail)
none_longer begin bytes none [] after f e = ([], refl)
none_longer begin bytes none (o ∷ os) after f e =
    absurd (none o.bytes (joined os ++ after) f.1 (e ∙ append_assoc o.bytes (joined os) after))

-- then no options are the longest front
pub longest_none : (begin : ℕ) (bytes : List ℕ) → BeginsWithNone bytes → IsLongest begin bytes []
longest_none begin bytes none = record {
  rest = bytes;
  split = refl;
  follow = tt;
  longest = none_longer begin bytes none;
}

more_longer :
    (o : Placed) (bytes : List ℕ) (os : List Placed) → IsOption o.bytes → IsLongest (o.at + length o.bytes) bytes os
    → (others : List Placed) (after : List ℕ) → Follow o.at others → o.bytes ++ bytes ≡ joined others ++ after
    → (tail : List Placed) × (o ∷ os ≡ others ++ tail)
more_longer o bytes os h l [] after f e = (o ∷ os, refl)
more_longer o bytes os h l (p ∷ ps) after f e =
    let parts = one_option o.bytes p.bytes bytes (joined ps ++ after) h f.1 (e ∙ append_assoc p.bytes (joined ps) after) in
    let same : p ≡ o = grind (arith, f.0, parts.0) in
    let next : Follow (o.at + length o.bytes) ps = subst (λ (b : List ℕ). Follow (o.at + length b) ps) (sym parts.0) f.2 in
    let inner = l.longest ps after next parts.1 in
    (inner.0, cc (inner.1, same))

-- an option and the longest front of what follows it are the longest front
pub longest_more :
    (o : Placed) (bytes : List ℕ) (os : List Placed) → IsOption o.bytes → IsLongest (o.at + length o.bytes) bytes os
    → IsLongest o.at (o.bytes ++ bytes) (o ∷ os)
longest_more o bytes os h l = record {
  rest = l.rest;
  split = ap (λ (x : List ℕ). o.bytes ++ x) l.split ∙ sym (append_assoc o.bytes (joined os) l.rest);
  follow = (refl, h, l.follow);
  longest = more_longer o bytes os h l;
}

-- a list that is shorter by what stands behind it is as long where nothing does
same_lists : (os ps s t : List Placed) → os ≡ ps ++ s → ps ≡ os ++ t → os ≡ ps
same_lists os ps [] t e f = e ∙ append-nil ps
same_lists os ps (x ∷ s) t e f = absurd (omega (arith, length-append ps (x ∷ s), length-append os t, ap length e, ap length f))

-- there is one longest front alone
pub longest_one : (begin : ℕ) (bytes : List ℕ) (os ps : List Placed) → IsLongest begin bytes os → IsLongest begin bytes ps → os ≡ ps
longest_one begin bytes os ps l m =
    let s = l.longest ps m.rest m.follow m.split in
    let t = m.longest os l.rest l.follow l.split in
    same_lists os ps s.0 t.0 s.1 t.1

-- what follows a type that isn't 0 begins with as many bytes as it says
told :
    (kind : ℕ) (after : List ℕ) (n : ℕ) → 0 < kind → told_length after ≡ suc n
    → IsOption (kind ∷ take n after) × (n ≤ length after)
told kind [] n k e = absurd (omega (arith, e))
told kind (size ∷ body) n k e =
    elim (leb size (length body)) as (λ b. leb size (length body) ≡ b → cond b (size + 2) 0 ≡ suc n → IsOption (kind ∷ take n (size ∷ body)) × (n ≤ length (size ∷ body))) [
      | true ↦ λ t f.
          let fits : size ≤ length body = leb-true size (length body) t in
          let is : suc size ≡ n = omega (arith, f) in
          subst (λ m. IsOption (kind ∷ take m (size ∷ body)) × (m ≤ length (size ∷ body))) is
          ((k, length-take-le size body fits), omega arith)
      | false ↦ λ t f. absurd (omega (arith, f))
    ] refl e

-- the length of the option that bytes begin with tells it
found : (bytes : List ℕ) (n : ℕ) → option_length bytes ≡ suc n → IsOption (take (suc n) bytes) × (suc n ≤ length bytes)
found [] n e = absurd (omega (arith, e))
found (zero ∷ after) n e =
    let is : 0 ≡ n = omega (arith, e) in
    subst (λ m. IsOption (zero ∷ take m after) × (suc m ≤ length (zero ∷ after))) is (refl, omega arith)
found (suc k ∷ after) n e = let t = told (suc k) after n (omega arith) e in (t.0, omega (arith, t.1))

-- where bytes begin with an option it isn't 0
pad_told : (k : ℕ) (after : List ℕ) → k ≡ 0 → option_length (k ∷ after) ≡ 0 → ⊥
pad_told zero after h e = omega (arith, e)
pad_told (suc k) after h e = omega (arith, h)

other_told : (k size : ℕ) (rest : List ℕ) → 0 < k → size ≤ length rest → option_length (k ∷ size ∷ rest) ≡ 0 → ⊥
other_told zero size rest h fits e = omega (arith, h)
other_told (suc k) size rest h fits e =
    let f = rw (le-leb size (length rest) fits) at e in omega (arith, f)

lacking : (bytes : List ℕ) → option_length bytes ≡ 0 → BeginsWithNone bytes
lacking bytes e [] after h f = h
lacking bytes e (k ∷ []) after h f = pad_told k after h (sym (ap option_length f) ∙ e)
lacking bytes e (k ∷ size ∷ body) after h f =
    other_told k size (body ++ after) h.0 (omega (arith, h.1, length-append body after)) (sym (ap option_length f) ∙ e)

-- what the computation gives is the longest front, where it may go on for as long as there are bytes
pub from_longest : (more at : ℕ) (bytes : List ℕ) → length bytes ≤ more → IsLongest at bytes (options_from more at bytes)
unfolding options_from
from_longest zero at [] h = longest_none at [] (lacking [] refl)
from_longest zero at (b ∷ bytes) h = absurd (omega arith)
from_longest (suc more) at bytes h =
    elim (option_length bytes) as (λ n. option_length bytes ≡ n → IsLongest at bytes (elim n [
      | zero ↦ []
      | suc m ↦ record { at = at; bytes = take (suc m) bytes } ∷ options_from more (at + suc m) (drop (suc m) bytes)
    ])) [
      | zero ↦ λ e. longest_none at bytes (lacking bytes e)
      | suc m ↦ λ e.
          let f = found bytes m e in
          let size : length (take (suc m) bytes) ≡ suc m = length-take-le (suc m) bytes f.1 in
          let rest = from_longest more (at + suc m) (drop (suc m) bytes) (omega (arith, h, length-drop (suc m) bytes)) in
          let behind = subst (λ k. IsLongest (at + k) (drop (suc m) bytes) (options_from more (at + suc m) (drop (suc m) bytes))) (sym size) rest in
          subst (λ b. IsLongest at b (record { at = at; bytes = take (suc m) bytes } ∷ options_from more (at + suc m) (drop (suc m) bytes)))
          (take-append-drop (suc m) bytes)
          (longest_more (record { at = at; bytes = take (suc m) bytes }) (drop (suc m) bytes) _ f.0 behind)
    ] refl

-- the options behind a place are the longest front of what stands there
pub behind_longest : (area : List ℕ) (at : ℕ) → IsLongest at (drop at area) (options_behind area at)
behind_longest area at = from_longest (length area) at (drop at area) (omega (arith, length-drop at area))

-- where an option stands there, it comes first, and the options behind it follow
pub behind_some :
    (area : List ℕ) (at : ℕ) (bytes after : List ℕ) → at ≤ length area → IsOption bytes → drop at area ≡ bytes ++ after
    → options_behind area at ≡ record { at = at; bytes = bytes } ∷ options_behind area (at + length bytes)
behind_some area at bytes after fits h e =
    let next : drop (at + length bytes) area ≡ after =
    sym (drop-drop (length bytes) at area) ∙ ap (λ (b : List ℕ). drop (length bytes) b) e ∙ drop-append_seam bytes after in
    let rest = subst (λ (b : List ℕ). IsLongest (at + length bytes) b (options_behind area (at + length bytes))) next (behind_longest area (at + length bytes)) in
    let whole = longest_more (record { at = at; bytes = bytes }) after _ h rest in
    longest_one at (drop at area) _ _ (behind_longest area at)
    (subst (λ (b : List ℕ). IsLongest at b (record { at = at; bytes = bytes } ∷ options_behind area (at + length bytes))) (sym e) whole)

-- where none stands there, none follow
pub behind_none : (area : List ℕ) (at : ℕ) → BeginsWithNone (drop at area) → options_behind area at ≡ []
behind_none area at none = longest_one at (drop at area) _ _ (behind_longest area at) (longest_none at (drop at area) none)

-- options have bytes, so there are no more of them than bytes
pub joined_more : (at : ℕ) (os : List Placed) → Follow at os → length os ≤ length (joined os)
joined_more at [] f = omega arith
joined_more at (o ∷ os) f =
    omega (arith, option_some o.bytes f.1, joined_more (at + length o.bytes) os f.2, length-append o.bytes (joined os))

pub longest_few : (at : ℕ) (area : List ℕ) (os : List Placed) → IsLongest at area os → length os ≤ length area
longest_few at area os l =
    omega (arith, joined_more at os l.follow, ap length l.split, length-append (joined os) l.rest)

-- what an iterator has yielded and what is still to come is what was to come
pub yields_rest :
    {S A B : Type 0} (v : A → B) (rest : S → List B) (s : S) (xs : List A) (t : S) → Yields (YieldsFirstBy v rest) s xs t
    → rest s ≡ map v xs ++ rest t
yields_rest v rest s [] t y = ap rest y
yields_rest v rest s (x ∷ xs) t y = let e = yields_rest v rest y.0 xs t y.2 in y.1 ∙ ap (λ (l : List _). v x ∷ l) e

-- and it has yielded all where nothing is still to come
pub yields_all :
    {S A B : Type 0} (v : A → B) (rest : S → List B) (s : S) (xs : List A) (t : S) → Yields (YieldsFirstBy v rest) s xs t
    → rest t ≡ [] → rest s ≡ map v xs
yields_all v rest s xs t y e =
    yields_rest v rest s xs t y ∙ ap (λ (r : List _). map v xs ++ r) e ∙ append-nil (map v xs)

-- options that come first, and one behind them, end within the area
pub room :
    (area : List ℕ) (all xs : List Placed) (x : Placed) (rest : List Placed) → IsLongest 0 area all → all ≡ xs ++ x ∷ rest
    → length (joined xs) + length x.bytes ≤ length area
room area all xs x rest l e =
    let parts = flat_map-append (λ (o : Placed). o.bytes) xs (x ∷ rest) in
    let whole = ap (λ (os : List Placed). length (joined os)) e in
    omega (
      arith,
      ap length l.split,
      length-append (joined all) l.rest,
      whole,
      ap length parts,
      length-append (joined xs) (joined (x ∷ rest)),
      length-append x.bytes (joined rest),
    )

-- a list without elements is empty
none_left : (rest : List ℕ) → length rest ≡ 0 → rest ≡ []
none_left [] e = refl
none_left (x ∷ rest) e = absurd (omega (arith, e))

-- the options of the longest front are the whole area where they have as many bytes
pub all_of : (area : List ℕ) (all : List Placed) → IsLongest 0 area all → length (joined all) ≡ length area → IsOptionsOf area all
all_of area all l e =
    let behind : length l.rest ≡ 0 = omega (arith, ap length l.split, length-append (joined all) l.rest, e) in
    record {
      whole = l.split ∙ ap (λ (r : List ℕ). joined all ++ r) (none_left l.rest behind) ∙ append-nil (joined all);
      follow = l.follow;
    }

-- elsewhere no options are
pub none_of :
    (area : List ℕ) (all : List Placed) → IsLongest 0 area all → (length (joined all) ≡ length area → ⊥)
    → (options : List Placed) → IsOptionsOf area options → ⊥
none_of area all l other options is =
    let whole = is.whole ∙ sym (append-nil (joined options)) in
    let longer = l.longest options [] is.follow whole in
    let parts = flat_map-append (λ (o : Placed). o.bytes) options longer.0 in
    let same = ap (λ (os : List Placed). length (joined os)) longer.1 in
    other (omega (
      arith,
      ap length l.split,
      length-append (joined all) l.rest,
      same,
      ap length parts,
      length-append (joined options) (joined longer.0),
      ap length is.whole,
    ))

-- so they are the whole area where it is an option list
pub all_listed : (area : List ℕ) (all : List Placed) → IsLongest 0 area all → IsOptionList area → length (joined all) ≡ length area
all_listed area all l is =
    ⊎_elim (λ e. e) (λ n. absurd (none_of area all l n is.0 is.1)) (cases_eq (length (joined all)) (length area))

-- lists of options that are the same bytes are the same
same_options : (begin : ℕ) (os ps : List Placed) → Follow begin os → Follow begin ps → joined os ≡ joined ps → os ≡ ps
same_options begin [] [] f g e = refl
same_options begin [] (p ∷ ps) f g e =
    absurd (omega (arith, option_some p.bytes g.1, ap length e, length-append p.bytes (joined ps)))
same_options begin (o ∷ os) [] f g e =
    absurd (omega (arith, option_some o.bytes f.1, ap length e, length-append o.bytes (joined os)))
same_options begin (o ∷ os) (p ∷ ps) f g e =
    let parts = one_option o.bytes p.bytes (joined os) (joined ps) f.1 g.1 e in
    let same : o ≡ p = grind (arith, f.0, g.0, parts.0) in
    let next : Follow (begin + length o.bytes) ps = subst (λ (b : List ℕ). Follow (begin + length b) ps) (sym parts.0) g.2 in
    let rest = same_options (begin + length o.bytes) os ps f.2 next parts.1 in
    cc (same, rest)

-- so an area is an option list in one way
pub list_one : (area : List ℕ) (options others : List Placed) → IsOptionsOf area options → IsOptionsOf area others → options ≡ others
list_one area options others a b = same_options 0 options others a.follow b.follow (sym a.whole ∙ b.whole)
