-- Options that spell a mark or none, and the first one of a list.
use Rattle.std.proofs.Common.{arith, refl, sym, ap, subst, ◌∙◌, ◌≡◌, ℕ, ◌+◌, ◌≤◌, List, [], ◌∷◌, ◌++◌, length, take, length-append, append_assoc, All, Option, Some, None, IfSome, IfNone, MatchOption}
use Rattle.std.proofs.lemmas.List.Elements.{All-nil, All-cons, All-append}
use Rattle.std.proofs.lemmas.List.{append-nil, take_all}
use Rattle.std.proofs.Math.Seq.{take-length}
use Rattle.std.proofs.lemmas.Grind.{flat_map-append}
use Rattle.am_opts.specs.Marking.{Marking, Spells}
use Rattle.am_opts.specs.Options.{Placed, IsOption, Follow, joined, IsOptionList, IsOptionsOf, IsLongest}
use Rattle.am_ip6.specs.Marks.{IsNoMark, HasMark, HasNoMark}

-- an option that begins with the six bytes of a mark has no more
six : (bs : List ℕ) (x y z w : ℕ) → IsOption bs → take 6 bs ≡ 0x12 ∷ 4 ∷ x ∷ y ∷ z ∷ w ∷ [] → bs ≡ take 6 bs
six [] x y z w o e = absurd o
six (t ∷ []) x y z w o e = cc
six (t ∷ n ∷ body) x y z w o e =
    let four : n ≡ 4 = cc in
    let size : length body ≤ 4 = omega (arith, o.1, four) in
    sym (take_all 6 (t ∷ n ∷ body) (omega (arith, size)))

-- an option no front of which spells a mark is none
pub spells_none :
    (o : Placed) → ((n : ℕ) (m : Marking) → n ≤ length o.bytes → Spells (take n o.bytes) m → ⊥) → IsNoMark o
spells_none o none m s = none (length o.bytes) m (omega arith) (subst (λ x. Spells x m) (sym (take-length o.bytes)) s)

-- what holds anyway holds where nothing is there
pub if_none : {A : Type 0} (f : Option A) (P : Type 0) → P → IfNone f P
if_none None P p = p
if_none (Some x) P p = tt

-- a list without elements is empty
none_left : (rest : List ℕ) → length rest ≡ 0 → rest ≡ []
none_left [] e = refl
none_left (x ∷ rest) e = absurd (omega (arith, e))

-- the longest front is the whole area where it has as many bytes
pub whole_list : (area : List ℕ) (all : List Placed) → IsLongest 0 area all → length (joined all) ≡ length area → IsOptionsOf area all
whole_list area all l e =
    let none : length l.rest ≡ 0 = omega (arith, ap length l.split, length-append (joined all) l.rest, e) in
    record {
      whole = l.split ∙ ap (λ (r : List ℕ). joined all ++ r) (none_left l.rest none) ∙ append-nil (joined all);
      follow = l.follow;
    }

-- and it has as many where the area is an option list
pub listed : (area : List ℕ) (all : List Placed) → IsLongest 0 area all → IsOptionList area → length (joined all) ≡ length area
listed area all l is =
    let tail = l.longest is.0 [] is.1.follow (is.1.whole ∙ sym (append-nil (joined is.0))) in
    omega (
      arith,
      ap length is.1.whole,
      ap length l.split,
      length-append (joined all) l.rest,
      ap (λ x. length (joined x)) tail.1,
      ap length (flat_map-append (λ (o : Placed). o.bytes) is.0 tail.0),
      length-append (joined is.0) (joined tail.0),
    )

-- an option among others that follow one another
among :
    (at : ℕ) (xs : List Placed) (x : Placed) (rest : List Placed) → Follow at (xs ++ x ∷ rest)
    → (x.at ≡ at + length (joined xs)) × IsOption x.bytes
among at [] x rest f = (omega (arith, f.0), f.1)
among at (y ∷ ys) x rest f =
    let more = among (at + length y.bytes) ys x rest f.2 in
    (omega (arith, more.0, length-append y.bytes (joined ys)), more.1)

-- an option of the longest front of an area
pub record StandsIn (area : List ℕ) (xs : List Placed) (x : Placed) : Type 0 where
  pub option : IsOption x.bytes
  -- it stands where those before it end
  pub at : x.at ≡ length (joined xs)
  -- and ends within the area
  pub within : length (joined xs) + length x.bytes ≤ length area

pub stands_in :
    (area : List ℕ) (all xs : List Placed) (x : Placed) (rest : List Placed) → IsLongest 0 area all → all ≡ xs ++ x ∷ rest
    → StandsIn area xs x
stands_in area all xs x rest l e =
    let here = among 0 xs x rest (subst (λ o. Follow 0 o) e l.follow) in
    let parts = flat_map-append (λ (o : Placed). o.bytes) xs (x ∷ rest) in
    record {
      option = here.1;
      at = omega (arith, here.0);
      within = omega (
        arith,
        ap length l.split,
        length-append (joined all) l.rest,
        ap (λ o. length (joined o)) e,
        ap length parts,
        length-append (joined xs) (joined (x ∷ rest)),
        length-append x.bytes (joined rest),
      );
    }

-- this option of these is the first mark
pub record IsFirst (os : List Placed) (mark : Marking) (place : ℕ) : Type 0 where
  pub before : List Placed
  pub option : Placed
  pub behind : List Placed
  pub split : os ≡ before ++ option ∷ behind
  pub none_before : All IsNoMark before
  pub spelled : Spells option.bytes mark
  pub place_is : place ≡ option.at

-- the first mark among these options, or none
abbrev pub FoundIn : Option (Marking × ℕ) → List Placed → Type 0
FoundIn found os = MatchOption found (All IsNoMark os) (λ m. IsFirst os m.0 m.1)

-- one more option, which is looked at where none was found before
pub found-more :
    (f r : Option (Marking × ℕ)) (os : List Placed) (o : Placed) → FoundIn f os
    → IfSome f (λ m. r ≡ Some m) → IfNone f (IfNone r (IsNoMark o)) → IfNone f (IfSome r (λ m. Spells o.bytes m.0))
    → IfNone f (IfSome r (λ m. m.1 ≡ o.at)) → FoundIn r (os ++ o ∷ [])
found-more None None os o f kept none spelled at = All-append IsNoMark os (o ∷ []) f (All-cons IsNoMark o [] none (All-nil IsNoMark))
found-more None (Some m) os o f kept none spelled at = record {
  before = os;
  option = o;
  behind = [];
  split = refl;
  none_before = f;
  spelled = spelled;
  place_is = at;
}
found-more (Some m) r os o f kept none spelled at =
    let P : Option (Marking × ℕ) → Type 0 = λ x. FoundIn x (os ++ o ∷ []) in
    subst P (sym kept) (record {
      before = f.before;
      option = f.option;
      behind = f.behind ++ o ∷ [];
      split = ap (λ x. x ++ o ∷ []) f.split ∙ append_assoc f.before (f.option ∷ f.behind) (o ∷ []);
      none_before = f.none_before;
      spelled = f.spelled;
      place_is = f.place_is;
    })

-- what is found among all options of an area is what the area has
pub found-all :
    (f : Option (Marking × ℕ)) (area : List ℕ) (os : List Placed) → IsOptionsOf area os → FoundIn f os
    → MatchOption f (HasNoMark area) (λ m. HasMark area m.0 m.1)
found-all None area os list f = record { options = os; list = list; none = f }
found-all (Some m) area os list f = record {
  before = f.before;
  option = f.option;
  behind = f.behind;
  options = subst (λ x. IsOptionsOf area x) f.split list;
  none_before = f.none_before;
  spelled = f.spelled;
  place_is = f.place_is;
}

-- the place of an option of an area is within it
pub found-within :
    (f : Option (Marking × ℕ)) (area : List ℕ) (os : List Placed) → IsLongest 0 area os → FoundIn f os
    → IfSome f (λ m. m.1 ≤ length area)
found-within None area os l f = tt
found-within (Some m) area os l f =
    let here = stands_in area os f.before f.option f.behind l f.split in
    omega (arith, here.at, here.within, f.place_is)
