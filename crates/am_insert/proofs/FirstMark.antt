-- The first mark among the options of an area, and whether a PadN without data comes before it.
use Rattle.std.proofs.Common.{arith, refl, sym, ap, subst, ◌∙◌, ◌≡◌, ℕ, ◌+◌, ◌≤◌, Bool, true, false, List, [], ◌∷◌, ◌++◌, length, take, All}
use Rattle.std.proofs.Math.Seq.{take-length}
use Rattle.std.proofs.lemmas.List.{take_all, same_from_push}
use Rattle.std.specs.Bool.{MatchBool}
use Rattle.am_opts.specs.Marking.{Marking, Spells}
use Rattle.am_opts.specs.Options.{Placed, IsOption, IsOptionList, IsOptionsOf, IsLongest, Follow}
use Rattle.am_opts.specs.Laws.{HasOneLongest}
use Rattle.am_ip6.specs.Marks.{IsNoMark, HasNoMark}
use Rattle.am_insert.specs.Stripping.{EndsInPad}
use Rattle.am_insert.specs.Parts.{ShowsFirst}
use Rattle.am_insert.specs.declared.strip.MarkOption.{MarkOption}

-- an option that begins with the six bytes of a mark has no more
six : (bs : List ℕ) (x y z w : ℕ) → IsOption bs → take 6 bs ≡ 0x12 ∷ 4 ∷ x ∷ y ∷ z ∷ w ∷ [] → bs ≡ take 6 bs
six [] x y z w o e = absurd o
six (t ∷ []) x y z w o e = cc
six (t ∷ n ∷ body) x y z w o e =
    let four : n ≡ 4 = cc in
    let size : length body ≤ 4 = omega (arith, o.1, four) in
    sym (take_all 6 (t ∷ n ∷ body) (omega (arith, size)))

spells_all : (bs : List ℕ) (m : Marking) → IsOption bs → Spells (take 6 bs) m → Spells bs m
spells_all bs m o s =
    subst (λ x. Spells x m) (sym (six bs s.x s.y s.z s.w o s.spelled)) s

-- an option no front of which spells a mark is none
pub spells_none :
    (o : Placed) → ((n : ℕ) (m : Marking) → n ≤ length o.bytes → Spells (take n o.bytes) m → ⊥) → IsNoMark o
spells_none o none m s = none (length o.bytes) m (omega arith) (subst (λ x. Spells x m) (sym (take-length o.bytes)) s)

-- an option among others that follow one another
among : (at : ℕ) (xs : List Placed) (x : Placed) (rest : List Placed) → Follow at (xs ++ x ∷ rest) → IsOption x.bytes
among at [] x rest f = f.1
among at (y ∷ ys) x rest f = among (at + length y.bytes) ys x rest f.2

-- whether these options end in a PadN without data
pub record Pads (ends : Bool) (options : List Placed) : Type 0 where
  pub padded : ends ≡ true → EndsInPad options
  pub bare : ends ≡ false → EndsInPad options → ⊥

no_last : (front : List Placed) (pad : Placed) → [] ≡ front ++ pad ∷ [] → ⊥
no_last [] pad e = absurd (cc)
no_last (o ∷ os) pad e = absurd (cc)

pub pads-none : Pads false []
pads-none = record { padded = λ e. absurd (cc (e)); bare = λ e p. no_last p.front p.pad p.split }

-- one more option
pub pads-push :
    (os : List Placed) (o : Placed) (ends : Bool) → MatchBool ends (o.bytes ≡ 1 ∷ 0 ∷ []) (o.bytes ≡ 1 ∷ 0 ∷ [] → ⊥)
    → Pads ends (os ++ o ∷ [])
pads-push os o true is = record {
  padded = λ e. record { front = os; pad = o; split = refl; is_pad = is };
  bare = λ e. absurd (cc (e));
}
pads-push os o false isnt = record {
  padded = λ e. absurd (cc (e));
  bare = λ e p. isnt (ap (λ (x : Placed). x.bytes) (same_from_push os p.front o p.pad p.split).1 ∙ p.is_pad);
}

-- an option list is the longest front of itself
pub whole-list :
    (area : List ℕ) (all : List Placed) → HasOneLongest area → IsOptionList area → IsLongest 0 area all → IsOptionsOf area all
whole-list area all law list longest = law.whole all longest (law.listed all longest list)

-- the option in hand is one
pub in_hand : (area : List ℕ) (all xs rest : List Placed) (x : Placed) → IsOptionsOf area all → all ≡ xs ++ x ∷ rest → IsOption x.bytes
in_hand area all xs rest x list split = among 0 xs x rest (subst (λ o. Follow 0 o) split list.follow)

-- the option in hand is the first mark
pub shows-first :
    (area : List ℕ) (all xs rest : List Placed) (x : Placed) (o : MarkOption) → IsOptionsOf area all → all ≡ xs ++ x ∷ rest
    → All IsNoMark xs → Spells (take 6 x.bytes) o.mark → o.at ≡ x.at → Pads o.padded xs → ShowsFirst area o
shows-first area all xs rest x o list split none spells at pads = record {
  has = record {
    before = xs;
    option = x;
    behind = rest;
    options = subst (λ l. IsOptionsOf area l) split list;
    none_before = none;
    spelled = spells_all x.bytes o.mark (in_hand area all xs rest x list split) spells;
    place_is = at;
  };
  padded = pads.padded;
  bare = pads.bare;
}

-- there was none
pub shows-none : (area : List ℕ) (all xs : List Placed) → IsOptionsOf area all → all ≡ xs → All IsNoMark xs → HasNoMark area
shows-none area all xs list split none = record {
  options = all;
  list = list;
  none = subst (λ l. All IsNoMark l) (sym split) none;
}
