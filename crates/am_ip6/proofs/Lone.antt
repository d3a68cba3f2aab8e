-- A mark that is the one option of the first header is what the walk finds.
use Rattle.std.proofs.Common.{arith, refl, sym, ap, subst, inr, ◌∙◌, ◌≡◌, ℕ, List, [], ◌∷◌, take, drop, slice_index}
use Rattle.std.proofs.lemmas.List.{drop-take, drop-drop, append-nil}
use Rattle.std.proofs.lemmas.List.Elements.{All-nil}
use Rattle.am_opts.specs.Marking.{Marking, Spells}
use Rattle.am_opts.specs.Options.{IsOption, IsOptionsOf}
use Rattle.am_ip6.specs.Fixed.{IsFixed}
use Rattle.am_ip6.specs.Chains.{Lent, Stands, HasHeaders, header_length, first_spot}
use Rattle.am_ip6.specs.Marks.{IsNoMark, HasMark, MarksChain, HasLoneMark}
use Rattle.am_ip6.specs.Brief.{lone_header}
use Rattle.am_ip6.proofs.SeenLemmas.{hop-marked}

-- a spelling is an option
spelling_option : (bytes : List ℕ) (m : Marking) → Spells bytes m → IsOption bytes
spelling_option bytes m s =
    let six : IsOption (0x12 ∷ 4 ∷ s.x ∷ s.y ∷ s.z ∷ s.w ∷ []) = (omega arith, refl) in
    subst IsOption (sym s.spelled) six

-- one option is an option list
alone : (bytes : List ℕ) → IsOption bytes → IsOptionsOf bytes (record { at = 0; bytes = bytes } ∷ [])
alone bytes o = record { whole = sym (append-nil bytes); follow = (refl, o, tt) }

-- whose first mark is the option
alone_mark : (bytes : List ℕ) (m : Marking) → Spells bytes m → HasMark bytes m 0
alone_mark bytes m s = record {
  before = [];
  option = record { at = 0; bytes = bytes };
  behind = [];
  options = alone bytes (spelling_option bytes m s);
  none_before = All-nil IsNoMark;
  spelled = s;
  place_is = refl;
}

-- what stands behind the first two of eight bytes at place 40
area_is : (b : List ℕ) → drop 2 (take 8 (drop 40 b)) ≡ take 6 (drop 42 b)
area_is b = drop-take 2 6 (drop 40 b) ∙ ap (λ (x : List ℕ). take 6 x) (drop-drop 2 40 b)

-- the mark is the first in it
lone-mark : (b : List ℕ) (m : Marking) → HasLoneMark b m → HasMark (drop 2 (lone_header b).bytes) m 0
lone-mark b m lone = subst (λ x. HasMark x m 0) (sym (area_is b)) (alone_mark (take 6 (drop 42 b)) m lone.spelled)

-- the header stands at the first spot
pub lone-stands : (b : List ℕ) (m : Marking) → slice_index b 6 ≡ 0 → HasLoneMark b m → Stands b (first_spot b) (lone_header b)
lone-stands b m zero_is lone =
    let size : header_length b 40 ≡ 8 = omega (arith, lone.size) in
    record {
      walked = inr (inr (zero_is, refl));
      kind = sym zero_is;
      at = refl;
      fits = record { first_two = omega (arith, lone.there, lone.payload); whole = omega (arith, lone.there, lone.payload, size) };
      bytes = ap (λ n. take n (drop 40 b)) (sym size);
      options = λ n. (_, (lone-mark b m lone).options);
    }

pub lone-marked :
    (b : List ℕ) (hs : List Lent) (m : Marking) → IsFixed b → slice_index b 6 ≡ 0 → HasLoneMark b m → HasHeaders b hs → MarksChain 0 hs m 42
lone-marked b hs m fixed zero_is lone has =
    hop-marked b (first_spot b) (lone_header b) hs m 42 fixed refl (lone-stands b m zero_is lone) refl
    (record { place = 0; has = lone-mark b m lone; at_is = refl }) has
