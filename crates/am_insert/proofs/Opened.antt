-- What stands in a packet where nothing hinders that a mark is put in, and what stays of it then.
use Rattle.std.proofs.Common.{arith, refl, sym, ap, subst, ◌∙◌, ◌≡◌, ◌≢◌, inl, inr, ⊎_elim, ℕ, ◌+◌, ◌<◌, ◌≤◌, Bool, List, [], ◌∷◌, ◌++◌, length, slice_index, append_assoc, All}
use Rattle.std.specs.Prelude.{drop}
use Rattle.std.proofs.lemmas.Bool.{cases_eq}
use Rattle.std.proofs.lemmas.List.Elements.{All-nil, All-cons, All-append}
use Rattle.am_opts.specs.Marking.{Marking, IsCanonical}
use Rattle.am_opts.specs.Options.{Placed, IsOptionsOf}
use Rattle.am_ip6.specs.declared.marks.Place.{Place}
use Rattle.am_ip6.specs.declared.marks.Place.TheVariants.{HopByHop, Destination}
use Rattle.am_ip6.specs.Fixed.{IsFixed, limit_of}
use Rattle.am_ip6.specs.Chains.{Lent, Spot, IsChain, HasHeaders, first_spot, spot_behind, spot_after}
use Rattle.am_ip6.specs.Endings.{Ended, EndsSo}
use Rattle.am_ip6.specs.Endings.Ended.{AtNumber, WasCut, IsMalformed}
use Rattle.am_ip6.specs.Marks.{IsNoMark, HasMark, MarksChain, IsPassed}
use Rattle.am_ip6.specs.Marks.Seen.{NoMark}
use Rattle.am_ip6.specs.Seen.{SeenIn}
use Rattle.am_ip6.specs.Laws.{HasOneWalk}
use Rattle.am_insert.specs.Changes.{kind_of, size_place, header_end}
use Rattle.am_insert.specs.declared.insert.InsertError.TheVariants.{Malformed, Cut, AlreadyMarked}
use Rattle.am_insert.specs.Inserting.{Inserted, GetsHeader, PutsHeader, GetsLonger, IsOpen, IsUnmarked, IsMarkedAt, KeepsAddresses}
use Rattle.am_insert.proofs.ListLemmas.{IsRaised, raised-same, raised-length, raised-fixed}
use Rattle.am_insert.proofs.Carried.{stands-size, after-within, after-least, told-before, told-least, same_part}
use Rattle.am_insert.proofs.Headers.{ends_fixed, among-chain}

-- options of which none is the first mark are none
none-marked :
    (area : List ℕ) (before rest : List Placed) → IsOptionsOf area (before ++ rest) → All IsNoMark before
    → ((mark : Marking) (place : ℕ) → HasMark area mark place → ⊥) → All IsNoMark rest
none-marked area before [] list passed never = All-nil IsNoMark
none-marked area before (o ∷ os) list passed never =
    let none : IsNoMark o = λ m s. never m o.at (record {
      before = before;
      option = o;
      behind = os;
      options = list;
      none_before = passed;
      spelled = s;
      place_is = refl;
    }) in
    All-cons IsNoMark o os none
    (none-marked area (before ++ o ∷ []) os
    (subst (λ x. IsOptionsOf area x) (sym (append_assoc before (o ∷ []) os)) list)
    (All-append IsNoMark before (o ∷ []) passed (All-cons IsNoMark o [] none (All-nil IsNoMark))) never)

-- headers of which none is the first with a mark are passed
none-first_marked :
    (p : List ℕ) (kind : ℕ) (before : List Lent) (s : Spot) (rest : List Lent) → kind ≢ 43 → IsChain p s rest
    → All (IsPassed kind) before → ((mark : Marking) (at : ℕ) → MarksChain kind (before ++ rest) mark at → ⊥)
    → All (IsPassed kind) rest
none-first_marked p kind before s [] other chain passed never = All-nil (IsPassed kind)
none-first_marked p kind before s (h ∷ hs) other chain passed never =
    let one : IsPassed kind h =
    ⊎_elim
    (λ is.
    let list = chain.0.options (λ e. other (sym is ∙ chain.0.kind ∙ e)) in
    inr (
      is,
      record {
        options = list.0;
        list = list.1;
        none = none-marked (drop 2 h.bytes) [] list.0 list.1 (All-nil IsNoMark) (λ m place has. never m (h.at + 2 + place) (record {
          before = before;
          header = h;
          behind = hs;
          chain = refl;
          passed = passed;
          of_kind = is;
          marked = record { place = place; has = has; at_is = refl };
        }));
      },
    ))
    (λ differs. inl differs) (cases_eq h.kind kind) in
    All-cons (IsPassed kind) h hs one
    (none-first_marked p kind (before ++ h ∷ []) (spot_behind p h) hs other chain.1
    (All-append (IsPassed kind) before (h ∷ []) passed (All-cons (IsPassed kind) h [] one (All-nil (IsPassed kind))))
    (λ m at c. never m at (subst (λ x. MarksChain kind x m at) (append_assoc before (h ∷ []) hs) c)))

-- what is seen in a packet whose walk ends at a number and whose headers were all passed
nothing-seen :
    (place : Place) (p : List ℕ) (w : Bool) (hs : List Lent) (next at told : ℕ)
    → All (IsPassed (kind_of place)) hs → SeenIn place p w hs (AtNumber next at told) NoMark
nothing-seen HopByHop p w hs next at told passed = (passed, inr (λ c. let e = c.0 in absurd (cc)))
nothing-seen Destination p w hs next at told passed = (passed, λ e. absurd (cc))

-- a first mark is seen
marked-seen :
    (place : Place) (p : List ℕ) (w : Bool) (hs : List Lent) (ended : Ended) (mark : Marking) (at : ℕ)
    → HasHeaders p hs → EndsSo p w hs ended → MarksChain (kind_of place) hs mark at → IsMarkedAt p w place at
marked-seen HopByHop p w hs ended mark at chain ends found =
    (mark, record { headers = hs; ended = ended; chain = chain; ends = ends; seen_in = found })
marked-seen Destination p w hs ended mark at chain ends found =
    (mark, record { headers = hs; ended = ended; chain = chain; ends = ends; seen_in = found })

not-routing : (place : Place) → kind_of place ≢ 43
not-routing HopByHop = λ e. omega (arith, e)
not-routing Destination = λ e. omega (arith, e)

opened :
    (p : List ℕ) (w : Bool) (place : Place) (hs : List Lent) (ended : Ended) → HasHeaders p hs → EndsSo p w hs ended
    → IsOpen p w place → IsUnmarked p w place
opened p w place hs WasCut chain ends open_to = absurd (open_to Cut (record { headers = hs; chain = chain; ends = ends }))
opened p w place hs (IsMalformed at) chain ends open_to =
    absurd (open_to (Malformed at) (record { headers = hs; chain = chain; ends = ends }))
opened p w place hs (AtNumber next at told) chain ends open_to =
    let fixed = ends_fixed p w hs next at told ends in
    let passed = none-first_marked p (kind_of place) [] (first_spot p) hs (not-routing place) (chain.fixed fixed).chain
    (All-nil (IsPassed (kind_of place)))
    (λ m k c. open_to (AlreadyMarked k) (marked-seen place p w hs (AtNumber next at told) m k chain ends c)) in
    record {
      next = next;
      ends = (at, told, record { headers = hs; chain = chain; ends = ends });
      none = record {
        headers = hs;
        ended = AtNumber next at told;
        chain = chain;
        ends = ends;
        seen_in = nothing-seen place p w hs next at told passed;
      };
    }

-- a packet that is open to a mark has none
pub open-unmarked : ((p : List ℕ) (w : Bool) → HasOneWalk p w) → (p : List ℕ) (w : Bool) (place : Place) → IsOpen p w place → IsUnmarked p w place
open-unmarked walks p w place open_to =
    let walk = walks p w in opened p w place walk.headers walk.ended walk.chain walk.ends open_to

-- the addresses stay where none of their bytes is the one that changes
addresses-stay :
    (p q : List ℕ) (t b at : ℕ) → IsRaised p q t b at → IsFixed p → ((i : ℕ) → 8 ≤ i → i < 40 → i ≢ t) → KeepsAddresses p q
addresses-stay p q t b at r fixed other =
    let longer = raised-length p q t b at r in
    let same = λ (i : ℕ) (low : 8 ≤ i) (high : i < 40). raised-same p q t b at r i (omega (arith, high, r.whole)) (other i low high)
    (λ e. omega (arith, e, low)) (λ e. omega (arith, e, low)) in
    record {
      fixed = raised-fixed p q t b at r fixed;
      source = same_part p q 8 16 (omega (arith, fixed.whole)) (omega (arith, fixed.whole, longer))
          (λ i low high. same i (omega (arith, low)) (omega (arith, high)));
      destination = same_part p q 24 16 (omega (arith, fixed.whole)) (omega (arith, fixed.whole, longer))
          (λ i low high. same i (omega (arith, low)) (omega (arith, high)));
    }

-- the byte that announces what follows a chain is no byte of an address
told-apart : (p : List ℕ) (hs : List Lent) → IsChain p (first_spot p) hs → (i : ℕ) → 8 ≤ i → i < 40 → i ≢ (spot_after p (first_spot p) hs).told_at
told-apart p [] chain i low high = λ e. omega (arith, e, low)
told-apart p (h ∷ hs) chain i low high = λ e.
    let size = stands-size p (first_spot p) h chain.0 in
    omega (arith, e, high, told-least p (spot_behind p h) hs chain.1 (omega (arith, size)), chain.0.at)

six : (bytes : List ℕ) (mark : Marking) → IsCanonical bytes mark → length bytes ≡ 6
six bytes mark c = ap length c.spells.spelled

-- a new header
put-behind :
    (p q : List ℕ) (kind : ℕ) (mark : Marking) (hs : List Lent) → IsFixed p → IsChain p (first_spot p) hs
    → PutsHeader p (spot_after p (first_spot p) hs) kind mark q → KeepsAddresses p q
put-behind p q kind mark hs fixed chain puts =
    let s = spot_after p (first_spot p) hs in
    let low : s.at ≤ limit_of p = after-within p (first_spot p) hs chain (omega (arith, fixed.whole)) in
    let r : IsRaised p q s.told_at kind s.at = record {
      eight = s.kind ∷ 0 ∷ puts.spelling;
      size = omega (arith, six puts.spelling mark puts.canonical);
      whole = omega (arith, after-least p (first_spot p) hs chain);
      within = omega (arith, low);
      behind = omega (arith, told-least p (first_spot p) hs chain (omega arith));
      before = told-before p (first_spot p) hs chain (omega arith);
      is = puts.marked_is;
    } in
    addresses-stay p q s.told_at kind s.at r fixed (told-apart p hs chain)

put-new :
    (place : Place) (p q : List ℕ) (mark : Marking) (hs : List Lent) → IsFixed p → IsChain p (first_spot p) hs
    → GetsHeader p hs mark place q → KeepsAddresses p q
put-new HopByHop p q mark hs fixed chain gets = put-behind p q 0 mark [] fixed tt gets.puts
put-new Destination p q mark hs fixed chain gets = put-behind p q 60 mark hs fixed chain gets.puts

-- a header that gets longer
put-longer :
    (place : Place) (p q : List ℕ) (mark : Marking) (hs : List Lent) → IsFixed p → IsChain p (first_spot p) hs
    → GetsLonger p hs mark place q → KeepsAddresses p q
put-longer place p q mark hs fixed chain gets =
    let h = gets.header in
    let parts = among-chain p (first_spot p) gets.first.before h gets.first.behind (subst (λ x. IsChain p (first_spot p) x) gets.first.split chain) in
    let s = spot_after p (first_spot p) gets.first.before in
    let size = stands-size p s h parts.1 in
    let far = after-least p (first_spot p) gets.first.before parts.0 in
    let r : IsRaised p q (size_place h) (slice_index p (size_place h) + 1) (header_end h) = record {
      eight = 1 ∷ 0 ∷ gets.longer.spelling;
      size = omega (arith, six gets.longer.spelling mark gets.longer.canonical);
      whole = omega (arith, far, parts.1.at);
      within = omega (arith, size, parts.1.at, parts.1.fits.whole);
      behind = omega (arith, far, parts.1.at);
      before = omega (arith, size);
      is = gets.longer.marked_is;
    } in
    addresses-stay p q (size_place h) (slice_index p (size_place h) + 1) (header_end h) r fixed (λ i low high e. omega (arith, e, high, far, parts.1.at))

-- a packet keeps its addresses
pub addresses-kept : (p : List ℕ) (mark : Marking) (place : Place) (q : List ℕ) → IsFixed p → Inserted p mark place q → KeepsAddresses p q
addresses-kept p mark place q fixed inserted =
    let chain = (inserted.chain.fixed fixed).chain in
    ⊎_elim (λ g. put-new place p q mark inserted.headers fixed chain g) (λ g. put-longer place p q mark inserted.headers fixed chain g) inserted.put
