-- A mark that was put into a packet comes out again, and leaves the packet as it was.
use Rattle.std.proofs.Common.{arith, refl, sym, ap, subst, ◌∙◌, ◌≡◌, ◌≢◌, inl, inr, ⊎_elim, ℕ, ◌+◌, ◌-◌, ◌/◌, ◌%◌, ◌^◌, ◌<◌, ◌≤◌, Bool, true, List, [], ◌∷◌, ◌++◌, map, length, take, drop, set, slice_index, append_assoc, length-append, All}
use Rattle.std.proofs.lemmas.List.{append-nil, length-take-le, length-drop, get_or-drop, take_at, drop_at, drop-append-le, drop-set-lt, drop-take}
use Rattle.std.proofs.lemmas.List.Elements.{All-nil, All-cons, All-append, All-map, All-weaker}
use Rattle.std.proofs.lemmas.Grind.{flat_map-append}
use Rattle.am_opts.specs.Marking.{Marking, Spells}
use Rattle.am_opts.specs.Options.{Placed, IsOption, Follow, joined, IsOptionsOf}
use Rattle.am_ip6.specs.declared.marks.Place.{Place}
use Rattle.am_ip6.specs.declared.marks.Place.TheVariants.{HopByHop, Destination}
use Rattle.am_ip6.specs.Fixed.{IsFixed, payload_of, limit_of}
use Rattle.am_ip6.specs.Chains.{Lent, Spot, IsWalked, Stands, IsChain, first_spot, spot_after, header_length}
use Rattle.am_ip6.specs.Endings.{Ended}
use Rattle.am_ip6.specs.Marks.{IsNoMark, HasMark, HasNoMark, MarksChain, IsPassed}
use Rattle.am_ip6.specs.Marks.Seen.{NoMark}
use Rattle.am_ip6.specs.Seen.{SeenIn}
use Rattle.am_ip6.specs.Laws.{HasOneWalk}
use Rattle.am_insert.specs.Changes.{IsBytes, kind_of, put_in, without_eight, lengthened, shortened, with_payload, size_place, header_end}
use Rattle.am_insert.specs.Inserting.{IsFirstOf, HasNoneOf, PutsHeader, Lengthens, GetsHeader, Inserted, IsUnmarked}
use Rattle.am_insert.specs.Stripping.{Stripped}
use Rattle.am_insert.proofs.ListLemmas.{IsRaised, raised-same, raised-byte, raised-length, raised-limit, raised-fixed, raised-back, length-raised}
use Rattle.am_insert.proofs.Carried.{as_in, front-carried, stands-size, after-within, after-least, told-before, told-least, told-kind, goes_on_with, behind_two, same_spots}
use Rattle.am_insert.proofs.Headers.{among-chain, ends_fixed, one_of}

-- a spelling has six bytes, and is an option
six : (bytes : List ℕ) (m : Marking) → Spells bytes m → length bytes ≡ 6
six bytes m s = ap length s.spelled

spelling_option : (bytes : List ℕ) (m : Marking) → Spells bytes m → IsOption bytes
spelling_option bytes m s =
    let one : IsOption (0x12 ∷ 4 ∷ s.x ∷ s.y ∷ s.z ∷ s.w ∷ []) = (omega arith, refl) in
    subst IsOption (sym s.spelled) one

-- an option at a place, and a PadN without data
abbrev option_at : ℕ → List ℕ → Placed
option_at at bytes = record { at = at; bytes = bytes }

abbrev pad_at : ℕ → Placed
pad_at at = option_at at (1 ∷ 0 ∷ [])

pad-none : (at : ℕ) → IsNoMark (pad_at at)
pad-none at m s = absurd (cc (s.spelled))

-- one option alone
pub alone_mark : (bytes : List ℕ) (m : Marking) → Spells bytes m → HasMark bytes m 0
alone_mark bytes m s = record {
  before = [];
  option = option_at 0 bytes;
  behind = [];
  options = record { whole = sym (append-nil bytes); follow = (refl, spelling_option bytes m s, tt) };
  none_before = All-nil IsNoMark;
  spelled = s;
  place_is = refl;
}

-- options that follow others
follow-append :
    (at : ℕ) (xs ys : List Placed) → Follow at xs → Follow (at + length (joined xs)) ys → Follow at (xs ++ ys)
follow-append at [] ys f g = subst (λ n. Follow n ys) (omega arith) g
follow-append at (x ∷ xs) ys f g = (
  f.0,
  f.1,
  follow-append (at + length x.bytes) xs ys f.2
      (subst (λ n. Follow n ys) (omega (arith, length-append x.bytes (joined xs))) g),
)

-- an area without a mark, and behind it a PadN without data and a spelling
padded_mark :
    (area bytes : List ℕ) (os : List Placed) (m : Marking) → IsOptionsOf area os → All IsNoMark os → Spells bytes m
    → IsOptionsOf (area ++ 1 ∷ 0 ∷ bytes) ((os ++ pad_at (length area) ∷ []) ++ option_at (length area + 2) bytes ∷ [])
padded_mark area bytes os m list none s =
    let tail = pad_at (length area) ∷ option_at (length area + 2) bytes ∷ [] in
    let all : os ++ tail ≡ (os ++ pad_at (length area) ∷ []) ++ option_at (length area + 2) bytes ∷ [] =
    sym (append_assoc os (pad_at (length area) ∷ []) (option_at (length area + 2) bytes ∷ [])) in
    let pad_option : IsOption (1 ∷ 0 ∷ []) = (omega arith, refl) in
    let behind : Follow (length area) tail = (refl, pad_option, (refl, spelling_option bytes m s, tt)) in
    subst (λ o. IsOptionsOf (area ++ 1 ∷ 0 ∷ bytes) o) all
    (record {
      whole =
          ap (λ (l : List ℕ). area ++ 1 ∷ 0 ∷ l) (sym (append-nil bytes))
          ∙ ap (λ (l : List ℕ). l ++ 1 ∷ 0 ∷ (bytes ++ [])) list.whole
          ∙ sym (flat_map-append (λ (o : Placed). o.bytes) os tail);
      follow =
          let ends : length area ≡ 0 + length (joined os) = omega (arith, ap length list.whole) in
          follow-append 0 os tail list.follow (subst (λ n. Follow n tail) ends behind);
    })

-- the first mark of such an area
abbrev padded_first :
    (area bytes : List ℕ) (os : List Placed) (m : Marking) → IsOptionsOf area os → All IsNoMark os → Spells bytes m
    → HasMark (area ++ 1 ∷ 0 ∷ bytes) m (length area + 2)
padded_first area bytes os m list none s = record {
  before = os ++ pad_at (length area) ∷ [];
  option = option_at (length area + 2) bytes;
  behind = [];
  options = padded_mark area bytes os m list none s;
  none_before =
      All-append IsNoMark os (pad_at (length area) ∷ []) none
      (All-cons IsNoMark (pad_at (length area)) [] (pad-none (length area)) (All-nil IsNoMark));
  spelled = s;
  place_is = refl;
}

-- what stands where bytes came in
drop-put_in : (xs ys : List ℕ) (at : ℕ) → at ≤ length xs → drop at (put_in xs at ys) ≡ ys ++ drop at xs
drop-put_in xs ys at within =
    ap (λ (l : List ℕ). drop at l) (append_assoc (take at xs) ys (drop at xs))
    ∙ drop_at (take at xs) (ys ++ drop at xs) at (length-take-le at xs within)

-- none of the headers is of the kind, and each is passed
none_passed : (kind : ℕ) (q : List ℕ) (hs : List Lent) → HasNoneOf kind hs → All (IsPassed kind) (map (as_in q) hs)
none_passed kind q hs none =
    All-map (IsPassed kind) (as_in q) hs
    (All-weaker (λ h. h.kind ≢ kind) (λ h. IsPassed kind (as_in q h)) (λ h n. inl n) hs none)

-- the part of a header that got longer, where bytes came in behind it
part_longer :
    (x ys : List ℕ) (a n : ℕ) → 2 ≤ n → a + n ≤ length x
    → drop 2 (take (n + length ys) (drop a (put_in x (a + n) ys))) ≡ drop 2 (take n (drop a x)) ++ ys
part_longer x ys a n two within =
    let size : length (take (a + n) x) ≡ a + n = length-take-le (a + n) x within in
    let part : length (take n (drop a x)) ≡ n = length-take-le n (drop a x) (omega (arith, within, length-drop a x)) in
    let from : drop a (put_in x (a + n) ys) ≡ (take n (drop a x) ++ ys) ++ drop (a + n) x =
    drop-append-le a (take (a + n) x ++ ys) (drop (a + n) x) (omega (arith, length-append (take (a + n) x) ys, size))
    ∙ ap (λ (l : List ℕ). l ++ drop (a + n) x) (drop-append-le a (take (a + n) x) ys (omega (arith, size)))
    ∙ ap (λ (l : List ℕ). (l ++ ys) ++ drop (a + n) x) (drop-take a n x) in
    ap (λ (l : List ℕ). drop 2 (take (n + length ys) l)) from
    ∙ ap (λ (l : List ℕ). drop 2 l)
    (take_at (take n (drop a x) ++ ys) (drop (a + n) x) (n + length ys) (omega (arith, length-append (take n (drop a x)) ys, part)))
    ∙ drop-append-le 2 (take n (drop a x)) ys (omega (arith, part, two))

-- the bytes of a packet from a place on, where those before it change
drop-raised : (p : List ℕ) (t b n : ℕ) → 6 ≤ n → t < n → drop n (lengthened p t b) ≡ drop n p
drop-raised p t b n six_low low =
    let m = payload_of p + 8 in
    drop-set-lt n (with_payload m p) t b low
    ∙ drop-set-lt n (set p 4 (m / 2 ^ 8)) 5 (m % 2 ^ 8) (omega arith)
    ∙ drop-set-lt n p 4 (m / 2 ^ 8) (omega arith)

-- where no mark is found, all headers were passed
seen_passed :
    (place : Place) (p : List ℕ) (w : Bool) (hs : List Lent) (e : Ended) → SeenIn place p w hs e NoMark → All (IsPassed (kind_of place)) hs
seen_passed HopByHop p w hs e seen = seen.0
seen_passed Destination p w hs e seen = seen.0

-- a header of the kind that was passed has no mark
unmarked_of : (kind : ℕ) (h : Lent) → h.kind ≡ kind → IsPassed kind h → HasNoMark (drop 2 h.bytes)
unmarked_of kind h is passed = ⊎_elim (λ other. absurd (other is)) (λ both. both.1) passed

-- what is known of walks
module _ (walks : (packet : List ℕ) (whole : Bool) → HasOneWalk packet whole) where
  -- a new header behind a chain of headers of other kinds
  new-undone :
      (p q : List ℕ) (m : Marking) (place : Place) (hs : List Lent) → IsFixed p → slice_index p 5 < 2 ^ 8
      → IsChain p (first_spot p) hs → HasNoneOf (kind_of place) hs
      → IsWalked (record { kind = kind_of place; at = (spot_after p (first_spot p) hs).at; told_at = (spot_after p (first_spot p) hs).told_at })
      → PutsHeader p (spot_after p (first_spot p) hs) (kind_of place) m q → Stripped q m place p
  new-undone p q m place hs fixed byte chain none walked puts =
      let s = spot_after p (first_spot p) hs in
      let kind = kind_of place in
      let eight = s.kind ∷ 0 ∷ puts.spelling in
      let spelled = puts.canonical.spells in
      let size : length eight ≡ 8 = omega (arith, six puts.spelling m spelled) in
      let low : s.at ≤ limit_of p = after-within p (first_spot p) hs chain (omega (arith, fixed.whole)) in
      let r : IsRaised p q s.told_at kind s.at = record {
        eight = eight;
        size = size;
        whole = omega (arith, after-least p (first_spot p) hs chain);
        within = omega (arith, low);
        behind = omega (arith, told-least p (first_spot p) hs chain (omega arith));
        before = told-before p (first_spot p) hs chain (omega arith);
        is = puts.marked_is;
      } in
      let limit = raised-limit p q s.told_at kind s.at r in
      let front = front-carried p q hs (omega (arith, limit)) chain
      (λ i from below other. raised-same p q s.told_at kind s.at r i below other (λ e. omega (arith, e, from)) (λ e. omega (arith, e, from))) in
      let x = lengthened p s.told_at kind in
      let there : drop s.at q ≡ eight ++ drop s.at x =
      ap (λ (l : List ℕ). drop s.at l) puts.marked_is ∙ drop-put_in x eight s.at (omega (arith, low, length-raised p s.told_at kind)) in
      let next : slice_index q s.at ≡ s.kind =
      ap (λ i. slice_index q i) (omega arith) ∙ sym (get_or-drop s.at q 0 0) ∙ ap (λ (l : List ℕ). slice_index l 0) there in
      let lone : slice_index q (s.at + 1) ≡ 0 = sym (get_or-drop s.at q 1 0) ∙ ap (λ (l : List ℕ). slice_index l 1) there in
      let eight_long : header_length q s.at ≡ 8 = omega (arith, lone) in
      let h : Lent = record { kind = kind; at = s.at; bytes = eight } in
      let has = alone_mark puts.spelling m spelled in
      let spot : Spot = record { kind = kind; at = s.at; told_at = s.told_at } in
      let stands : Stands q spot h = record {
        walked = walked;
        kind = refl;
        at = refl;
        fits = record { first_two = omega (arith, low, limit); whole = omega (arith, low, limit, eight_long) };
        bytes =
            sym (take_at eight (drop s.at x) 8 size) ∙ ap (λ (l : List ℕ). take 8 l) (sym there)
            ∙ ap (λ n. take n (drop s.at q)) (sym eight_long);
        options = λ n. (_, has.options);
      } in
      let here : spot ≡ spot_after q (first_spot q) (map (as_in q) hs) =
      same_spots spot (spot_after q (first_spot q) (map (as_in q) hs))
      (sym (front.kind ∙ raised-byte p q s.told_at kind s.at r)) (sym front.at) (sym front.told) in
      let walk = walks q true in
      let more = goes_on_with q walk.headers (map (as_in q) hs) h (raised-fixed p q s.told_at kind s.at r fixed) walk.chain front.chain
      (subst (λ t. Stands q t h) here stands) in
      let found : MarksChain kind walk.headers m (s.at + 2) = record {
        before = map (as_in q) hs;
        header = h;
        behind = more.0;
        chain = more.1;
        passed = none_passed kind q hs none;
        of_kind = refl;
        marked = record { place = 0; has = has; at_is = omega arith };
      } in
      record {
        headers = walk.headers;
        chain = walk.chain;
        at = s.at + 2;
        found = found;
        taken = inl (record {
          lone = lone;
          stripped_is =
              raised-back p q s.told_at kind s.at r byte (slice_index q s.at)
              (next ∙ told-kind p (first_spot p) hs refl)
              ∙ ap (λ t. without_eight (shortened q t (slice_index q s.at)) s.at) (sym front.told);
        });
      }

  -- a new header in its place
  new-place :
      (p q : List ℕ) (m : Marking) (place : Place) (hs : List Lent) → IsFixed p → slice_index p 5 < 2 ^ 8
      → IsChain p (first_spot p) hs → GetsHeader p hs m place q → Stripped q m place p
  new-place p q m HopByHop hs fixed byte chain gets =
      new-undone p q m HopByHop [] fixed byte tt (All-nil (λ h. h.kind ≢ 0)) (inr (inr (refl, refl))) gets.puts
  new-place p q m Destination hs fixed byte chain gets =
      new-undone p q m Destination hs fixed byte chain gets.none (inr (inl refl)) gets.puts

  -- the mark at the end of the first header of the kind, which has none
  longer-undone :
      (p q : List ℕ) (m : Marking) (place : Place) (hs : List Lent) (h : Lent) → IsFixed p → slice_index p 5 < 2 ^ 8
      → IsChain p (first_spot p) hs → (first : IsFirstOf (kind_of place) hs h) → HasNoMark (drop 2 h.bytes)
      → Lengthens p h m q → Stripped q m place p
  longer-undone p q m place hs h fixed byte chain first unmarked longer =
      let parts = among-chain p (first_spot p) first.before h first.behind (subst (λ x. IsChain p (first_spot p) x) first.split chain) in
      let s = spot_after p (first_spot p) first.before in
      let here = parts.1 in
      let n = length h.bytes in
      let size = stands-size p s h here in
      let t = size_place h in
      let b = slice_index p t + 1 in
      let at = header_end h in
      let ys = 1 ∷ 0 ∷ longer.spelling in
      let spelled = longer.canonical.spells in
      let ys_size : length ys ≡ 8 = omega (arith, six longer.spelling m spelled) in
      let far = after-least p (first_spot p) first.before parts.0 in
      let told = told-least p (first_spot p) first.before parts.0 (omega arith) in
      let before = told-before p (first_spot p) first.before parts.0 (omega arith) in
      let r : IsRaised p q t b at = record {
        eight = ys;
        size = ys_size;
        whole = omega (arith, far, here.at);
        within = omega (arith, size, here.at, here.fits.whole);
        behind = omega (arith, far, here.at);
        before = omega (arith, size);
        is = longer.marked_is;
      } in
      let limit = raised-limit p q t b at r in
      let front = front-carried p q first.before (omega (arith, limit)) parts.0
      (λ i from below other. raised-same p q t b at r i (omega (arith, below, here.at)) (λ e. omega (arith, e, below, here.at)) (λ e. omega (arith, e, from)) (λ e. omega (arith, e, from))) in
      let x = lengthened p t b in
      let byte_is : slice_index q (s.at + 1) ≡ slice_index p (s.at + 1) + 1 =
      ap (λ i. slice_index q (i + 1)) (sym here.at) ∙ raised-byte p q t b at r ∙ ap (λ i. slice_index p (i + 1) + 1) here.at in
      let told_length : header_length q s.at ≡ n + 8 = omega (arith, size, byte_is) in
      let k : Lent = record { kind = h.kind; at = h.at; bytes = take (header_length q s.at) (drop s.at q) } in
      let same_part : drop 2 (take n (drop h.at x)) ≡ drop 2 h.bytes =
      behind_two x h.at n (n - 2) (omega (arith, size))
      ∙ ap (λ (l : List ℕ). take (n - 2) l) (drop-raised p t b (h.at + 2) (omega (arith, far, here.at)) (omega arith))
      ∙ sym (behind_two p h.at n (n - 2) (omega (arith, size)))
      ∙ ap (λ i. drop 2 (take n (drop i p))) here.at
      ∙ ap (λ i. drop 2 (take i (drop s.at p))) size
      ∙ ap (λ (l : List ℕ). drop 2 l) (sym here.bytes) in
      let area : drop 2 k.bytes ≡ drop 2 h.bytes ++ ys =
      ap (λ i. drop 2 (take i (drop s.at q))) (told_length ∙ ap (λ i. n + i) (sym ys_size))
      ∙ ap (λ i. drop 2 (take (n + length ys) (drop i q))) (sym here.at)
      ∙ ap (λ (l : List ℕ). drop 2 (take (n + length ys) (drop h.at l))) longer.marked_is
      ∙ part_longer x ys h.at n (omega (arith, size)) (omega (arith, size, here.at, here.fits.whole, length-raised p t b))
      ∙ ap (λ (l : List ℕ). l ++ ys) same_part in
      let area_size : length (drop 2 h.bytes) + 2 ≡ n = omega (arith, length-drop 2 h.bytes, size) in
      let padded = padded_first (drop 2 h.bytes) longer.spelling unmarked.options m unmarked.list unmarked.none spelled in
      let has : HasMark (drop 2 k.bytes) m (length (drop 2 h.bytes) + 2) = record {
        before = padded.before;
        option = padded.option;
        behind = padded.behind;
        options = subst (λ (l : List ℕ). IsOptionsOf l (padded.before ++ padded.option ∷ padded.behind)) (sym area) padded.options;
        none_before = padded.none_before;
        spelled = padded.spelled;
        place_is = padded.place_is;
      } in
      let stands : Stands q s k = record {
        walked = here.walked;
        kind = here.kind;
        at = here.at;
        fits = record {
          first_two = omega (arith, here.fits.first_two, limit);
          whole = omega (arith, here.fits.whole, limit, told_length, size);
        };
        bytes = refl;
        options = λ e. (_, has.options);
      } in
      let spot : s ≡ spot_after q (first_spot q) (map (as_in q) first.before) =
      same_spots s (spot_after q (first_spot q) (map (as_in q) first.before))
      (told-kind p (first_spot p) first.before refl
      ∙ sym (front.kind ∙ raised-same p q t b at r s.told_at (omega (arith, before, here.at)) (λ e. omega (arith, e, before, here.at)) (λ e. omega (arith, e, told)) (λ e. omega (arith, e, told))))
      (sym front.at) (sym front.told) in
      let walk = walks q true in
      let more = goes_on_with q walk.headers (map (as_in q) first.before) k (raised-fixed p q t b at r fixed) walk.chain front.chain
      (subst (λ t. Stands q t k) spot stands) in
      let found : MarksChain (kind_of place) walk.headers m (h.at + 2 + (length (drop 2 h.bytes) + 2)) = record {
        before = map (as_in q) first.before;
        header = k;
        behind = more.0;
        chain = more.1;
        passed = none_passed (kind_of place) q first.before first.others;
        of_kind = first.of_kind;
        marked = record { place = length (drop 2 h.bytes) + 2; has = has; at_is = refl };
      } in
      let k_size : length k.bytes ≡ n + 8 =
      length-take-le (header_length q s.at) (drop s.at q)
      (omega (arith, length-drop s.at q, raised-length p q t b at r, told_length, size, here.fits.whole)) ∙ told_length in
      let end_is : at ≡ header_end k - 8 = omega (arith, k_size) in
      record {
        headers = walk.headers;
        chain = walk.chain;
        at = h.at + 2 + (length (drop 2 h.bytes) + 2);
        found = found;
        taken = inr (record {
          last = refl;
          padded = record { front = unmarked.options; pad = pad_at (length (drop 2 h.bytes)); split = refl; is_pad = refl };
          stripped_is =
              raised-back p q t b at r byte (slice_index q t - 1) (omega (arith, raised-byte p q t b at r))
              ∙ ap (λ i. without_eight (shortened q t (slice_index q t - 1)) i) end_is;
        });
      }

  pub undone :
      (p : List ℕ) (w : Bool) (m : Marking) (place : Place) (q : List ℕ) → IsBytes p → IsUnmarked p w place → Inserted p m place q
      → Stripped q m place p
  undone p w m place q bytes unmarked inserted =
      let walk = walks p w in
      let ends = unmarked.ends.2 in
      let fixed = ends_fixed p w ends.headers unmarked.next unmarked.ends.0 unmarked.ends.1 ends.ends in
      let chain = (inserted.chain.fixed fixed).chain in
      let same : unmarked.none.headers ≡ inserted.headers =
      walk.one_chain unmarked.none.headers unmarked.none.chain ∙ sym (walk.one_chain inserted.headers inserted.chain) in
      let passed = subst (λ x. All (IsPassed (kind_of place)) x) same
      (seen_passed place p w unmarked.none.headers unmarked.none.ended unmarked.none.seen_in) in
      ⊎_elim
      (λ g. new-place p q m place inserted.headers fixed (bytes 5) chain g)
      (λ g.
      let one = one_of (IsPassed (kind_of place)) g.first.before g.header g.first.behind (subst (λ x. All (IsPassed (kind_of place)) x) g.first.split passed) in
      longer-undone p q m place inserted.headers g.header fixed (bytes 5) chain g.first (unmarked_of (kind_of place) g.header g.first.of_kind one) g.longer)
      inserted.put
