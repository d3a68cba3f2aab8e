-- A packet is stripped in one way.
use Rattle.std.proofs.Common.{arith, refl, sym, ap, subst, ◌∙◌, ◌≡◌, inl, inr, ⊎_elim, ℕ, ◌+◌, ◌<◌, ◌≤◌, Bool, true, List, [], ◌∷◌, ◌++◌, length, drop, slice_index, length-append, All}
use Rattle.std.proofs.lemmas.List.{length-drop}
use Rattle.std.proofs.lemmas.List.Elements.{All-head, All-tail}
use Rattle.std.proofs.lemmas.Grind.{flat_map-append}
use Rattle.std.proofs.lemmas.Bool.{cases_Bool}
use Rattle.am_opts.specs.Marking.{Marking, Spells}
use Rattle.am_opts.specs.Options.{Placed, IsOption, Follow, joined, IsOptionsOf}
use Rattle.am_opts.specs.Laws.{HasOneLongest}
use Rattle.am_ip6.specs.declared.marks.Place.{Place}
use Rattle.am_ip6.specs.Chains.{Lent, HasHeaders, first_spot, spot_after}
use Rattle.am_ip6.specs.Marks.{IsNoMark, HasMark, IsPassed}
use Rattle.am_ip6.specs.Shown.{lent}
use Rattle.am_ip6.specs.Laws.{HasOneWalk}
use Rattle.am_insert.specs.Changes.{kind_of, size_place}
use Rattle.am_insert.specs.Stripping.{EndsInPad, Stripped, without_header, with_shorter_header}
use Rattle.am_insert.specs.Parts.{Bounds, IsFirstMarked, IsLoneMark, IsPadded, CutsOut, IsInNoShape}
use Rattle.am_insert.specs.declared.strip.MarkedHeader.{MarkedHeader}
use Rattle.am_insert.proofs.Headers.{first-one, one_of, member-in, member-stands}
use Rattle.am_insert.proofs.Carried.{told-before}
use Rattle.am_insert.proofs.Planned.{bounds}

-- an option has bytes
option_some : (a : List ℕ) → IsOption a → 0 < length a
option_some [] h = absurd h
option_some (k ∷ a) h = omega arith

-- options that have no bytes are none
none_joined : (at : ℕ) (os : List Placed) → Follow at os → length (joined os) ≡ 0 → os ≡ []
none_joined at [] f e = refl
none_joined at (o ∷ os) f e = absurd (omega (arith, e, length-append o.bytes (joined os), option_some o.bytes f.1))

-- an option among others stands where those before it end
placed_at : (at : ℕ) (xs : List Placed) (x : Placed) (rest : List Placed) → Follow at (xs ++ x ∷ rest) → x.at ≡ at + length (joined xs)
placed_at at [] x rest f = omega (arith, f.0)
placed_at at (y ∷ ys) x rest f =
    omega (arith, placed_at (at + length y.bytes) ys x rest f.2, length-append y.bytes (joined ys))

follow_behind : (at : ℕ) (xs : List Placed) (x : Placed) (rest : List Placed) → Follow at (xs ++ x ∷ rest) → (n : ℕ) × Follow n rest
follow_behind at [] x rest f = (at + length x.bytes, f.2)
follow_behind at (y ∷ ys) x rest f = follow_behind (at + length y.bytes) ys x rest f.2

-- how the bytes of an area divide at its first mark
module _ (area : List ℕ) (m : Marking) (place : ℕ) (has : HasMark area m place) where
  divided : length area ≡ place + 6 + length (joined has.behind)
  divided =
      omega (
        arith,
        ap length has.options.whole,
        ap length (flat_map-append (λ (o : Placed). o.bytes) has.before (has.option ∷ has.behind)),
        length-append (joined has.before) (joined (has.option ∷ has.behind)),
        length-append has.option.bytes (joined has.behind),
        ap length has.spelled.spelled,
        placed_at 0 has.before has.option has.behind has.options.follow,
        has.place_is,
      )

  -- it is the last option exactly where it ends the area
  pub mark-last : place + 6 ≡ length area → has.behind ≡ []
  mark-last e =
      let rest = follow_behind 0 has.before has.option has.behind has.options.follow in
      none_joined rest.0 has.behind rest.1 (omega (arith, e, divided))

  pub last-mark : has.behind ≡ [] → place + 6 ≡ length area
  last-mark e = omega (arith, divided, ap (λ (o : List Placed). length (joined o)) e)

  -- with a PadN before it there are eight bytes at least
  pub mark-padded : EndsInPad has.before → 2 ≤ place
  mark-padded pad =
      omega (
        arith,
        placed_at 0 has.before has.option has.behind has.options.follow,
        has.place_is,
        ap (λ (o : List Placed). length (joined o)) pad.split,
        ap length (flat_map-append (λ (o : Placed). o.bytes) pad.front (pad.pad ∷ [])),
        length-append (joined pad.front) (joined (pad.pad ∷ [])),
        length-append pad.pad.bytes [],
        ap length pad.is_pad,
      )

-- one of some options that all are so
among_none : (before : List Placed) (o : Placed) (behind : List Placed) → All IsNoMark (before ++ o ∷ behind) → IsNoMark o
among_none [] o behind all = All-head IsNoMark o behind all
among_none (x ∷ xs) o behind all = among_none xs o behind (All-tail IsNoMark x (xs ++ o ∷ behind) all)

-- a header of eight bytes has no room for a PadN before its mark
lone-unpadded :
    (p : List ℕ) (h : Lent) (m : Marking) (place : ℕ) (has : HasMark (drop 2 h.bytes) m place) → Bounds p h
    → slice_index p (size_place h) ≡ 0 → has.behind ≡ [] → EndsInPad has.before → ⊥
lone-unpadded p h m place has b lone last pad =
    let two = mark-padded (drop 2 h.bytes) m place has pad in
    let end = last-mark (drop 2 h.bytes) m place has last in
    omega (arith, b.size, lone, two, end, length-drop 2 h.bytes)

-- what is known of walks, of options and of spellings
module _ (walks : (packet : List ℕ) (whole : Bool) → HasOneWalk packet whole) (lists : (area : List ℕ) → HasOneLongest area)
    (spelled : (bytes : List ℕ) (a b : Marking) → Spells bytes a → Spells bytes b → a ≡ b) where
  not_passed : (kind : ℕ) (h : Lent) (m : Marking) (place : ℕ) → h.kind ≡ kind → HasMark (drop 2 h.bytes) m place → IsPassed kind h → ⊥
  not_passed kind h m place is has passed =
      ⊎_elim (λ other. other is)
      (λ none.
      let list = (lists (drop 2 h.bytes)).alone none.1.options (has.before ++ has.option ∷ has.behind) none.1.list has.options in
      among_none has.before has.option has.behind (subst (λ os. All IsNoMark os) list none.1.none) m has.spelled) passed

  -- a first mark of an area is one
  pub record SameMark (area other : List ℕ) (m n : Marking) (p q : ℕ) (a : HasMark area m p) (b : HasMark other n q) : Type 0 where
    pub mark : m ≡ n
    pub place : p ≡ q
    pub before : a.before ≡ b.before

  mark-one :
      (area other : List ℕ) (m n : Marking) (p q : ℕ) (a : HasMark area m p) (b : HasMark other n q) → area ≡ other
      → SameMark area other m n p q a b
  mark-one area other m n p q a b e =
      let list = (lists area).alone (a.before ++ a.option ∷ a.behind) (b.before ++ b.option ∷ b.behind) a.options
      (subst (λ x. IsOptionsOf x (b.before ++ b.option ∷ b.behind)) (sym e) b.options) in
      let one = first-one IsNoMark a.before b.before a.option b.option a.behind b.behind a.none_before b.none_before
      (λ none. none m a.spelled) (λ none. none n b.spelled) list in
      record {
        mark = spelled b.option.bytes m n (subst (λ (o : Placed). Spells o.bytes m) one.same a.spelled) b.spelled;
        place = a.place_is ∙ ap (λ (o : Placed). o.at) one.same ∙ sym b.place_is;
        before = one.before;
      }

  -- what was found, held against a way in which the packet is stripped
  module _ (p : List ℕ) (w : Bool) (place : Place) (m : MarkedHeader) (hs : List Lent) (has : HasHeaders p hs)
      (found : IsFirstMarked (kind_of place) p hs m) where
    pub found-bounds : Bounds p (lent m.header)
    found-bounds = bounds p (lent m.header) (member-in p hs found.before found.behind (lent m.header) has found.chain)

    pub found-told : m.told_at < m.header.at
    found-told =
        let parts = member-stands p hs found.before found.behind (lent m.header) has found.chain in
        omega (arith, found.told, told-before p (first_spot p) found.before parts.0 (omega arith), parts.1.at)

    -- the packet without the mark
    pub cut-stripped : (q : List ℕ) → CutsOut p m q → Stripped p m.option.mark place q
    cut-stripped q cut =
        let b = found-bounds in
        record {
          headers = hs;
          chain = has;
          at = m.header.at + 2 + m.option.at;
          found = record {
            before = found.before;
            header = lent m.header;
            behind = found.behind;
            chain = found.chain;
            passed = found.passed;
            of_kind = found.of_kind;
            marked = record { place = m.option.at; has = found.shows.has; at_is = refl };
          };
          taken =
              ⊎_elim
              (λ lone. inl (record {
                lone = lone.0;
                stripped_is = lone.1 ∙ ap (λ t. without_header p t (lent m.header)) found.told;
              }))
              (λ padded. inr (record {
                last = mark-last (drop 2 m.header.bytes.now) m.option.mark m.option.at found.shows.has
                    (omega (arith, padded.0.1, length-drop 2 m.header.bytes.now));
                padded = found.shows.padded padded.0.0;
                stripped_is = padded.1;
              })) cut;
        }

    not_both : IsLoneMark p m → IsPadded m → ⊥
    not_both lone padded =
        let b = found-bounds in
        let two = mark-padded (drop 2 m.header.bytes.now) m.option.mark m.option.at found.shows.has (found.shows.padded padded.0) in
        omega (arith, b.size, lone, padded.1, two)

    -- of the two ways one is there
    cuts-one : (a b : List ℕ) → CutsOut p m a → CutsOut p m b → a ≡ b
    cuts-one a b x y =
        ⊎_elim
        (λ lone. ⊎_elim (λ other. lone.1 ∙ sym other.1) (λ padded. absurd (not_both lone.0 padded.0)) y)
        (λ padded. ⊎_elim (λ lone. absurd (not_both lone.0 padded.0)) (λ other. padded.1 ∙ sym other.1) y) x

    pad_before : EndsInPad found.shows.has.before → m.option.padded ≡ true
    pad_before pad =
        ⊎_elim (λ t. t) (λ f. absurd (found.shows.bare f pad)) (cases_Bool m.option.padded)

    -- each way in which the packet is stripped is of this mark
    stripped-same : (n : Marking) (q : List ℕ) → Stripped p n place q → (m.option.mark ≡ n) × CutsOut p m q
    stripped-same n q s =
        let walk = walks p w in
        let chain : hs ≡ s.headers = walk.one_chain hs has ∙ sym (walk.one_chain s.headers s.chain) in
        let one = first-one (IsPassed (kind_of place)) found.before s.found.before (lent m.header) s.found.header found.behind s.found.behind
        found.passed s.found.passed
        (not_passed (kind_of place) (lent m.header) m.option.mark m.option.at found.of_kind found.shows.has)
        (not_passed (kind_of place) s.found.header n s.found.marked.place s.found.of_kind s.found.marked.has)
        (sym found.chain ∙ chain ∙ s.found.chain) in
        let area = ap (λ (x : Lent). drop 2 x.bytes) one.same in
        let marks = mark-one (drop 2 m.header.bytes.now) (drop 2 s.found.header.bytes) m.option.mark n m.option.at s.found.marked.place
        found.shows.has s.found.marked.has area in
        let b = found-bounds in
        let cut : CutsOut p m q =
        ⊎_elim
        (λ l. inl (
          ap (λ (x : Lent). slice_index p (x.at + 1)) one.same ∙ l.lone,
          l.stripped_is
              ∙ ap (λ (x : List Lent). without_header p (spot_after p (first_spot p) x).told_at s.found.header) (sym one.before)
              ∙ ap (λ t. without_header p t s.found.header) (sym found.told)
              ∙ ap (λ (x : Lent). without_header p m.told_at x) (sym one.same),
        ))
        (λ g. inr (
          (
            pad_before (subst (λ (x : List Placed). EndsInPad x) (sym marks.before) g.padded),
            omega (
              arith,
              last-mark (drop 2 s.found.header.bytes) n s.found.marked.place s.found.marked.has g.last,
              marks.place,
              ap length area,
              length-drop 2 m.header.bytes.now,
              b.size,
            ),
          ),
          g.stripped_is ∙ ap (λ (x : Lent). with_shorter_header p x) (sym one.same),
        )) s.taken in
        (marks.mark, cut)

    pub found-some : (a : List ℕ) → CutsOut p m a → (n : Marking) (q : List ℕ) → Stripped p n place q → (m.option.mark ≡ n) × (a ≡ q)
    found-some a cut n q s = let same = stripped-same n q s in (same.0, cuts-one a q cut same.1)

    pub found-none : IsInNoShape p m → (n : Marking) (q : List ℕ) → Stripped p n place q → ⊥
    found-none none n q s = ⊎_elim (λ lone. none.0 lone.0) (λ padded. none.1 padded.0) (stripped-same n q s).1

  -- a packet whose headers were all passed isn't stripped
  pub passed-none :
      (p : List ℕ) (w : Bool) (place : Place) (hs : List Lent) → HasHeaders p hs → All (IsPassed (kind_of place)) hs
      → (n : Marking) (q : List ℕ) → Stripped p n place q → ⊥
  passed-none p w place hs has passed n q s =
      let walk = walks p w in
      let chain : hs ≡ s.headers = walk.one_chain hs has ∙ sym (walk.one_chain s.headers s.chain) in
      not_passed (kind_of place) s.found.header n s.found.marked.place s.found.of_kind s.found.marked.has
      (one_of (IsPassed (kind_of place)) s.found.before s.found.header s.found.behind
      (subst (λ x. All (IsPassed (kind_of place)) x) (chain ∙ s.found.chain) passed))

  -- two ways in which a packet is stripped are one
  pub stripped-one :
      (p : List ℕ) (place : Place) (m n : Marking) (a b : List ℕ) → Stripped p m place a → Stripped p n place b → (m ≡ n) × (a ≡ b)
  stripped-one p place m n a b s t =
      let walk = walks p true in
      let chain : s.headers ≡ t.headers = walk.one_chain s.headers s.chain ∙ sym (walk.one_chain t.headers t.chain) in
      let one = first-one (IsPassed (kind_of place)) s.found.before t.found.before s.found.header t.found.header s.found.behind t.found.behind
      s.found.passed t.found.passed
      (not_passed (kind_of place) s.found.header m s.found.marked.place s.found.of_kind s.found.marked.has)
      (not_passed (kind_of place) t.found.header n t.found.marked.place t.found.of_kind t.found.marked.has)
      (sym s.found.chain ∙ chain ∙ t.found.chain) in
      let area = ap (λ (x : Lent). drop 2 x.bytes) one.same in
      let marks = mark-one (drop 2 s.found.header.bytes) (drop 2 t.found.header.bytes) m n s.found.marked.place t.found.marked.place
      s.found.marked.has t.found.marked.has area in
      let x = bounds p s.found.header (member-in p s.headers s.found.before s.found.behind s.found.header s.chain s.found.chain) in
      let y = bounds p t.found.header (member-in p t.headers t.found.before t.found.behind t.found.header t.chain t.found.chain) in
      let same : a ≡ b =
      ⊎_elim
      (λ l. ⊎_elim
      (λ k. l.stripped_is
      ∙ ap (λ (hs : List Lent). without_header p (spot_after p (first_spot p) hs).told_at s.found.header) one.before
      ∙ ap (λ (h : Lent). without_header p (spot_after p (first_spot p) t.found.before).told_at h) one.same
      ∙ sym k.stripped_is)
      (λ g. absurd (lone-unpadded p t.found.header n t.found.marked.place t.found.marked.has y
      (ap (λ (h : Lent). slice_index p (size_place h)) (sym one.same) ∙ l.lone) g.last g.padded)) t.taken)
      (λ g. ⊎_elim
      (λ l. absurd (lone-unpadded p s.found.header m s.found.marked.place s.found.marked.has x
      (ap (λ (h : Lent). slice_index p (size_place h)) one.same ∙ l.lone) g.last g.padded))
      (λ k. g.stripped_is ∙ ap (λ (h : Lent). with_shorter_header p h) one.same ∙ sym k.stripped_is) t.taken) s.taken in
      (marks.mark, same)
