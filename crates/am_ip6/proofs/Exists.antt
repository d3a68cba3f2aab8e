-- Each packet has headers and an ending behind them, and there is one of each.
use Rattle.std.proofs.Common.{arith, refl, sym, ap, ◌∙◌, ◌≡◌, ◌⊎◌, inl, inr, ⊎_elim, ℕ, ◌+◌, ◌/◌, Bool, true, false, List, [], ◌∷◌, ◌++◌, length, drop, slice_index, length-append}
use Rattle.std.proofs.lemmas.Bool.{cases_lt, cases_eq, cases_Bool}
use Rattle.am_opts.specs.Options.{Placed, joined}
use Rattle.am_opts.specs.Lent.{options_behind}
use Rattle.am_opts.specs.Laws.{HasOneLongest}
use Rattle.am_ip6.specs.Fixed.{IsFixed, limit_of, claimed_length}
use Rattle.am_ip6.specs.Chains.{Lent, Spot, Stands, IsWalked, FitsAt, IsChain, IsLongestChain, HasHeaders, first_spot, spot_behind, spot_after}
use Rattle.am_ip6.specs.Endings.{Ended, EndsAt, EndsEarly, EndsSo, IsOtherVersion, IsShort, MayBeCut, LacksBytes, HasBadOptions}
use Rattle.am_ip6.specs.Endings.Ended.{AtNumber, WasCut, IsMalformed}
use Rattle.am_ip6.specs.Left.{header_at, walked_at, fits_at, headers_from}
use Rattle.am_ip6.specs.declared.marks.Place.{Place}
use Rattle.am_ip6.specs.Marks.{Seen}
use Rattle.am_ip6.specs.Seen.{SeenInEach, IsSeen}
use Rattle.am_ip6.specs.Laws.{HasOneWalk}
use Rattle.am_ip6.proofs.ChainLemmas.{longest-unique}
use Rattle.am_ip6.proofs.Early.{short}
use Rattle.am_ip6.proofs.SeenLemmas.{not_both}
use Rattle.am_ip6.proofs.LeftLemmas.{walked-true, walked-false, fits-true, fits-false, has-some, has-none}

-- a packet begins with a fixed header of version 6, or not
fixed_or_not : (b : List ℕ) → IsFixed b ⊎ (IsFixed b → ⊥)
fixed_or_not b =
    ⊎_elim (λ short. inr (λ f. omega (arith, short, f.whole)))
    (λ long. ⊎_elim (λ v. inl (record { whole = long; version = v })) (λ n. inr (λ f. n f.version)) (cases_eq (slice_index b 0 / 16) 6))
    (cases_lt (length b) 40)

other_or_not : (b : List ℕ) → IsOtherVersion b ⊎ (IsOtherVersion b → ⊥)
other_or_not b =
    ⊎_elim
    (λ some. ⊎_elim (λ v. inr (λ o. o.other v)) (λ n. inl (record { some = some; other = n })) (cases_eq (slice_index b 0 / 16) 6))
    (λ none. inr (λ o. omega (arith, none, o.some)))
    (cases_lt 0 (length b))

cut_or_not : (b : List ℕ) (w : Bool) → MayBeCut b w ⊎ (MayBeCut b w → ⊥)
cut_or_not b true = inr (λ c. absurd (cc (c.0)))
cut_or_not b false =
    ⊎_elim (λ less. inl (refl, less)) (λ more. inr (λ c. omega (arith, more, c.1))) (cases_lt (limit_of b) (claimed_length b))

-- a longer chain
chain-more :
    (b : List ℕ) (s : Spot) (hs : List Lent) (h : Lent) → IsChain b s hs → Stands b (spot_after b s hs) h → IsChain b s (hs ++ h ∷ [])
chain-more b s [] h chain here = (here, tt)
chain-more b s (k ∷ ks) h chain here = (chain.0, chain-more b (spot_behind b k) ks h chain.1 here)

-- behind the longest chain no header stands
nothing_behind : (b : List ℕ) (s : Spot) (hs : List Lent) → IsLongestChain b s hs → (h : Lent) → Stands b (spot_after b s hs) h → ⊥
nothing_behind b s hs l h here =
    let more = l.longest (hs ++ h ∷ []) (chain-more b s hs h l.chain here) in
    omega (arith, ap length more.1, length-append (hs ++ h ∷ []) more.0, length-append hs (h ∷ []))

early_by : (b : List ℕ) (w : Bool) → IsShort b → (e : Ended) × EndsEarly b w e
early_by b true s = (IsMalformed (length b), inr (s, refl, refl))
early_by b false s = (WasCut, (s, refl))

-- how a packet without a fixed header ends
ending_early : (b : List ℕ) (w : Bool) → (IsFixed b → ⊥) → (e : Ended) × EndsEarly b w e
ending_early b w n =
    ⊎_elim (λ o. (IsMalformed 0, inl (o, refl)))
    (λ v. early_by b w (short b n v))
    (other_or_not b)

-- a packet has one list of headers
pub headers-unique : (b : List ℕ) (hs ks : List Lent) → HasHeaders b hs → HasHeaders b ks → hs ≡ ks
headers-unique b hs ks p q =
    ⊎_elim (λ f. longest-unique b (first_spot b) hs ks (p.fixed f) (q.fixed f)) (λ n. p.other n ∙ sym (q.other n)) (fixed_or_not b)

same_numbers : (n a t m c u : ℕ) → n ≡ m → a ≡ c → t ≡ u → AtNumber n a t ≡ AtNumber m c u
same_numbers n a t m c u p q r = cc

spots_same :
    (s : Spot) (n a t m c u : ℕ) → s ≡ record { kind = n; at = a; told_at = t } → s ≡ record { kind = m; at = c; told_at = u }
    → AtNumber n a t ≡ AtNumber m c u
spots_same s n a t m c u p q =
    same_numbers n a t m c u (sym (ap (λ (x : Spot). x.kind) p) ∙ ap (λ (x : Spot). x.kind) q)
    (sym (ap (λ (x : Spot). x.at) p) ∙ ap (λ (x : Spot). x.at) q)
    (sym (ap (λ (x : Spot). x.told_at) p) ∙ ap (λ (x : Spot). x.told_at) q)

-- and so without a fixed header
early-unique : (b : List ℕ) (w : Bool) (e f : Ended) → EndsEarly b w e → EndsEarly b w f → e ≡ f
early-unique b w (AtNumber n a t) f p q = absurd p
early-unique b w WasCut (AtNumber n a t) p q = absurd q
early-unique b w WasCut WasCut p q = refl
early-unique b w WasCut (IsMalformed y) p q = absurd (⊎_elim (λ o. p.0.version o.0) (λ o. not_both w p.1 o.1) q)
early-unique b w (IsMalformed x) (AtNumber n a t) p q = absurd q
early-unique b w (IsMalformed x) WasCut p q = absurd (⊎_elim (λ o. q.0.version o.0) (λ o. not_both w q.1 o.1) p)
early-unique b w (IsMalformed x) (IsMalformed y) p q = ap IsMalformed
    (⊎_elim
    (λ o. ⊎_elim (λ r. o.1 ∙ sym r.1) (λ r. absurd (r.0.version o.0)) q)
    (λ o. ⊎_elim (λ r. absurd (o.0.version r.0)) (λ r. o.2 ∙ sym r.2) q) p)

-- what is known of the longest front of options
module _ (law : (area : List ℕ) → HasOneLongest area) where
  has_all : (b : List ℕ) → IsFixed b → HasHeaders b (headers_from (length b) b (first_spot b))
  has_all b f = has-some law b (first_spot b) f refl

  -- a packet has headers
  pub some_headers : (b : List ℕ) → (hs : List Lent) × HasHeaders b hs
  some_headers b =
      ⊎_elim (λ f. (headers_from (length b) b (first_spot b), has_all b f)) (λ n. ([], has-none b n)) (fixed_or_not b)

  -- a header of this spot that fits and can't stand has bad options
  bad_at :
      (b : List ℕ) (w : Bool) (s : Spot) → ((h : Lent) → Stands b s h → ⊥) → IsWalked s → FitsAt b s.at → (e : Ended) × EndsAt b w s e
  bad_at b w s none walked fits =
      let header = (header_at b s).bytes in
      let options = options_behind (drop 2 header) 0 in (
        IsMalformed (s.at + 2 + length (joined options)),
        inr (record {
          walked = walked;
          kind = λ k. none (header_at b s) (record { walked = walked; kind = refl; at = refl; fits = fits; bytes = refl; options = λ n. absurd (n k) });
          fits = fits;
          options = options;
          longest = (law (drop 2 header)).lent 0;
          bad = λ o. none (header_at b s) (record { walked = walked; kind = refl; at = refl; fits = fits; bytes = refl; options = λ n. o });
          place_is = refl;
        }),
      )

  -- how a packet ends at a spot where no header stands
  ending_at : (b : List ℕ) (w : Bool) (s : Spot) → ((h : Lent) → Stands b s h → ⊥) → (e : Ended) × EndsAt b w s e
  ending_at b w s none =
      ⊎_elim
      (λ walked. ⊎_elim
      (λ fits. bad_at b w s none (walked-true s walked) (fits-true b s.at fits))
      (λ lacks.
      let here : LacksBytes b s = record { walked = walked-true s walked; lacks = fits-false b s.at lacks } in
      ⊎_elim (λ cut. (WasCut, (here, cut))) (λ n. (IsMalformed s.at, inl (here, n, refl))) (cut_or_not b w))
      (cases_Bool (fits_at b s.at)))
      (λ other. (AtNumber s.kind s.at s.told_at, (refl, walked-false s other)))
      (cases_Bool (walked_at s))

  -- a packet has an ending behind its headers
  pub some_ending : (b : List ℕ) (w : Bool) (hs : List Lent) → HasHeaders b hs → (e : Ended) × EndsSo b w hs e
  some_ending b w hs has =
      ⊎_elim
      (λ f.
      let at = ending_at b w (spot_after b (first_spot b) hs) (nothing_behind b (first_spot b) hs (has.fixed f)) in
      (at.0, record { fixed = λ g. at.1; other = λ n. absurd (n f) }))
      (λ n.
      let at = ending_early b w n in
      (at.0, record { fixed = λ f. absurd (n f); other = λ m. at.1 }))
      (fixed_or_not b)

  -- an ending at a spot is one
  same_bad : (b : List ℕ) (s : Spot) (x y : ℕ) → HasBadOptions b s x → HasBadOptions b s y → x ≡ y
  same_bad b s x y p q =
      p.place_is ∙ ap (λ (o : List Placed). s.at + 2 + length (joined o)) ((law _).one 0 p.options q.options p.longest q.longest) ∙ sym q.place_is

  at-unique : (b : List ℕ) (w : Bool) (s : Spot) (e f : Ended) → EndsAt b w s e → EndsAt b w s f → e ≡ f
  at-unique b w s (AtNumber n a t) (AtNumber m c u) p q = spots_same s n a t m c u p.0 q.0
  at-unique b w s (AtNumber n a t) WasCut p q = absurd (p.1 q.0.walked)
  at-unique b w s (AtNumber n a t) (IsMalformed y) p q = absurd (⊎_elim (λ l. p.1 l.0.walked) (λ o. p.1 o.walked) q)
  at-unique b w s WasCut (AtNumber m c u) p q = absurd (q.1 p.0.walked)
  at-unique b w s WasCut WasCut p q = refl
  at-unique b w s WasCut (IsMalformed y) p q = absurd (⊎_elim (λ l. l.1 p.1) (λ o. p.0.lacks o.fits) q)
  at-unique b w s (IsMalformed x) (AtNumber m c u) p q = absurd (⊎_elim (λ l. q.1 l.0.walked) (λ o. q.1 o.walked) p)
  at-unique b w s (IsMalformed x) WasCut p q = absurd (⊎_elim (λ l. l.1 q.1) (λ o. q.0.lacks o.fits) p)
  at-unique b w s (IsMalformed x) (IsMalformed y) p q = ap IsMalformed
      (⊎_elim
      (λ l. ⊎_elim (λ m. l.2 ∙ sym m.2) (λ o. absurd (l.0.lacks o.fits)) q)
      (λ o. ⊎_elim (λ m. absurd (m.0.lacks o.fits)) (λ r. same_bad b s x y o r) q) p)

  -- a packet has one ending behind its headers
  pub ending-unique : (b : List ℕ) (w : Bool) (hs : List Lent) (e f : Ended) → EndsSo b w hs e → EndsSo b w hs f → e ≡ f
  ending-unique b w hs e f p q =
      ⊎_elim (λ x. at-unique b w (spot_after b (first_spot b) hs) e f (p.fixed x) (q.fixed x))
      (λ n. early-unique b w e f (p.other n) (q.other n)) (fixed_or_not b)

  -- a packet has one walk
  pub one_walk : (b : List ℕ) (w : Bool) → HasOneWalk b w
  one_walk b w =
      let hs = some_headers b in
      let e = some_ending b w hs.0 hs.1 in
      record {
        headers = hs.0;
        ended = e.0;
        chain = hs.1;
        ends = e.1;
        one_chain = λ others has. headers-unique b others hs.0 has hs.1;
        one_ending = λ other ends. ending-unique b w hs.0 other e.0 ends e.1;
      }

-- what is found for all headers and endings of a packet is found in the packet
pub is_seen : (b : List ℕ) (w : Bool) (place : Place) (seen : Seen) → HasOneWalk b w → SeenInEach place b w seen → IsSeen b w place seen
is_seen b w place seen walk each = record {
  headers = walk.headers;
  ended = walk.ended;
  chain = walk.chain;
  ends = walk.ends;
  seen_in = each walk.headers walk.ended walk.chain walk.ends;
}
