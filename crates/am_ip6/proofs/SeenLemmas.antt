-- What is found of a mark, from what a walk has passed and where it stands.
use Rattle.std.proofs.Common.{arith, refl, sym, ap, subst, ◌∙◌, ◌≡◌, ◌≢◌, inl, inr, ⊎_elim, ℕ, ◌≤◌, Bool, true, false, List, [], ◌∷◌, ◌++◌, length, drop, slice_index, All}
use Rattle.std.proofs.lemmas.List.Elements.{All-nil, All-cons, All-weaker}
use Rattle.std.proofs.lemmas.List.{length-take-le, length-drop}
use Rattle.am_opts.specs.Marking.{Marking}
use Rattle.am_ip6.specs.Fixed.{IsFixed}
use Rattle.am_ip6.specs.Chains.{Lent, Spot, Stands, IsWalked, IsChain, IsLongestChain, HasHeaders, first_spot, spot_behind, spot_after, header_length}
use Rattle.am_ip6.specs.Endings.{Ended, EndsAt, EndsSo}
use Rattle.am_ip6.specs.Endings.Ended.{AtNumber, WasCut, IsMalformed}
use Rattle.am_ip6.specs.Marks.{IsPassed, MarksHeader, MarksChain, HidesHopByHop, Seen, SeenInHopByHop, SeenInDestination}
use Rattle.am_ip6.specs.Marks.Seen.{Marks, NoMark, CutOff}
use Rattle.am_ip6.specs.Seen.{IsUnlessCut}
use Rattle.am_ip6.proofs.ChainLemmas.{Reaches, longest-tail, longest-none, ends-nothing, reaches-start, reaches-end}

-- the first mark stands in the header at the spot, where those before it were passed
pub marks-chain :
    (kind : ℕ) (b : List ℕ) (first s : Spot) (h : Lent) (hs : List Lent) (mark : Marking) (at : ℕ)
    → Reaches (IsPassed kind) b first s hs → Stands b s h → h.kind ≡ kind → MarksHeader h mark at → MarksChain kind hs mark at
marks-chain kind b first s h hs mark at r here of_kind marked =
    let tail = longest-tail b s h r.rest here r.longest in
    record {
      before = r.front;
      header = h;
      behind = tail.0;
      chain = r.split ∙ ap (λ x. r.front ++ x) tail.1;
      passed = r.passed;
      of_kind = of_kind;
      marked = marked;
    }

-- captured whole or not
pub not_both : (w : Bool) → w ≡ false → w ≡ true → ⊥
not_both true p q = cc
not_both false p q = cc

-- where a packet ends cut at a spot, it ends so alone
pub cut-alike : (b : List ℕ) (w : Bool) (s : Spot) (e f : Ended) → EndsAt b w s e → EndsAt b w s f → e ≡ WasCut → f ≡ WasCut
cut-alike b w s (AtNumber n a t) f p q is = cc
cut-alike b w s (IsMalformed x) f p q is = cc
cut-alike b w s WasCut (AtNumber n a t) p q is = absurd (q.1 p.0.walked)
cut-alike b w s WasCut WasCut p q is = refl
cut-alike b w s WasCut (IsMalformed x) p q is = absurd (⊎_elim (λ l. l.1 p.1) (λ o. p.0.lacks o.fits) q)

-- what no mark before an ending means at another that is cut where it is
unless-alike :
    (e f : Ended) (seen : Seen) → (e ≡ WasCut → f ≡ WasCut) → (f ≡ WasCut → e ≡ WasCut) → IsUnlessCut e seen → IsUnlessCut f seen
unless-alike e f (Marks mark at) to back u = u
unless-alike e f NoMark to back u = λ is. u (back is)
unless-alike e f CutOff to back u = to u

destination-none :
    (b : List ℕ) (w : Bool) (hs : List Lent) (f : Ended) (seen : Seen) → All (IsPassed 60) hs → IsUnlessCut f seen
    → SeenInDestination b w hs f seen
destination-none b w hs f (Marks mark at) all u = absurd u
destination-none b w hs f NoMark all u = (all, u)
destination-none b w hs f CutOff all u = (all, u)

-- nor where all headers were passed
pub destination-end :
    (b : List ℕ) (w : Bool) (s : Spot) (e f : Ended) (seen : Seen) (hs : List Lent) → IsFixed b
    → ((ks : List Lent) → IsLongestChain b (first_spot b) ks → Reaches (IsPassed 60) b (first_spot b) s ks)
    → EndsAt b w s e → IsUnlessCut e seen → HasHeaders b hs → EndsSo b w hs f → SeenInDestination b w hs f seen
destination-end b w s e f seen hs fixed reach ends u has so =
    let all = reaches-end (IsPassed 60) b w (first_spot b) s e hs (reach hs (has.fixed fixed)) ends in
    let other = subst (λ x. EndsAt b w x f) all.1 (so.fixed fixed) in
    destination-none b w hs f seen all.0
    (unless-alike e f seen (cut-alike b w s e f ends other) (cut-alike b w s f e other ends) u)

-- a number that is walked is 0 only at 40
other_kinds : (s : Spot) → ((s.kind ≡ 0) × (s.at ≡ 40) → ⊥) → IsWalked s → s.kind ≡ 0 → ⊥
other_kinds s none walked z = ⊎_elim (λ k. omega (arith, k, z)) (λ more. ⊎_elim (λ k. omega (arith, k, z)) none more) walked

-- behind the first spot no header is a Hop-by-Hop header
later :
    (b : List ℕ) (s : Spot) (hs : List Lent) → 40 ≤ s.at → ((s.kind ≡ 0) × (s.at ≡ 40) → ⊥) → IsChain b s hs
    → All (λ h. h.kind ≢ 0) hs
later b s [] far none chain = All-nil (λ h. h.kind ≢ 0)
later b s (h ∷ hs) far none chain =
    let here = chain.0 in
    let size : length h.bytes ≡ header_length b s.at =
    ap length here.bytes ∙ length-take-le (header_length b s.at) (drop s.at b) (omega (arith, here.fits.whole, length-drop s.at b)) in
    All-cons (λ h. h.kind ≢ 0) h hs (λ z. other_kinds s none here.walked (sym here.kind ∙ z))
    (later b (spot_behind b h) hs (omega (arith, here.at, far, size)) (λ both. omega (arith, here.at, far, size, both.1)) chain.1)

-- a packet without Hop-by-Hop headers
hop-none :
    (b : List ℕ) (w : Bool) (hs : List Lent) (f : Ended) (seen : Seen) → hs ≡ [] → (f ≡ WasCut → HidesHopByHop b) → IsUnlessCut f seen
    → SeenInHopByHop b w hs f seen
hop-none b w hs f (Marks mark at) is hides u = absurd u
hop-none b w hs f NoMark is hides u =
    (subst (λ x. All (IsPassed 0) x) (sym is) (All-nil (IsPassed 0)), inr (λ cut. u cut.0))
hop-none b w hs f CutOff is hides u =
    (subst (λ x. All (λ h. h.kind ≢ 0) x) (sym is) (All-nil (λ h. h.kind ≢ 0)), u, hides u)

-- a fixed header that announces another number
pub hop-other :
    (b : List ℕ) (w : Bool) (f : Ended) (hs : List Lent) → IsFixed b → (slice_index b 6 ≡ 0 → ⊥)
    → HasHeaders b hs → EndsSo b w hs f → SeenInHopByHop b w hs f NoMark
hop-other b w f hs fixed other has so = (
  All-weaker (λ h. h.kind ≢ 0) (IsPassed 0) (λ h n. inl n) hs
      (later b (first_spot b) hs (omega arith) (λ both. other both.0) (has.fixed fixed).chain),
  inr (λ cut. ⊎_elim (λ short. omega (arith, short, fixed.whole)) other cut.1),
)

-- a fixed header that announces a Hop-by-Hop header, which isn't there whole
pub hop-end :
    (b : List ℕ) (w : Bool) (s : Spot) (e f : Ended) (seen : Seen) (hs : List Lent) → IsFixed b → s ≡ first_spot b
    → slice_index b 6 ≡ 0 → EndsAt b w s e → IsUnlessCut e seen → HasHeaders b hs → EndsSo b w hs f → SeenInHopByHop b w hs f seen
hop-end b w s e f seen hs fixed is zero_is ends u has so =
    let here = subst (λ x. EndsAt b w x e) is ends in
    let none = longest-none b (first_spot b) hs (ends-nothing b w (first_spot b) e here) (has.fixed fixed) in
    let other = subst (λ x. EndsAt b w (spot_after b (first_spot b) x) f) none (so.fixed fixed) in
    hop-none b w hs f seen none (λ is. inr zero_is)
    (unless-alike e f seen (cut-alike b w (first_spot b) e f here other) (cut-alike b w (first_spot b) f e other here) u)

-- the Hop-by-Hop header has a mark
pub hop-marked :
    (b : List ℕ) (s : Spot) (h : Lent) (hs : List Lent) (mark : Marking) (at : ℕ) → IsFixed b → s ≡ first_spot b → Stands b s h
    → h.kind ≡ 0 → MarksHeader h mark at → HasHeaders b hs → MarksChain 0 hs mark at
hop-marked b s h hs mark at fixed is here of_kind marked has =
    marks-chain 0 b (first_spot b) s h hs mark at
    (reaches-start (IsPassed 0) b (first_spot b) s hs is (has.fixed fixed)) here of_kind marked

-- it has none
pub hop-unmarked :
    (b : List ℕ) (w : Bool) (s : Spot) (h : Lent) (f : Ended) (hs : List Lent) → IsFixed b → s ≡ first_spot b → Stands b s h
    → slice_index b 6 ≡ 0 → IsPassed 0 h → HasHeaders b hs → SeenInHopByHop b w hs f NoMark
hop-unmarked b w s h f hs fixed is here zero_is passed has =
    let first = subst (λ x. Stands b x h) is here in
    let tail = longest-tail b (first_spot b) h hs first (has.fixed fixed) in
    let size : length h.bytes ≡ header_length b 40 =
    ap length first.bytes ∙ length-take-le (header_length b 40) (drop 40 b) (omega (arith, first.fits.whole, length-drop 40 b)) in
    let others = later b (spot_behind b h) tail.0 (omega (arith, first.at, size)) (λ both. omega (arith, first.at, size, both.1)) tail.2.chain in (
      subst (λ x. All (IsPassed 0) x) (sym tail.1)
          (All-cons (IsPassed 0) h tail.0 passed (All-weaker (λ h. h.kind ≢ 0) (IsPassed 0) (λ h n. inl n) tail.0 others)),
      inl (h, tail.0, tail.1, first.kind ∙ zero_is),
    )
