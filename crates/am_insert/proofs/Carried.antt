-- The headers before a place where a packet changes, as they stand in the changed packet.
use Rattle.std.proofs.Common.{arith, refl, sym, ap, subst, ◌∙◌, ◌≡◌, ◌≢◌, ℕ, ◌+◌, ◌*◌, ◌<◌, ◌≤◌, List, [], ◌∷◌, ◌++◌, map, length, take, drop, slice_index, append_assoc}
use Rattle.std.proofs.lemmas.List.{length-take-le, length-drop, get_or-drop, get_or-take, ext_get_or, drop-take, drop-drop}
use Rattle.am_opts.specs.Options.{IsOptionsOf}
use Rattle.am_ip6.specs.Fixed.{IsFixed, limit_of}
use Rattle.am_ip6.specs.Chains.{Lent, Spot, Stands, IsChain, HasHeaders, first_spot, spot_behind, spot_after, header_length}

-- a header has as many bytes as it says
pub stands-size : (p : List ℕ) (s : Spot) (h : Lent) → Stands p s h → length h.bytes ≡ header_length p s.at
stands-size p s h here =
    ap length here.bytes ∙ length-take-le (header_length p s.at) (drop s.at p) (omega (arith, here.fits.whole, length-drop s.at p))

-- how far a chain goes
pub after-within : (p : List ℕ) (s : Spot) (hs : List Lent) → IsChain p s hs → s.at ≤ limit_of p → (spot_after p s hs).at ≤ limit_of p
after-within p s [] chain within = within
after-within p s (h ∷ hs) chain within =
    after-within p (spot_behind p h) hs chain.1 (omega (arith, stands-size p s h chain.0, chain.0.at, chain.0.fits.whole))

pub after-least : (p : List ℕ) (s : Spot) (hs : List Lent) → IsChain p s hs → s.at ≤ (spot_after p s hs).at
after-least p s [] chain = omega arith
after-least p s (h ∷ hs) chain =
    omega (arith, after-least p (spot_behind p h) hs chain.1, chain.0.at)

-- where the byte stands that announces what follows a chain
pub told-before :
    (p : List ℕ) (s : Spot) (hs : List Lent) → IsChain p s hs → s.told_at < s.at → (spot_after p s hs).told_at < (spot_after p s hs).at
told-before p s [] chain before = before
told-before p s (h ∷ hs) chain before =
    told-before p (spot_behind p h) hs chain.1 (omega (arith, stands-size p s h chain.0))

pub told-least :
    (p : List ℕ) (s : Spot) (hs : List Lent) → IsChain p s hs → s.told_at < s.at → s.told_at ≤ (spot_after p s hs).told_at
told-least p s [] chain before = omega arith
told-least p s (h ∷ hs) chain before =
    omega (arith, told-least p (spot_behind p h) hs chain.1 (omega (arith, stands-size p s h chain.0)), chain.0.at, before)

-- it announces it
pub told-kind :
    (q : List ℕ) (s : Spot) (hs : List Lent) → s.kind ≡ slice_index q s.told_at
    → (spot_after q s hs).kind ≡ slice_index q (spot_after q s hs).told_at
told-kind q s [] is = is
told-kind q s (h ∷ hs) is = told-kind q (spot_behind q h) hs refl

-- a header with the bytes that another packet has at its place
abbrev pub as_in : List ℕ → Lent → Lent
as_in q h = record { kind = h.kind; at = h.at; bytes = take (length h.bytes) (drop h.at q) }

pub as_in-size : (q : List ℕ) (h : Lent) → h.at + length h.bytes ≤ length q → length (as_in q h).bytes ≡ length h.bytes
as_in-size q h within = length-take-le (length h.bytes) (drop h.at q) (omega (arith, within, length-drop h.at q))

-- the same bytes at the same places
pub same_part :
    (p q : List ℕ) (from n : ℕ) → from + n ≤ length p → from + n ≤ length q
    → ((i : ℕ) → from ≤ i → i < from + n → slice_index q i ≡ slice_index p i) → take n (drop from q) ≡ take n (drop from p)
same_part p q from n in_p in_q same =
    let size_q = length-take-le n (drop from q) (omega (arith, in_q, length-drop from q)) in
    let size_p = length-take-le n (drop from p) (omega (arith, in_p, length-drop from p)) in
    ext_get_or 0 (take n (drop from q)) (take n (drop from p)) (size_q ∙ sym size_p)
    (λ i below.
    let low : i < n = omega (arith, below, size_q) in
    get_or-take n (drop from q) i 0 low ∙ get_or-drop from q i 0
    ∙ same (from + i) (omega arith) (omega (arith, low))
    ∙ sym (get_or-take n (drop from p) i 0 low ∙ get_or-drop from p i 0))

-- what stands behind the first two bytes of a part
pub behind_two : (p : List ℕ) (at n m : ℕ) → n ≡ 2 + m → drop 2 (take n (drop at p)) ≡ take m (drop (at + 2) p)
behind_two p at n m is =
    ap (λ k. drop 2 (take k (drop at p))) is ∙ drop-take 2 m (drop at p) ∙ ap (λ (l : List ℕ). take m l) (drop-drop 2 at p)

-- a header stands in a packet that has its bytes behind the first
stands-carried :
    (p q : List ℕ) (s : Spot) (h : Lent) → Stands p s h → limit_of p ≤ limit_of q
    → ((i : ℕ) → s.at < i → i < s.at + length h.bytes → slice_index q i ≡ slice_index p i) → Stands q s (as_in q h)
stands-carried p q s h here limit same =
    let size = stands-size p s h here in
    let told : header_length q s.at ≡ header_length p s.at = ap (λ n. 8 + 8 * n) (same (s.at + 1) (omega arith) (omega (arith, size))) in
    let in_p : s.at + length h.bytes ≤ length p = omega (arith, size, here.fits.whole) in
    let in_q : s.at + length h.bytes ≤ length q = omega (arith, size, here.fits.whole, limit) in
    let bytes : take (length h.bytes) (drop h.at q) ≡ take (length h.bytes) (drop s.at q) =
    ap (λ n. take (length h.bytes) (drop n q)) here.at in
    let m : ℕ = 6 + 8 * slice_index p (s.at + 1) in
    let two : length h.bytes ≡ 2 + m = omega (arith, size) in
    let area : drop 2 (as_in q h).bytes ≡ drop 2 h.bytes =
    ap (λ (l : List ℕ). drop 2 l) bytes ∙ behind_two q s.at (length h.bytes) m two
    ∙ same_part p q (s.at + 2) m (omega (arith, in_p, two)) (omega (arith, in_q, two)) (λ i low high. same i (omega (arith, low)) (omega (arith, high, two)))
    ∙ sym (behind_two p s.at (length h.bytes) m two)
    ∙ ap (λ n. drop 2 (take n (drop s.at p))) size
    ∙ ap (λ (l : List ℕ). drop 2 l) (sym here.bytes) in
    record {
      walked = here.walked;
      kind = here.kind;
      at = here.at;
      fits = record {
        first_two = omega (arith, here.fits.first_two, limit);
        whole = omega (arith, here.fits.whole, limit, told);
      };
      bytes = bytes ∙ ap (λ n. take n (drop s.at q)) (size ∙ sym told);
      options = λ n.
          let o = here.options n in
          (o.0, subst (λ (l : List ℕ). IsOptionsOf l o.0) (sym area) o.1);
    }

pub same_spots : (s t : Spot) → s.kind ≡ t.kind → s.at ≡ t.at → s.told_at ≡ t.told_at → s ≡ t
same_spots s t a b c = grind arith

-- behind the first two bytes of its first header no byte of a chain announces what follows it
told_other :
    (p : List ℕ) (s : Spot) (h : Lent) (hs : List Lent) → IsChain p s (h ∷ hs) → (i : ℕ) → s.at < i → i < s.at + length h.bytes
    → i ≢ (spot_after p s (h ∷ hs)).told_at
told_other p s h [] chain i low high = λ e. omega (arith, e, low, chain.0.at)
told_other p s h (k ∷ hs) chain i low high = λ e.
    let next = stands-size p (spot_behind p h) k chain.1.0 in
    omega (arith, e, high, told-least p (spot_behind p k) hs chain.1.1 (omega (arith, next)), chain.1.0.at, chain.0.at)

-- what a chain says of the bytes that stay: all behind its first place, but for the one that announces what follows it
abbrev Stay : List ℕ → List ℕ → Spot → List Lent → Type 0
Stay p q s hs =
    (i : ℕ) → s.at ≤ i → i < (spot_after p s hs).at → i ≢ (spot_after p s hs).told_at → slice_index q i ≡ slice_index p i

-- a header before another one stands, and announces the same
module _ (p q : List ℕ) (limit : limit_of p ≤ limit_of q) where
  first-carried : (s : Spot) (h : Lent) (hs : List Lent) → IsChain p s (h ∷ hs) → Stay p q s (h ∷ hs) → Stands q s (as_in q h)
  first-carried s h hs chain same =
      let size = stands-size p s h chain.0 in
      let far = after-least p (spot_behind p h) hs chain.1 in
      stands-carried p q s h chain.0 limit
      (λ i low high. same i (omega (arith, low)) (omega (arith, high, far, chain.0.at))
      (told_other p s h hs chain i low high))

  size-carried : (s : Spot) (h : Lent) → Stands p s h → length (as_in q h).bytes ≡ length h.bytes
  size-carried s h here =
      as_in-size q h (omega (arith, stands-size p s h here, here.at, here.fits.whole, limit))

  spot-carried :
      (s : Spot) (h k : Lent) (hs : List Lent) → IsChain p s (h ∷ k ∷ hs) → Stay p q s (h ∷ k ∷ hs) → spot_behind p h ≡ spot_behind q (as_in q h)
  spot-carried s h k hs chain same =
      let size = stands-size p s h chain.0 in
      let next = stands-size p (spot_behind p h) k chain.1.0 in
      let told = told-least p (spot_behind p k) hs chain.1.1 (omega (arith, next)) in
      let far = after-least p (spot_behind p k) hs chain.1.1 in
      same_spots (spot_behind p h) (spot_behind q (as_in q h))
      (sym (same h.at (omega (arith, chain.0.at)) (omega (arith, far, chain.1.0.at, size)) (λ e. omega (arith, e, told, chain.1.0.at, size))))
      (ap (λ n. h.at + n) (sym (size-carried s h chain.0))) refl

  pub chain-carried : (s : Spot) (hs : List Lent) → IsChain p s hs → Stay p q s hs → IsChain q s (map (as_in q) hs)
  chain-carried s [] chain same = tt
  chain-carried s (h ∷ []) chain same = (first-carried s h [] chain same, tt)
  chain-carried s (h ∷ k ∷ hs) chain same =
      let again = chain-carried (spot_behind p h) (k ∷ hs) chain.1
      (λ i low high other. same i (omega (arith, low, chain.0.at)) high other) in (
        first-carried s h (k ∷ hs) chain same,
        subst (λ x. IsChain q x (map (as_in q) (k ∷ hs))) (spot-carried s h k hs chain same) again,
      )

  -- the spot behind it has the same place, and is announced at the same place
  pub record IsSamePlace (s t : Spot) : Type 0 where
    pub at : t.at ≡ s.at
    pub told : t.told_at ≡ s.told_at

  pub after-carried :
      (s t : Spot) (hs : List Lent) → IsChain p s hs → IsSamePlace s t → IsSamePlace (spot_after p s hs) (spot_after q t (map (as_in q) hs))
  after-carried s t [] chain same = same
  after-carried s t (h ∷ hs) chain same =
      after-carried (spot_behind p h) (spot_behind q (as_in q h)) hs chain.1
      (record { at = ap (λ n. h.at + n) (size-carried s h chain.0); told = refl })

-- a packet with a chain of headers, and another packet that has these headers
pub record Front (p q : List ℕ) (hs : List Lent) : Type 0 where
  pub chain : IsChain q (first_spot q) (map (as_in q) hs)
  pub at : (spot_after q (first_spot q) (map (as_in q) hs)).at ≡ (spot_after p (first_spot p) hs).at
  pub told : (spot_after q (first_spot q) (map (as_in q) hs)).told_at ≡ (spot_after p (first_spot p) hs).told_at
  pub kind : (spot_after q (first_spot q) (map (as_in q) hs)).kind ≡ slice_index q (spot_after p (first_spot p) hs).told_at

first-chain :
    (p q : List ℕ) (hs : List Lent) → limit_of p ≤ limit_of q → IsChain p (first_spot p) hs
    → ((i : ℕ) → 6 ≤ i → i < (spot_after p (first_spot p) hs).at → i ≢ (spot_after p (first_spot p) hs).told_at → slice_index q i ≡ slice_index p i)
    → IsChain q (first_spot q) (map (as_in q) hs)
first-chain p q [] limit chain same = tt
first-chain p q (h ∷ hs) limit chain same =
    let size = stands-size p (first_spot p) h chain.0 in
    let told = told-least p (spot_behind p h) hs chain.1 (omega (arith, size)) in
    let far = after-least p (spot_behind p h) hs chain.1 in
    let six : slice_index p 6 ≡ slice_index q 6 =
    sym (same 6 (omega arith) (omega (arith, far, chain.0.at)) (λ e. omega (arith, e, told, chain.0.at))) in
    subst (λ x. IsChain q x (map (as_in q) (h ∷ hs)))
    (same_spots (first_spot p) (first_spot q) six refl refl)
    (chain-carried p q limit (first_spot p) (h ∷ hs) chain (λ i low high other. same i (omega (arith, low)) high other))

pub front-carried :
    (p q : List ℕ) (hs : List Lent) → limit_of p ≤ limit_of q → IsChain p (first_spot p) hs
    → ((i : ℕ) → 6 ≤ i → i < (spot_after p (first_spot p) hs).at → i ≢ (spot_after p (first_spot p) hs).told_at → slice_index q i ≡ slice_index p i)
    → Front p q hs
front-carried p q hs limit chain same =
    let places = after-carried p q limit (first_spot p) (first_spot q) hs chain (record { at = refl; told = refl }) in
    record {
      chain = first-chain p q hs limit chain same;
      at = places.at;
      told = places.told;
      kind = told-kind q (first_spot q) (map (as_in q) hs) refl ∙ ap (λ n. slice_index q n) places.told;
    }

-- a longer chain
chain-more :
    (b : List ℕ) (s : Spot) (hs : List Lent) (h : Lent) → IsChain b s hs → Stands b (spot_after b s hs) h → IsChain b s (hs ++ h ∷ [])
chain-more b s [] h chain here = (here, tt)
chain-more b s (k ∷ ks) h chain here = (chain.0, chain-more b (spot_behind b k) ks h chain.1 here)

-- the longest chain goes on with what stands behind its front
pub goes_on_with :
    (q : List ℕ) (all hs : List Lent) (h : Lent) → IsFixed q → HasHeaders q all → IsChain q (first_spot q) hs
    → Stands q (spot_after q (first_spot q) hs) h → (tail : List Lent) × (all ≡ hs ++ h ∷ tail)
goes_on_with q all hs h fixed has chain here =
    let more = (has.fixed fixed).longest (hs ++ h ∷ []) (chain-more q (first_spot q) hs h chain here) in
    (more.0, more.1 ∙ append_assoc hs (h ∷ []) more.0)
