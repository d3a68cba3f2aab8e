-- Chains: a header at a spot is one, the longest chain is one, and what a walk has passed.
use Rattle.std.proofs.Common.{arith, refl, sym, ap, subst, ◌∙◌, ◌≡◌, ℕ, Bool, List, [], ◌∷◌, ◌++◌, take, drop, append_assoc, All, ⊎_elim}
use Rattle.std.proofs.lemmas.List.{append-nil}
use Rattle.std.proofs.lemmas.List.Elements.{All-nil, All-cons, All-append}
use Rattle.am_ip6.specs.Endings.{Ended, EndsAt, EndsSo}
use Rattle.am_ip6.specs.Endings.Ended.{AtNumber, WasCut, IsMalformed}
use Rattle.am_ip6.specs.Fixed.{IsFixed}
use Rattle.am_ip6.specs.Chains.{Lent, Spot, HasOptions, Stands, IsChain, IsLongestChain, HasHeaders, first_spot, spot_behind, spot_after, header_length}

same_parts : (h k : Lent) → h.kind ≡ k.kind → h.at ≡ k.at → h.bytes ≡ k.bytes → h ≡ k
same_parts h k a b c = grind arith

-- at most one header stands at a spot
pub stands-unique : (packet : List ℕ) (s : Spot) (h k : Lent) → Stands packet s h → Stands packet s k → h ≡ k
stands-unique packet s h k p q =
    same_parts h k (p.kind ∙ sym q.kind) (p.at ∙ sym q.at) (p.bytes ∙ sym q.bytes)

-- each chain from this spot is a front of one behind which no header stands
fronts :
    (packet : List ℕ) (s : Spot) (hs : List Lent) → IsChain packet s hs
    → ((h : Lent) → Stands packet (spot_after packet s hs) h → ⊥)
    → (others : List Lent) → IsChain packet s others → (tail : List Lent) × (hs ≡ others ++ tail)
fronts packet s hs chain stopped [] other = (hs, refl)
fronts packet s [] chain stopped (o ∷ os) other = absurd (stopped o other.0)
fronts packet s (h ∷ hs) chain stopped (o ∷ os) other =
    let same : h ≡ o = stands-unique packet s h o chain.0 other.0 in
    let again : IsChain packet (spot_behind packet h) os =
    let P : Lent → Type 0 = λ x. IsChain packet (spot_behind packet x) os in subst P (sym same) other.1 in
    let rest = fronts packet (spot_behind packet h) hs chain.1 stopped os again in
    (rest.0, cc (same, rest.1))

-- a chain behind which no header stands is the longest
pub longest-if_stopped :
    (packet : List ℕ) (s : Spot) (hs : List Lent) → IsChain packet s hs
    → ((h : Lent) → Stands packet (spot_after packet s hs) h → ⊥) → IsLongestChain packet s hs
longest-if_stopped packet s hs chain stopped =
    record { chain = chain; longest = fronts packet s hs chain stopped }

-- a list that is a front of its own front is that front
fronts-equal : (xs ys ts us : List Lent) → xs ≡ ys ++ ts → ys ≡ xs ++ us → xs ≡ ys
fronts-equal [] [] ts us e f = refl
fronts-equal [] (y ∷ ys) ts us e f = cc
fronts-equal (x ∷ xs) [] ts us e f = cc
fronts-equal (x ∷ xs) (y ∷ ys) ts us e f =
    let head : x ≡ y = cc in
    let e' : xs ≡ ys ++ ts = cc in
    let f' : ys ≡ xs ++ us = cc in
    let tail = fronts-equal xs ys ts us e' f' in
    cc (head, tail)

-- there is one longest chain
pub longest-unique :
    (packet : List ℕ) (s : Spot) (hs ks : List Lent) → IsLongestChain packet s hs → IsLongestChain packet s ks → hs ≡ ks
longest-unique packet s hs ks p q =
    let x = p.longest ks q.chain in
    let y = q.longest hs p.chain in
    fronts-equal hs ks x.0 y.0 x.1 y.1

-- with a header before it, the longest chain is one behind which each other is a front
fronts_of :
    (packet : List ℕ) (s : Spot) (h : Lent) (hs : List Lent) → Stands packet s h
    → IsLongestChain packet (spot_behind packet h) hs
    → (others : List Lent) → IsChain packet s others → (tail : List Lent) × (h ∷ hs ≡ others ++ tail)
fronts_of packet s h hs here behind [] other = (h ∷ hs, refl)
fronts_of packet s h hs here behind (o ∷ os) other =
    let same : h ≡ o = stands-unique packet s h o here other.0 in
    let again : IsChain packet (spot_behind packet h) os =
    let P : Lent → Type 0 = λ x. IsChain packet (spot_behind packet x) os in subst P (sym same) other.1 in
    let rest = behind.longest os again in
    (rest.0, cc (same, rest.1))

-- a header, and the longest chain behind it
pub longest-cons :
    (packet : List ℕ) (s : Spot) (h : Lent) (hs : List Lent) → Stands packet s h
    → IsLongestChain packet (spot_behind packet h) hs → IsLongestChain packet s (h ∷ hs)
longest-cons packet s h hs here behind =
    record { chain = (here, behind.chain); longest = fronts_of packet s h hs here behind }

-- behind the first header of a longest chain, the others are the longest
tail_longest :
    (packet : List ℕ) (s : Spot) (k : Lent) (ks : List Lent) → IsLongestChain packet s (k ∷ ks)
    → IsLongestChain packet (spot_behind packet k) ks
tail_longest packet s k ks longest = record {
  chain = longest.chain.1;
  longest = λ others other.
      let more = longest.longest (k ∷ others) (longest.chain.0, other) in
      let e : ks ≡ others ++ more.0 = cc (more.1) in
      (more.0, e);
}

-- where a header stands, the longest chain begins with it
pub longest-tail :
    (packet : List ℕ) (s : Spot) (h : Lent) (ks : List Lent) → Stands packet s h → IsLongestChain packet s ks
    → (hs : List Lent) × (ks ≡ h ∷ hs) × IsLongestChain packet (spot_behind packet h) hs
longest-tail packet s h [] here longest =
    let none = longest.longest (h ∷ []) (here, tt) in
    absurd (cc (none.1))
longest-tail packet s h (k ∷ ks) here longest =
    let same : k ≡ h = stands-unique packet s k h longest.chain.0 here in
    let e : k ∷ ks ≡ h ∷ ks = cc (same) in
    let P : Lent → Type 0 = λ x. IsLongestChain packet (spot_behind packet x) ks in
    (ks, e, subst P same (tail_longest packet s k ks longest))

-- where no header stands, the longest chain is empty
pub longest-none :
    (packet : List ℕ) (s : Spot) (ks : List Lent) → ((h : Lent) → Stands packet s h → ⊥) → IsLongestChain packet s ks → ks ≡ []
longest-none packet s [] none longest = refl
longest-none packet s (k ∷ ks) none longest = absurd (none k longest.chain.0)

-- a header of options that stands here has them
options_here :
    (b : List ℕ) (s : Spot) (h : Lent) → (s.kind ≡ 43 → ⊥) → Stands b s h → HasOptions (take (header_length b s.at) (drop s.at b))
options_here b s h kind here = subst (λ x. HasOptions x) here.bytes (here.options kind)

-- no header stands where a walk ends
pub ends-nothing : (b : List ℕ) (w : Bool) (s : Spot) (e : Ended) → EndsAt b w s e → (h : Lent) → Stands b s h → ⊥
ends-nothing b w s (AtNumber n a t) ends h here = ends.1 here.walked
ends-nothing b w s WasCut ends h here = ends.0.lacks here.fits
ends-nothing b w s (IsMalformed p) ends h here =
    ⊎_elim (λ l. l.0.lacks here.fits) (λ o. o.bad (options_here b s h o.kind here)) ends

-- the same bytes at an earlier and at a later spot: which headers of the longest chain were passed, each of them such
pub record Reaches (P : Lent → Type 0) (b : List ℕ) (first spot : Spot) (hs : List Lent) : Type 0 where
  pub front : List Lent
  pub rest : List Lent
  pub split : hs ≡ front ++ rest
  pub passed : All P front
  pub longest : IsLongestChain b spot rest
  pub after : spot_after b first hs ≡ spot_after b spot rest

-- a walk reaches where it begins
pub reaches-start :
    (P : Lent → Type 0) (b : List ℕ) (s t : Spot) (hs : List Lent) → t ≡ s → IsLongestChain b s hs → Reaches P b s t hs
reaches-start P b s t hs is longest = record {
  front = [];
  rest = hs;
  split = refl;
  passed = All-nil P;
  longest = subst (λ x. IsLongestChain b x hs) (sym is) longest;
  after = ap (λ x. spot_after b x hs) (sym is);
}

-- behind a header, it reaches the spot behind
pub reaches-more :
    (P : Lent → Type 0) (b : List ℕ) (first s t : Spot) (h : Lent) (hs : List Lent) → Reaches P b first s hs
    → Stands b s h → P h → t ≡ spot_behind b h → Reaches P b first t hs
reaches-more P b first s t h hs r here p is =
    let tail = longest-tail b s h r.rest here r.longest in
    record {
      front = r.front ++ h ∷ [];
      rest = tail.0;
      split = r.split ∙ ap (λ x. r.front ++ x) tail.1 ∙ sym (append_assoc r.front (h ∷ []) tail.0);
      passed = All-append P r.front (h ∷ []) r.passed (All-cons P h [] p (All-nil P));
      longest = subst (λ x. IsLongestChain b x tail.0) (sym is) tail.2;
      after = r.after ∙ ap (λ x. spot_after b s x) tail.1 ∙ ap (λ x. spot_after b x tail.0) (sym is);
    }

-- where it ends, it has passed all
pub reaches-end :
    (P : Lent → Type 0) (b : List ℕ) (w : Bool) (first s : Spot) (e : Ended) (hs : List Lent) → Reaches P b first s hs
    → EndsAt b w s e → All P hs × (spot_after b first hs ≡ s)
reaches-end P b w first s e hs r ends =
    let none : r.rest ≡ [] = longest-none b s r.rest (ends-nothing b w s e ends) r.longest in
    let all : hs ≡ r.front = r.split ∙ ap (λ x. r.front ++ x) none ∙ append-nil r.front in
    (subst (λ x. All P x) (sym all) r.passed, r.after ∙ ap (λ x. spot_after b s x) none)

-- a packet with a fixed header ends so, where its walk ends so at a spot that it reaches
pub ends-so :
    (P : Lent → Type 0) (b : List ℕ) (w : Bool) (s : Spot) (e : Ended) (hs : List Lent) → IsFixed b
    → ((ks : List Lent) → IsLongestChain b (first_spot b) ks → Reaches P b (first_spot b) s ks) → EndsAt b w s e
    → HasHeaders b hs → EndsSo b w hs e
ends-so P b w s e hs fixed reach ends has = record {
  fixed = λ f.
      let all = reaches-end P b w (first_spot b) s e hs (reach hs (has.fixed f)) ends in
      subst (λ x. EndsAt b w x e) (sym all.1) ends;
  other = λ n. absurd (n fixed);
}
