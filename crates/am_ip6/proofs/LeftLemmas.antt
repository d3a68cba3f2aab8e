-- The headers that a walk has still to lend are the longest chain from where it is.
use Rattle.std.proofs.Common.{arith, refl, subst, ◌≡◌, ◌⊎◌, inl, inr, ⊎_elim, ℕ, zero, suc, ◌+◌, ◌≤◌, Bool, true, false, cond, List, [], ◌∷◌, length, drop, eqb, ◌&&◌, ◌||◌}
use Rattle.std.proofs.lemmas.Bool.{eqb-true}
use Rattle.std.proofs.lemmas.Bool.Decides.{nat_tests}
use Rattle.std.proofs.lemmas.List.{length-take-le, length-drop}
use Rattle.am_opts.specs.Lent.{options_behind}
use Rattle.am_opts.specs.Laws.{HasOneLongest}
use Rattle.am_ip6.specs.Fixed.{IsFixed}
use Rattle.am_ip6.specs.Chains.{Lent, Spot, IsWalked, FitsAt, HasOptions, Stands, IsLongestChain, HasHeaders, first_spot, spot_behind, header_length}
use Rattle.am_ip6.specs.Left.{header_at, walked_at, fits_at, has_options, stands_at, headers_from}
use Rattle.am_ip6.proofs.ChainLemmas.{longest-if_stopped, longest-cons, longest-none, longest-unique, ends-nothing}
use Rattle.am_ip6.specs.Endings.{Ended, EndsAt}

pub walked-true : (s : Spot) → walked_at s ≡ true → IsWalked s
unfolding walked_at
walked-true s e = grind (arith, nat_tests)

pub walked-false : (s : Spot) → walked_at s ≡ false → IsWalked s → ⊥
unfolding walked_at
walked-false s e w = grind (arith, nat_tests)

pub fits-true : (b : List ℕ) (at : ℕ) → fits_at b at ≡ true → FitsAt b at
unfolding fits_at
fits-true b at e = grind (arith, nat_tests)

pub fits-false : (b : List ℕ) (at : ℕ) → fits_at b at ≡ false → FitsAt b at → ⊥
unfolding fits_at
fits-false b at e f = grind (arith, nat_tests, f.first_two, f.whole)

and-true : (p q : Bool) → (p && q) ≡ true → (p ≡ true) × (q ≡ true)
and-true true q e = (refl, e)
and-true false q e = cc

and-false : (p q : Bool) → (p && q) ≡ false → (p ≡ false) ⊎ (q ≡ false)
and-false true q e = inr e
and-false false q e = inl refl

or-true : (p q : Bool) → (p || q) ≡ true → (p ≡ true) ⊎ (q ≡ true)
or-true true q e = inl refl
or-true false q e = inr e

or-false : (p q : Bool) → (p || q) ≡ false → (p ≡ false) × (q ≡ false)
or-false true q e = cc
or-false false q e = (refl, e)

-- the bytes of a header that fits are as many as it says
fits-length : (b : List ℕ) (s : Spot) → FitsAt b s.at → length (header_at b s).bytes ≡ header_length b s.at
fits-length b s f =
    let enough : header_length b s.at ≤ length (drop s.at b) = omega (arith, f.whole, length-drop s.at b) in
    length-take-le (header_length b s.at) (drop s.at b) enough

pub from_few : (more : ℕ) (b : List ℕ) (s : Spot) → length (headers_from more b s) ≤ more
unfolding headers_from
from_few zero b s = omega arith
from_few (suc more) b s =
    elim (stands_at b s) as (λ t. length (cond t (header_at b s ∷ headers_from more b (spot_behind b (header_at b s))) []) ≤ suc more) [
      | true ↦ omega (arith, from_few more b (spot_behind b (header_at b s)))
      | false ↦ omega arith
    ]

pub has-none : (b : List ℕ) → (IsFixed b → ⊥) → HasHeaders b []
has-none b n = record { fixed = λ f. absurd (n f); other = λ m. refl }

-- what is known of the longest front of options
module _ (law : (area : List ℕ) → HasOneLongest area) where
  options-true : (h : List ℕ) → has_options h ≡ true → HasOptions h
  unfolding has_options
  options-true h e =
      (options_behind (drop 2 h) 0, (law (drop 2 h)).whole _ ((law (drop 2 h)).lent 0) (eqb-true _ _ e))

  options-false : (h : List ℕ) → has_options h ≡ false → HasOptions h → ⊥
  unfolding has_options
  options-false h e o =
      let whole = (law (drop 2 h)).listed _ ((law (drop 2 h)).lent 0) o in
      grind (arith, nat_tests, e, whole)

  stands-true : (b : List ℕ) (s : Spot) → stands_at b s ≡ true → Stands b s (header_at b s)
  unfolding stands_at
  stands-true b s e =
      let parts = and-true (walked_at s) _ e in
      let more = and-true (fits_at b s.at) _ parts.1 in
      record {
        walked = walked-true s parts.0;
        kind = refl;
        at = refl;
        fits = fits-true b s.at more.0;
        bytes = refl;
        options = λ n.
            ⊎_elim (λ k. absurd (n (eqb-true s.kind 43 k))) (λ o. options-true (header_at b s).bytes o) (or-true (eqb s.kind 43) _ more.1);
      }

  stands-false : (b : List ℕ) (s : Spot) → stands_at b s ≡ false → (h : Lent) → Stands b s h → ⊥
  unfolding stands_at
  stands-false b s e h here =
      ⊎_elim (λ w. walked-false s w here.walked)
      (λ more. ⊎_elim (λ f. fits-false b s.at f here.fits)
      (λ o.
      let parts = or-false (eqb s.kind 43) _ o in
      let kind : s.kind ≡ 43 → ⊥ = λ k. grind (arith, nat_tests, k, parts.0) in
      options-false (header_at b s).bytes parts.1 (subst (λ x. HasOptions x) here.bytes (here.options kind)))
      (and-false (fits_at b s.at) _ more))
      (and-false (walked_at s) _ e)

  -- so many headers as there may be, given as many as there are bytes behind the spot
  pub from_longest : (more : ℕ) (b : List ℕ) (s : Spot) → length b ≤ more + s.at → IsLongestChain b s (headers_from more b s)
  unfolding headers_from
  from_longest zero b s h = longest-if_stopped b s [] tt (λ x here. omega (arith, h, here.fits.first_two))
  from_longest (suc more) b s h =
      elim (stands_at b s) as (λ t. stands_at b s ≡ t → IsLongestChain b s (cond t (header_at b s ∷ headers_from more b (spot_behind b (header_at b s))) [])) [
        | true ↦ λ e.
            let here = stands-true b s e in
            longest-cons b s (header_at b s) _ here
            (from_longest more b (spot_behind b (header_at b s)) (omega (arith, h, fits-length b s here.fits)))
        | false ↦ λ e. longest-if_stopped b s [] tt (stands-false b s e)
      ] refl

  -- all headers from a spot on
  all_from : (b : List ℕ) (s : Spot) → IsLongestChain b s (headers_from (length b) b s)
  all_from b s = from_longest (length b) b s (omega arith)

  pub has-some : (b : List ℕ) (s : Spot) → IsFixed b → s ≡ first_spot b → HasHeaders b (headers_from (length b) b s)
  has-some b s fixed is = record {
    fixed = λ f. subst (λ x. IsLongestChain b x (headers_from (length b) b s)) is (all_from b s);
    other = λ n. absurd (n fixed);
  }

  -- the header that stands at a spot comes first
  pub left-some :
      (b : List ℕ) (s t : Spot) (h : Lent) → Stands b s h → t ≡ spot_behind b h
      → headers_from (length b) b s ≡ h ∷ headers_from (length b) b t
  left-some b s t h here is =
      longest-unique b s _ _ (all_from b s)
      (longest-cons b s h _ here (subst (λ x. IsLongestChain b x (headers_from (length b) b t)) is (all_from b t)))

  -- none comes where the walk ends
  pub left-none : (b : List ℕ) (w : Bool) (s : Spot) (e : Ended) → EndsAt b w s e → headers_from (length b) b s ≡ []
  left-none b w s e ends = longest-none b s _ (ends-nothing b w s e ends) (all_from b s)
