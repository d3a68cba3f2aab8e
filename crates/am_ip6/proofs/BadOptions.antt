-- A header whose options aren't an option list, from what is known of its bytes.
use Rattle.std.proofs.Common.{ap, subst, ◌∙◌, ◌≡◌, ℕ, ◌+◌, List, take, drop}
use Rattle.am_opts.specs.Options.{IsLongest}
use Rattle.am_ip6.specs.Chains.{Spot, IsWalked, FitsAt, HasOptions, header_length}
use Rattle.am_ip6.specs.Endings.{HasBadOptions}
use Rattle.am_ip6.specs.Marks.{BreaksAt}

pub bad_options :
    (b : List ℕ) (s : Spot) (size place : ℕ) (header : List ℕ) → IsWalked s → FitsAt b s.at → size ≡ header_length b s.at
    → header ≡ take size (drop s.at b) → BreaksAt (record { kind = s.kind; at = s.at; bytes = header }) place → HasBadOptions b s place
bad_options b s size place header walked fits size_is header_is breaks =
    let e : header ≡ take (header_length b s.at) (drop s.at b) = header_is ∙ ap (λ n. take n (drop s.at b)) size_is in
    record {
      walked = walked;
      kind = breaks.kind;
      fits = fits;
      options = breaks.stops.options;
      longest = subst (λ x. IsLongest 0 (drop 2 x) breaks.stops.options) e breaks.stops.longest;
      bad = subst (λ x. HasOptions x → ⊥) e breaks.bad;
      place_is = breaks.place_is ∙ ap (λ n. s.at + 2 + n) breaks.stops.place_is;
    }
