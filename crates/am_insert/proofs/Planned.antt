-- What an edit of a plan makes of a packet.
use Rattle.std.proofs.Common.{arith, sym, ap, subst, ◌∙◌, ◌≡◌, ℕ, ◌+◌, ◌*◌, Bool, List, length, set, slice_index}
use Rattle.am_opts.specs.Marking.{Marking}
use Rattle.am_ip6.specs.declared.marks.Place.{Place}
use Rattle.am_ip6.specs.declared.marks.Place.TheVariants.{HopByHop, Destination}
use Rattle.am_ip6.specs.Fixed.{IsFixed, payload_of}
use Rattle.am_ip6.specs.Chains.{Lent, Spot, HasOptions, first_spot, spot_after}
use Rattle.am_ip6.specs.Laws.{HasOneWalk}
use Rattle.am_insert.specs.Changes.{kind_of, put_in, with_payload, spot_of_new}
use Rattle.am_insert.specs.Inserting.{PutsHeader, Lengthens}
use Rattle.am_insert.specs.Parts.{FollowsHeaders, IsNewSpot, StandsIn, Bounds, IsEight, announced_spot}
use Rattle.am_insert.specs.declared.insert.Announced.{Announced}
use Rattle.am_insert.proofs.Carried.{stands-size, after-least, after-within, told-before, told-least}

-- what is known of the places of a header that stands in a packet
pub bounds : (p : List ℕ) (h : Lent) → StandsIn p h → Bounds p h
bounds p h in_p =
    let here = in_p.stands in
    let size = stands-size p in_p.spot h here ∙ ap (λ i. 8 + 8 * slice_index p (i + 1)) (sym here.at) in
    let fits = here.fits.whole in
    record {
      size = size;
      within = omega (arith, size, fits, here.at, ap (λ i. slice_index p (i + 1)) here.at);
      far = omega (arith, in_p.far, here.at);
      payload = omega (arith, size, fits, here.at, ap (λ i. slice_index p (i + 1)) here.at);
    }

-- one of options has them
pub in-options : (p : List ℕ) (h : Lent) → StandsIn p h → (h.kind ≡ 43 → ⊥) → HasOptions h.bytes
in-options p h in_p n = in_p.stands.options (λ e. n (in_p.stands.kind ∙ e))

-- the mark at the end of a header
pub lengthens :
    (p : List ℕ) (h : Lent) (m : Marking) (n size : ℕ) (ys : List ℕ) → n ≡ payload_of p + 8 → size ≡ slice_index p (h.at + 1)
    → IsEight 1 m ys → Lengthens p h m (put_in (set (with_payload n p) (h.at + 1) (size + 1)) (h.at + length h.bytes) ys)
lengthens p h m n size ys payload is eight = record {
  spelling = eight.spelling;
  canonical = eight.canonical;
  marked_is =
      ap (λ x. put_in (set (with_payload x p) (h.at + 1) (size + 1)) (h.at + length h.bytes) ys) payload
      ∙ ap (λ x. put_in (set (with_payload (payload_of p + 8) p) (h.at + 1) (x + 1)) (h.at + length h.bytes) ys) is
      ∙ ap (λ (x : List ℕ). put_in (set (with_payload (payload_of p + 8) p) (h.at + 1) (slice_index p (h.at + 1) + 1)) (h.at + length h.bytes) x) eight.eight_is;
}

-- the mark in a new header
pub puts-header :
    (p : List ℕ) (place : Place) (s : Announced) (m : Marking) (n k : ℕ) (ys : List ℕ) (hs : List Lent)
    → spot_of_new place p hs ≡ announced_spot s → n ≡ payload_of p + 8 → k ≡ kind_of place → IsEight s.next m ys
    → PutsHeader p (spot_of_new place p hs) (kind_of place) m (put_in (set (with_payload n p) s.told_at k) s.at ys)
puts-header p place s m n k ys hs spot payload kind eight =
    subst (λ x. PutsHeader p x (kind_of place) m (put_in (set (with_payload n p) s.told_at k) s.at ys)) (sym spot)
    (record {
      spelling = eight.spelling;
      canonical = eight.canonical;
      marked_is =
          ap (λ x. put_in (set (with_payload x p) s.told_at k) s.at ys) payload
          ∙ ap (λ x. put_in (set (with_payload (payload_of p + 8) p) s.told_at x) s.at ys) kind
          ∙ ap (λ (x : List ℕ). put_in (set (with_payload (payload_of p + 8) p) s.told_at (kind_of place)) s.at x) eight.eight_is;
    })

-- where a new header goes
pub spot-behind_fixed : (p : List ℕ) (s : Announced) → IsFixed p → announced_spot s ≡ first_spot p → IsNewSpot p HopByHop s
spot-behind_fixed p s fixed is =
    let at : s.at ≡ 40 = ap (λ (x : Spot). x.at) is in
    let told : s.told_at ≡ 6 = ap (λ (x : Spot). x.told_at) is in
    record {
      far = omega (arith, at);
      before = omega (arith, at, told);
      behind = omega (arith, told);
      within = omega (arith, at, fixed.whole);
      spot = λ hs has. sym is;
    }

pub spot-behind_all : (p : List ℕ) (w : Bool) (s : Announced) → HasOneWalk p w → FollowsHeaders p s → IsNewSpot p Destination s
spot-behind_all p w s one follows =
    let chain = (one.chain.fixed follows.fixed).chain in
    let is = follows.spot one.headers one.chain in
    let at : (spot_after p (first_spot p) one.headers).at ≡ s.at = ap (λ (x : Spot). x.at) is in
    let told : (spot_after p (first_spot p) one.headers).told_at ≡ s.told_at = ap (λ (x : Spot). x.told_at) is in
    record {
      far = omega (arith, at, after-least p (first_spot p) one.headers chain);
      before = omega (arith, at, told, told-before p (first_spot p) one.headers chain (omega arith));
      behind = omega (arith, told, told-least p (first_spot p) one.headers chain (omega arith));
      within = omega (arith, at, after-within p (first_spot p) one.headers chain (omega (arith, follows.fixed.whole)));
      spot = follows.spot;
    }
