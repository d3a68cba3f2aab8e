-- The walk of a packet of few headers.
use Rattle.std.specs.Option.{IfSome}
use Rattle.am_ip6.specs.declared.brief.Brief.{Brief}
use Rattle.std.proofs.Common.{arith, refl, sym, ap, subst, ◌+◌, inl, inr, ⊎_elim, ◌∙◌, ◌≡◌, ℕ, Bool, List, [], ◌∷◌, length, take, drop, slice_index, Option, Some, None}
use Rattle.std.proofs.lemmas.List.{length-take-le, length-drop}
use Rattle.std.proofs.lemmas.List.Elements.{All-nil, All-cons}
use Rattle.am_opts.specs.Marking.{Marking}
use Rattle.am_ip6.specs.Fixed.{IsFixed}
use Rattle.am_ip6.specs.Chains.{IsWalked, HasHeaders, first_spot, spot_behind}
use Rattle.am_ip6.specs.Endings.{EndsSo}
use Rattle.am_ip6.specs.Endings.Ended.{AtNumber}
use Rattle.am_ip6.specs.Marks.{IsPassed, HasLoneMark}
use Rattle.am_ip6.specs.Brief.{IsBrief, WalksBriefly, lone_header, brief_spot}
use Rattle.am_ip6.proofs.ChainLemmas.{longest-if_stopped, longest-cons}
use Rattle.am_ip6.proofs.SeenLemmas.{hop-other}
use Rattle.am_ip6.proofs.Lone.{lone-marked, lone-stands}

-- a packet without a header
plain-has : (b : List ℕ) → IsFixed b → (IsWalked (first_spot b) → ⊥) → HasHeaders b []
plain-has b fixed stops = record {
  fixed = λ f. longest-if_stopped b (first_spot b) [] tt (λ h s. stops s.walked);
  other = λ n. absurd (n fixed);
}

plain-ends : (b : List ℕ) (w : Bool) (next : ℕ) → IsFixed b → (IsWalked (first_spot b) → ⊥) → next ≡ slice_index b 6 → EndsSo b w [] (AtNumber next 40 6)
plain-ends b w next fixed stops is = record {
  fixed = λ f. (ap (λ n. record { kind = n; at = 40; told_at = 6 }) (sym is), stops);
  other = λ n. absurd (n fixed);
}

plain-walks : (b : List ℕ) (w : Bool) (next : ℕ) → IsFixed b → (IsWalked (first_spot b) → ⊥) → next ≡ slice_index b 6 → WalksBriefly b None next w
plain-walks b w next fixed stops is =
    let has = plain-has b fixed stops in
    let ends = plain-ends b w next fixed stops is in
    record {
      has = has;
      ends = ends;
      in_hop = hop-other b w (AtNumber next 40 6) [] fixed (λ z. stops (inr (inr (z, refl)))) has ends;
      in_destination = (All-nil (IsPassed 60), λ e. cc);
    }

-- a packet with a header of a lone mark
eight : (b : List ℕ) (m : Marking) → HasLoneMark b m → length (take 8 (drop 40 b)) ≡ 8
eight b m lone = length-take-le 8 (drop 40 b) (omega (arith, lone.there, length-drop 40 b))

behind_lone : (b : List ℕ) (m : Marking) (next : ℕ) → HasLoneMark b m → next ≡ slice_index b 40 → spot_behind b (lone_header b) ≡ record { kind = next; at = 48; told_at = 40 }
behind_lone b m next lone is =
    let far : 40 + length (take 8 (drop 40 b)) ≡ 48 = omega (arith, eight b m lone) in
    let at : spot_behind b (lone_header b) ≡ brief_spot b (Some m) = ap (λ n. record { kind = slice_index b 40; at = n; told_at = 40 }) far in
    at ∙ ap (λ n. record { kind = n; at = 48; told_at = 40 }) (sym is)

lone-has :
    (b : List ℕ) (m : Marking) → IsFixed b → slice_index b 6 ≡ 0 → HasLoneMark b m → (IsWalked (spot_behind b (lone_header b)) → ⊥)
    → HasHeaders b (lone_header b ∷ [])
lone-has b m fixed zero_is lone stops = record {
  fixed = λ f.
      longest-cons b (first_spot b) (lone_header b) [] (lone-stands b m zero_is lone)
      (longest-if_stopped b (spot_behind b (lone_header b)) [] tt (λ h s. stops s.walked));
  other = λ n. absurd (n fixed);
}

lone-ends :
    (b : List ℕ) (w : Bool) (m : Marking) (next : ℕ) → IsFixed b → HasLoneMark b m → (IsWalked (spot_behind b (lone_header b)) → ⊥)
    → next ≡ slice_index b 40 → EndsSo b w (lone_header b ∷ []) (AtNumber next 48 40)
lone-ends b w m next fixed lone stops is = record {
  fixed = λ f. (behind_lone b m next lone is, stops);
  other = λ n. absurd (n fixed);
}

lone-walks :
    (b : List ℕ) (w : Bool) (m : Marking) (next : ℕ) → IsFixed b → slice_index b 6 ≡ 0 → HasLoneMark b m
    → (IsWalked (brief_spot b (Some m)) → ⊥) → next ≡ slice_index b 40 → WalksBriefly b (Some m) next w
lone-walks b w m next fixed zero_is lone stops is =
    let there : spot_behind b (lone_header b) ≡ brief_spot b (Some m) = behind_lone b m (slice_index b 40) lone refl in
    let ending : IsWalked (spot_behind b (lone_header b)) → ⊥ = λ walked. stops (subst IsWalked there walked) in
    let has = lone-has b m fixed zero_is lone ending in
    record {
      has = has;
      ends = lone-ends b w m next fixed lone ending is;
      in_hop = lone-marked b (lone_header b ∷ []) m fixed zero_is lone has;
      in_destination = (All-cons (IsPassed 60) (lone_header b) [] (inl (λ e. omega (arith, e))) (All-nil (IsPassed 60)), λ e. cc);
    }

pub brief-walks : (b : List ℕ) (mark : Option Marking) (next : ℕ) → IsBrief b mark next → (w : Bool) → WalksBriefly b mark next w
brief-walks b None next is w = plain-walks b w next is.fixed is.stops is.announced
brief-walks b (Some m) next is w = lone-walks b w m next is.fixed is.lone.0 is.lone.1 is.stops is.announced

-- what an answer is, behind no header and behind a lone mark
abbrev pub Ended : Option Marking → ℕ → Brief → Type 0
Ended mark next b = (b.mark ≡ mark) × (b.next ≡ next) × (next ≡ 43 → ⊥) × (next ≡ 60 → ⊥)

pub plain-brief : (b : List ℕ) → IsFixed b → (slice_index b 6 ≡ 0 → ⊥) → (r : Option Brief) → IfSome r (Ended None (slice_index b 6)) → IfSome r (λ x. IsBrief b x.mark x.next)
plain-brief b fixed other None h = tt
plain-brief b fixed other (Some x) h =
    let plain : IsBrief b None (slice_index b 6) = record {
      fixed = fixed;
      lone = tt;
      announced = refl;
      stops = λ walked. ⊎_elim h.2 (λ more. ⊎_elim h.3 (λ z. other z.0) more) walked;
    } in
    subst (λ m. IsBrief b m x.next) (sym h.0) (subst (λ n. IsBrief b None n) (sym h.1) plain)

pub lone-brief :
    (b : List ℕ) (m : Marking) → IsFixed b → slice_index b 6 ≡ 0 → HasLoneMark b m → (r : Option Brief) → IfSome r (Ended (Some m) (slice_index b 40))
    → IfSome r (λ x. IsBrief b x.mark x.next)
lone-brief b m fixed zero_is lone None h = tt
lone-brief b m fixed zero_is lone (Some x) h =
    let brief : IsBrief b (Some m) (slice_index b 40) = record {
      fixed = fixed;
      lone = (zero_is, lone);
      announced = refl;
      stops = λ walked. ⊎_elim h.2 (λ more. ⊎_elim h.3 (λ z. omega (arith, z.1)) more) walked;
    } in
    subst (λ k. IsBrief b k x.next) (sym h.0) (subst (λ n. IsBrief b (Some m) n) (sym h.1) brief)

pub walks_if_brief : (b : List ℕ) (r : Option Brief) → IfSome r (λ x. IsBrief b x.mark x.next) → IfSome r (λ x. (w : Bool) → WalksBriefly b x.mark x.next w)
walks_if_brief b None h = tt
walks_if_brief b (Some x) h = brief-walks b x.mark x.next h

-- a packet whose first header has no lone mark is none of them
pub not-lone : (b : List ℕ) → slice_index b 6 ≡ 0 → ((m : Marking) → HasLoneMark b m → ⊥) → (mark : Option Marking) (next : ℕ) → IsBrief b mark next → ⊥
not-lone b zero_is none None next is = is.stops (inr (inr (zero_is, refl)))
not-lone b zero_is none (Some m) next is = none m is.lone.1
