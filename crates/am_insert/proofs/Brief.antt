-- A packet of few headers, which one look tells.
use Rattle.std.proofs.Common.{arith, sym, ap, subst, ◌∙◌, ◌≡◌, ⊎_elim, ℕ, Bool, false, List, [], ◌∷◌, take, drop, slice_index, Some, None, All, Result, Ok, Err, IfOk}
use Rattle.std.proofs.lemmas.List.{drop-take, drop-drop}
use Rattle.std.proofs.lemmas.List.Elements.{All-nil}
use Rattle.am_opts.specs.Marking.{Marking}
use Rattle.am_ip6.specs.declared.marks.Place.{Place}
use Rattle.am_ip6.specs.declared.marks.Place.TheVariants.{HopByHop, Destination}
use Rattle.am_ip6.specs.Fixed.{IsFixed}
use Rattle.am_ip6.specs.Chains.{Lent, Spot, HasHeaders, first_spot, spot_after}
use Rattle.am_ip6.specs.Endings.Ended.{AtNumber}
use Rattle.am_ip6.specs.Marks.{HasLoneMark, IsPassed}
use Rattle.am_ip6.specs.Marks.Seen.{NoMark}
use Rattle.am_ip6.specs.Seen.{IsSeen}
use Rattle.am_ip6.specs.Brief.{IsBrief, WalksBriefly, lone_header}
use Rattle.am_ip6.specs.Laws.{HasOneWalk}
use Rattle.am_ip6.specs.Shown.{lent}
use Rattle.am_insert.specs.Changes.{kind_of}
use Rattle.am_insert.specs.Inserting.{HasNoneOf, WalkEnds, IsNoPacket}
use Rattle.am_insert.specs.Parts.{FindsFirst, FollowsHeaders, ShowsFirst, IsFirstMarked, announced_spot}
use Rattle.am_insert.specs.declared.insert.Announced.{Announced}
use Rattle.am_insert.specs.declared.strip.MarkOption.{MarkOption}
use Rattle.am_insert.specs.declared.strip.MarkedHeader.{MarkedHeader}
use Rattle.am_insert.proofs.Alone.{mark-padded}
use Rattle.am_insert.proofs.Undone.{alone_mark}

-- what holds of an answer for each holds of it for one
pub if_ok-at : {T E X : Type 0} (r : Result T E) (P : X → T → Type 0) (x : X) → IfOk r (λ t. (y : X) → P y t) → IfOk r (λ t. P x t)
if_ok-at (Ok t) P x all = all x
if_ok-at (Err e) P x all = all

-- a packet with a fixed header is one
pub fixed-packet : (p : List ℕ) (w : Bool) → IsFixed p → IsNoPacket p w → ⊥
fixed-packet p w fixed never = ⊎_elim (λ v. v.other fixed.version) (λ short. omega (arith, short.0, fixed.whole)) never

-- a packet without headers
module _ (p : List ℕ) (next : ℕ) (w : Bool) (one : HasOneWalk p w) (walk : WalksBriefly p None next w) where
  pub bare-ends : WalkEnds p w (AtNumber next 40 6)
  bare-ends = record { headers = []; chain = walk.has; ends = walk.ends }

  pub bare-seen : (place : Place) → IsSeen p w place NoMark
  bare-seen HopByHop = record { headers = []; ended = AtNumber next 40 6; chain = walk.has; ends = walk.ends; seen_in = walk.in_hop }
  bare-seen Destination = record { headers = []; ended = AtNumber next 40 6; chain = walk.has; ends = walk.ends; seen_in = walk.in_destination }

  pub bare-none : (hs : List Lent) → HasHeaders p hs → hs ≡ []
  bare-none hs has = one.one_chain hs has ∙ sym (one.one_chain [] walk.has)

  pub bare-first : (place : Place) → FindsFirst p place None
  bare-first place = λ hs has. subst (λ x. HasNoneOf (kind_of place) x) (sym (bare-none hs has)) (All-nil (λ h. h.kind ≡ kind_of place → ⊥))

  pub bare-passed : (kind : ℕ) (hs : List Lent) → HasHeaders p hs → All (IsPassed kind) hs
  bare-passed kind hs has = subst (λ x. All (IsPassed kind) x) (sym (bare-none hs has)) (All-nil (IsPassed kind))

  pub bare-follows : (s : Announced) → IsBrief p None next → s.next ≡ next → s.at ≡ 40 → s.told_at ≡ 6 → FollowsHeaders p s
  bare-follows s brief kind at told =
      let here : announced_spot s ≡ first_spot p =
      ap (λ k. let x : Spot = record { kind = k; at = s.at; told_at = s.told_at } in x) (kind ∙ brief.announced)
      ∙ ap (λ k. let x : Spot = record { kind = slice_index p 6; at = k; told_at = s.told_at } in x) at
      ∙ ap (λ k. let x : Spot = record { kind = slice_index p 6; at = 40; told_at = k } in x) told in
      record {
        fixed = brief.fixed;
        spot = λ hs has. ap (λ (x : List Lent). spot_after p (first_spot p) x) (bare-none hs has) ∙ sym here;
      }

-- a lone mark is the first option of its header
lone-shows :
    (p : List ℕ) (mark : Marking) → HasLoneMark p mark
    → ShowsFirst (drop 2 (take 8 (drop 40 p))) (record { mark = mark; at = 0; padded = false })
lone-shows p mark lone =
    let area : drop 2 (take 8 (drop 40 p)) ≡ take 6 (drop 42 p) =
    drop-take 2 6 (drop 40 p) ∙ ap (λ (l : List ℕ). take 6 l) (drop-drop 2 40 p) in
    let has = alone_mark (take 6 (drop 42 p)) mark lone.spelled in
    subst (λ a. ShowsFirst a (record { mark = mark; at = 0; padded = false })) (sym area)
    (record {
      has = has;
      padded = λ e. absurd (cc (e));
      bare = λ e pad. omega (arith, mark-padded (take 6 (drop 42 p)) mark 0 has pad);
    })

-- a packet with a lone mark
module _ (p : List ℕ) (mark : Marking) (next : ℕ) (w : Bool) (one : HasOneWalk p w) (walk : WalksBriefly p (Some mark) next w) where
  lone-alone : (hs : List Lent) → HasHeaders p hs → hs ≡ lone_header p ∷ []
  lone-alone hs has = one.one_chain hs has ∙ sym (one.one_chain (lone_header p ∷ []) walk.has)

  pub lone-marked :
      (m : MarkedHeader) → HasLoneMark p mark → lent m.header ≡ lone_header p → m.told_at ≡ 6
      → m.option ≡ record { mark = mark; at = 0; padded = false }
      → (hs : List Lent) → HasHeaders p hs → IsFirstMarked 0 p hs m
  lone-marked m lone header told option hs has = record {
    before = [];
    behind = [];
    chain = lone-alone hs has ∙ ap (λ (h : Lent). h ∷ []) (sym header);
    passed = All-nil (IsPassed 0);
    of_kind = ap (λ (h : Lent). h.kind) header;
    shows =
        subst (λ (o : MarkOption). ShowsFirst (drop 2 m.header.bytes.now) o) (sym option)
        (subst (λ (h : Lent). ShowsFirst (drop 2 h.bytes) (record { mark = mark; at = 0; padded = false })) (sym header) (lone-shows p mark lone));
    told = told;
  }

  -- it has no Destination Options header
  pub lone-passed : (hs : List Lent) → HasHeaders p hs → All (IsPassed 60) hs
  lone-passed hs has = subst (λ x. All (IsPassed 60) x) (sym (lone-alone hs has)) walk.in_destination.0

  pub lone-place :
      (place : Place) (m : MarkedHeader) → place ≡ HopByHop → IsBrief p (Some mark) next → lent m.header ≡ lone_header p → m.told_at ≡ 6
      → m.option ≡ record { mark = mark; at = 0; padded = false }
      → (hs : List Lent) → HasHeaders p hs → IsFirstMarked (kind_of place) p hs m
  lone-place place m is brief header told option hs has =
      subst (λ x. IsFirstMarked (kind_of x) p hs m) (sym is) (lone-marked m brief.lone.1 header told option hs has)

  pub lone-other : (place : Place) → place ≡ Destination → (hs : List Lent) → HasHeaders p hs → All (IsPassed (kind_of place)) hs
  lone-other place is hs has = subst (λ x. All (IsPassed (kind_of x)) hs) (sym is) (lone-passed hs has)
