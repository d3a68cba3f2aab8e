-- What hinders an insertion first.
use Rattle.std.proofs.Common.{arith, refl, sym, ap, subst, ◌∙◌, ◌≡◌, ◌≢◌, ⊎_elim, ℕ, ◌+◌, ◌<◌, Bool, List, slice_index, Option, Some, None, IfSome, Result, Err}
use Rattle.std.specs.Prelude.{IsSomeAnd}
use Rattle.std.proofs.lemmas.Bool.{cases_lt}
use Rattle.am_ip6.specs.declared.marks.Place.{Place}
use Rattle.am_ip6.specs.declared.marks.Place.TheVariants.{HopByHop, Destination}
use Rattle.am_ip6.specs.Fixed.{payload_of}
use Rattle.am_ip6.specs.Chains.{Lent, HasHeaders}
use Rattle.am_ip6.specs.Endings.{Ended, EndsSo}
use Rattle.am_ip6.specs.Endings.Ended.{AtNumber, WasCut, IsMalformed}
use Rattle.am_ip6.specs.Marks.{Seen}
use Rattle.am_ip6.specs.Marks.Seen.{Marks, NoMark, CutOff}
use Rattle.am_ip6.specs.Seen.{SeenIn, IsSeen}
use Rattle.am_ip6.specs.Laws.{HasOneWalk}
use Rattle.am_insert.specs.declared.insert.InsertError.{InsertError}
use Rattle.am_insert.specs.declared.insert.InsertError.TheVariants.{NotIp6, Malformed, Cut, AlreadyMarked, Protected, HeaderFull, PacketFull}
use Rattle.am_ip6.specs.declared.chain.Header.{Header}
use Rattle.am_ip6.specs.Shown.{lent}
use Rattle.am_insert.specs.Changes.{kind_of}
use Rattle.am_insert.specs.Parts.{FindsFirst}
use Rattle.am_insert.proofs.Headers.{none-first, first-alone as first-alone-header}
use Rattle.am_insert.specs.Inserting.{IsFirstOf, HasNoneOf, WalkEnds, WalkEndsWith, IsNoPacket, IsMarkedAt, IsFullHeader, Hinders, HindersFirst, IsOpen, rank, authentication}

-- nothing of a rank below this one hinders
abbrev pub Clear : List ℕ → Bool → Place → ℕ → Type 0
Clear p w place n = (other : InsertError) → rank other < n → Hinders p w place other → ⊥

-- nothing of this rank hinders
abbrev None_of : List ℕ → Bool → Place → ℕ → Type 0
None_of p w place n = (other : InsertError) → rank other ≡ n → Hinders p w place other → ⊥

clear-more : (p : List ℕ) (w : Bool) (place : Place) (n : ℕ) → Clear p w place n → None_of p w place n → Clear p w place (n + 1)
clear-more p w place n clear none other low h =
    ⊎_elim (λ less. clear other less h) (λ more. none other (omega (arith, low, more)) h) (cases_lt (rank other) n)

module _ (p : List ℕ) (w : Bool) (place : Place) where
  none-0 : (IsNoPacket p w → ⊥) → None_of p w place 0
  none-0 never NotIp6 e h = never h
  none-0 never other e h = absurd (omega (arith, e))

  none-1 : ((at : ℕ) → WalkEnds p w (IsMalformed at) → ⊥) → None_of p w place 1
  none-1 never (Malformed at) e h = never at h
  none-1 never other e h = absurd (omega (arith, e))

  none-2 : (WalkEnds p w WasCut → ⊥) → None_of p w place 2
  none-2 never Cut e h = never h
  none-2 never other e h = absurd (omega (arith, e))

  none-3 : ((at : ℕ) → IsMarkedAt p w place at → ⊥) → None_of p w place 3
  none-3 never (AlreadyMarked at) e h = never at h
  none-3 never other e h = absurd (omega (arith, e))

  none-4 : (WalkEndsWith p w authentication → ⊥) → None_of p w place 4
  none-4 never Protected e h = never h
  none-4 never other e h = absurd (omega (arith, e))

  none-5 : (IsFullHeader p place → ⊥) → None_of p w place 5
  none-5 never HeaderFull e h = never h
  none-5 never other e h = absurd (omega (arith, e))

  none-6 : (65527 < payload_of p → ⊥) → None_of p w place 6
  none-6 never PacketFull e h = never h
  none-6 never other e h = absurd (omega (arith, e))

  pub clear-0 : Clear p w place 0
  clear-0 other low h = absurd (omega (arith, low))

  pub clear-1 : (IsNoPacket p w → ⊥) → Clear p w place 1
  clear-1 never = clear-more p w place 0 clear-0 (none-0 never)

  pub clear-2 : Clear p w place 1 → ((at : ℕ) → WalkEnds p w (IsMalformed at) → ⊥) → Clear p w place 2
  clear-2 clear never = clear-more p w place 1 clear (none-1 never)

  pub clear-3 : Clear p w place 2 → (WalkEnds p w WasCut → ⊥) → Clear p w place 3
  clear-3 clear never = clear-more p w place 2 clear (none-2 never)

  pub clear-4 : Clear p w place 3 → ((at : ℕ) → IsMarkedAt p w place at → ⊥) → Clear p w place 4
  clear-4 clear never = clear-more p w place 3 clear (none-3 never)

  pub clear-5 : Clear p w place 4 → (WalkEndsWith p w authentication → ⊥) → Clear p w place 5
  clear-5 clear never = clear-more p w place 4 clear (none-4 never)

  pub clear-6 : Clear p w place 5 → (IsFullHeader p place → ⊥) → Clear p w place 6
  clear-6 clear never = clear-more p w place 5 clear (none-5 never)

  below-7 : (e : InsertError) → rank e < 7
  below-7 NotIp6 = omega arith
  below-7 (Malformed at) = omega arith
  below-7 Cut = omega arith
  below-7 (AlreadyMarked at) = omega arith
  below-7 Protected = omega arith
  below-7 HeaderFull = omega arith
  below-7 PacketFull = omega arith

  pub open-7 : Clear p w place 6 → (65527 < payload_of p → ⊥) → IsOpen p w place
  open-7 clear never e h = clear-more p w place 6 clear (none-6 never) e (below-7 e) h

  -- a packet that something hinders isn't open
  pub not_open : (e : InsertError) → HindersFirst p w place e → IsOpen p w place → ⊥
  not_open e first open' = open' e first.hinders

-- the walk ends in one way
pub ending-alone : (p : List ℕ) (w : Bool) (e f : Ended) → HasOneWalk p w → WalkEnds p w e → WalkEnds p w f → e ≡ f
ending-alone p w e f one a b =
    one.one_ending e (subst (λ x. EndsSo p w x e) (one.one_chain a.headers a.chain) a.ends)
    ∙ sym (one.one_ending f (subst (λ x. EndsSo p w x f) (one.one_chain b.headers b.chain) b.ends))

number-same : (n a t m c u : ℕ) → AtNumber n a t ≡ AtNumber m c u → n ≡ m
number-same n a t m c u e = cc

-- a walk that ends at a number isn't cut, not malformed, and ends at no other number
module _ (p : List ℕ) (w : Bool) (n a t : ℕ) (one : HasOneWalk p w) (ends : WalkEnds p w (AtNumber n a t)) where
  pub number-not_malformed : (at : ℕ) → WalkEnds p w (IsMalformed at) → ⊥
  number-not_malformed at other = absurd (cc (ending-alone p w (AtNumber n a t) (IsMalformed at) one ends other))

  pub number-not_cut : WalkEnds p w WasCut → ⊥
  number-not_cut other = absurd (cc (ending-alone p w (AtNumber n a t) WasCut one ends other))

  pub number-not_other : (m : ℕ) → n ≢ m → WalkEndsWith p w m → ⊥
  number-not_other m differ other =
      differ (number-same n a t m other.0 other.1 (ending-alone p w (AtNumber n a t) (AtNumber m other.0 other.1) one ends other.2))

  seen-cut : (place : Place) (hs : List Lent) (e : Ended) → SeenIn place p w hs e CutOff → e ≡ WasCut
  seen-cut HopByHop hs e s = s.1
  seen-cut Destination hs e s = s.1

  pub number-not_cut_off : (place : Place) → IsSeen p w place CutOff → ⊥
  number-not_cut_off place s =
      let is = seen-cut place s.headers s.ended s.seen_in in
      number-not_cut (record { headers = s.headers; chain = s.chain; ends = subst (λ e. EndsSo p w s.headers e) is s.ends })

-- one thing hinders first
module _ (p : List ℕ) (w : Bool) (place : Place) (one : HasOneWalk p w)
    (seen : (a b : Seen) → IsSeen p w place a → IsSeen p w place b → a ≡ b) where
  same-rank : (e f : InsertError) → rank e ≡ rank f → Hinders p w place e → Hinders p w place f → e ≡ f
  same-rank NotIp6 NotIp6 r a b = refl
  same-rank NotIp6 f r a b = absurd (omega (arith, r))
  same-rank (Malformed x) (Malformed y) r a b =
      let e : x ≡ y = cc (ending-alone p w (IsMalformed x) (IsMalformed y) one a b) in ap Malformed e
  same-rank (Malformed x) f r a b = absurd (omega (arith, r))
  same-rank Cut Cut r a b = refl
  same-rank Cut f r a b = absurd (omega (arith, r))
  same-rank (AlreadyMarked x) (AlreadyMarked y) r a b =
      let e : x ≡ y = cc (seen (Marks a.0 x) (Marks b.0 y) a.1 b.1) in ap AlreadyMarked e
  same-rank (AlreadyMarked x) f r a b = absurd (omega (arith, r))
  same-rank Protected Protected r a b = refl
  same-rank Protected f r a b = absurd (omega (arith, r))
  same-rank HeaderFull HeaderFull r a b = refl
  same-rank HeaderFull f r a b = absurd (omega (arith, r))
  same-rank PacketFull PacketFull r a b = refl
  same-rank PacketFull f r a b = absurd (omega (arith, r))

  pub first-alone : (e f : InsertError) → HindersFirst p w place e → HindersFirst p w place f → e ≡ f
  first-alone e f a b =
      ⊎_elim (λ less. absurd (b.first e less a.hinders))
      (λ more. ⊎_elim (λ less. absurd (a.first f less b.hinders))
      (λ least. same-rank e f (omega (arith, more, least)) a.hinders b.hinders) (cases_lt (rank f) (rank e)))
      (cases_lt (rank e) (rank f))

  -- so a refusal by it is the one
  pub refused-each : {A : Type 0} (e : InsertError) → HindersFirst p w place e → (f : InsertError) → HindersFirst p w place f → ◌≡◌ {A = Result A InsertError} (Err e) (Err f)
  refused-each e a f b = let same : e ≡ f = first-alone e f a b in cc

-- where the walk doesn't end at a number, that hinders first
pub cut-first :
    (p : List ℕ) (w : Bool) (place : Place) → HasOneWalk p w → (IsNoPacket p w → ⊥) → WalkEnds p w WasCut → HindersFirst p w place Cut
cut-first p w place one never ends = record {
  hinders = ends;
  first = clear-2 p w place (clear-1 p w place never) (λ at other. absurd (cc (ending-alone p w WasCut (IsMalformed at) one ends other)));
}

pub malformed-first :
    (p : List ℕ) (w : Bool) (place : Place) (at : ℕ) → (IsNoPacket p w → ⊥) → WalkEnds p w (IsMalformed at) → HindersFirst p w place (Malformed at)
malformed-first p w place at never ends = record { hinders = ends; first = clear-1 p w place never }

-- where it does, and no earlier fact holds
pub clear-number :
    (p : List ℕ) (w : Bool) (place : Place) (n a t : ℕ) → HasOneWalk p w → (IsNoPacket p w → ⊥) → WalkEnds p w (AtNumber n a t)
    → Clear p w place 3
clear-number p w place n a t one never ends =
    clear-3 p w place
    (clear-2 p w place (clear-1 p w place never) (number-not_malformed p w n a t one ends))
    (number-not_cut p w n a t one ends)

-- where no mark is found, the packet isn't marked
pub not_marked :
    (p : List ℕ) (w : Bool) (place : Place) → ((a b : Seen) → IsSeen p w place a → IsSeen p w place b → a ≡ b)
    → IsSeen p w place NoMark → (at : ℕ) → IsMarkedAt p w place at → ⊥
not_marked p w place seen none at marked = absurd (cc (seen NoMark (Marks marked.0 at) none marked.1))

-- and no mark is found
pub clear-unmarked :
    (p : List ℕ) (w : Bool) (place : Place) (n a t : ℕ) → HasOneWalk p w
    → ((a b : Seen) → IsSeen p w place a → IsSeen p w place b → a ≡ b) → (IsNoPacket p w → ⊥) → WalkEnds p w (AtNumber n a t)
    → IsSeen p w place NoMark → Clear p w place 4
clear-unmarked p w place n a t one seen never ends none =
    clear-4 p w place (clear-number p w place n a t one never ends) (not_marked p w place seen none)

-- and the headers aren't protected
pub clear-free :
    (p : List ℕ) (w : Bool) (place : Place) (n a t : ℕ) → HasOneWalk p w
    → ((a b : Seen) → IsSeen p w place a → IsSeen p w place b → a ≡ b) → (IsNoPacket p w → ⊥) → WalkEnds p w (AtNumber n a t)
    → IsSeen p w place NoMark → n ≢ 51 → Clear p w place 5
clear-free p w place n a t one seen never ends none differ =
    clear-5 p w place (clear-unmarked p w place n a t one seen never ends none) (number-not_other p w n a t one ends 51 differ)

-- whether the first header of the kind is full
pub full-is :
    (p : List ℕ) (w : Bool) (place : Place) (f : Option Header) → HasOneWalk p w → FindsFirst p place f
    → IsSomeAnd f (λ h. slice_index p (h.at + 1) ≡ 255) → IsFullHeader p place
full-is p w place None one finds full = absurd full
full-is p w place (Some h) one finds full = record {
  headers = one.headers;
  chain = one.chain;
  header = lent h;
  first = finds one.headers one.chain;
  full = full;
}

pub full-not :
    (p : List ℕ) (place : Place) (f : Option Header) → FindsFirst p place f
    → IfSome f (λ h. slice_index p (h.at + 1) ≢ 255) → IsFullHeader p place → ⊥
full-not p place None finds more full = none-first (kind_of place) full.headers full.header (finds full.headers full.chain) full.first
full-not p place (Some h) finds more full =
    let same = first-alone-header (kind_of place) full.headers (lent h) full.header (finds full.headers full.chain) full.first in
    more (ap (λ (x : Lent). slice_index p (x.at + 1)) same ∙ full.full)

-- the first header of the kind, or none
pub finds-some :
    (p : List ℕ) (place : Place) (f : Option Header) (h : Header) → FindsFirst p place f → f ≡ Some h
    → (hs : List Lent) → HasHeaders p hs → IsFirstOf (kind_of place) hs (lent h)
finds-some p place f h finds is = let P : Option Header → Type 0 = λ x. FindsFirst p place x in subst P is finds

pub finds-none :
    (p : List ℕ) (place : Place) (f : Option Header) → FindsFirst p place f → f ≡ None
    → (hs : List Lent) → HasHeaders p hs → HasNoneOf (kind_of place) hs
finds-none p place f finds is = let P : Option Header → Type 0 = λ x. FindsFirst p place x in subst P is finds
