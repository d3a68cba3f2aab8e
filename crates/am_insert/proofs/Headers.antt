-- The headers of a packet, as an iterator lends them.
use Rattle.std.proofs.Common.{arith, refl, sym, ap, subst, ◌∙◌, ◌≡◌, ◌≢◌, ⊎_elim, ℕ, ◌/◌, Bool, List, [], ◌∷◌, ◌++◌, map, length, drop, slice_index, All}
use Rattle.std.proofs.lemmas.Bool.{cases_lt, cases_eq}
use Rattle.std.proofs.lemmas.List.{append-nil}
use Rattle.std.proofs.lemmas.List.Elements.{All-head, All-tail}
use Rattle.std.specs.Iterator.{Yields, YieldsFirstBy}
use Rattle.am_ip6.specs.Fixed.{IsFixed}
use Rattle.am_ip6.specs.Chains.{Lent, Spot, Stands, IsChain, HasHeaders, first_spot, spot_behind, spot_after}
use Rattle.am_ip6.specs.Endings.{EndsSo}
use Rattle.am_ip6.specs.Endings.Ended.{AtNumber}
use Rattle.am_insert.specs.Inserting.{IsFirstOf, HasNoneOf}
use Rattle.am_ip6.specs.Marks.{IsPassed}
use Rattle.am_ip6.specs.Shown.{lent}
use Rattle.am_ip6.specs.Laws.{HasOneWalk}
use Rattle.am_insert.specs.Parts.{StandsIn, ShowsFirst, IsFirstMarked}
use Rattle.am_insert.specs.declared.strip.MarkedHeader.{MarkedHeader}
use Rattle.am_insert.proofs.Carried.{after-least}

-- what an iterator has yielded, and what is still to come, are together what was to come
pub yields-rest :
    {S A B : Type 0} (v : A → B) (rest : S → List B) (s : S) (xs : List A) (t : S) → Yields (YieldsFirstBy v rest) s xs t
    → rest s ≡ map v xs ++ rest t
yields-rest v rest s [] t y = ap rest y
yields-rest v rest s (x ∷ xs) t y = let e = yields-rest v rest y.0 xs t y.2 in y.1 ∙ ap (λ (l : List _). v x ∷ l) e

-- and it has yielded all where nothing is still to come
pub yields-all :
    {S A B : Type 0} (v : A → B) (rest : S → List B) (s : S) (xs : List A) (t : S) → Yields (YieldsFirstBy v rest) s xs t
    → rest t ≡ [] → rest s ≡ map v xs
yields-all v rest s xs t y e =
    yields-rest v rest s xs t y ∙ ap (λ (r : List _). map v xs ++ r) e ∙ append-nil (map v xs)

-- a header among those of a chain
pub among-chain :
    (p : List ℕ) (s : Spot) (before : List Lent) (h : Lent) (behind : List Lent) → IsChain p s (before ++ h ∷ behind)
    → IsChain p s before × Stands p (spot_after p s before) h
among-chain p s [] h behind chain = (tt, chain.0)
among-chain p s (k ∷ ks) h behind chain =
    let more = among-chain p (spot_behind p k) ks h behind chain.1 in
    ((chain.0, more.0), more.1)

-- a packet begins with a fixed header of version 6, or not
fixed_unless : (b : List ℕ) → ((IsFixed b → ⊥) → ⊥) → IsFixed b
fixed_unless b both =
    ⊎_elim (λ short. absurd (both (λ f. omega (arith, short, f.whole))))
    (λ long. ⊎_elim (λ v. record { whole = long; version = v }) (λ n. absurd (both (λ f. n f.version))) (cases_eq (slice_index b 0 / 16) 6))
    (cases_lt (length b) 40)

-- a packet whose walk ends at a number has a fixed header
pub ends_fixed : (p : List ℕ) (w : Bool) (hs : List Lent) (n a t : ℕ) → EndsSo p w hs (AtNumber n a t) → IsFixed p
ends_fixed p w hs n a t ends = fixed_unless p (λ none. ends.other none)

-- a header among those of a packet stands in it, behind its fixed header
no_member : (xs ys : List Lent) (h : Lent) → [] ≡ xs ++ h ∷ ys → ⊥
no_member [] ys h e = absurd (cc)
no_member (x ∷ xs) ys h e = absurd (cc)

pub member-fixed : (p : List ℕ) (hs xs ys : List Lent) (h : Lent) → HasHeaders p hs → hs ≡ xs ++ h ∷ ys → IsFixed p
member-fixed p hs xs ys h has e = fixed_unless p (λ none. no_member xs ys h (sym (has.other none) ∙ e))

pub member-stands :
    (p : List ℕ) (hs xs ys : List Lent) (h : Lent) → HasHeaders p hs → hs ≡ xs ++ h ∷ ys
    → IsChain p (first_spot p) xs × Stands p (spot_after p (first_spot p) xs) h
member-stands p hs xs ys h has e =
    among-chain p (first_spot p) xs h ys
    (subst (λ x. IsChain p (first_spot p) x) e (has.fixed (member-fixed p hs xs ys h has e)).chain)

pub member-in : (p : List ℕ) (hs xs ys : List Lent) (h : Lent) → HasHeaders p hs → hs ≡ xs ++ h ∷ ys → StandsIn p h
member-in p hs xs ys h has e =
    let parts = member-stands p hs xs ys h has e in
    record {
      fixed = member-fixed p hs xs ys h has e;
      spot = spot_after p (first_spot p) xs;
      far = omega (arith, after-least p (first_spot p) xs parts.0);
      stands = parts.1;
    }

-- the spot behind one more header
pub after-push : (p : List ℕ) (s : Spot) (xs : List Lent) (h : Lent) → spot_after p s (xs ++ h ∷ []) ≡ spot_behind p h
after-push p s [] h = refl
after-push p s (x ∷ xs) h = after-push p (spot_behind p x) xs h

-- the first of a list that isn't passed is one
pub record Splits {X : Type 0} (xs ys : List X) (a b : X) (r t : List X) : Type 0 where
  pub before : xs ≡ ys
  pub same : a ≡ b
  pub behind : r ≡ t

pub first-one :
    {X : Type 0} (P : X → Type 0) (xs ys : List X) (a b : X) (r t : List X) → All P xs → All P ys → (P a → ⊥) → (P b → ⊥)
    → xs ++ a ∷ r ≡ ys ++ b ∷ t → Splits xs ys a b r t
first-one P [] [] a b r t p q na nb e = record { before = refl; same = cc; behind = cc }
first-one P [] (y ∷ ys) a b r t p q na nb e =
    let same : y ≡ a = cc in absurd (na (subst P same (All-head P y ys q)))
first-one P (x ∷ xs) [] a b r t p q na nb e =
    let same : x ≡ b = cc in absurd (nb (subst P same (All-head P x xs p)))
first-one P (x ∷ xs) (y ∷ ys) a b r t p q na nb e =
    let head : x ≡ y = cc in
    let tail : xs ++ a ∷ r ≡ ys ++ b ∷ t = cc in
    let more = first-one P xs ys a b r t (All-tail P x xs p) (All-tail P y ys q) na nb tail in
    record { before = cc (head, more.before); same = more.same; behind = more.behind }

-- one of some that all are so
pub one_of : (P : Lent → Type 0) (before : List Lent) (h : Lent) (behind : List Lent) → All P (before ++ h ∷ behind) → P h
one_of P [] h behind all = All-head P h behind all
one_of P (k ∷ ks) h behind all = one_of P ks h behind (All-tail P k (ks ++ h ∷ behind) all)

-- the first header of a kind is one
pub first-alone : (kind : ℕ) (hs : List Lent) (h k : Lent) → IsFirstOf kind hs h → IsFirstOf kind hs k → h ≡ k
first-alone kind hs h k p q =
    (first-one (λ x. x.kind ≢ kind) p.before q.before h k p.behind q.behind p.others q.others (λ n. n p.of_kind) (λ n. n q.of_kind) (sym p.split ∙ q.split)).same

pub none-first : (kind : ℕ) (hs : List Lent) (h : Lent) → HasNoneOf kind hs → IsFirstOf kind hs h → ⊥
none-first kind hs h none p =
    one_of (λ x. x.kind ≢ kind) p.before h p.behind (subst (λ x. All (λ y. y.kind ≢ kind) x) p.split none) p.of_kind

-- the first header of a kind, or none, by what an iterator of the headers has yielded
pub first-from :
    (p : List ℕ) (w : Bool) (kind k : ℕ) (all hs xs : List Lent) (h : Lent) (rest : List Lent) → HasOneWalk p w
    → HasHeaders p all → HasHeaders p hs → all ≡ xs ++ h ∷ rest → All (λ x. x.kind ≢ kind) xs → h.kind ≡ kind → kind ≡ k
    → IsFirstOf k hs h
first-from p w kind k all hs xs h rest one has_all has split others is kind_is = record {
  before = xs;
  behind = rest;
  split = one.one_chain hs has ∙ sym (one.one_chain all has_all) ∙ split;
  others = subst (λ n. All (λ x. x.kind ≢ n) xs) kind_is others;
  of_kind = is ∙ kind_is;
}

pub none-from :
    (p : List ℕ) (w : Bool) (kind k : ℕ) (all hs xs : List Lent) → HasOneWalk p w
    → HasHeaders p all → HasHeaders p hs → all ≡ xs → All (λ x. x.kind ≢ kind) xs → kind ≡ k → HasNoneOf k hs
none-from p w kind k all hs xs one has_all has split others kind_is =
    let same : hs ≡ xs = one.one_chain hs has ∙ sym (one.one_chain all has_all) ∙ split in
    subst (λ n. All (λ x. x.kind ≢ n) hs) kind_is (subst (λ l. All (λ x. x.kind ≢ kind) l) (sym same) others)

-- and the first one with a mark
pub marked-from :
    (p : List ℕ) (w : Bool) (kind k : ℕ) (all hs : List Lent) (m : MarkedHeader) (xs rest : List Lent) → HasOneWalk p w
    → HasHeaders p all → HasHeaders p hs → all ≡ xs ++ lent m.header ∷ rest → All (IsPassed kind) xs
    → (m.header.kind ≡ kind) × ShowsFirst (drop 2 m.header.bytes.now) m.option
    → m.told_at ≡ (spot_after p (first_spot p) xs).told_at → kind ≡ k → IsFirstMarked k p hs m
marked-from p w kind k all hs m xs rest one has_all has split passed shows told kind_is = record {
  before = xs;
  behind = rest;
  chain = one.one_chain hs has ∙ sym (one.one_chain all has_all) ∙ split;
  passed = subst (λ n. All (IsPassed n) xs) kind_is passed;
  of_kind = shows.0 ∙ kind_is;
  shows = shows.1;
  told = told;
}

pub passed-from :
    (p : List ℕ) (w : Bool) (kind k : ℕ) (all hs xs : List Lent) → HasOneWalk p w
    → HasHeaders p all → HasHeaders p hs → all ≡ xs → All (IsPassed kind) xs → kind ≡ k → All (IsPassed k) hs
passed-from p w kind k all hs xs one has_all has split passed kind_is =
    let same : hs ≡ xs = one.one_chain hs has ∙ sym (one.one_chain all has_all) ∙ split in
    subst (λ n. All (IsPassed n) hs) kind_is (subst (λ l. All (IsPassed kind) l) (sym same) passed)
