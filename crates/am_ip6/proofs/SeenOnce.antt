-- What a packet shows of a mark is one thing.
use Rattle.std.proofs.Common.{refl, sym, ap, subst, ◌∙◌, ◌≡◌, ◌≢◌, ⊎_elim, ℕ, ◌+◌, Bool, List, [], ◌∷◌, ◌++◌, drop, All}
use Rattle.std.proofs.lemmas.List.Elements.{All-head, All-tail}
use Rattle.am_opts.specs.Marking.{Marking, Spells}
use Rattle.am_opts.specs.Options.{Placed}
use Rattle.am_opts.specs.Laws.{HasOneLongest}
use Rattle.am_ip6.specs.Chains.{Lent}
use Rattle.am_ip6.specs.Endings.{Ended, EndsSo}
use Rattle.am_ip6.specs.Marks.{IsNoMark, HasMark, HasNoMark, MarksHeader, IsPassed, MarksChain, Seen, SeenInHopByHop, SeenInDestination}
use Rattle.am_ip6.specs.Marks.Seen.{Marks, NoMark, CutOff}
use Rattle.am_ip6.specs.Seen.{SeenIn, IsSeen}
use Rattle.am_ip6.specs.Laws.{HasOneWalk}
use Rattle.am_ip6.specs.declared.marks.Place.{Place}
use Rattle.am_ip6.specs.declared.marks.Place.TheVariants.{HopByHop, Destination}

-- what stands among others
among : {A : Type 0} (P : A → Type 0) (xs : List A) (x : A) (rest : List A) → All P (xs ++ x ∷ rest) → P x
among P [] x rest all = All-head P x rest all
among P (y ∷ ys) x rest all = among P ys x rest (All-tail P y (ys ++ x ∷ rest) all)

-- the first element of a list that is not such is one
first-one :
    {A : Type 0} (P : A → Type 0) (xs ys : List A) (x y : A) (rest more : List A) → All P xs → All P ys → (P x → ⊥) → (P y → ⊥)
    → xs ++ x ∷ rest ≡ ys ++ y ∷ more → x ≡ y
first-one P [] [] x y rest more p q n m e = cc
first-one P [] (z ∷ ys) x y rest more p q n m e =
    let same : z ≡ x = cc in absurd (n (subst P same (All-head P z ys q)))
first-one P (z ∷ xs) [] x y rest more p q n m e =
    let same : z ≡ y = cc in absurd (m (subst P same (All-head P z xs p)))
first-one P (z ∷ xs) (u ∷ ys) x y rest more p q n m e =
    let tails : xs ++ x ∷ rest ≡ ys ++ y ∷ more = cc in
    first-one P xs ys x y rest more (All-tail P z xs p) (All-tail P u ys q) n m tails

same_marks : (m n : Marking) (p q : ℕ) → m ≡ n → p ≡ q → Marks m p ≡ Marks n q
same_marks m n p q e f = cc

-- a Hop-by-Hop header that stands first is among the headers
first_kind : (h : Lent) (rest hs : List Lent) → hs ≡ h ∷ rest → h.kind ≡ 0 → All (λ k. k.kind ≢ 0) hs → ⊥
first_kind h rest hs e is all = All-head (λ k. k.kind ≢ 0) h rest (subst (λ ks. All (λ k. k.kind ≢ 0) ks) e all) is

-- and the header that has the mark is
chain_kind : (hs : List Lent) (m : Marking) (p : ℕ) → MarksChain 0 hs m p → All (λ k. k.kind ≢ 0) hs → ⊥
chain_kind hs m p a all =
    among (λ k. k.kind ≢ 0) a.before a.header a.behind (subst (λ ks. All (λ k. k.kind ≢ 0) ks) a.chain all) a.of_kind

-- no mark is found, or the packet is cut
none_or_cut : (b : List ℕ) (w : Bool) (hs : List Lent) (e : Ended) → SeenInHopByHop b w hs e NoMark → SeenInHopByHop b w hs e CutOff → ⊥
none_or_cut b w hs e s t = ⊎_elim (λ f. first_kind f.0 f.1 hs f.2 f.3 t.0) (λ n. n (t.1, t.2)) s.1

-- what is known of option lists, and of spellings
module _ (lists : (area : List ℕ) → HasOneLongest area) (spelled : (bytes : List ℕ) (a b : Marking) → Spells bytes a → Spells bytes b → a ≡ b) where
  -- the first mark of an area is one
  mark-one : (area : List ℕ) (m n : Marking) (p q : ℕ) → HasMark area m p → HasMark area n q → (m ≡ n) × (p ≡ q)
  mark-one area m n p q a b =
      let list = (lists area).alone _ _ a.options b.options in
      let same : a.option ≡ b.option =
      first-one IsNoMark a.before b.before a.option b.option a.behind b.behind a.none_before b.none_before
      (λ none. none m a.spelled) (λ none. none n b.spelled) list in (
        spelled b.option.bytes m n (subst (λ (o : Placed). Spells o.bytes m) same a.spelled) b.spelled,
        a.place_is ∙ ap (λ (o : Placed). o.at) same ∙ sym b.place_is,
      )

  -- an area has a mark or none
  mark-or_none : (area : List ℕ) (m : Marking) (p : ℕ) → HasMark area m p → HasNoMark area → ⊥
  mark-or_none area m p a b =
      let list = (lists area).alone _ _ b.list a.options in
      among IsNoMark a.before a.option a.behind (subst (λ os. All IsNoMark os) list b.none) m a.spelled

  -- a header with a mark is not passed
  not_passed : (kind : ℕ) (h : Lent) (m : Marking) (at : ℕ) → h.kind ≡ kind → MarksHeader h m at → IsPassed kind h → ⊥
  not_passed kind h m at is marked passed =
      ⊎_elim (λ other. other is) (λ none. mark-or_none (drop 2 h.bytes) m marked.place marked.has none.1) passed

  -- the first mark of a chain is one
  chain-one : (kind : ℕ) (hs : List Lent) (m n : Marking) (p q : ℕ) → MarksChain kind hs m p → MarksChain kind hs n q → Marks m p ≡ Marks n q
  chain-one kind hs m n p q a b =
      let same : a.header ≡ b.header =
      first-one (IsPassed kind) a.before b.before a.header b.header a.behind b.behind a.passed b.passed
      (not_passed kind a.header m p a.of_kind a.marked) (not_passed kind b.header n q b.of_kind b.marked) (sym a.chain ∙ b.chain) in
      let other = subst (λ h. MarksHeader h m p) same a.marked in
      let one = mark-one (drop 2 b.header.bytes) m n other.place b.marked.place other.has b.marked.has in
      same_marks m n p q one.0 (other.at_is ∙ ap (λ k. b.header.at + 2 + k) one.1 ∙ sym b.marked.at_is)

  -- a chain has a mark, or all of its headers are passed
  chain-or_passed : (kind : ℕ) (hs : List Lent) (m : Marking) (p : ℕ) → MarksChain kind hs m p → All (IsPassed kind) hs → ⊥
  chain-or_passed kind hs m p a all =
      not_passed kind a.header m p a.of_kind a.marked
      (among (IsPassed kind) a.before a.header a.behind (subst (λ ks. All (IsPassed kind) ks) a.chain all))

  in_destination-one :
      (b : List ℕ) (w : Bool) (hs : List Lent) (e : Ended) (x y : Seen) → SeenInDestination b w hs e x → SeenInDestination b w hs e y → x ≡ y
  in_destination-one b w hs e (Marks m p) (Marks n q) s t = chain-one 60 hs m n p q s t
  in_destination-one b w hs e (Marks m p) NoMark s t = absurd (chain-or_passed 60 hs m p s t.0)
  in_destination-one b w hs e (Marks m p) CutOff s t = absurd (chain-or_passed 60 hs m p s t.0)
  in_destination-one b w hs e NoMark (Marks n q) s t = absurd (chain-or_passed 60 hs n q t s.0)
  in_destination-one b w hs e NoMark NoMark s t = refl
  in_destination-one b w hs e NoMark CutOff s t = absurd (s.1 t.1)
  in_destination-one b w hs e CutOff (Marks n q) s t = absurd (chain-or_passed 60 hs n q t s.0)
  in_destination-one b w hs e CutOff NoMark s t = absurd (t.1 s.1)
  in_destination-one b w hs e CutOff CutOff s t = refl

  in_hop_by_hop-one :
      (b : List ℕ) (w : Bool) (hs : List Lent) (e : Ended) (x y : Seen) → SeenInHopByHop b w hs e x → SeenInHopByHop b w hs e y → x ≡ y
  in_hop_by_hop-one b w hs e (Marks m p) (Marks n q) s t = chain-one 0 hs m n p q s t
  in_hop_by_hop-one b w hs e (Marks m p) NoMark s t = absurd (chain-or_passed 0 hs m p s t.0)
  in_hop_by_hop-one b w hs e (Marks m p) CutOff s t = absurd (chain_kind hs m p s t.0)
  in_hop_by_hop-one b w hs e NoMark (Marks n q) s t = absurd (chain-or_passed 0 hs n q t s.0)
  in_hop_by_hop-one b w hs e NoMark NoMark s t = refl
  in_hop_by_hop-one b w hs e NoMark CutOff s t = absurd (none_or_cut b w hs e s t)
  in_hop_by_hop-one b w hs e CutOff (Marks n q) s t = absurd (chain_kind hs n q t s.0)
  in_hop_by_hop-one b w hs e CutOff NoMark s t = absurd (none_or_cut b w hs e t s)
  in_hop_by_hop-one b w hs e CutOff CutOff s t = refl

  seen_in-one :
      (place : Place) (b : List ℕ) (w : Bool) (hs : List Lent) (e : Ended) (x y : Seen) → SeenIn place b w hs e x → SeenIn place b w hs e y → x ≡ y
  seen_in-one HopByHop b w hs e x y s t = in_hop_by_hop-one b w hs e x y s t
  seen_in-one Destination b w hs e x y s t = in_destination-one b w hs e x y s t

  -- what is found, at the one walk of a packet
  at_walk :
      (b : List ℕ) (w : Bool) (place : Place) (x : Seen) → (walk : HasOneWalk b w) → IsSeen b w place x
      → SeenIn place b w walk.headers walk.ended x
  at_walk b w place x walk s =
      let chain = walk.one_chain s.headers s.chain in
      let ends = subst (λ hs. EndsSo b w hs s.ended) chain s.ends in
      subst (λ e. SeenIn place b w walk.headers e x) (walk.one_ending s.ended ends)
      (subst (λ hs. SeenIn place b w hs s.ended x) chain s.seen_in)

  pub seen-one : (b : List ℕ) (w : Bool) (place : Place) (x y : Seen) → HasOneWalk b w → IsSeen b w place x → IsSeen b w place y → x ≡ y
  seen-one b w place x y walk s t =
      seen_in-one place b w walk.headers walk.ended x y (at_walk b w place x walk s) (at_walk b w place y walk t)
