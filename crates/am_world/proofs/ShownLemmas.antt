-- A packet whose one header carries the mark shows it, and no part of it is cut.
use Rattle.std.proofs.Common.{arith, refl, sym, ap, subst, inl, inr, ⊎_elim, ◌∙◌, ◌≡◌, ℕ, ◌+◌, ◌^◌, ◌<◌, ◌≤◌, Bool, true, false, List, [], ◌∷◌, ◌++◌, length, take, drop, get_or, slice_index, length-append, w32}
use Rattle.std.specs.Int.{to_be_bytes}
use Rattle.std.proofs.lemmas.List.{drop-take, drop-drop, append-nil, length-take-le, length-drop, get_or-append-add}
use Rattle.std.proofs.lemmas.List.Elements.{All-nil}
use Rattle.std.proofs.lemmas.Nat.{from_be_bytes-to_be_bytes_4}
use Rattle.std.proofs.Math.Seq.{drop-append-add}
use Rattle.am_opts.specs.Marking.{Marking, bit, data_of, Spells}
use Rattle.am_opts.specs.Options.{IsOption, IsOptionsOf}
use Rattle.am_ip6.specs.Fixed.{IsFixed}
use Rattle.am_ip6.specs.Chains.{Lent, Spot, Stands, IsWalked, IsChain, HasHeaders, first_spot, spot_behind, header_length}
use Rattle.am_ip6.specs.Endings.{EndsSo}
use Rattle.am_ip6.specs.Endings.Ended.{AtNumber}
use Rattle.am_ip6.specs.Marks.{IsNoMark, HasMark, MarksChain, IsPassed, HasLoneMark}
use Rattle.am_ip6.specs.Marks.Seen.{Marks}
use Rattle.am_ip6.specs.Seen.{IsSeen}
use Rattle.am_ip6.specs.declared.marks.Place.{Place}
use Rattle.am_ip6.specs.declared.marks.Place.TheVariants.{HopByHop, Destination}
use Rattle.am_world.specs.Captures.{header_number, option_bytes}

-- a packet's one header is of this number and has eight bytes, its one option is this mark, and no header follows it
pub record Carries (b : List ℕ) (number : ℕ) (m : Marking) : Type 0 where
  pub fixed : IsFixed b
  pub announced : slice_index b 6 ≡ number
  pub walked : IsWalked (first_spot b)
  pub options : number ≡ 43 → ⊥
  pub lone : HasLoneMark b m
  pub last : slice_index b 40 ≡ 59

-- the one header
abbrev pub lone_header : List ℕ → ℕ → Lent
lone_header b number = record { kind = number; at = 40; bytes = take 8 (drop 40 b) }

-- a spelling is an option
spelling-option : (bytes : List ℕ) (m : Marking) → Spells bytes m → IsOption bytes
spelling-option bytes m s =
    let six : IsOption (0x12 ∷ 4 ∷ s.x ∷ s.y ∷ s.z ∷ s.w ∷ []) = (omega arith, refl) in
    subst IsOption (sym s.spelled) six

-- one option is an option list
option-alone : (bytes : List ℕ) → IsOption bytes → IsOptionsOf bytes (record { at = 0; bytes = bytes } ∷ [])
option-alone bytes o = record { whole = sym (append-nil bytes); follow = (refl, o, tt) }

-- whose first mark is the option
mark-alone : (bytes : List ℕ) (m : Marking) → Spells bytes m → HasMark bytes m 0
mark-alone bytes m s = record {
  before = [];
  option = record { at = 0; bytes = bytes };
  behind = [];
  options = option-alone bytes (spelling-option bytes m s);
  none_before = All-nil IsNoMark;
  spelled = s;
  place_is = refl;
}

-- what stands after the first two of eight bytes at place 40
area-is : (b : List ℕ) → drop 2 (take 8 (drop 40 b)) ≡ take 6 (drop 42 b)
area-is b = drop-take 2 6 (drop 40 b) ∙ ap (λ (x : List ℕ). take 6 x) (drop-drop 2 40 b)

lone-mark : (b : List ℕ) (m : Marking) → HasLoneMark b m → HasMark (drop 2 (take 8 (drop 40 b))) m 0
lone-mark b m lone = subst (λ x. HasMark x m 0) (sym (area-is b)) (mark-alone (take 6 (drop 42 b)) m lone.spelled)

-- the header stands at the first spot
lone-stands : (b : List ℕ) (number : ℕ) (m : Marking) → Carries b number m → Stands b (first_spot b) (lone_header b number)
lone-stands b number m carries =
    let size : header_length b 40 ≡ 8 = omega (arith, carries.lone.size) in
    record {
      walked = carries.walked;
      kind = sym carries.announced;
      at = refl;
      fits = record {
        first_two = omega (arith, carries.lone.there, carries.lone.payload);
        whole = omega (arith, carries.lone.there, carries.lone.payload, size);
      };
      bytes = ap (λ n. take n (drop 40 b)) (sym size);
      options = λ n. (_, (lone-mark b m carries.lone).options);
    }

-- at most one header stands at a spot
same-parts : (h k : Lent) → h.kind ≡ k.kind → h.at ≡ k.at → h.bytes ≡ k.bytes → h ≡ k
same-parts h k a b c = grind arith

stands-once : (b : List ℕ) (s : Spot) (h k : Lent) → Stands b s h → Stands b s k → h ≡ k
stands-once b s h k p q = same-parts h k (p.kind ∙ sym q.kind) (p.at ∙ sym q.at) (p.bytes ∙ sym q.bytes)

-- the number 59 is not walked
not-walked : (s : Spot) → s.kind ≡ 59 → IsWalked s → ⊥
not-walked s is walked =
    ⊎_elim (λ e. omega (arith, is, e)) (λ more. ⊎_elim (λ e. omega (arith, is, e)) (λ both. omega (arith, is, both.0)) more) walked

-- so no header stands after the one
module _ (b : List ℕ) (number : ℕ) (m : Marking) (carries : Carries b number m) where
  after-lone : (h : Lent) → Stands b (first_spot b) h → (k : Lent) → Stands b (spot_behind b h) k → ⊥
  after-lone h here k there =
      let at : slice_index b h.at ≡ 59 = ap (slice_index b) here.at ∙ carries.last in
      not-walked (spot_behind b h) at there.walked

  lone-longest : (others : List Lent) → IsChain b (first_spot b) others
      → (tail : List Lent) × (lone_header b number ∷ [] ≡ others ++ tail)
  lone-longest [] chain = (lone_header b number ∷ [], refl)
  lone-longest (o ∷ []) chain =
      let same : lone_header b number ≡ o
      = stands-once b (first_spot b) (lone_header b number) o (lone-stands b number m carries) chain.0 in
      ([], ap (λ h. h ∷ []) same)
  lone-longest (o ∷ k ∷ ks) chain = absurd (after-lone o chain.0 k chain.1.0)

  lone-has : HasHeaders b (lone_header b number ∷ [])
  lone-has = record {
    fixed = λ f. record { chain = (lone-stands b number m carries, tt); longest = lone-longest };
    other = λ n. absurd (n carries.fixed);
  }

  lone-spot : spot_behind b (lone_header b number) ≡ record { kind = 59; at = 48; told_at = 40 }
  lone-spot =
      let eight : length (take 8 (drop 40 b)) ≡ 8
      = length-take-le 8 (drop 40 b) (omega (arith, carries.lone.there, length-drop 40 b)) in
      let far : 40 + length (take 8 (drop 40 b)) ≡ 48 = omega (arith, eight) in
      ap (λ n. record { kind = slice_index b 40; at = n; told_at = 40 }) far
      ∙ ap (λ n. record { kind = n; at = 48; told_at = 40 }) carries.last

  lone-ends : (whole : Bool) → EndsSo b whole (lone_header b number ∷ []) (AtNumber 59 48 40)
  lone-ends whole = record {
    fixed = λ f. (lone-spot, λ walked. after-lone-spot walked);
    other = λ n. absurd (n carries.fixed);
  }
    where
      after-lone-spot : IsWalked (spot_behind b (lone_header b number)) → ⊥
      after-lone-spot walked = not-walked (spot_behind b (lone_header b number)) carries.last walked

  lone-marks : MarksChain number (lone_header b number ∷ []) m 42
  lone-marks = record {
    before = [];
    header = lone_header b number;
    behind = [];
    chain = refl;
    passed = All-nil (IsPassed number);
    of_kind = refl;
    marked = record { place = 0; has = lone-mark b m carries.lone; at_is = refl };
  }

-- it shows the mark in headers of this kind
pub carries-shows : (place : Place) (b : List ℕ) (m : Marking) → Carries b (header_number place) m
    → (whole : Bool) → IsSeen b whole place (Marks m 42)
carries-shows HopByHop b m carries whole = record {
  headers = lone_header b 0 ∷ [];
  ended = AtNumber 59 48 40;
  chain = lone-has b 0 m carries;
  ends = lone-ends b 0 m carries whole;
  seen_in = lone-marks b 0 m carries;
}
carries-shows Destination b m carries whole = record {
  headers = lone_header b 60 ∷ [];
  ended = AtNumber 59 48 40;
  chain = lone-has b 60 m carries;
  ends = lone-ends b 60 m carries whole;
  seen_in = lone-marks b 60 m carries;
}

-- the option that is written spells the mark
bit-most : (b : Bool) → bit b ≤ 1
bit-most true = omega arith
bit-most false = omega arith

pub option-spells : (m : Marking) → m.flow < 2 ^ 20 → Spells (option_bytes m) m
option-spells m fits =
    let word = data_of m 0 in
    let small : word < 2 ^ 32 = omega (arith, fits, bit-most m.loss, bit-most m.delay) in
    let back = from_be_bytes-to_be_bytes_4 word small in
    record {
      x = get_or (to_be_bytes w32 word) 0 0;
      y = get_or (to_be_bytes w32 word) 1 0;
      z = get_or (to_be_bytes w32 word) 2 0;
      w = get_or (to_be_bytes w32 word) 3 0;
      reserved = 0;
      spelled = refl;
      bits = omega (arith, back);
      below = omega arith;
      flow_fits = fits;
    }

-- the bytes of a packet, with addresses of 32 bytes together
abbrev pub packet_of : ℕ → List ℕ → List ℕ → List ℕ → List ℕ
packet_of number source destination option =
    0x60 ∷ 0 ∷ 0 ∷ 0 ∷ 0 ∷ 8 ∷ number ∷ 64 ∷ (source ++ destination ++ 59 ∷ 0 ∷ option)

-- what stands after the addresses
behind-addresses : (source destination rest : List ℕ) (n : ℕ) → length source + length destination ≡ 32
    → drop (32 + n) (source ++ destination ++ rest) ≡ drop n rest
behind-addresses source destination rest n long =
    let both : length (source ++ destination) ≡ 32 = length-append source destination ∙ long in
    subst (λ k. drop (k + n) ((source ++ destination) ++ rest) ≡ drop n rest) both
    (drop-append-add (source ++ destination) rest n)

at-addresses : (source destination rest : List ℕ) (n : ℕ) → length source + length destination ≡ 32
    → get_or (source ++ destination ++ rest) (32 + n) 0 ≡ get_or rest n 0
at-addresses source destination rest n long =
    let both : length (source ++ destination) ≡ 32 = length-append source destination ∙ long in
    subst (λ k. get_or ((source ++ destination) ++ rest) (k + n) 0 ≡ get_or rest n 0) both
    (get_or-append-add (source ++ destination) rest n 0)

walked-kind : (place : Place) (s : Spot) → s.kind ≡ header_number place → s.at ≡ 40 → IsWalked s
walked-kind HopByHop s kind at = inr (inr (kind, at))
walked-kind Destination s kind at = inr (inl kind)

options-kind : (place : Place) → header_number place ≡ 43 → ⊥
options-kind HopByHop e = omega (arith, e)
options-kind Destination e = omega (arith, e)

-- such a packet carries the mark
pub packet-carries : (place : Place) (source destination : List ℕ) (m : Marking) → m.flow < 2 ^ 20
    → length source + length destination ≡ 32
    → Carries (packet_of (header_number place) source destination (option_bytes m)) (header_number place) m
packet-carries place source destination m fits long =
    let b = packet_of (header_number place) source destination (option_bytes m) in
    let rest = 59 ∷ 0 ∷ option_bytes m in
    let all = length-append (source ++ destination) rest in
    let both = length-append source destination in
    let whole : length b ≡ 48 = omega (arith, all, both, long) in
    let option : drop 42 b ≡ option_bytes m = behind-addresses source destination rest 2 long in
    record {
      fixed = record { whole = omega (arith, whole); version = refl };
      announced = refl;
      walked = walked-kind place (first_spot b) refl refl;
      options = options-kind place;
      lone = record {
        there = omega (arith, whole);
        payload = omega arith;
        size = at-addresses source destination rest 1 long;
        spelled = subst (λ x. Spells (take 6 x) m) (sym option) (option-spells m fits);
      };
      last = at-addresses source destination rest 0 long;
    }
