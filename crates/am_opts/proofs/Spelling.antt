-- What the bytes of a spelling are, and that they spell one mark.
use Rattle.std.proofs.Common.{arith, refl, ap, sym, subst, w32, ◌≡◌, ℕ, ◌+◌, ◌*◌, ◌^◌, ◌<◌, ◌≤◌, ◌-◌, ◌↔◌, Bool, true, false, List, [], ◌∷◌, length, take, drop, slice_index_or, ◌++◌}
use Rattle.std.proofs.lemmas.List.{take-append-drop, length-take-le}
use Rattle.std.proofs.lemmas.Nat.{from_be_bytes-to_be_bytes_4}
use Rattle.std.specs.Int.{to_be_bytes, from_bool}
use Rattle.am_opts.specs.Marking.{Marking, mark_of, bit, data_of, Spells, IsCanonical}

-- the big-endian number of the data: the four bytes behind type and length
abbrev pub word_of : List ℕ → ℕ
word_of bs =
    slice_index_or bs 2 0 * 2 ^ 24 + slice_index_or bs 3 0 * 2 ^ 16 + slice_index_or bs 4 0 * 2 ^ 8 + slice_index_or bs 5 0

-- six bytes and more begin with their first six
six :
    (bs : List ℕ) (t l : ℕ) → 6 ≤ length bs → slice_index_or bs 0 0 ≡ t → slice_index_or bs 1 0 ≡ l
    → take 6 bs
    ≡ t ∷ l ∷ slice_index_or bs 2 0 ∷ slice_index_or bs 3 0 ∷ slice_index_or bs 4 0 ∷ slice_index_or bs 5 0 ∷ []
six [] t l h i j = absurd (omega (arith, h))
six (a ∷ []) t l h i j = absurd (grind arith)
six (a ∷ b ∷ []) t l h i j = absurd (grind arith)
six (a ∷ b ∷ d ∷ []) t l h i j = absurd (grind arith)
six (a ∷ b ∷ d ∷ e ∷ []) t l h i j = absurd (grind arith)
six (a ∷ b ∷ d ∷ e ∷ f ∷ []) t l h i j = absurd (grind arith)
six (a ∷ b ∷ d ∷ e ∷ f ∷ g ∷ rest) t l h i j = rw (i, j) refl

-- two marks whose data is the same word are the same
same_flow :
    (f g a b d e r word : ℕ)
    → f * 4096 + a * 2048 + b * 1024 + r ≡ word → r < 1024 → a ≤ 1 → b ≤ 1
    → g * 4096 + d * 2048 + e * 1024 ≤ word → word < g * 4096 + d * 2048 + e * 1024 + 1024 → d ≤ 1 → e ≤ 1
    → (g ≡ f) × (d ≡ a) × (e ≡ b)
same_flow f g a b d e r word p q s t u v w x = (omega arith, omega arith, omega arith)

-- the word of bytes of which some prefix is a spelling
spelled_word :
    (bs : List ℕ) (n x y z w : ℕ) → take n bs ≡ 18 ∷ 4 ∷ x ∷ y ∷ z ∷ w ∷ []
    → word_of bs ≡ x * 2 ^ 24 + y * 2 ^ 16 + z * 2 ^ 8 + w
spelled_word bs n x y z w e =
    let whole : bs ≡ (18 ∷ 4 ∷ x ∷ y ∷ z ∷ w ∷ []) ++ drop n bs =
    cc (take-append-drop n bs, e)
    in ap word_of whole

-- bits are numbers of their own
bit-injective : (a b : Bool) → bit a ≡ bit b → a ≡ b
bit-injective true true e = refl
bit-injective true false e = absurd (omega (arith, e))
bit-injective false true e = absurd (omega (arith, e))
bit-injective false false e = refl

bit-le : (a : Bool) → bit a ≤ 1
bit-le true = omega arith
bit-le false = omega arith

-- marks of the same parts are the same
same_parts : (m k : Marking) → m.flow ≡ k.flow → m.loss ≡ k.loss → m.delay ≡ k.delay → m ≡ k
same_parts m k e f g = grind arith

-- a mark whose data is the word but for reserved bits is the mark that a prefix spells
pub spells-one :
    (bs : List ℕ) (n word : ℕ) (m mark : Marking) → word ≡ word_of bs
    → data_of m 0 ≤ word → word < data_of m 0 + 2 ^ 10 → Spells (take n bs) mark → m ≡ mark
spells-one bs n word m mark is from until s =
    let e = spelled_word bs n s.x s.y s.z s.w s.spelled in
    let parts = same_flow mark.flow m.flow (bit mark.loss) (bit mark.delay) (bit m.loss) (bit m.delay) s.reserved word
    (cc (s.bits, e, is)) s.below (bit-le _) (bit-le _) (omega (arith, from)) (omega (arith, until)) (bit-le _) (bit-le _)
    in same_parts m mark parts.0 (bit-injective _ _ parts.1) (bit-injective _ _ parts.2)

-- bytes spell one mark at most
pub spells-unique : (bs : List ℕ) (a b : Marking) → Spells bs a → Spells bs b → a ≡ b
spells-unique bs a b s t =
    let word = ap word_of s.spelled in
    let again = ap word_of t.spelled in
    let parts = same_flow b.flow a.flow (bit b.loss) (bit b.delay) (bit a.loss) (bit a.delay) t.reserved (word_of bs)
    (omega (arith, t.bits, again)) t.below (bit-le _) (bit-le _) (omega (arith, s.bits, word)) (omega (arith, s.bits, s.below, word)) (bit-le _) (bit-le _)
    in same_parts a b parts.0 (bit-injective _ _ parts.1) (bit-injective _ _ parts.2)

-- type, length and a mark's data spell it
pub spells-six :
    (bs : List ℕ) (word : ℕ) (m : Marking) → 6 ≤ length bs → slice_index_or bs 0 0 ≡ 18 → slice_index_or bs 1 0 ≡ 4
    → word ≡ word_of bs → data_of m 0 ≤ word → word < data_of m 0 + 2 ^ 10 → m.flow < 2 ^ 20 → Spells (take 6 bs) m
spells-six bs word m long type_is length_is is from until fits = record {
  x = slice_index_or bs 2 0;
  y = slice_index_or bs 3 0;
  z = slice_index_or bs 4 0;
  w = slice_index_or bs 5 0;
  reserved = word - data_of m 0;
  spelled = six bs 18 4 long type_is length_is;
  bits = omega (arith, is, from);
  below = omega (arith, until);
  flow_fits = fits;
}

-- the data of a mark, with its bits as numbers
pub data-written :
    (flow : ℕ) (loss delay : Bool) (a b : ℕ) → a ≡ from_bool loss → b ≡ from_bool delay
    → flow * 2 ^ 12 + a * 2 ^ 11 + b * 2 ^ 10 ≡ data_of (mark_of flow loss delay) 0
data-written flow true true a b e f = omega (arith, e, f)
data-written flow true false a b e f = omega (arith, e, f)
data-written flow false true a b e f = omega (arith, e, f)
data-written flow false false a b e f = omega (arith, e, f)

-- type, length and the bytes of a mark's data with reserved bits zero are its canonical spelling
pub canonical-written :
    (bytes : List ℕ) (word : ℕ) (m : Marking) → bytes ≡ to_be_bytes w32 word → word ≡ data_of m 0 → m.flow < 2 ^ 20
    → IsCanonical (18 ∷ 4 ∷ slice_index_or bytes 0 0 ∷ slice_index_or bytes 1 0 ∷ slice_index_or bytes 2 0 ∷ slice_index_or bytes 3 0 ∷ []) m
canonical-written bytes word m e is fits =
    let small : word < 2 ^ 32 = omega (arith, bit-le m.loss, bit-le m.delay) in
    let back = from_be_bytes-to_be_bytes_4 word small in
    record {
      spells = record {
        x = slice_index_or bytes 0 0;
        y = slice_index_or bytes 1 0;
        z = slice_index_or bytes 2 0;
        w = slice_index_or bytes 3 0;
        reserved = 0;
        spelled = refl;
        bits = subst (λ (d : List ℕ). data_of m 0 ≡ slice_index_or d 0 0 * 2 ^ 24 + slice_index_or d 1 0 * 2 ^ 16 + slice_index_or d 2 0 * 2 ^ 8 + slice_index_or d 3 0) (sym e) (omega (arith, back, is));
        below = omega arith;
        flow_fits = fits;
      };
      none_reserved = refl;
    }

-- the canonical spelling and anything behind it begin with it
pub canonical-begins : (code more : List ℕ) (mark : Marking) → IsCanonical code mark → Spells (take 6 (code ++ more)) mark
canonical-begins code more mark c =
    let front : take 6 (code ++ more) ≡ code = rw c.spells.spelled refl in
    subst (λ (b : List ℕ). Spells b mark) (sym front) c.spells

-- they begin with no other spelling
pub canonical-alone :
    (code more : List ℕ) (mark : Marking) → IsCanonical code mark → (n : ℕ) (other : Marking) → n ≤ length (code ++ more)
    → Spells (take n (code ++ more)) other ↔ (n ≡ 6) × (other ≡ mark)
canonical-alone code more mark c n other fits = (
  (λ s.
      let size : n ≡ 6 = omega (arith, length-take-le n (code ++ more) fits, ap length s.spelled) in
      let word = ap (λ (b : List ℕ). word_of (b ++ more)) c.spells.spelled in
      let is : data_of mark 0 ≡ word_of (code ++ more) = omega (arith, word, c.spells.bits, c.none_reserved) in
      (size, sym (spells-one (code ++ more) n (data_of mark 0) mark other is (omega arith) (omega arith) s))),
  (λ h. subst (λ k. Spells (take k (code ++ more)) other) (sym h.0) (subst (λ m. Spells (take 6 (code ++ more)) m) (sym h.1) (canonical-begins code more mark c))),
)
