-- What an add and a read make of what a pass knows, by slot, colour and word.
use Rattle.std.proofs.Common.{◌≡◌, ◌≢◌, ℕ, ◌+◌, ◌*◌, ◌<◌, ◌≤◌, max, Bool, true, false, ◌&&◌, nat_eq, if◌then◌else◌, sym, refl, ap, subst, ◌∙◌, arith, eq-eqb, ne_eqb}
use mathlib.Core.Logic.{dite}
use native.Mathlib.Decide.{ℕ_discrete}
use Rattle.am_shared.specs.declared.rule.View.{View}
use Rattle.am_shared.specs.declared.tally.TheConstants.{MAX_OFFSET}
use Rattle.am_shared.specs.declared.word.Word.{Word}
use Rattle.am_shared.specs.declared.word.Word.TheVariants.{Count, Sum, DelayCount, DelaySum}
use Rattle.am_shared.specs.Places.{word_index, colour_index, word_number, same_colour, same_word, packet_gain, gain}
use Rattle.am_shared.specs.Views.{share_at, seen_at, raised, counted, looked}
use Rattle.am_shared.specs.Rule.{IsConsistent}
use Rattle.am_shared.proofs.ViewLemmas.{Raises, raised-raises, counted-raises, changed-here, changed-else}

colour-below : (c : Bool) → colour_index c < 2
colour-below true = omega arith
colour-below false = omega arith

word-below : (w : Word) → word_index w < 4
word-below Count = omega arith
word-below Sum = omega arith
word-below DelayCount = omega arith
word-below DelaySum = omega arith

places : (s t p q x y : ℕ) → p < 2 → q < 2 → x < 4 → y < 4
    → nat_eq (s * 8 + p * 4 + x) (t * 8 + q * 4 + y) ≡ (nat_eq s t && nat_eq p q && nat_eq x y)
places s t p q x y bp bq bx by' = dite (ℕ_discrete s t)
    (λ (e : s ≡ t). dite (ℕ_discrete p q)
    (λ (f : p ≡ q). dite (ℕ_discrete x y)
    (λ (g : x ≡ y). let here : s * 8 + p * 4 + x ≡ t * 8 + q * 4 + y = omega arith in
    rw (eq-eqb (s * 8 + p * 4 + x) (t * 8 + q * 4 + y) here, eq-eqb s t e, eq-eqb p q f, eq-eqb x y g) refl)
    (λ (g : x ≢ y). let away : s * 8 + p * 4 + x ≢ t * 8 + q * 4 + y = λ h. g (omega arith) in
    rw (ne_eqb (s * 8 + p * 4 + x) (t * 8 + q * 4 + y) away, eq-eqb s t e, eq-eqb p q f, ne_eqb x y g) refl))
    (λ (f : p ≢ q). let away : s * 8 + p * 4 + x ≢ t * 8 + q * 4 + y = λ h. f (omega arith) in
    rw (ne_eqb (s * 8 + p * 4 + x) (t * 8 + q * 4 + y) away, eq-eqb s t e, ne_eqb p q f) refl))
    (λ (e : s ≢ t). let away : s * 8 + p * 4 + x ≢ t * 8 + q * 4 + y = λ h. e (omega arith) in
    rw (ne_eqb (s * 8 + p * 4 + x) (t * 8 + q * 4 + y) away, ne_eqb s t e) refl)

-- two words of the table are one exactly where slot, colour and word are
pub one-place : (s t : ℕ) (c d : Bool) (w x : Word)
    → nat_eq (word_number s c w) (word_number t d x) ≡ (nat_eq s t && same_colour c d && same_word w x)
one-place s t c d w x =
    places s t (colour_index c) (colour_index d) (word_index w) (word_index x) (colour-below c) (colour-below d) (word-below w) (word-below x)

-- a word of a slot that is there stands in the table
pub word-there : (slot slots : ℕ) (c : Bool) (w : Word) → slot < slots → word_number slot c w < 8 * slots
word-there slot slots c w lt = let a = colour-below c in let b = word-below w in omega arith

-- the first step of an add, and a further one
pub first-raises : (v w : View) (i : ℕ) → IsConsistent v → 1 ≤ v.left → w ≡ counted i v → Raises v w i 1
first-raises v w i sound some_left is = subst (λ (u : View). Raises v u i 1) (sym is) (counted-raises v i sound some_left)

pub next-raises : (v w : View) (i k : ℕ) → IsConsistent v → w ≡ raised i k v → Raises v w i k
next-raises v w i k sound is = subst (λ (u : View). Raises v u i k) (sym is) (raised-raises v i k sound)

-- an add has made room for an offset in each word that it has not come to
pub room : (v w : View) (j k : ℕ) → IsConsistent v → w.made ≡ v.made + 1 → share_at w j ≡ share_at v j → k ≤ MAX_OFFSET
    → share_at w j + k ≤ w.made * MAX_OFFSET
room v w j k sound made same le = let before = sound.bounded j in omega arith

-- the share of any word after a step
share-after : (v w : View) (i k : ℕ) → Raises v w i k → (j : ℕ) → share_at w j ≡ share_at v j + (if nat_eq j i then k else 0)
share-after v w i k r j = dite (ℕ_discrete j i)
    (λ (e : j ≡ i). let P : ℕ → Type 0 = λ z. share_at w z ≡ share_at v z + k in
    rw (eq-eqb j i e) (subst P (sym e) r.here))
    (λ (apart : j ≢ i). let same = r.others j apart in rw (ne_eqb j i apart) (omega arith))

-- the same where the words are named
named-after : (v w : View) (t : ℕ) (d : Bool) (x : Word) (i k : ℕ) → i ≡ word_number t d x → Raises v w i k → (s : ℕ) (c : Bool) (y : Word)
    → share_at w (word_number s c y) ≡ share_at v (word_number s c y) + (if (nat_eq s t && same_colour c d) && same_word y x then k else 0)
named-after v w t d x i k is r s c y =
    let P : Bool → Type 0 = λ b. share_at w (word_number s c y) ≡ share_at v (word_number s c y) + (if b then k else 0) in
    let Q : ℕ → Type 0 = λ z. share_at w (word_number s c y) ≡ share_at v (word_number s c y) + (if nat_eq (word_number s c y) z then k else 0) in
    subst P (one-place s t c d y x) (subst Q is (share-after v w i k r (word_number s c y)))

gains-plain : (here : Bool) (offset : ℕ) (w : Word)
    → (if here && same_word w Count then 1 else 0) + (if here && same_word w Sum then offset else 0) ≡ (if here then packet_gain false offset w else 0)
gains-plain true offset Count = refl
gains-plain true offset Sum = omega arith
gains-plain true offset DelayCount = refl
gains-plain true offset DelaySum = refl
gains-plain false offset w = refl

gains-delay : (here : Bool) (offset : ℕ) (w : Word)
    → (if here && same_word w Count then 1 else 0) + (if here && same_word w Sum then offset else 0)
    + (if here && same_word w DelayCount then 1 else 0) + (if here && same_word w DelaySum then offset else 0)
    ≡ (if here then packet_gain true offset w else 0)
gains-delay true offset Count = refl
gains-delay true offset Sum = omega arith
gains-delay true offset DelayCount = refl
gains-delay true offset DelaySum = omega arith
gains-delay false offset w = refl

-- the two steps of an add, without a measure of delay
pub shares-plain : (v v1 v2 : View) (t : ℕ) (d : Bool) (offset i1 i2 : ℕ)
    → i1 ≡ word_number t d Count → Raises v v1 i1 1 → i2 ≡ word_number t d Sum → Raises v1 v2 i2 offset
    → (s : ℕ) (c : Bool) (w : Word) → share_at v2 (word_number s c w) ≡ share_at v (word_number s c w) + gain t d false offset s c w
shares-plain v v1 v2 t d offset i1 i2 is1 r1 is2 r2 s c w =
    let a = named-after v v1 t d Count i1 1 is1 r1 s c w in
    let b = named-after v1 v2 t d Sum i2 offset is2 r2 s c w in
    let g = gains-plain (nat_eq s t && same_colour c d) offset w in
    omega arith

-- the four steps of an add with one
pub shares-delay : (v v1 v2 v3 v4 : View) (t : ℕ) (d : Bool) (offset i1 i2 i3 i4 : ℕ)
    → i1 ≡ word_number t d Count → Raises v v1 i1 1 → i2 ≡ word_number t d Sum → Raises v1 v2 i2 offset
    → i3 ≡ word_number t d DelayCount → Raises v2 v3 i3 1 → i4 ≡ word_number t d DelaySum → Raises v3 v4 i4 offset
    → (s : ℕ) (c : Bool) (w : Word) → share_at v4 (word_number s c w) ≡ share_at v (word_number s c w) + gain t d true offset s c w
shares-delay v v1 v2 v3 v4 t d offset i1 i2 i3 i4 is1 r1 is2 r2 is3 r3 is4 r4 s c w =
    let a = named-after v v1 t d Count i1 1 is1 r1 s c w in
    let b = named-after v1 v2 t d Sum i2 offset is2 r2 s c w in
    let a' = named-after v2 v3 t d DelayCount i3 1 is3 r3 s c w in
    let b' = named-after v3 v4 t d DelaySum i4 offset is4 r4 s c w in
    let g = gains-delay (nat_eq s t && same_colour c d) offset w in
    omega arith

-- after a further step, too, each word was seen up to the share
pub sees-on : (v v1 v2 : View) (i k : ℕ) → ((j : ℕ) → seen_at v1 j ≡ max (seen_at v j) (share_at v1 j)) → Raises v1 v2 i k
    → (j : ℕ) → seen_at v2 j ≡ max (seen_at v j) (share_at v2 j)
sees-on v v1 v2 i k before r j =
    let s = before j in
    let s' = r.sees j in
    let more : share_at v1 j ≤ share_at v2 j = let a = share-after v1 v2 i k r j in omega arith in
    omega arith

-- what was seen after a read
sees-after : (v : View) (i n j : ℕ) → seen_at (looked i n v) j ≡ (if nat_eq j i then n else seen_at v j)
sees-after v i n j = dite (ℕ_discrete j i)
    (λ (e : j ≡ i). let P : ℕ → Type 0 = λ z. seen_at (looked i n v) z ≡ n in
    rw (eq-eqb j i e) (subst P (sym e) (changed-here (λ _. n) v.seen i)))
    (λ (apart : j ≢ i). rw (ne_eqb j i apart) (changed-else (λ _. n) v.seen i j apart))

pub sees-named : (v w : View) (t : ℕ) (d : Bool) (x : Word) (i n : ℕ) → i ≡ word_number t d x → w ≡ looked i n v → (s : ℕ) (c : Bool) (y : Word)
    → seen_at w (word_number s c y) ≡ (if nat_eq s t && same_colour c d && same_word y x then n else seen_at v (word_number s c y))
sees-named v w t d x i n is is' s c y =
    let P : Bool → Type 0 = λ b. seen_at (looked i n v) (word_number s c y) ≡ (if b then n else seen_at v (word_number s c y)) in
    let Q : ℕ → Type 0 = λ z. seen_at (looked i n v) (word_number s c y) ≡ (if nat_eq (word_number s c y) z then n else seen_at v (word_number s c y)) in
    ap (λ (u : View). seen_at u (word_number s c y)) is' ∙ subst P (one-place s t c d y x) (subst Q is (sees-after v i n (word_number s c y)))
