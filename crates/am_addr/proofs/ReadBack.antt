-- A printed text stands for the values that it is printed of.
use Rattle.std.proofs.Common.{arith, refl, ap, sym, subst, ◌∙◌, inl, inr, ◌≡◌, ℕ, zero, suc, ◌+◌, ◌-◌, ◌*◌, ◌/◌, ◌%◌, ◌<◌, ◌≤◌, cond, leb, ltb, true, false, List, [], ◌∷◌, ◌++◌, length, replicate, length-append}
use Rattle.std.proofs.lemmas.List.{length-replicate}
use Rattle.std.proofs.lemmas.Bool.{leb-true, leb-false, ltb-true, ltb-false}
use Rattle.am_addr.specs.Text.{IsDigit, IsGroup, IsList, IsAddressText, IsTextOf, bytes_of}
use Rattle.am_addr.specs.Print.{IsPrinted, list_of, group_of, glyph, values_of, AreBytes}

glyph_digit : (d : ℕ) → d < 16 → IsDigit (glyph d) d
glyph_digit d h = elim (ltb d 10) as (λ b. ltb d 10 ≡ b → IsDigit (cond b (48 + d) (87 + d)) d) [
  | true ↦ λ e. inl (ltb-true d 10 e, refl)
  | false ↦ λ e. let big : 10 ≤ d = ltb-false d 10 e in inr (big, h, inr (omega arith))
] refl

-- the group of each size
four_cases : (v : ℕ) (a b c : _) → a ≡ leb 4096 v → b ≡ leb 256 v → c ≡ leb 16 v → v < 65536
    → IsGroup (cond a (glyph (v / 4096) ∷ []) [] ++ cond b (glyph (v / 256 % 16) ∷ []) [] ++ cond c (glyph (v / 16 % 16) ∷ []) [] ++ glyph (v % 16) ∷ []) v
four_cases v true true true e f g h = record {
  some = omega arith;
  few = omega arith;
  digits = (v / 4096, glyph_digit (v / 4096) (omega arith), (v / 256 % 16, glyph_digit (v / 256 % 16) (omega arith), (v / 16 % 16, glyph_digit (v / 16 % 16) (omega arith), (v % 16, glyph_digit (v % 16) (omega arith), omega arith))));
}
four_cases v false true true e f g h = let k = leb-false 4096 v (sym e) in record {
  some = omega arith;
  few = omega arith;
  digits = (v / 256 % 16, glyph_digit (v / 256 % 16) (omega arith), (v / 16 % 16, glyph_digit (v / 16 % 16) (omega arith), (v % 16, glyph_digit (v % 16) (omega arith), omega arith)));
}
four_cases v false false true e f g h = let k = leb-false 256 v (sym f) in record {
  some = omega arith;
  few = omega arith;
  digits = (v / 16 % 16, glyph_digit (v / 16 % 16) (omega arith), (v % 16, glyph_digit (v % 16) (omega arith), omega arith));
}
four_cases v false false false e f g h = let k = leb-false 16 v (sym g) in record {
  some = omega arith;
  few = omega arith;
  digits = (v % 16, glyph_digit (v % 16) (omega arith), omega arith);
}
four_cases v true false c e f g h = let k = leb-true 4096 v (sym e) in let l = leb-false 256 v (sym f) in absurd (omega arith)
four_cases v true true false e f g h = let k = leb-true 4096 v (sym e) in let l = leb-false 16 v (sym g) in absurd (omega arith)
four_cases v false true false e f g h = let k = leb-true 256 v (sym f) in let l = leb-false 16 v (sym g) in absurd (omega arith)

group_reads : (v : ℕ) → v < 65536 → IsGroup (group_of v) v
unfolding group_of
group_reads v h = four_cases v (leb 4096 v) (leb 256 v) (leb 16 v) refl refl refl h

-- each value has sixteen bits
abbrev pub AreSmall : List ℕ → Type 0
AreSmall [] = Unit {0}
AreSmall (v ∷ vs) = (v < 65536) × AreSmall vs

lists_read : (vs : List ℕ) → AreSmall vs → IsList vs (list_of vs)
lists_read [] h = refl
lists_read (v ∷ []) h = group_reads v h.0
lists_read (v ∷ w ∷ vs) h = (group_of v, list_of (w ∷ vs), refl, group_reads v h.0, lists_read (w ∷ vs) h.1)

small_front : (xs ys : List ℕ) → AreSmall (xs ++ ys) → AreSmall xs
small_front [] ys h = tt
small_front (x ∷ xs) ys h = (h.0, small_front xs ys h.1)

small_back : (xs ys : List ℕ) → AreSmall (xs ++ ys) → AreSmall ys
small_back [] ys h = h
small_back (x ∷ xs) ys h = small_back xs ys h.1

pub printed_stands : (text values : List ℕ) → AreSmall values → length values ≡ 8 → IsPrinted text values → IsAddressText text values
printed_stands text values small eight (inl p) =
    let parts = subst AreSmall p.longest.run.parts small in
    let run = p.longest.run in
    let behind = p.longest.behind in
    let sizes : (length p.before + p.count) + length behind ≡ 8 =
    omega (arith, ap length run.parts, length-append (p.before ++ replicate p.count 0) behind, length-append p.before (replicate p.count 0), length-replicate {A = ℕ} p.count 0) in
    let missing : p.count ≡ 8 - (length p.before + length behind) = omega arith in
    inr (record {
      front = list_of p.before;
      back = list_of behind;
      split = p.spelled;
      short = record {
        before = p.before;
        behind = behind;
        list_before = lists_read p.before (small_front p.before (replicate p.count 0) (small_front (p.before ++ replicate p.count 0) behind parts));
        list_behind = lists_read behind (small_back (p.before ++ replicate p.count 0) behind parts);
        few = omega (arith, p.two);
        filled = run.parts ∙ ap (λ m. p.before ++ replicate m 0 ++ behind) missing;
      };
    })
printed_stands text values small eight (inr u) =
    inl (record { list = subst (λ (t : List ℕ). IsList values t) (sym u.spelled) (lists_read values small); eight = eight })

-- bytes, two at a time
pub values_small : (h : ℕ) (xs : List ℕ) → length xs ≡ h + h → AreBytes xs → AreSmall (values_of xs)
values_small h [] e b = tt
values_small h (x ∷ []) e b = tt
values_small zero (x ∷ y ∷ xs) e b = absurd (omega arith)
values_small (suc h) (x ∷ y ∷ xs) e b = (omega (arith, b 0, b 1), values_small h xs (omega arith) (λ i. b (suc (suc i))))

pub bytes_back : (h : ℕ) (xs : List ℕ) → length xs ≡ h + h → AreBytes xs → xs ≡ bytes_of (values_of xs)
bytes_back h [] e b = refl
bytes_back h (x ∷ []) e b = absurd (omega arith)
bytes_back zero (x ∷ y ∷ xs) e b = absurd (omega arith)
bytes_back (suc h) (x ∷ y ∷ xs) e b =
    let first : x ≡ (x * 256 + y) / 256 = omega (arith, b 0, b 1) in
    let second : y ≡ (x * 256 + y) % 256 = omega (arith, b 0, b 1) in
    ap (λ z. z ∷ y ∷ xs) first ∙ ap (λ z. ((x * 256 + y) / 256) ∷ z ∷ xs) second
    ∙ ap (λ (l : List ℕ). ((x * 256 + y) / 256) ∷ ((x * 256 + y) % 256) ∷ l) (bytes_back h xs (omega arith) (λ i. b (suc (suc i))))

pub values_length : (h : ℕ) (xs : List ℕ) → length xs ≡ h + h → length (values_of xs) ≡ h
values_length zero [] e = refl
values_length (suc h) [] e = absurd (omega arith)
values_length h (x ∷ []) e = absurd (omega arith)
values_length zero (x ∷ y ∷ xs) e = absurd (omega arith)
values_length (suc h) (x ∷ y ∷ xs) e = omega (arith, values_length h xs (omega arith))

pub read_back : (text xs : List ℕ) → length xs ≡ 16 → AreBytes xs → IsPrinted text (values_of xs) → IsTextOf text xs
read_back text xs e b p = record {
  values = values_of xs;
  stands = printed_stands text (values_of xs) (values_small 8 xs (omega arith) b) (values_length 8 xs (omega arith)) p;
  spelled = bytes_back 8 xs (omega arith) b;
}
