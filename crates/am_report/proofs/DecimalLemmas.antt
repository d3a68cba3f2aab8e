-- Numbers in decimal: digits without a zero in front are what is written of their value.
use Rattle.std.proofs.Common.{◌≡◌, ◌∙◌, ℕ, zero, suc, ◌+◌, ◌*◌, ◌/◌, ◌%◌, ◌^◌, ◌<◌, ◌≤◌, List, [], ◌∷◌, ◌++◌, get_or, take, length, refl, sym, ap, subst, arith, add-one, inl, inr, zero-add, length-append, lit≤}
use Rattle.std.specs.Prelude.{decimal}
use Rattle.std.specs.Char.{digit_value}
use Rattle.std.specs.Str.Parse.{AllDigits, digits_value}
use Rattle.std.proofs.lemmas.Bool.{cases_lt}
use Rattle.std.proofs.lemmas.Bool.Decides.{nat_tests}
use Rattle.std.proofs.lemmas.List.{take_all, take_more}
use Rattle.std.proofs.lemmas.Fmt.{decimal_digit, decimal_step_wide, decimal_is_IsNumeral_wide, decimal_by_steps_wide}
use Rattle.std.proofs.lemmas.Int.Digits.{digits_value_more}
use Rattle.std.proofs.lemmas.Str.Parse.{digits_value-take-le}
use Rattle.am_base.specs.Numbers.{IsDecimal}

-- a digit is the byte of its value
digit-of : (c : ℕ) → digit_value c < 10 → c ≡ 48 + digit_value c
digit-of c h = grind (arith, nat_tests)

digit-at : (ds : List ℕ) (k : ℕ) → AllDigits 10 ds → k < length ds → digit_value (get_or ds k 0) < 10
digit-at [] k all below = absurd (omega arith)
digit-at (d ∷ ds) zero all below = all.0
digit-at (d ∷ ds) (suc k) all below = digit-at ds k all.1 (omega arith)

-- a number after one more digit
last-digit : (n d : ℕ) → 0 < n → d < 10 → (n * 10 + d) / 10 ≡ n
last-digit n d some small = omega arith

last-digit-rest : (n d : ℕ) → d < 10 → (n * 10 + d) % 10 ≡ d
last-digit-rest n d small = omega arith

one-more : (n d : ℕ) (c : ℕ) → 0 < n → d < 10 → c ≡ 48 + d → n * 10 + d < 10 ^ 64
    → decimal (n * 10 + d) ≡ decimal n ++ (c ∷ [])
one-more n d c some small byte wide =
    rw (decimal_step_wide (n * 10 + d) (omega arith) wide, last-digit n d some small, last-digit-rest n d small, byte) refl

-- one digit
single : (c : ℕ) (cs : List ℕ) → length (c ∷ cs) ≡ 1 → digit_value c < 10 → c ∷ cs ≡ decimal (digits_value 10 (c ∷ cs))
single c [] alone small =
    let byte = digit-of c small in
    sym (rw (zero-add (digit_value c), decimal_digit (digit_value c) small, ← byte) refl)
single c (d ∷ ds) alone small = absurd (omega (arith, alone))

-- the first so many digits
first-digits : (ds : List ℕ) → AllDigits 10 ds → 48 < get_or ds 0 0 → digits_value 10 ds < 10 ^ 64
    → (k : ℕ) → k < length ds
    → (decimal (digits_value 10 (take (k + 1) ds)) ≡ take (k + 1) ds) × (0 < digits_value 10 (take (k + 1) ds))
first-digits [] all first wide k below = absurd (omega arith)
first-digits (d ∷ ds) all first wide zero below =
    let byte : d ≡ 48 + digit_value d = digit-of d all.0 in
    (sym (single d [] refl all.0), omega arith)
first-digits (d ∷ ds) all first wide (suc k) below =
    let so_far = first-digits (d ∷ ds) all first wide k (omega arith) in
    let here : k + 1 < length (d ∷ ds) = omega arith in
    let small = digit-at (d ∷ ds) (k + 1) all here in
    let byte = digit-of (get_or (d ∷ ds) (k + 1) 0) small in
    let value = digits_value_more 10 (d ∷ ds) (k + 1) here in
    let most = digits_value-take-le 10 (d ∷ ds) (k + 1 + 1) (omega arith) in
    let text = take_more (d ∷ ds) (k + 1) 0 here in
    let n = digits_value 10 (take (k + 1) (d ∷ ds)) in
    let fits : n * 10 + digit_value (get_or (d ∷ ds) (k + 1) 0) < 10 ^ 64 = omega (arith, value, most, wide) in
    let whole : decimal (digits_value 10 (take (k + 1 + 1) (d ∷ ds))) ≡ take (k + 1 + 1) (d ∷ ds) =
    ap decimal value
    ∙ one-more n (digit_value (get_or (d ∷ ds) (k + 1) 0)) (get_or (d ∷ ds) (k + 1) 0) so_far.1 small byte fits
    ∙ ap (λ (t : List ℕ). t ++ (get_or (d ∷ ds) (k + 1) 0 ∷ [])) so_far.0
    ∙ sym text in
    let some : 0 < digits_value 10 (take (k + 1 + 1) (d ∷ ds)) = omega (arith, value, so_far.1) in
    subst (λ (j : ℕ). (decimal (digits_value 10 (take (j + 1) (d ∷ ds))) ≡ take (j + 1) (d ∷ ds)) × (0 < digits_value 10 (take (j + 1) (d ∷ ds))))
    (add-one k) (whole, some)

-- numbers of 128 bits have fewer than 64 digits
wide-of : (n : ℕ) → n < 2 ^ 128 → n < 10 ^ 64
wide-of n h = let big : 2 ^ 128 ≤ 10 ^ 64 = lit≤ tt in omega (arith, big)

-- a decimal number is what is written of its value
pub canonical : (ds : List ℕ) → IsDecimal ds → ds ≡ decimal (digits_value 10 ds)
canonical [] d = absurd (omega (arith, d.digits.0))
canonical (c ∷ cs) d = elim (cases_lt 48 c) [
  | inl some ↦
      let whole = (first-digits (c ∷ cs) d.digits.1 some (wide-of _ d.fits) (length cs) (omega arith)).0 in
      sym (rw (take_all (length cs + 1) (c ∷ cs) (omega arith)) at whole)
  | inr none ↦
      let byte = digit-of c d.digits.1.0 in
      let zero_first : c ≡ 48 = omega arith in
      single c cs (d.no_zero_in_front zero_first) d.digits.1.0
]

first-more : (ds : List ℕ) (x : ℕ) → 0 < length ds → 48 < get_or ds 0 0 → 48 < get_or (ds ++ (x ∷ [])) 0 0
first-more [] x some first = absurd (omega (arith, some))
first-more (d ∷ ds) x some first = first

-- what is written of a number has no zero in front, but for 0 itself
leads : (n : ℕ) → n < 10 ^ 64
    → (0 < n → 48 < get_or (decimal n) 0 0) × (n < 10 → length (decimal n) ≡ 1) × (0 < length (decimal n))
leads n wide =
    decimal_by_steps_wide (λ m ds. (0 < m → 48 < get_or ds 0 0) × (m < 10 → length ds ≡ 1) × (0 < length ds))
    (λ m small. ((λ some. omega arith), (λ few. refl), omega arith))
    (λ m ds big h. ((λ some. first-more ds _ h.2 (h.0 (omega arith))), (λ few. absurd (omega arith)), omega (arith, length-append ds ((48 + m % 10) ∷ []))))
    n wide

-- what is written of a number of 128 bits is a decimal number, with this value
pub value-of : (n : ℕ) → n < 2 ^ 128 → digits_value 10 (decimal n) ≡ n
value-of n fits = (decimal_is_IsNumeral_wide n (wide-of n fits)).1

pub is-decimal : (n : ℕ) → n < 2 ^ 128 → IsDecimal (decimal n)
is-decimal n fits =
    let wide = wide-of n fits in
    let value = value-of n fits in
    record {
      digits = (decimal_is_IsNumeral_wide n wide).0;
      no_zero_in_front = λ e. elim (cases_lt 0 n) [
        | inl some ↦ absurd (omega (arith, (leads n wide).0 some, e))
        | inr none ↦ (leads n wide).1 (omega arith)
      ];
      fits = rw value fits;
    }

-- two numbers that are written alike are one
pub decimal-one : (m n : ℕ) → m < 2 ^ 128 → n < 2 ^ 128 → decimal m ≡ decimal n → m ≡ n
decimal-one m n h k e = sym (value-of m h) ∙ ap (digits_value 10) e ∙ value-of n k
