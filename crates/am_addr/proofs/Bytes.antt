-- The bytes of values, and of an address whose further bits are set to 0.
use Rattle.std.proofs.Common.{arith, refl, ap, sym, ◌∙◌, ◌≡◌, ℕ, ◌+◌, ◌-◌, ◌*◌, ◌/◌, ◌%◌, ◌^◌, ◌<◌, ◌≤◌, min, List, [], ◌∷◌, length, get_or}
use Rattle.std.proofs.lemmas.Nat.{div-mul-add, pow_pos}
use Rattle.am_addr.specs.Text.{bytes_of}
use Rattle.am_addr.specs.Bits.{cleared, kept, Decimal}

-- eight values, one by one
pub eight :
    (xs : List ℕ) → length xs ≡ 8
    → bytes_of xs ≡ (get_or xs 0 0 / 256) ∷ (get_or xs 0 0 % 256) ∷ (get_or xs 1 0 / 256) ∷ (get_or xs 1 0 % 256) ∷ (get_or xs 2 0 / 256) ∷ (get_or xs 2 0 % 256) ∷ (get_or xs 3 0 / 256) ∷ (get_or xs 3 0 % 256) ∷ (get_or xs 4 0 / 256) ∷ (get_or xs 4 0 % 256) ∷ (get_or xs 5 0 / 256) ∷ (get_or xs 5 0 % 256) ∷ (get_or xs 6 0 / 256) ∷ (get_or xs 6 0 % 256) ∷ (get_or xs 7 0 / 256) ∷ (get_or xs 7 0 % 256) ∷ []
eight ([]) n = absurd (omega arith)
eight (a ∷ []) n = absurd (omega arith)
eight (a ∷ b ∷ []) n = absurd (omega arith)
eight (a ∷ b ∷ c ∷ []) n = absurd (omega arith)
eight (a ∷ b ∷ c ∷ d ∷ []) n = absurd (omega arith)
eight (a ∷ b ∷ c ∷ d ∷ e ∷ []) n = absurd (omega arith)
eight (a ∷ b ∷ c ∷ d ∷ e ∷ f ∷ []) n = absurd (omega arith)
eight (a ∷ b ∷ c ∷ d ∷ e ∷ f ∷ g ∷ []) n = absurd (omega arith)
eight (a ∷ b ∷ c ∷ d ∷ e ∷ f ∷ g ∷ h ∷ []) n = refl
eight (a ∷ b ∷ c ∷ d ∷ e ∷ f ∷ g ∷ h ∷ i ∷ xs) n = absurd (omega arith)

-- digits make no number smaller
pub decimal_above : (text : List ℕ) (before n : ℕ) → Decimal before text n → before ≤ n
decimal_above [] before n h = omega (arith, h)
decimal_above (c ∷ cs) before n h = omega (arith, decimal_above cs (before * 10 + h.0) n h.3)

-- where one digit more makes it pass 128, no number is left
pub decimal_stops :
    (before c n : ℕ) (cs : List ℕ) → ((d : ℕ) → d < 10 → c ≡ 48 + d → 128 < before * 10 + d) → n ≤ 128
    → Decimal before (c ∷ cs) n → ⊥
decimal_stops before c n cs none most r =
    omega (arith, none r.0 r.1 r.2, decimal_above cs (before * 10 + r.0) n r.3)

-- what is cleared once is cleared
kept_again : (n b : ℕ) → kept n (kept n b) ≡ kept n b
kept_again n b =
    let none : b / 2 ^ (8 - n) * 2 ^ (8 - n) + 0 ≡ b / 2 ^ (8 - n) * 2 ^ (8 - n) = omega arith in
    let back : b / 2 ^ (8 - n) * 2 ^ (8 - n) / 2 ^ (8 - n) ≡ b / 2 ^ (8 - n) =
    ap (λ x. x / 2 ^ (8 - n)) (sym none) ∙ div-mul-add (b / 2 ^ (8 - n)) (2 ^ (8 - n)) 0 (pow_pos (8 - n)) in
    ap (λ x. x * 2 ^ (8 - n)) back

pub cleared_again : (n : ℕ) (bytes : List ℕ) → cleared n (cleared n bytes) ≡ cleared n bytes
cleared_again n [] = refl
cleared_again n (b ∷ bs) = cc (kept_again (min n 8) b, cleared_again (n - 8) bs)
