-- What is left of bytes where a mask is laid over them.
use Rattle.std.proofs.Common.{arith, refl, sym, ap, ◌∙◌, ◌≡◌, ℕ, zero, suc, ◌-◌, ◌^◌, ◌<◌, ◌≤◌, min, List, [], ◌∷◌, length, get_or, replicate, bit_and}
use Rattle.std.proofs.lemmas.List.{ext_get_or, get_or-replicate}
use Rattle.std.proofs.lemmas.Nat.Bits.{and_high_mask}
use Rattle.am_addr.specs.Bits.{kept, cleared, ones}

-- the first bits of a byte of ones
ones_kept : (m : ℕ) → m ≤ 8 → kept m 255 ≡ 256 - 2 ^ (8 - m)
ones_kept zero h = refl
ones_kept (suc zero) h = refl
ones_kept (suc (suc zero)) h = refl
ones_kept (suc (suc (suc zero))) h = refl
ones_kept (suc (suc (suc (suc zero)))) h = refl
ones_kept (suc (suc (suc (suc (suc zero))))) h = refl
ones_kept (suc (suc (suc (suc (suc (suc zero)))))) h = refl
ones_kept (suc (suc (suc (suc (suc (suc (suc zero))))))) h = refl
ones_kept (suc (suc (suc (suc (suc (suc (suc (suc zero)))))))) h = refl
ones_kept (suc (suc (suc (suc (suc (suc (suc (suc (suc m))))))))) h = absurd (omega arith)

-- a byte and the first bits of one of ones
masked : (m b : ℕ) → m ≤ 8 → b < 256 → bit_and b (kept m 255) ≡ kept m b
masked m b most small =
    ap (λ x. bit_and b x) (ones_kept m most) ∙ and_high_mask 8 (8 - m) (omega arith) b small

-- how many bits count of the byte at a place
count_at : ℕ → ℕ → ℕ
count_at n zero = min n 8
count_at n (suc k) = count_at (n - 8) k

count-few : (n k : ℕ) → count_at n k ≤ 8
unfolding count_at
count-few n zero = omega arith
count-few n (suc k) = count-few (n - 8) k

cleared-length : (n : ℕ) (xs : List ℕ) → length (cleared n xs) ≡ length xs
cleared-length n [] = refl
cleared-length n (x ∷ xs) = omega (arith, cleared-length (n - 8) xs)

cleared-at : (n k : ℕ) (xs : List ℕ) → k < length xs → get_or (cleared n xs) k 0 ≡ kept (count_at n k) (get_or xs k 0)
unfolding count_at
cleared-at n k [] h = absurd (omega arith)
cleared-at n zero (x ∷ xs) h = refl
cleared-at n (suc k) (x ∷ xs) h = cleared-at (n - 8) k xs (omega arith)

-- a mask laid over bytes clears the bits that don't count
pub clears :
    (n : ℕ) (xs bits bytes : List ℕ) → length xs ≡ 16 → ((k : ℕ) → k < 16 → get_or xs k 0 < 256) → length bytes ≡ 16
    → ((k : ℕ) → k < 16 → get_or bytes k 0 ≡ bit_and (get_or xs k 0) (get_or bits k 0)) → bits ≡ ones n → bytes ≡ cleared n xs
clears n xs bits bytes sixteen small many both is =
    ext_get_or 0 bytes (cleared n xs) (many ∙ sym sixteen ∙ sym (cleared-length n xs)) (λ k lt.
    let within : k < 16 = omega (arith, lt, many) in
    let all : length (replicate {A = ℕ} 16 255) ≡ 16 = refl in
    let mask : get_or bits k 0 ≡ kept (count_at n k) 255 =
    ap (λ (l : List ℕ). get_or l k 0) is ∙ cleared-at n k (replicate {A = ℕ} 16 255) (omega (arith, within, all))
    ∙ ap (λ x. kept (count_at n k) x) (get_or-replicate 16 k 255 0 within) in
    both k within ∙ ap (λ x. bit_and (get_or xs k 0) x) mask ∙ masked (count_at n k) (get_or xs k 0) (count-few n k) (small k within)
    ∙ sym (cleared-at n k xs (omega (arith, within, sixteen))))
