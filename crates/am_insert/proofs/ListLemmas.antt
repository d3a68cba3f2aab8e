-- Bytes of a list that change, come in and go out.
use Rattle.std.proofs.Common.{arith, refl, sym, ap, ◌∙◌, ◌≡◌, ◌≢◌, ℕ, zero, suc, ◌+◌, ◌-◌, ◌/◌, ◌%◌, ◌^◌, ◌<◌, ◌≤◌, List, [], ◌∷◌, ◌++◌, length, take, drop, set, slice_index, append_assoc, length-append}
use Rattle.std.proofs.lemmas.List.{take-append-drop, length-take-le, length-drop, length-set, set-append_left, drop-set-lt, take_at, drop_at, set_comm, set-set, set-get_or, get_or-set_same, get_or-set_other, get_or_append_left, get_or-take}
use Rattle.am_ip6.specs.Fixed.{IsFixed, payload_of, limit_of}
use Rattle.am_insert.specs.Changes.{put_in, without_eight, with_payload, lengthened, shortened}

-- a byte before the place changes alike in the front
pub take-set-in : (n : ℕ) (xs : List ℕ) (i a : ℕ) → i < n → take n (set xs i a) ≡ set (take n xs) i a
take-set-in zero xs i a low = absurd (omega arith)
take-set-in (suc n) [] i a low = refl
take-set-in (suc n) (x ∷ xs) zero a low = refl
take-set-in (suc n) (x ∷ xs) (suc i) a low = ap (λ (l : List ℕ). x ∷ l) (take-set-in n xs i a (omega arith))

-- and where bytes come in behind it
pub set-put_in :
    (xs ys : List ℕ) (at i a : ℕ) → i < at → at ≤ length xs → set (put_in xs at ys) i a ≡ put_in (set xs i a) at ys
set-put_in xs ys at i a low within =
    let size = length-take-le at xs within in
    set-append_left (take at xs ++ ys) (drop at xs) i a (omega (arith, length-append (take at xs) ys, size))
    ∙ ap (λ (l : List ℕ). l ++ drop at xs) (set-append_left (take at xs) ys i a (omega (arith, size)))
    ∙ ap (λ (l : List ℕ). l ++ ys ++ drop at xs) (sym (take-set-in at xs i a low))
    ∙ ap (λ (l : List ℕ). take at (set xs i a) ++ ys ++ l) (sym (drop-set-lt at xs i a low))

-- eight bytes that came in go out again
pub without-put_in : (xs ys : List ℕ) (at : ℕ) → length ys ≡ 8 → at ≤ length xs → without_eight (put_in xs at ys) at ≡ xs
without-put_in xs ys at eight within =
    let size = length-take-le at xs within in
    ap (λ (l : List ℕ). take at l ++ drop (at + 8) (put_in xs at ys)) (append_assoc (take at xs) ys (drop at xs))
    ∙ ap (λ (l : List ℕ). l ++ drop (at + 8) (put_in xs at ys)) (take_at (take at xs) (ys ++ drop at xs) at size)
    ∙ ap (λ (l : List ℕ). take at xs ++ l)
    (drop_at (take at xs ++ ys) (drop at xs) (at + 8) (omega (arith, length-append (take at xs) ys, size, eight)))
    ∙ take-append-drop at xs

pub length-put_in : (xs ys : List ℕ) (at : ℕ) → at ≤ length xs → length (put_in xs at ys) ≡ length xs + length ys
length-put_in xs ys at within =
    omega (
      arith,
      length-append (take at xs ++ ys) (drop at xs),
      length-append (take at xs) ys,
      length-take-le at xs within,
      length-drop at xs,
    )

-- what stands before bytes that came in
pub at-put_in : (xs ys : List ℕ) (at i : ℕ) → i < at → at ≤ length xs → slice_index (put_in xs at ys) i ≡ slice_index xs i
at-put_in xs ys at i low within =
    let size = length-take-le at xs within in
    get_or_append_left (take at xs ++ ys) (drop at xs) 0 i (omega (arith, length-append (take at xs) ys, size))
    ∙ get_or_append_left (take at xs) ys 0 i (omega (arith, size))
    ∙ get_or-take at xs i 0 low

-- another payload length, and then the one that it was
payload_back :
    (p : List ℕ) (m n : ℕ) → n / 2 ^ 8 ≡ slice_index p 4 → n % 2 ^ 8 ≡ slice_index p 5 → with_payload n (with_payload m p) ≡ p
payload_back p m n high low =
    ap (λ (l : List ℕ). set l 5 (n % 2 ^ 8)) (set_comm (set p 4 (m / 2 ^ 8)) 5 4 (m % 2 ^ 8) (n / 2 ^ 8) (λ e. omega (arith, e)))
    ∙ ap (λ (l : List ℕ). set (set l 5 (m % 2 ^ 8)) 5 (n % 2 ^ 8)) (set-set p 4 (m / 2 ^ 8) (n / 2 ^ 8))
    ∙ set-set (set p 4 (n / 2 ^ 8)) 5 (m % 2 ^ 8) (n % 2 ^ 8)
    ∙ ap (λ x. set (set p 4 x) 5 (n % 2 ^ 8)) high
    ∙ ap (λ (l : List ℕ). set l 5 (n % 2 ^ 8)) (set-get_or p 4 0)
    ∙ ap (λ x. set p 5 x) low
    ∙ set-get_or p 5 0

-- and one more byte that changes and changes back
all_back :
    (p : List ℕ) (t b m n : ℕ) → t ≢ 4 → t ≢ 5 → n / 2 ^ 8 ≡ slice_index p 4 → n % 2 ^ 8 ≡ slice_index p 5
    → set (with_payload n (set (with_payload m p) t b)) t (slice_index p t) ≡ p
all_back p t b m n four five high low =
    let a = with_payload m p in
    let old = slice_index p t in
    ap (λ (l : List ℕ). set (set l 5 (n % 2 ^ 8)) t old) (set_comm a t 4 b (n / 2 ^ 8) four)
    ∙ ap (λ (l : List ℕ). set l t old) (set_comm (set a 4 (n / 2 ^ 8)) t 5 b (n % 2 ^ 8) five)
    ∙ set-set (with_payload n a) t b old
    ∙ ap (λ (l : List ℕ). set l t old) (payload_back p m n high low)
    ∙ set-get_or p t 0

length-with_payload : (p : List ℕ) (n : ℕ) → length (with_payload n p) ≡ length p
length-with_payload p n = length-set (set p 4 (n / 2 ^ 8)) 5 (n % 2 ^ 8) ∙ length-set p 4 (n / 2 ^ 8)

pub length-raised : (p : List ℕ) (t b : ℕ) → length (lengthened p t b) ≡ length p
length-raised p t b = length-set (with_payload (payload_of p + 8) p) t b ∙ length-with_payload p (payload_of p + 8)

-- the payload length that a packet was given
payload-with : (p : List ℕ) (n : ℕ) → 40 ≤ length p → payload_of (with_payload n p) ≡ n
payload-with p n whole =
    let four : slice_index (with_payload n p) 4 ≡ n / 2 ^ 8 =
    get_or-set_other (set p 4 (n / 2 ^ 8)) 5 4 (n % 2 ^ 8) 0 (λ e. omega (arith, e)) ∙ get_or-set_same p 4 (n / 2 ^ 8) 0 (omega arith) in
    let five : slice_index (with_payload n p) 5 ≡ n % 2 ^ 8 =
    get_or-set_same (set p 4 (n / 2 ^ 8)) 5 (n % 2 ^ 8) 0 (omega (arith, length-set p 4 (n / 2 ^ 8))) in
    omega (arith, four, five)

-- a packet with eight bytes put in at a place behind its fixed header, a byte before it that changes, and eight bytes more payload
pub record IsRaised (p q : List ℕ) (t b at : ℕ) : Type 0 where
  pub eight : List ℕ
  pub size : length eight ≡ 8
  pub whole : 40 ≤ at
  pub within : at ≤ length p
  pub behind : 6 ≤ t
  pub before : t < at
  pub is : q ≡ put_in (lengthened p t b) at eight

module _ (p q : List ℕ) (t b at : ℕ) (r : IsRaised p q t b at) where
  within_raised : at ≤ length (lengthened p t b)
  within_raised = omega (arith, r.within, length-raised p t b)

  -- a byte before the place
  front_at : (i : ℕ) → i < at → slice_index q i ≡ slice_index (lengthened p t b) i
  front_at i low = ap (λ (l : List ℕ). slice_index l i) r.is ∙ at-put_in (lengthened p t b) r.eight at i low within_raised

  -- the bytes before the place that stay
  pub raised-same : (i : ℕ) → i < at → i ≢ t → i ≢ 4 → i ≢ 5 → slice_index q i ≡ slice_index p i
  raised-same i low other four five =
      front_at i low ∙ get_or-set_other (with_payload (payload_of p + 8) p) t i b 0 other
      ∙ get_or-set_other (set p 4 ((payload_of p + 8) / 2 ^ 8)) 5 i ((payload_of p + 8) % 2 ^ 8) 0 five
      ∙ get_or-set_other p 4 i ((payload_of p + 8) / 2 ^ 8) 0 four

  -- the one that changes
  pub raised-byte : slice_index q t ≡ b
  raised-byte =
      front_at t r.before
      ∙ get_or-set_same (with_payload (payload_of p + 8) p) t b 0
      (omega (arith, length-with_payload p (payload_of p + 8), r.within, r.before))

  pub raised-length : length q ≡ length p + 8
  raised-length =
      omega (arith, ap length r.is, length-put_in (lengthened p t b) r.eight at within_raised, length-raised p t b, r.size)

  pub raised-payload : payload_of q ≡ payload_of p + 8
  raised-payload =
      let a = with_payload (payload_of p + 8) p in
      let four = front_at 4 (omega (arith, r.whole)) ∙ get_or-set_other a t 4 b 0 (λ e. omega (arith, e, r.behind)) in
      let five = front_at 5 (omega (arith, r.whole)) ∙ get_or-set_other a t 5 b 0 (λ e. omega (arith, e, r.behind)) in
      omega (arith, four, five, payload-with p (payload_of p + 8) (omega (arith, r.whole, r.within)))

  pub raised-limit : limit_of q ≡ limit_of p + 8
  raised-limit = omega (arith, raised-length, raised-payload)

  pub raised-fixed : IsFixed p → IsFixed q
  raised-fixed f = record {
    whole = omega (arith, raised-length, f.whole);
    version = ap (λ (n : ℕ). n / 16) (raised-same 0 (omega (arith, r.whole)) (λ e. omega (arith, e, r.behind)) (λ e. omega (arith, e)) (λ e. omega (arith, e))) ∙ f.version;
  }

  -- with the eight bytes out, and the others as they were, it is the packet
  pub raised-back : slice_index p 5 < 2 ^ 8 → (old : ℕ) → old ≡ slice_index p t → p ≡ without_eight (shortened q t old) at
  raised-back byte old is =
      let x = lengthened p t b in
      let n = payload_of q - 8 in
      let y = set (with_payload n x) t old in
      let low : 40 ≤ length x = omega (arith, r.whole, within_raised) in
      let parts : shortened q t old ≡ put_in y at r.eight =
      ap (λ (l : List ℕ). set (with_payload n l) t old) r.is
      ∙ ap (λ (l : List ℕ). set (set l 5 (n % 2 ^ 8)) t old)
      (set-put_in x r.eight at 4 (n / 2 ^ 8) (omega (arith, r.whole)) within_raised)
      ∙ ap (λ (l : List ℕ). set l t old)
      (set-put_in (set x 4 (n / 2 ^ 8)) r.eight at 5 (n % 2 ^ 8) (omega (arith, r.whole)) (omega (arith, within_raised, length-set x 4 (n / 2 ^ 8))))
      ∙ set-put_in (with_payload n x) r.eight at t old r.before (omega (arith, within_raised, length-with_payload x n)) in
      let payload : n ≡ payload_of p = omega (arith, raised-payload) in
      let within : at ≤ length y = omega (arith, within_raised, length-with_payload x n, length-set (with_payload n x) t old) in
      sym (ap (λ (l : List ℕ). without_eight l at) parts
      ∙ without-put_in y r.eight at r.size within
      ∙ ap (λ (o : ℕ). set (with_payload n x) t o) is
      ∙ all_back p t b (payload_of p + 8) n (λ e. omega (arith, e, r.behind)) (λ e. omega (arith, e, r.behind))
      (omega (arith, payload, byte)) (omega (arith, payload, byte)))
