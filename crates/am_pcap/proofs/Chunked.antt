-- Bytes that are held in a chunk: those from a later place on, and those in front.
use Rattle.std.proofs.Common.{arith, sym, ap, ◌∙◌, ◌≡◌, ℕ, ◌+◌, ◌-◌, ◌≤◌, List, length, take, drop}
use Rattle.std.proofs.lemmas.List.{drop-drop, drop-take, length-take, length-drop, take-take}
use Rattle.am_pcap.specs.Chunks.{held_in, IsHeld}

held-length : (chunk held : List ℕ) (from end : ℕ) → held_in chunk from end ≡ held → IsHeld chunk from end → length held ≡ end - from
held-length chunk held from end is h = omega (arith, ap length is, length-take (end - from) (drop from chunk), length-drop from chunk, h.ordered, h.within)

-- bytes from the front are what stands between a later place and the same end
pub later : (chunk held : List ℕ) (from end n : ℕ) → held_in chunk from end ≡ held → IsHeld chunk from end → n ≤ length held → held_in chunk (from + n) end ≡ drop n held
later chunk held from end n is h few =
    let long : length held ≡ end - from = held-length chunk held from end is h in
    let m : ℕ = end - (from + n) in
    let parts : end - from ≡ n + m = omega (arith, long, few, h.ordered) in
    let a : drop n held ≡ drop n (take (n + m) (drop from chunk)) = ap (λ x. drop n x) (sym is ∙ ap (λ k. take k (drop from chunk)) parts) in
    let b : drop n (take (n + m) (drop from chunk)) ≡ take m (drop n (drop from chunk)) = drop-take n m (drop from chunk) in
    let d : take m (drop n (drop from chunk)) ≡ take m (drop (from + n) chunk) = ap (λ x. take m x) (drop-drop n from chunk) in
    sym (a ∙ b ∙ d)

-- and what stands between the place and that later one is their front
pub front-held : (chunk held : List ℕ) (from end n : ℕ) → held_in chunk from end ≡ held → IsHeld chunk from end → n ≤ length held → held_in chunk from (from + n) ≡ take n held
front-held chunk held from end n is h few =
    let fits : n ≤ end - from = omega (arith, few, held-length chunk held from end is h) in
    let same : from + n - from ≡ n = omega arith in
    ap (λ k. take k (drop from chunk)) same ∙ sym (take-take n (end - from) (drop from chunk) fits) ∙ ap (λ x. take n x) is
