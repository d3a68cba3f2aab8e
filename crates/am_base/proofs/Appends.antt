-- Bytes that are appended one piece after another.
use Rattle.std.proofs.Common.{◌≡◌, ℕ, ◌+◌, ◌-◌, List, ◌++◌, length, take, drop, Option, None, Some, refl, ap, sym, ◌∙◌, append_assoc}
use Rattle.std.proofs.Math.Seq.{take-add}
use Rattle.std.proofs.lemmas.List.{take_rest}
use Rattle.std.specs.Io.KnownBytes.{append_known}

-- two pieces in a row are one
pub append_known-twice : (w : Option (List ℕ)) (a b : List ℕ) → append_known (append_known w a) b ≡ append_known w (a ++ b)
append_known-twice None a b = refl
append_known-twice (Some xs) a b = ap Some (append_assoc xs a b)

-- the first bytes, and then some of those behind them
pub appended_more :
    (w v u : Option (List ℕ)) (bs : List ℕ) (at n : ℕ)
    → v ≡ append_known w (take at bs)
    → u ≡ append_known v (take n (take (length bs - at) (drop at bs)))
    → u ≡ append_known w (take (at + n) bs)
appended_more w v u bs at n before more =
    more ∙ ap (λ x. append_known v (take n x)) (take_rest bs at) ∙ ap (λ x. append_known x (take n (drop at bs))) before
    ∙ append_known-twice w (take at bs) (take n (drop at bs)) ∙ ap (λ x. append_known w x) (sym (take-add at n bs))
