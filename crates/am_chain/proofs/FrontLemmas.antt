-- A count that rose later rose; what was printed is a front of itself.
use Rattle.std.proofs.Common.{arith, refl, sym, ap, ◌∙◌, ◌≡◌, ℕ, ◌≤◌, List, [], length, Option, Some, None}
use Rattle.std.specs.Io.KnownBytes.{append_known}
use Rattle.std.proofs.Math.Seq.{take-length}
use Rattle.std.proofs.lemmas.List.{append-nil}
use Rattle.am_base.specs.Counts.{Rose}
use Rattle.am_base.specs.Sinks.{AppendsFront}

-- a count that rose later rose
pub rose-later : (a b c : ℕ) → a ≤ b → Rose b c → Rose a c
rose-later a b c le rose = grind arith

-- what was appended is a front of itself
pub whole-front : (old new : Option (List ℕ)) (text : List ℕ) → new ≡ append_known old text → AppendsFront old new text
whole-front old new text h = (length text, omega arith, h ∙ ap (λ x. append_known old x) (sym (take-length text)))

pub nothing : (w : Option (List ℕ)) → w ≡ append_known w []
nothing None = refl
nothing (Some xs) = ap Some (sym (append-nil xs))
