-- The first of a list that fails a rule.
use Rattle.std.specs.Prelude.{◌≡◌, ◌⊎◌, List, [], ◌∷◌}

-- this is the first of the list that is not as it should be; those before it are
abbrev pub IsFirstNot : {X : Type 0} → (X → Type 0) → List X → X → Type 0
IsFirstNot Right [] x = ⊥
IsFirstNot Right (y ∷ ys) x = ((x ≡ y) × ¬ Right y) ⊎ (Right y × IsFirstNot Right ys x)
