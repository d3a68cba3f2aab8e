-- Blocks that begin or end within spans, one node after another.
use Rattle.std.proofs.Common.{◌≡◌, ℕ, ◌+◌, ◌<◌, ◌≤◌, ◌↔◌, subst, arith, below_more}
use Rattle.am_clock.specs.Times.{Times}
use Rattle.am_clock.specs.Covered.{StartsIn, EndsIn}

-- the same span and shift by other names
pub starts_as : (times : Times) (from from' shift shift' first n : ℕ) → from ≡ from' → shift ≡ shift' → ((first ≤ n) ↔ StartsIn times from shift n) → ((first ≤ n) ↔ StartsIn times from' shift' n)
starts_as times from from' shift shift' first n e f h =
    subst (λ (x : ℕ). (first ≤ n) ↔ StartsIn times x shift' n) e (subst (λ (z : ℕ). (first ≤ n) ↔ StartsIn times from z n) f h)

pub ends_as : (times : Times) (until until' shift shift' end n : ℕ) → until ≡ until' → shift ≡ shift' → ((n < end) ↔ EndsIn times until shift n) → ((n < end) ↔ EndsIn times until' shift' n)
ends_as times until until' shift shift' end n e f h =
    subst (λ (x : ℕ). (n < end) ↔ EndsIn times x shift' n) e (subst (λ (z : ℕ). (n < end) ↔ EndsIn times until z n) f h)

module _ {X : Type 0} (Q : ℕ → X → Type 0) (B : Type 0) where
  -- one place alone
  pub one_below : (any : X) → ((d : X) → B ↔ Q 0 d) → B ↔ ((k : ℕ) (d : X) → k < 1 → Q k d)
  one_below any here = (
    λ b k d h. let same : 0 ≡ k = omega arith in subst (λ (i : ℕ). Q i d) same ((here d).0 b),
    λ all. (here any).1 (all 0 any (omega arith)),
  )

  -- one place more
  pub more_iff : (any : X) (A C : Type 0) (i : ℕ) → A ↔ ((k : ℕ) (d : X) → k < i → Q k d) → ((d : X) → C ↔ Q i d) → (B → A × C) → (A → C → B) → B ↔ ((k : ℕ) (d : X) → k < i + 1 → Q k d)
  more_iff any A C i below here parts join = (
    λ b k d h. below_more (λ k. (e : X) → Q k e) i (λ k lt e. below.0 (parts b).0 k e lt) (λ e. (here e).0 (parts b).1) k h d,
    λ all. join (below.1 (λ k d h. all k d (omega arith))) ((here any).1 (all i any (omega arith))),
  )
