-- A packet that has neither a fixed header of version 6 nor another version is short.
use Rattle.std.proofs.Common.{arith, ℕ, ◌/◌, List, length, slice_index, ⊎_elim}
use Rattle.std.proofs.lemmas.Bool.{cases_lt, cases_eq}
use Rattle.am_ip6.specs.Fixed.{IsFixed}
use Rattle.am_ip6.specs.Endings.{IsOtherVersion, IsShort}

pub short : (b : List ℕ) → (IsFixed b → ⊥) → (IsOtherVersion b → ⊥) → IsShort b
short b f o = record {
  short = ⊎_elim (λ h. h) (λ h. absurd (⊎_elim (λ e. f (record { whole = h; version = e })) (λ n. o (record { some = omega arith; other = n })) (cases_eq (slice_index b 0 / 16) 6))) (cases_lt (length b) 40);
  version = o;
}
