-- What a write that failed leaves.
use Rattle.std.specs.Prelude.{◌≡◌, ℕ, ⊤, List, Option}
use Rattle.am_base.specs.declared.sink.OutError.{OutError}
use Rattle.am_base.specs.declared.sink.OutError.TheVariants.{Fault, Memory}

-- where memory ran out, nothing was written
abbrev pub MemoryKeeps : OutError → Option (List ℕ) → Option (List ℕ) → Type 0
MemoryKeeps Fault before after = ⊤
MemoryKeeps Memory before after = after ≡ before
