-- What a sink of bytes tells: the bytes that were written to it. And what a buffer in front of it has taken in.
use Rattle.std.specs.Prelude.{◌≡◌, ℕ, ◌≤◌, List, ◌++◌, length, take, Option, ⊤}
use Rattle.std.specs.Io.KnownBytes.{append_known}
use Rattle.am_base.specs.Counts.{Rose}
use Rattle.am_base.specs.declared.sink.OutError.{OutError}
use Rattle.am_base.specs.declared.sink.OutError.TheVariants.{Fault, Memory}

-- a front of these bytes was appended
abbrev pub AppendsFront : Option (List ℕ) → Option (List ℕ) → List ℕ → Type 0
AppendsFront old new bytes = (k : ℕ) × (k ≤ length bytes) × (new ≡ append_known old (take k bytes))

-- this text was handed to a buffer from the start on: a front of it was written since, and the rest is held
pub record IsWrittenOf (start written : Option (List ℕ)) (held text : List ℕ) : Type 0 where
  pub moved : List ℕ
  pub appended : written ≡ append_known start moved
  pub handed : text ≡ moved ++ held

-- whatever was handed in before, these bytes were handed in after it
abbrev pub HandsIn : Option (List ℕ) → List ℕ → List ℕ → Option (List ℕ) → List ℕ → Type 0
HandsIn old held bytes new kept =
    (start : Option (List ℕ)) (text : List ℕ) → IsWrittenOf start old held text → IsWrittenOf start new kept (text ++ bytes)

-- whatever was handed in before, a front of it and of these bytes after it is all that was written
abbrev pub BreaksOff : Option (List ℕ) → List ℕ → List ℕ → Option (List ℕ) → Type 0
BreaksOff old held bytes new =
    (start : Option (List ℕ)) (text : List ℕ) → IsWrittenOf start old held text → AppendsFront start new (text ++ bytes)

-- whatever was handed in before, all of it was written
abbrev pub WritesAll : Option (List ℕ) → List ℕ → Option (List ℕ) → Type 0
WritesAll old held new =
    (start : Option (List ℕ)) (text : List ℕ) → IsWrittenOf start old held text → new ≡ append_known start text

-- and a front of it
abbrev pub WritesFront : Option (List ℕ) → List ℕ → Option (List ℕ) → Type 0
WritesFront old held new =
    (start : Option (List ℕ)) (text : List ℕ) → IsWrittenOf start old held text → AppendsFront start new text

-- a fault is answered only where the sink's count of faults rose
abbrev pub FaultRose : OutError → ℕ → ℕ → Type 0
FaultRose Fault before after = Rose before after
FaultRose Memory before after = ⊤
