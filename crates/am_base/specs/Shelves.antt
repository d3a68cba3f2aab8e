-- What a shelf of files tells: its files, which file is open, and what is left of it.
use Rattle.std.specs.Prelude.{◌≡◌, ℕ, List, [], ◌++◌, ⊤, Option, Some, None, option_map, bytes_eq, cond, ◌∷◌}

-- a file: its name and its bytes
abbrev pub File : Type 0
File = List ℕ × List ℕ

-- the bytes of the first file of this name
abbrev pub file_named : List File → List ℕ → Option (List ℕ)
file_named [] name = None
file_named (f ∷ fs) name = cond (bytes_eq f.0 name) (Some f.1) (file_named fs name)

-- what a shelf that tells its files tells
pub record Told : Type 0 where
  pub files : List File
  pub open_name : Option (List ℕ)
  pub rest : List ℕ

-- the same files, with none open
abbrev pub closed : Told → Told
closed t = record { files = t.files; open_name = None; rest = [] }

-- the same files, with this one open and nothing read of it
abbrev pub opened : Told → List ℕ → List ℕ → Told
opened t name bytes = record { files = t.files; open_name = Some name; rest = bytes }

-- where nothing is open, nothing is left to read
abbrev pub ClosedIsEmpty : Option Told → Type 0
ClosedIsEmpty None = ⊤
ClosedIsEmpty (Some t) = t.open_name ≡ None → t.rest ≡ []

-- a fact about what is told, where it is told
abbrev pub OnTold : Option Told → (Told → Type 0) → Type 0
OnTold None P = ⊤
OnTold (Some t) P = P t

-- after a successful open: the file of this name is open at its first byte
abbrev pub Opens : Option Told → Option Told → List ℕ → Type 0
Opens None new name = new ≡ None
Opens (Some t) new name = (bytes : List ℕ) × (file_named t.files name ≡ Some bytes) × (new ≡ Some (opened t name bytes))

-- after a refused open: no file is open
abbrev pub Closes : Option Told → Option Told → Type 0
Closes old new = new ≡ option_map closed old

-- no file has this name
abbrev pub IsAbsent : Option Told → List ℕ → Type 0
IsAbsent old name = OnTold old (λ t. file_named t.files name ≡ None)

-- these bytes were taken from the front of what was left
abbrev pub Takes : Option Told → Option Told → List ℕ → Type 0
Takes None new bytes = new ≡ None
Takes (Some t) new bytes = (rest : List ℕ) × (t.rest ≡ bytes ++ rest) × (new ≡ Some (record t { rest = rest }))

-- nothing was left to read
abbrev pub IsAtEnd : Option Told → Type 0
IsAtEnd old = OnTold old (λ t. t.rest ≡ [])
