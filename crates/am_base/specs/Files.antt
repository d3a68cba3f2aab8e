-- What reading a whole file of a shelf answers.
use Rattle.std.specs.Prelude.{◌≡◌, ℕ, ◌≤◌, ◌<◌, List, [], ◌++◌, ◌⊎◌, ◌+◌, Option, None, Some, option_map, length}
use Rattle.am_base.specs.Shelves.{File, Told, OnTold, Closes, IsAbsent, Takes, file_named, opened}
use Rattle.am_base.specs.declared.file.FileFault.{FileFault}
use Rattle.am_base.specs.declared.file.FileFault.TheVariants.{Missing, ReadFault, TooLong, Memory}

-- where files are told, the file of this name is there, and this holds of its bytes
abbrev pub OnFile : Option Told → List ℕ → (List ℕ → Type 0) → Type 0
OnFile told name P =
    OnTold told (λ t. (bytes : List ℕ) × (file_named t.files name ≡ Some bytes) × P bytes)

-- where files are told, the file of this name has these bytes
abbrev pub HasFile : Option Told → List ℕ → List ℕ → Type 0
HasFile told name bytes = OnTold told (λ t. file_named t.files name ≡ Some bytes)

-- where files are told, the file of this name has more bytes than the limit
abbrev pub IsLonger : Option Told → List ℕ → ℕ → Type 0
IsLonger told name limit = OnFile told name (λ bytes. limit < length bytes)

-- the files, where they are told
abbrev pub files_told : Option Told → Option (List File)
files_told told = option_map (λ t. t.files) told

-- the files, and whether they are told, stay as they were
abbrev pub KeepsFiles : Option Told → Option Told → Type 0
KeepsFiles old new = files_told new ≡ files_told old

-- where files are told: this file of the first shelf is open on the second, and these bytes of it were read
abbrev pub IsPartRead : Option Told → Option Told → List ℕ → List ℕ → Type 0
IsPartRead None now name bytes = now ≡ None
IsPartRead (Some t) now name bytes =
    (rest : List ℕ) × (file_named t.files name ≡ Some (bytes ++ rest)) × (now ≡ Some (opened t name rest))

-- where files are told: this file of the first shelf has these bytes, and was read to its end on the second
abbrev pub IsWholeRead : Option Told → Option Told → List ℕ → List ℕ → Type 0
IsWholeRead None after name bytes = after ≡ None
IsWholeRead (Some t) after name bytes =
    (file_named t.files name ≡ Some bytes) × (after ≡ Some (opened t name []))

-- some bytes of the file were read, at most so many
abbrev pub IsReadUpTo : Option Told → Option Told → List ℕ → ℕ → Type 0
IsReadUpTo before after name limit =
    (bytes : List ℕ) × IsPartRead before after name bytes × (length bytes ≤ limit)

-- some bytes of the file were read, more than so many
abbrev pub IsReadBeyond : Option Told → Option Told → List ℕ → ℕ → Type 0
IsReadBeyond before after name limit =
    (bytes : List ℕ) × IsPartRead before after name bytes × (limit < length bytes)

-- why a file was not read whole, and what each refusal leaves of the shelf
abbrev pub WhyNotRead : Option Told → Option Told → List ℕ → ℕ → FileFault → Type 0
WhyNotRead before after name limit Missing = Closes before after × IsAbsent before name
WhyNotRead before after name limit ReadFault =
    Closes before after ⊎ IsReadUpTo before after name limit
WhyNotRead before after name limit TooLong = IsReadBeyond before after name limit
WhyNotRead before after name limit Memory = IsReadUpTo before after name limit

-- why a further read of the open file gave no bytes to those read before, of which there are so many
abbrev pub WhyNoMore : Option Told → Option Told → ℕ → ℕ → FileFault → Type 0
WhyNoMore old new read limit Missing = ⊥
WhyNoMore old new read limit ReadFault = new ≡ old
WhyNoMore old new read limit TooLong =
    (piece : List ℕ) × Takes old new piece × (limit < read + length piece)
WhyNoMore old new read limit Memory =
    (piece : List ℕ) × Takes old new piece × (read + length piece ≤ limit)
