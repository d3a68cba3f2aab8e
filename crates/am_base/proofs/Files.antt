-- Files in a list, by their names and by their places.
use Rattle.std.proofs.Common.{◌≡◌, ℕ, ◌+◌, ◌<◌, zero, suc, List, [], ◌∷◌, ◌++◌, length, take, drop, get_or, Option, Some, true, cond, ap, sym, ◌∙◌, arith}
use Rattle.std.proofs.lemmas.Slice.Eq.{bytes_eq-Decides}
use Rattle.std.proofs.lemmas.List.{take-append-drop, drop-drop, drop-map, get_or-map, length-map}
use Rattle.std.specs.Prelude.{String, Vec, string_bytes, bytes_eq}
use Rattle.am_base.specs.Shelves.{File, file_named}
use Rattle.am_base.specs.InMemory.{as_files, file_at, rest_at}
use Rattle.am_base.specs.declared.mem_shelf.Place.{Place}

-- among the files from this place on, the one here is the first of its name
named_at :
    (fs : List File) (name : List ℕ) (i : ℕ)
    → i < length fs
    → bytes_eq (file_at fs i).0 name ≡ true
    → file_named (drop i fs) name ≡ Some (file_at fs i).1
named_at [] name i h t = absurd (omega arith)
named_at (f ∷ fs) name zero h t = ap (λ b. cond b (Some f.1) (file_named fs name)) t
named_at (f ∷ fs) name (suc i) h t = named_at fs name i (omega arith) t

-- a file of this name at this place is the first one, where those before it have other names
pub found_at :
    {A B : Type 0} (files : List (String A × Vec ℕ B)) (name : List ℕ) (i : ℕ) (x : String A × Vec ℕ B)
    → i < length files
    → x ≡ get_or files i x
    → bytes_eq (string_bytes x.0) name ≡ true
    → file_named (as_files files) name ≡ file_named (as_files (drop i files)) name
    → ((file_at (as_files files) i).0 ≡ name) × (file_named (as_files files) name ≡ Some (file_at (as_files files) i).1)
found_at {A} {B} files name i x h is t before =
    let view : String A × Vec ℕ B → File = λ f. (string_bytes f.0, f.1.items) in
    let here : file_at (as_files files) i ≡ view x = get_or-map view files i x ([], []) h ∙ ap view (sym is) in
    let same : bytes_eq (file_at (as_files files) i).0 name ≡ true = rw here t in
    let within : i < length (as_files files) = omega (arith, length-map files view) in (
      (bytes_eq-Decides (file_at (as_files files) i).0 name).0 same,
      before ∙ ap (λ fs. file_named fs name) (sym (drop-map view i files)) ∙ named_at (as_files files) name i within same,
    )

-- what was left of the open file is what was copied from its front, and then what is left behind that
pub rest_behind :
    (files : List File) (p : Place) (o : Option Place) (n : ℕ) (rest into : List ℕ)
    → o ≡ Some p
    → rest ≡ rest_at files (Some p)
    → take n into ≡ take n rest
    → rest_at files o ≡ take n into ++ drop (p.at + n) (file_at files p.file).1
rest_behind files p o n rest into is left copied =
    let bytes : List ℕ = (file_at files p.file).1 in
    ap (λ x. rest_at files x) is ∙ sym (take-append-drop n (drop p.at bytes))
    ∙ ap (λ x. x ++ drop n (drop p.at bytes)) (sym (copied ∙ ap (λ x. take n x) left))
    ∙ ap (λ x. take n into ++ x) (drop-drop n p.at bytes)
