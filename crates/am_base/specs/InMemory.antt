-- What a shelf in memory holds.
use Rattle.std.proofs.Common.{sym}
use Rattle.std.proofs.lemmas.Option.{none-some}
use Rattle.std.specs.Prelude.{◌≡◌, refl, ℕ, List, [], map, drop, Option, Some, None, slice_index_or, String, string_bytes, Vec}
use Rattle.am_base.specs.Shelves.{File, Told}
use Rattle.am_base.specs.declared.mem_shelf.Place.{Place}
use Rattle.am_base.specs.declared.mem_shelf.MemShelf.{MemShelf}

-- names and bytes, as a shelf tells them
abbrev pub as_files : {A B : Type 0} → List (String A × Vec ℕ B) → List File
as_files files = map (λ f. (string_bytes f.0, f.1.items)) files

-- the file at a place in the list
abbrev pub file_at : List File → ℕ → File
file_at files place = slice_index_or files place ([], [])

-- the name of the open file, and what is left of it
abbrev pub name_at : List File → Option Place → Option (List ℕ)
name_at files None = None
name_at files (Some p) = Some (file_at files p.file).0

abbrev pub rest_at : List File → Option Place → List ℕ
rest_at files None = []
rest_at files (Some p) = drop p.at (file_at files p.file).1

-- what a shelf in memory tells
abbrev pub shelf_told : MemShelf → Told
shelf_told s = record {
  files = as_files s.files.items;
  open_name = name_at (as_files s.files.items) s.open;
  rest = rest_at (as_files s.files.items) s.open;
}

-- how often an open or a read failed, and how often a name wasn't there
abbrev pub shelf_faults : MemShelf → ℕ
shelf_faults s = s.faults

abbrev pub shelf_missed : MemShelf → ℕ
shelf_missed s = s.missed

-- how many opens and how many reads were asked of it
abbrev pub opens_asked : MemShelf → ℕ
opens_asked s = s.opens

abbrev pub reads_asked : MemShelf → ℕ
reads_asked s = s.reads

-- the numbers of the opens and of the reads that fail
abbrev pub failing_opens : MemShelf → List ℕ
failing_opens s = s.bad_opens.items

abbrev pub failing_reads : MemShelf → List ℕ
failing_reads s = s.bad_reads.items

-- which calls fail stays as it was
pub record FailsAlike (old new : MemShelf) : Type 0 where
  pub opens : failing_opens new ≡ failing_opens old
  pub reads : failing_reads new ≡ failing_reads old

-- with no file open nothing is left to read
pub closed_rest : (files : List File) (o : Option Place) → name_at files o ≡ None → rest_at files o ≡ []
closed_rest files None h = refl
closed_rest files (Some p) h = absurd (none-some _ (sym h))
