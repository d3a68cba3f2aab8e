use Rattle.std.proofs.Common.{◌≡◌, drop}
use Rattle.am_base.specs.Shelves.{file_named}
use Rattle.am_base.specs.InMemory.{as_files}
use Rattle.am_base.proofs.mem_shelf.place_of.Given as goal

-- none of the files before this one has the name
abbrev pub invariant-loop-i : goal.invariant-loop-i
invariant-loop-i l = file_named (as_files l.files) l.name ≡ file_named (as_files (drop l.i l.files)) l.name
