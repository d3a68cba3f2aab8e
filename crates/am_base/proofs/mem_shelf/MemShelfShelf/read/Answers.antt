use Rattle.std.proofs.Common.{◌+◌, drop, refl}
use Rattle.am_base.specs.InMemory.{as_files, file_at}
use Rattle.am_base.proofs.Files.{rest_behind}
use Rattle.am_base.proofs.mem_shelf.MemShelfShelf.read.Goals as goal

pub returns-clause-taken : goal.returns-clause-taken
returns-clause-taken c = (
  drop (c.in-Some.place.at + c.copy_front-n.result) (file_at (as_files c.args.self.now.files.items) c.in-Some.place.file).1,
  rest_behind _ c.in-Some.place _ _ _ _ c.in-Some.is (simp c.deref-2.ensures.value at c.rest_of.ensures.rest) c.copy_front-n.ensures.copied,
  rw c.in-Some.is refl,
)
