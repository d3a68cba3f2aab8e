-- A file that is read piece by piece.
use Rattle.std.proofs.Common.{◌≡◌, ℕ, ◌≤◌, List, ◌++◌, length, Option, None, Some, ap, sym, subst, ◌∙◌, inr, append_assoc, length-append, arith}
use Rattle.am_base.specs.Shelves.{Told, Takes, opened}
use Rattle.am_base.specs.Files.{IsPartRead, WhyNotRead, WhyNoMore}
use Rattle.am_base.specs.declared.file.FileFault.{FileFault}
use Rattle.am_base.specs.declared.file.FileFault.TheVariants.{Missing, ReadFault, TooLong, Memory}

-- what was read, and then a further piece
part-more :
    (before now after : Option Told) (name bytes more : List ℕ)
    → IsPartRead before now name bytes
    → Takes now after more
    → IsPartRead before after name (bytes ++ more)
part-more None now after name bytes more p q = subst (λ x. Takes x after more) p q
part-more (Some t) now after name bytes more p q =
    let r : Takes (Some (opened t name p.0)) after more = subst (λ x. Takes x after more) p.2 q in
    (r.0, p.1 ∙ ap (λ x. Some (bytes ++ x)) r.1 ∙ ap Some (sym (append_assoc bytes more r.0)), r.2)

-- where no more is read, the file is not read whole
pub why-stopped :
    (before now after : Option Told) (name bytes : List ℕ) (read limit : ℕ) (fault : FileFault)
    → IsPartRead before now name bytes
    → read ≡ length bytes
    → read ≤ limit
    → WhyNoMore now after read limit fault
    → WhyNotRead before after name limit fault
why-stopped before now after name bytes read limit Missing p many within h = absurd h
why-stopped before now after name bytes read limit ReadFault p many within h =
    inr (bytes, subst (λ x. IsPartRead before x name bytes) (sym h) p, omega arith)
why-stopped before now after name bytes read limit TooLong p many within h = (
  bytes ++ h.0,
  part-more before now after name bytes h.0 p h.1,
  omega (arith, h.2, length-append bytes h.0),
)
why-stopped before now after name bytes read limit Memory p many within h = (
  bytes ++ h.0,
  part-more before now after name bytes h.0 p h.1,
  omega (arith, h.2, length-append bytes h.0),
)
