use Rattle.std.proofs.Common.{arith, sym, ◌∙◌, ap, true, ◌≡◌}
use Rattle.am_base.proofs.Files.{found_at}
use Rattle.std.specs.Prelude.{bytes_eq, string_bytes}
use Rattle.am_base.proofs.mem_shelf.place_of.Goals as goal

pub returns-then-eq-clause-found : goal.returns-then-eq-clause-found
returns-then-eq-clause-found c =
    let same : bytes_eq (string_bytes c.index-files-i.result.0) c.args.name.now ≡ true =
    ap (λ x. bytes_eq x c.args.name.now) (sym c.as_str.ensures.value) ∙ sym c.if-eq.ensures in
    found_at c.args.files.now c.args.name.now c.loop-i.i c.index-files-i.result (omega arith) c.index-files-i.is same c.loop-i.invariant
