use Rattle.std.proofs.Common.{◌≡◌, arith}
use Rattle.am_report.proofs.ReadLemmas.{whole-table}
use Rattle.am_report.proofs.filling.Filling.finish.Goals as goal

pub returns-in-Some : goal.returns-in-Some
returns-in-Some c = λ taken filled.
    let table = c.total-total.ensures.table in
    let over : c.args.self.block ≡ c.args.domain.now.end = omega (arith, c.requires.until, c.if-block-end.false, c.end.ensures.value) in
    let whole = whole-table _ c.args.self taken table (λ number below. c.cells_law.ensures.places _ number table below) c.requires filled over in
    (whole.0, (rw c.in-Some.is at filled.node).1, whole.1)
