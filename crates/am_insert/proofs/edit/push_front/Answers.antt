-- The eight bytes stand where bytes of the packet stood.
use Rattle.std.proofs.Common.{arith, ◌∙◌, ◌≡◌, ◌+◌, ◌-◌, ◌≤◌, length}
use Rattle.std.specs.Prelude.{vec_len}
use Rattle.std.proofs.lemmas.List.{length-take-le}
use Rattle.am_insert.proofs.Writing.{overwritten}
use Rattle.am_insert.proofs.edit.push_front.Goals as goal

pub returns-clause-items : goal.returns-clause-items
returns-clause-items c =
    let p = c.args.bytes.now in
    let more : c.args.place + 8 ≤ length p = omega (arith, c.if-bytes-place-lt-MOVED.false, c.requires.within) in
    let n : vec_len c.push_all-2.new.list - 8 ≡ length c.args.list.now.items + c.args.place =
    omega (arith, c.push_all-2.ensures.len, length-take-le (c.args.place + 8) p more, c.args.list.now.ok.0) in
    c.put_last.ensures.items
    ∙ overwritten c.args.list.now.items p c.args.eight.now c.push_all-2.new.list.items c.args.place (vec_len c.push_all-2.new.list - 8) more
    c.push_all-2.ensures.items n
