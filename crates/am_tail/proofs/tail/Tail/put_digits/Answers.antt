-- A number of 64 bits has at most 20 digits.
use Rattle.std.proofs.Common.{arith, ap, ◌≤◌, length, decimal}
use Rattle.std.proofs.lemmas.Fmt.{length-decimal-le}
use Rattle.std.proofs.lemmas.List.{length-drop}
use Rattle.am_tail.proofs.tail.Tail.put_digits.Goals as goal

pub write_digits-self-inside-requires : goal.write_digits-self-inside-requires
write_digits-self-inside-requires c =
    let short : length (decimal c.args.number) ≤ 20 = length-decimal-le 20 c.args.number (omega arith) (omega arith) (omega arith) in
    let room = ap length c.self.view_is in
    (omega (arith, short, room, length-drop c.self.inside.from c.self.inside.bytes), omega arith)

pub returns-clause-room : goal.returns-clause-room
returns-clause-room c =
    let short : length (decimal c.args.number) ≤ 20 = length-decimal-le 20 c.args.number (omega arith) (omega arith) (omega arith) in
    let room = ap length c.self.view_is in
    let from = c.write_digits-self-inside.result in
    omega (arith, short, room, length-drop c.self.inside.from c.self.inside.bytes, length-drop from c.write_digits-self-inside.new.buf)
