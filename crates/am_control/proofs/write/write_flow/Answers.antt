use Rattle.std.proofs.Common.{◌≡◌, ◌<◌, ◌++◌, length, get_or, arith}
use Rattle.am_control.specs.Texts.{line_rest}
use Rattle.am_control.proofs.WritingLemmas.{pieces-next, pieces-broken, pieces-done, no-row, row-there, line-put}
use Rattle.am_control.proofs.write.write_flow.Goals as goal

pub returns-in_default-clause-front : goal.returns-in_default-clause-front
returns-in_default-clause-front g c =
    let start = c.args.start.now in
    let k = c.loop-row.row-index in
    let within : k < length c.args.rows.now = omega arith in
    let row = get_or c.args.rows.now k no-row in
    let text : c.text.result.now ≡ start ++ line_rest row
    = line-put c.args.rows.now k _ start c.clear.new.self c.put_rest.new.tail c.put_all.new.self c.text.result.now within
    c.clear.ensures c.put_rest.ensures.text c.put_all.ensures.text c.text.ensures in
    pieces-broken (λ r. start ++ line_rest r) c.args.rows.now k row
    (g.O.Sink.written c.args.out.now) (g.O.Sink.written c.loop-row.out) (g.O.Sink.written c.write.new.sink) c.args.buffer.now c.loop-row.buffer
    c.text.result.now c.loop-row.invariant.handed (row-there c.args.rows.now k within) text c.in_default.ensures.front

pub loop-row-preserved : goal.loop-row-preserved
loop-row-preserved g c =
    let start = c.args.start.now in
    let k = c.loop-row.row-index in
    let within : k < length c.args.rows.now = omega arith in
    let row = get_or c.args.rows.now k no-row in
    let text : c.text.result.now ≡ start ++ line_rest row
    = line-put c.args.rows.now k _ start c.clear.new.self c.put_rest.new.tail c.put_all.new.self c.text.result.now within
    c.clear.ensures c.put_rest.ensures.text c.put_all.ensures.text c.text.ensures in
    record {
      handed = pieces-next (λ r. start ++ line_rest r) c.args.rows.now k row
          (g.O.Sink.written c.args.out.now) (g.O.Sink.written c.loop-row.out) (g.O.Sink.written c.write.new.sink) c.args.buffer.now c.loop-row.buffer
          c.write.new.self c.text.result.now c.loop-row.invariant.handed (row-there c.args.rows.now k within) text c.in-Ok.ensures.all;
      faults_stay = omega (arith, c.loop-row.invariant.faults_stay, c.write.ensures.faults_stay);
    }

pub returns-clause-all : goal.returns-clause-all
returns-clause-all g c =
    pieces-done (λ r. c.args.start.now ++ line_rest r) c.args.rows.now c.loop-row.row-index
    (g.O.Sink.written c.args.out.now) (g.O.Sink.written c.loop-row.out) c.args.buffer.now c.loop-row.buffer
    (omega arith) c.loop-row.invariant.handed
