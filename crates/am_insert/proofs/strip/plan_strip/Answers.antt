-- The first mark that was found is the mark of each way in which the packet is stripped.
use Rattle.am_insert.proofs.Alone.{cut-stripped, found-bounds, found-told, found-some, found-none, passed-none}
use Rattle.am_insert.proofs.strip.plan_strip.Goals as goal

pub cut_out-requires : goal.cut_out-requires
cut_out-requires c =
    let walk = c.walk_law.ensures c.args.bytes.now c.args.whole in
    record {
      stands = found-bounds c.walk_law.ensures c.longest_front_law.ensures c.mark_law.ensures c.args.bytes.now c.args.whole c.args.place
          c.in-Some.marked walk.headers walk.chain (c.in-Some.ensures walk.headers walk.chain);
      told = found-told c.walk_law.ensures c.longest_front_law.ensures c.mark_law.ensures c.args.bytes.now c.args.whole c.args.place
          c.in-Some.marked walk.headers walk.chain (c.in-Some.ensures walk.headers walk.chain);
    }

pub returns-in-Some-cut_out-clause-stripped : goal.returns-in-Some-cut_out-clause-stripped
returns-in-Some-cut_out-clause-stripped c =
    let walk = c.walk_law.ensures c.args.bytes.now c.args.whole in
    cut-stripped c.walk_law.ensures c.longest_front_law.ensures c.mark_law.ensures c.args.bytes.now c.args.whole c.args.place
    c.in-Some.marked walk.headers walk.chain (c.in-Some.ensures walk.headers walk.chain) _ c.in-Some-cut_out.ensures.cut

pub returns-in-Some-cut_out-clause-found : goal.returns-in-Some-cut_out-clause-found
returns-in-Some-cut_out-clause-found c =
    let walk = c.walk_law.ensures c.args.bytes.now c.args.whole in
    found-some c.walk_law.ensures c.longest_front_law.ensures c.mark_law.ensures c.args.bytes.now c.args.whole c.args.place
    c.in-Some.marked walk.headers walk.chain (c.in-Some.ensures walk.headers walk.chain) _ c.in-Some-cut_out.ensures.cut

pub returns-in-Some-cut_out-clause-undone : goal.returns-in-Some-cut_out-clause-undone
returns-in-Some-cut_out-clause-undone c = λ packet all mark bytes unmarked inserted.
    returns-in-Some-cut_out-clause-found c mark packet
    (c.insert_law.ensures packet all mark c.args.place c.args.bytes.now bytes unmarked inserted)

pub returns-in-None-clause-found : goal.returns-in-None-clause-found
returns-in-None-clause-found c = λ mark packet s.
    let walk = c.walk_law.ensures c.args.bytes.now c.args.whole in
    absurd (found-none c.walk_law.ensures c.longest_front_law.ensures c.mark_law.ensures c.args.bytes.now c.args.whole c.args.place
    c.in-Some.marked walk.headers walk.chain (c.in-Some.ensures walk.headers walk.chain) c.in-None.ensures.none mark packet s)

pub returns-in-None-clause-undone : goal.returns-in-None-clause-undone
returns-in-None-clause-undone c = λ packet all mark bytes unmarked inserted.
    returns-in-None-clause-found c mark packet
    (c.insert_law.ensures packet all mark c.args.place c.args.bytes.now bytes unmarked inserted)

pub returns-in_default-clause-found : goal.returns-in_default-clause-found
returns-in_default-clause-found c = λ mark packet s.
    let walk = c.walk_law.ensures c.args.bytes.now c.args.whole in
    absurd (passed-none c.walk_law.ensures c.longest_front_law.ensures c.mark_law.ensures c.args.bytes.now c.args.whole c.args.place
    walk.headers walk.chain (c.in_default.ensures walk.headers walk.chain) mark packet s)

pub returns-in_default-clause-undone : goal.returns-in_default-clause-undone
returns-in_default-clause-undone c = λ packet all mark bytes unmarked inserted.
    returns-in_default-clause-found c mark packet
    (c.insert_law.ensures packet all mark c.args.place c.args.bytes.now bytes unmarked inserted)
