-- The first header of the kind gets longer, or there is none and the packet gets one.
use Rattle.std.proofs.Common.{true, inl, inr}
use Rattle.am_ip6.specs.Shown.{lent}
use Rattle.am_insert.proofs.Refused.{finds-some, finds-none}
use Rattle.am_insert.proofs.insert.edit_for.Goals as goal

pub returns-in-Some-clause-inserted : goal.returns-in-Some-clause-inserted
returns-in-Some-clause-inserted c =
    let walk = c.walk_law.ensures c.args.bytes.now true in
    record {
      headers = walk.headers;
      chain = walk.chain;
      put = inr (record {
        header = lent c.in-Some.header;
        first = finds-some c.args.bytes.now c.args.place c.args.room.first c.in-Some.header c.requires.first c.in-Some.is walk.headers walk.chain;
        longer = c.lengthen.ensures.longer;
      });
    }

pub returns-in-None-clause-inserted : goal.returns-in-None-clause-inserted
returns-in-None-clause-inserted c =
    let walk = c.walk_law.ensures c.args.bytes.now true in
    record {
      headers = walk.headers;
      chain = walk.chain;
      put = inl (record {
        none = finds-none c.args.bytes.now c.args.place c.args.room.first c.requires.first c.in-None.is walk.headers walk.chain;
        puts = c.put_header.ensures.puts walk.headers walk.chain;
      });
    }
