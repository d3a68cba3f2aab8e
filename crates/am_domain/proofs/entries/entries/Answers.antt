use Rattle.am_domain.proofs.CountLemmas.{array-short}
use Rattle.am_domain.proofs.entries.entries.Goals as goal

pub read_items-requires : goal.read_items-requires
read_items-requires g c = array-short _ c.in-Some.items.now c.requires c.in-Some.ensures.only
