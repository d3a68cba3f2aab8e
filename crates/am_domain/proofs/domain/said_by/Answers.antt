use Rattle.toml.specs.View.{table_view}
use Rattle.am_domain.proofs.ShortDocuments.{few-items}
use Rattle.am_domain.proofs.domain.said_by.Goals as goal

pub read_fields-requires : goal.read_fields-requires
read_fields-requires c = few-items c.args.bytes.now (table_view c.in-Ok.table) c.requires c.in-Ok.ensures.ok.1

pub domain_of-requires : goal.domain_of-requires
domain_of-requires c = (table_view c.in-Ok.table, few-items c.args.bytes.now (table_view c.in-Ok.table) c.requires c.in-Ok.ensures.ok.1, c.in-Ok-read_fields.ensures.ok)
