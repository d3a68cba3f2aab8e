-- The fields of a fixed header that was read, as its parts.
use Rattle.am_ip6.specs.declared.fixed_header.Fixed.{Fixed}
use Rattle.am_ip6.specs.Fixed.{FixedParts}

abbrev pub parts_shown : Fixed → FixedParts
parts_shown f = record {
  class = f.class;
  flow_label = f.flow_label;
  payload = f.payload;
  next = f.next;
  hops = f.hops;
  source = f.source;
  destination = f.destination;
}
