-- What a `Record` of the library shows of the packet that it holds.
use Rattle.am_pcap.specs.Packets.{Packet}
use Rattle.am_pcap.specs.declared.record.Record.{Record}

-- the packet that a record holds, whatever its number
abbrev pub packet_shown : Record → Packet
packet_shown r = record { seconds = r.seconds; fraction = r.fraction; original = r.original; bytes = r.bytes.now }
