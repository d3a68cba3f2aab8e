-- What a sink in memory holds.
use Rattle.std.specs.Prelude.{ℕ, List}
use Rattle.am_base.specs.declared.mem_sink.MemSink.{MemSink}

-- the bytes that were written
abbrev pub sink_bytes : MemSink → List ℕ
sink_bytes s = s.bytes.items

-- how often a write failed
abbrev pub sink_faults : MemSink → ℕ
sink_faults s = s.faults

-- how many bytes there is room for in all
abbrev pub sink_room : MemSink → ℕ
sink_room s = s.room

-- how many writes were asked of it
abbrev pub writes_asked : MemSink → ℕ
writes_asked s = s.writes

-- the numbers of the writes that fail
abbrev pub failing_writes : MemSink → List ℕ
failing_writes s = s.bad_writes.items
