-- What a stream has.
use Rattle.std.specs.Prelude.{ℕ, Bool, false}
use Rattle.am_ip6.specs.declared.marks.Place.{Place}
use Rattle.am_pcap.specs.Readings.{Reading}

-- what its capture has, the kind of header that it looks in, and whether it came to its end or to an error
pub record Streaming : Type 0 where
  pub capture : Reading
  pub place : Place
  pub over : Bool

-- how many records it passed: those that it gave, and those that aren't marked
abbrev pub passed : Streaming → ℕ
passed s = s.capture.decoded.summary.count

-- a stream that goes on, whose capture has this
abbrev pub stream_of : Place → Reading → Streaming
stream_of place c = record { capture = c; place = place; over = false }
