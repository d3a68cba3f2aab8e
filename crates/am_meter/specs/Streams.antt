-- A stream of the marked records of a capture on a shelf: what it has given, and what its answers say.
use Rattle.std.specs.Prelude.{◌≡◌, ℕ, ◌<◌, ◌≤◌, ◌^◌, false, List, [], ◌∷◌, ◌++◌, length, ⊤, Option, Ok}
use Rattle.am_base.specs.Shelves.{Told, IsAtEnd}
use Rattle.am_base.specs.Files.{OnFile, KeepsFiles}
use Rattle.am_ip6.specs.declared.marks.Place.{Place}
use Rattle.am_pcap.specs.Packets.{Packet}
use Rattle.am_pcap.specs.CaptureFiles.{ReadsOn, IsReadWhole, WhyNotOpened}
use Rattle.am_pcap.specs.declared.head.Head.{Head}
use Rattle.am_pcap.specs.declared.capture.FileError.TheVariants.{Missing, ReadFault, TooLong, Bad, Memory}
use Rattle.am_meter.specs.declared.stream.Marked.{Marked}
use Rattle.am_meter.specs.declared.stream.MeterError.{MeterError}
use Rattle.am_meter.specs.declared.stream.MeterError.TheVariants.{File, HeadersCut}
use Rattle.am_meter.specs.Streaming.{Streaming, passed}
use Rattle.am_meter.specs.Marks.{AreMarked, JudgesMarks, RefusesMarks}
use Rattle.am_meter.specs.Marks.MarksRefusal.{Long, BadCapture, HeadersCut as CutAt}

-- a stream of this file is read on, which looks in this kind of header: the capture is, and of the records that it passed
-- none has headers that are cut, and these are the marked ones
pub record StreamsOn (before now : Option Told) (name : List ℕ) (place : Place) (s : Streaming) (ms : List Marked) : Type 0 where
  pub goes_on : s.over ≡ false
  pub looks : s.place ≡ place
  pub head : Head
  pub packets : List Packet
  pub reads : ReadsOn before now name s.capture head packets
  pub marked : AreMarked place head 1 packets ms
  -- there are no more than were passed, and the files are as they were
  pub few : length ms ≤ passed s
  pub kept : KeepsFiles before now

-- a read failed: these are the marked records of all whole records of what was read
pub record IsReadMarked (place : Place) (before after : Option Told) (name : List ℕ) (ms : List Marked) : Type 0 where
  pub head : Head
  pub packets : List Packet
  pub whole : IsReadWhole before after name head packets
  pub marked : AreMarked place head 1 packets ms

-- the next marked record was given: its number is greater than those before, and whatever file is streamed, it is still,
-- with this marked record more
pub record GivesMarked (old new : Streaming) (before after : Option Told) (m : Marked) : Type 0 where
  pub above : passed old < m.number
  pub few : m.number ≤ 2 ^ 36
  pub passes : passed new ≡ m.number
  pub goes_on : new.over ≡ false
  pub streams : (first : Option Told) (name : List ℕ) (place : Place) (ms : List Marked)
      → StreamsOn first before name place old ms → StreamsOn first after name place new (ms ++ m ∷ [])

-- whatever file was streamed, it is a whole capture with the marked records that were given, and nothing of it is left
abbrev pub EndsStream : Streaming → Option Told → Option Told → Type 0
EndsStream old before after =
    (first : Option Told) (name : List ℕ) (place : Place) (ms : List Marked)
    → StreamsOn first before name place old ms
    → OnFile first name (λ bytes. JudgesMarks place bytes (Ok ms))
    × IsAtEnd after × KeepsFiles first after

-- why a stream of this file, which gave these marked records, gives no more
abbrev pub WhyStreamStopped : Place → Option Told → Option Told → List ℕ → List Marked → MeterError → Type 0
WhyStreamStopped place before after name ms (File Missing) = ⊥
WhyStreamStopped place before after name ms (File ReadFault) = IsReadMarked place before after name ms
WhyStreamStopped place before after name ms (File TooLong) =
    OnFile before name (λ bytes. RefusesMarks place bytes Long ms)
WhyStreamStopped place before after name ms (File (Bad e)) =
    OnFile before name (λ bytes. RefusesMarks place bytes (BadCapture e) ms)
WhyStreamStopped place before after name ms (File Memory) = ⊥
WhyStreamStopped place before after name ms (HeadersCut number) =
    OnFile before name (λ bytes. RefusesMarks place bytes (CutAt number) ms)

-- whatever file was streamed, this is why it gives no more
abbrev pub StopsStream : Streaming → Option Told → Option Told → MeterError → Type 0
StopsStream old before after e =
    (first : Option Told) (name : List ℕ) (place : Place) (ms : List Marked)
    → StreamsOn first before name place old ms
    → WhyStreamStopped place first after name ms e × KeepsFiles first after

-- what may stop a stream that was opened, on any shelf: the number of a record whose headers are cut is greater than those
-- before
abbrev pub MayStop : Streaming → MeterError → Type 0
MayStop old (File Missing) = ⊥
MayStop old (File ReadFault) = ⊤
MayStop old (File TooLong) = ⊤
MayStop old (File (Bad e)) = ⊤
MayStop old (File Memory) = ⊥
MayStop old (HeadersCut number) = (passed old < number) × (number ≤ 2 ^ 36)

-- why the stream of this name was not opened
abbrev pub WhyNotStreamed : Place → Option Told → Option Told → List ℕ → MeterError → Type 0
WhyNotStreamed place before after name (File (Bad e)) =
    WhyNotOpened before after name (Bad e)
    × OnFile before name (λ bytes. RefusesMarks place bytes (BadCapture e) [])
WhyNotStreamed place before after name (File e) = WhyNotOpened before after name e
WhyNotStreamed place before after name (HeadersCut number) = ⊥
