-- The marked records of a capture, for one kind of header, and why bytes have none.
use Rattle.std.specs.Prelude.{◌≡◌, ◌≢◌, ◌⊎◌, ℕ, ◌+◌, Bool, List, [], ◌∷◌, ◌++◌, length, drop, Result, Ok, Err}
use Rattle.am_ip6.specs.Marks.{Seen}
use Rattle.am_ip6.specs.Marks.Seen.{Marks, NoMark, CutOff}
use Rattle.am_ip6.specs.Seen.{IsSeen}
use Rattle.am_ip6.specs.declared.marks.Place.{Place}
use Rattle.am_pcap.specs.Packets.{Packet, reading_of}
use Rattle.am_pcap.specs.Frames.{IsFramed}
use Rattle.am_pcap.specs.CaptureFiles.{BeginsWith, IsWholeCapture, IsLong, IsRefusedIn, IsRefusedHeader, is_whole}
use Rattle.am_pcap.specs.declared.refusal.CapError.{CapError}
use Rattle.am_pcap.specs.declared.head.Head.{Head}
use Rattle.am_pcap.specs.declared.frame.LinkKind.{LinkKind}
use Rattle.am_pcap.specs.declared.frame.Frame.{Frame}
use Rattle.am_pcap.specs.declared.frame.Frame.TheVariants.{Ip6, Other, Cut}
use Rattle.am_meter.specs.declared.stream.Marked.{Marked}

-- what the bytes of a record that hold this frame show of a mark in this kind of header (RFC 9343, section 4)
abbrev pub FrameShowsMark : Place → List ℕ → Bool → Frame → Seen → Type 0
FrameShowsMark place bytes whole (Ip6 at) seen = IsSeen (drop at bytes) whole place seen
FrameShowsMark place bytes whole Other seen = seen ≡ NoMark
FrameShowsMark place bytes whole Cut seen = seen ≡ CutOff

-- what the bytes of a record of this link type show of a mark, where all bytes of the packet were captured or not
pub record AreSeen (place : Place) (link : LinkKind) (bytes : List ℕ) (whole : Bool) (seen : Seen) : Type 0 where
  pub frame : Frame
  pub framed : IsFramed link bytes whole frame
  pub shows : FrameShowsMark place bytes whole frame seen

-- what a record of this link type shows of a mark
abbrev pub IsSeenIn : Place → LinkKind → Packet → Seen → Type 0
IsSeenIn place link p seen = AreSeen place link p.bytes (is_whole p) seen

-- the marked record that a record of this number and reading is, where it shows a mark
abbrev pub marked_by : ℕ → ℕ → Seen → List Marked
marked_by number reading (Marks mark at) =
    record { number = number; reading = reading; mark = mark } ∷ []
marked_by number reading NoMark = []
marked_by number reading CutOff = []

-- the same of a record of a capture
abbrev pub marked_in : Head → ℕ → Packet → Seen → List Marked
marked_in h number p seen = marked_by number (reading_of h.form.nano p) seen

-- none of these records, numbered from here, has headers that are cut, and these are the marked ones
abbrev pub AreMarked : Place → Head → ℕ → List Packet → List Marked → Type 0
AreMarked place h number [] ms = ms ≡ []
AreMarked place h number (p ∷ ps) ms =
    (seen : Seen) × (rest : List Marked) × IsSeenIn place h.link p seen × (seen ≢ CutOff)
    × AreMarked place h (number + 1) ps rest × (ms ≡ marked_in h number p seen ++ rest)

-- the bytes are a capture of at most 2^40 bytes, no record of it has headers that are cut, and these are the marked ones
pub record IsMarkedCapture (place : Place) (bytes : List ℕ) (ms : List Marked) : Type 0 where
  pub head : Head
  pub packets : List Packet
  pub capture : IsWholeCapture bytes head packets
  pub marked : AreMarked place head 1 packets ms

-- the bytes begin with whole records, none of which has headers that are cut, and these are the marked ones; a front of at
-- most 2^40 bytes has them
pub record BeginsMarked (place : Place) (bytes : List ℕ) (ms : List Marked) : Type 0 where
  pub head : Head
  pub packets : List Packet
  pub begins : BeginsWith bytes head packets
  pub marked : AreMarked place head 1 packets ms

-- the bytes are refused so, after whole records, none of which has headers that are cut, and these are the marked ones
pub record IsRefusedMarked (place : Place) (bytes : List ℕ) (e : CapError) (ms : List Marked) : Type 0 where
  pub head : Head
  pub packets : List Packet
  pub begins : BeginsWith bytes head packets
  pub marked : AreMarked place head 1 packets ms
  pub refused : IsRefusedIn bytes e packets

-- the record of this number is the first whose headers are cut, and these are the marked records before it; it stands in a
-- front of at most 2^40 bytes
pub record CutsHeaders (place : Place) (bytes : List ℕ) (number : ℕ) (ms : List Marked) : Type 0 where
  pub head : Head
  pub before : List Packet
  pub packet : Packet
  pub begins : BeginsWith bytes head (before ++ packet ∷ [])
  pub marked : AreMarked place head 1 before ms
  pub cut : IsSeenIn place head.link packet CutOff
  pub counted : number ≡ length before + 1

-- why bytes have no marked records: they are too many, they are refused as a capture, or the headers of the record of this
-- number are cut
pub data MarksRefusal : Type 0 where
  Long : MarksRefusal
  BadCapture : (e : CapError) → MarksRefusal
  HeadersCut : (number : ℕ) → MarksRefusal

-- the bytes are refused so, after these marked records
abbrev pub RefusesMarks : Place → List ℕ → MarksRefusal → List Marked → Type 0
RefusesMarks place bytes Long ms = IsLong bytes × BeginsMarked place bytes ms
RefusesMarks place bytes (BadCapture e) ms =
    (IsRefusedHeader bytes e × (ms ≡ [])) ⊎ IsRefusedMarked place bytes e ms
RefusesMarks place bytes (HeadersCut number) ms = CutsHeaders place bytes number ms

-- the bytes have these marked records, or are refused so
abbrev pub JudgesMarks : Place → List ℕ → Result (List Marked) MarksRefusal → Type 0
JudgesMarks place bytes (Ok ms) = IsMarkedCapture place bytes ms
JudgesMarks place bytes (Err e) = (ms : List Marked) × RefusesMarks place bytes e ms
