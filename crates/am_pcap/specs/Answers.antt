-- What the answers of a capture over a shelf say.
use Rattle.std.specs.Prelude.{◌≡◌, ℕ, ◌+◌, ◌<◌, ◌≤◌, false, List, [], ◌∷◌, ◌++◌, length, Option, Some}
use Rattle.am_base.specs.Shelves.{Told, Takes, IsAtEnd}
use Rattle.am_base.specs.Files.{OnFile, KeepsFiles}
use Rattle.am_pcap.specs.Packets.{Packet}
use Rattle.am_pcap.specs.Captures.{Summary, HasSummary, IsCapture}
use Rattle.am_pcap.specs.Readings.{Reading, HasGiven, IsCut, AreRefused}
use Rattle.am_pcap.specs.declared.seeking.TheConstants.{MAX_READ}
use Rattle.am_pcap.specs.CaptureFiles.{ReadsOn, IsWholeCapture, WhyStopped}
use Rattle.am_pcap.specs.Shown.{packet_shown}
use Rattle.am_pcap.specs.declared.refusal.CapError.{CapError}
use Rattle.am_pcap.specs.declared.head.Head.{Head}
use Rattle.am_pcap.specs.declared.record.Record.{Record}
use Rattle.am_pcap.specs.declared.capture.FileError.{FileError}
use Rattle.am_pcap.specs.declared.capture.FileError.TheVariants.{Missing, ReadFault, TooLong, Bad, Memory}

-- the next record was given: it has the next number, and its packet comes behind those that were given before
pub record GivesRecord (old new : Reading) (before after : Option Told) (r : Record) : Type 0 where
  pub goes_on : new.over ≡ false
  pub head : new.decoded.summary.head ≡ old.decoded.summary.head
  pub count : new.decoded.summary.count ≡ old.decoded.summary.count + 1
  pub short : new.read ≤ MAX_READ
  -- the bytes that were read for it
  pub more : List ℕ
  pub took : Takes before after more
  pub given : (bytes : List ℕ) (ps : List Packet) → HasGiven old bytes ps → HasGiven new (bytes ++ more) (ps ++ packet_shown r ∷ [])
  -- whatever file is read on, it is still, with this packet more
  pub reads : (first : Option Told) (name : List ℕ) (h : Head) (ps : List Packet)
      → ReadsOn first before name old h ps → ReadsOn first after name new h (ps ++ packet_shown r ∷ [])

-- there is no next record: the file is at its end, and is a whole capture of the packets that were given
pub record GivesEnd (old : Reading) (before after : Option Told) : Type 0 where
  pub more : List ℕ
  pub took : Takes before after more
  pub at_end : IsAtEnd after
  pub whole : (bytes : List ℕ) (ps : List Packet) → HasGiven old bytes ps
      → (h : Head) × (old.decoded.summary.head ≡ Some h) × IsCapture (bytes ++ more) h ps × (length (bytes ++ more) ≤ MAX_READ)

-- a read failed: all whole records of what was read were given
pub record GivesFault (old : Reading) (before after : Option Told) : Type 0 where
  pub more : List ℕ
  pub took : Takes before after more
  pub all : (bytes : List ℕ) (ps : List Packet) → HasGiven old bytes ps
      → (s : Summary) × HasSummary (bytes ++ more) ps s × (length (bytes ++ more) ≤ MAX_READ)

-- more bytes were read than a capture may have
pub record GivesTooLong (old : Reading) (before after : Option Told) : Type 0 where
  pub more : List ℕ
  pub took : Takes before after more
  pub long : (bytes : List ℕ) (ps : List Packet) → HasGiven old bytes ps → MAX_READ < length (bytes ++ more)

-- the capture is refused: its bytes say so, behind the packets that were given
pub record GivesRefusal (old : Reading) (before after : Option Told) (e : CapError) : Type 0 where
  pub more : List ℕ
  pub took : Takes before after more
  pub refused : (bytes : List ℕ) (ps : List Packet) → HasGiven old bytes ps
      → AreRefused e (bytes ++ more) ps × (IsCut e → IsAtEnd after) × (length (bytes ++ more) ≤ MAX_READ)

-- why there is no next record
abbrev pub GivesError : Reading → Option Told → Option Told → FileError → Type 0
GivesError old before after Missing = ⊥
GivesError old before after ReadFault = GivesFault old before after
GivesError old before after TooLong = GivesTooLong old before after
GivesError old before after (Bad e) = GivesRefusal old before after e
GivesError old before after Memory = ⊥

-- whatever file was read on, it is a whole capture of the packets that were given, and nothing of it is left
abbrev pub EndsReading : Reading → Option Told → Option Told → Type 0
EndsReading old before after =
    (first : Option Told) (name : List ℕ) (h : Head) (ps : List Packet) → ReadsOn first before name old h ps
    → OnFile first name (λ bytes. IsWholeCapture bytes h ps) × IsAtEnd after × KeepsFiles first after

-- whatever file was read on, this is why it gives no more
abbrev pub StopsReading : Reading → Option Told → Option Told → FileError → Type 0
StopsReading old before after e =
    (first : Option Told) (name : List ℕ) (h : Head) (ps : List Packet) → ReadsOn first before name old h ps
    → WhyStopped first after name h ps e × KeepsFiles first after
