-- How a capture over a shelf comes to its next record: bytes are read, held, and taken by its decoder.
use Rattle.std.specs.Prelude.{◌≡◌, ℕ, ◌+◌, ◌*◌, ◌<◌, ◌≤◌, Bool, false, true, List, [], ◌∷◌, ◌++◌, length, Option, Some, None, IsSome}
use Rattle.am_base.specs.Shelves.{Told, Takes, IsAtEnd}
use Rattle.am_pcap.specs.Packets.{Packet}
use Rattle.am_pcap.specs.Captures.{HasSummary}
use Rattle.am_pcap.specs.Decoded.{Decoded}
use Rattle.am_pcap.specs.Readings.{Reading, IsCut, AreRefused}
use Rattle.am_pcap.specs.declared.seeking.TheConstants.{MAX_READ}
use Rattle.am_pcap.specs.CaptureFiles.{IsRefusedHeader}
use Rattle.am_pcap.specs.Answers.{GivesEnd}
use Rattle.am_pcap.specs.declared.refusal.CapError.{CapError}
use Rattle.am_pcap.specs.declared.head.TheConstants.{FILE_HEAD}
use Rattle.am_pcap.specs.declared.head.Head.{Head}
use Rattle.am_pcap.specs.declared.capture.FileError.{FileError}
use Rattle.am_pcap.specs.declared.capture.FileError.TheVariants.{Missing, ReadFault, TooLong, Bad, Memory}
use Rattle.am_pcap.specs.declared.seeking.Step.{Step}
use Rattle.am_pcap.specs.declared.seeking.Step.TheVariants.{Waits, Ends, Continues}

-- a capture of these parts, which goes on
abbrev pub reading_with : Decoded → List ℕ → ℕ → Reading
reading_with d held read = record { decoded = d; held = held; read = read; over = false }

-- a capture that goes on: its decoder, what is held and how much was read fit together
pub record InOrder (c : Reading) : Type 0 where
  pub clean : c.decoded.summary.error ≡ None
  pub none_waits : c.decoded.waiting ≡ None
  pub all : c.decoded.summary.taken + length c.held ≡ c.read
  pub short : c.read ≤ MAX_READ
  pub few : 16 * c.decoded.summary.count ≤ c.decoded.summary.taken

-- what is true of a capture at all times
pub record IsInOrder (c : Reading) (h : Head) : Type 0 where
  pub head : c.decoded.summary.head ≡ Some h
  pub going : c.over ≡ false → InOrder (reading_with c.decoded c.held c.read)

-- these bytes were read: those that the decoder took, whose whole records have these packets, and those that are held
pub record WereRead (d : Decoded) (held bytes : List ℕ) (ps : List Packet) : Type 0 where
  pub taken : List ℕ
  pub split : bytes ≡ taken ++ held
  pub summary : HasSummary taken ps d.summary

-- the packet that waits, where one does
abbrev pub waiting_packets : Option Packet → List Packet
waiting_packets None = []
waiting_packets (Some p) = p ∷ []

-- whatever was read and decoded before, it is so now, with these bytes more and with the packet that waits now
abbrev pub Moves : Decoded → List ℕ → Decoded → List ℕ → List ℕ → Type 0
Moves d held d' held' more =
    (bytes : List ℕ) (ps : List Packet) → WereRead d held bytes ps → WereRead d' held' (bytes ++ more) (ps ++ waiting_packets d'.waiting)

-- the decoder took of what was held: all, or as much as brings a record to wait
pub record Drains (d : Decoded) (held : List ℕ) (d' : Decoded) (held' : List ℕ) : Type 0 where
  pub moves : Moves d held d' held' []
  pub clean : d'.summary.error ≡ None
  pub head : d'.summary.head ≡ d.summary.head
  pub all : d'.summary.taken + length held' ≡ d.summary.taken + length held
  pub few : 16 * d'.summary.count ≤ d'.summary.taken
  pub same : d'.waiting ≡ None → d'.summary.count ≡ d.summary.count
  pub risen : IsSome d'.waiting → d'.summary.count ≡ d.summary.count + 1
  pub none_left : d'.waiting ≡ None → held' ≡ []

-- the decoder refused what was held, behind the packets before: whatever bytes come behind those that were read, they are
-- refused so
abbrev pub DrainsTo : Decoded → List ℕ → CapError → Type 0
DrainsTo d held e = (bytes : List ℕ) (ps : List Packet) → WereRead d held bytes ps → AreRefused e bytes ps × (IsCut e → ⊥)

-- why no more bytes could be had
abbrev pub RefillFails : ℕ → Option Told → Option Told → FileError → Type 0
RefillFails read before after Missing = ⊥
RefillFails read before after ReadFault = after ≡ before
RefillFails read before after TooLong = (more : List ℕ) × Takes before after more × (MAX_READ < read + length more)
RefillFails read before after (Bad e) = ⊥
RefillFails read before after Memory = ⊥

-- a capture came from the old parts to the new ones by reading these bytes, with nothing given yet
pub record Continued (old new : Reading) (before after : Option Told) : Type 0 where
  pub order : InOrder new
  pub head : new.decoded.summary.head ≡ old.decoded.summary.head
  pub count : new.decoded.summary.count ≡ old.decoded.summary.count
  pub more : List ℕ
  pub took : Takes before after more
  pub moves : (bytes : List ℕ) (ps : List Packet) → WereRead old.decoded old.held bytes ps → WereRead new.decoded new.held (bytes ++ more) ps

-- a record came to wait
pub record Found (old new : Reading) (before after : Option Told) : Type 0 where
  pub clean : new.decoded.summary.error ≡ None
  pub head : new.decoded.summary.head ≡ old.decoded.summary.head
  pub count : new.decoded.summary.count ≡ old.decoded.summary.count + 1
  pub all : new.decoded.summary.taken + length new.held ≡ new.read
  pub short : new.read ≤ MAX_READ
  pub few : 16 * new.decoded.summary.count ≤ new.decoded.summary.taken
  pub packet : Packet
  pub waits : new.decoded.waiting ≡ Some packet
  pub more : List ℕ
  pub took : Takes before after more
  pub moves : (bytes : List ℕ) (ps : List Packet) → WereRead old.decoded old.held bytes ps
      → WereRead new.decoded new.held (bytes ++ more) (ps ++ packet ∷ [])

-- what one step came to
abbrev pub Steps : Reading → Reading → Option Told → Option Told → Step → Type 0
Steps old new before after Waits = Found old new before after
Steps old new before after Ends = GivesEnd old before after
Steps old new before after Continues = Continued old new before after × (old.read < new.read)

-- what a search came to: a record waits, or the file is at its end
abbrev pub Sought : Reading → Reading → Option Told → Option Told → Bool → Type 0
Sought old new before after false = GivesEnd old before after
Sought old new before after true = Found old new before after

-- a capture whose decoder took the first bytes of a file, of which the file header isn't whole, and nothing is held
pub record HeadUnread (c : Reading) : Type 0 where
  pub head : c.decoded.summary.head ≡ None
  pub clean : c.decoded.summary.error ≡ None
  pub none_waits : c.decoded.waiting ≡ None
  pub none_held : c.held ≡ []
  pub all : c.decoded.summary.taken ≡ c.read
  pub few : c.read < FILE_HEAD
  pub bytes : List ℕ
  pub summary : HasSummary bytes [] c.decoded.summary

-- the decoder took what was missing of the file header, or all that was held
pub record HeadFed (d : Decoded) (held : List ℕ) (d' : Decoded) (held' : List ℕ) : Type 0 where
  pub clean : d'.summary.error ≡ None
  pub none_waits : d'.waiting ≡ None
  pub count : d'.summary.count ≡ 0
  pub all : d'.summary.taken + length held' ≡ d.summary.taken + length held
  pub missing : d'.summary.head ≡ None → (held' ≡ []) × (d'.summary.taken < FILE_HEAD)
  pub moves : (bytes : List ℕ) → HasSummary bytes [] d.summary → WereRead d' held' (bytes ++ held) []

-- the file header is refused, whatever bytes follow those that are held
pub record HeadBad (d : Decoded) (held : List ℕ) (e : CapError) : Type 0 where
  pub not_cut : IsCut e → ⊥
  pub refused : (bytes rest : List ℕ) → HasSummary bytes [] d.summary → IsRefusedHeader ((bytes ++ held) ++ rest) e

-- the file header is whole, and is this one
pub record HeadFound (old new : Reading) (before after : Option Told) (h : Head) : Type 0 where
  pub order : InOrder new
  pub head : new.decoded.summary.head ≡ Some h
  pub count : new.decoded.summary.count ≡ 0
  pub more : List ℕ
  pub took : Takes before after more
  pub moves : (bytes : List ℕ) → HasSummary bytes [] old.decoded.summary → WereRead new.decoded new.held (bytes ++ more) []

-- bytes of the file header were read, and it isn't whole yet
pub record HeadGrown (old new : Reading) (before after : Option Told) : Type 0 where
  pub unread : HeadUnread new
  pub more : List ℕ
  pub took : Takes before after more
  pub moves : (bytes : List ℕ) → HasSummary bytes [] old.decoded.summary → HasSummary (bytes ++ more) [] new.decoded.summary

-- a read failed before the file header was whole
pub record HeadFault (d : Decoded) (before after : Option Told) : Type 0 where
  pub more : List ℕ
  pub took : Takes before after more
  pub few : (bytes : List ℕ) → HasSummary bytes [] d.summary → length (bytes ++ more) < FILE_HEAD

-- the file header isn't whole at the end of the file, or is refused
pub record HeadRefused (d : Decoded) (before after : Option Told) (e : CapError) : Type 0 where
  pub more : List ℕ
  pub took : Takes before after more
  pub at_end : IsCut e → IsAtEnd after
  pub refused : (bytes rest : List ℕ) → HasSummary bytes [] d.summary → (IsCut e → rest ≡ []) → IsRefusedHeader ((bytes ++ more) ++ rest) e
  pub short : (bytes : List ℕ) → HasSummary bytes [] d.summary → length (bytes ++ more) ≤ MAX_READ

-- why the file header can't be had
abbrev pub HeadFails : Decoded → Option Told → Option Told → FileError → Type 0
HeadFails d before after Missing = ⊥
HeadFails d before after ReadFault = HeadFault d before after
HeadFails d before after TooLong = ⊥
HeadFails d before after (Bad e) = HeadRefused d before after e
HeadFails d before after Memory = ⊥

-- what one step towards the file header came to
abbrev pub HeadSteps : Reading → Reading → Option Told → Option Told → Option Head → Type 0
HeadSteps old new before after None = HeadGrown old new before after × (old.read < new.read)
HeadSteps old new before after (Some h) = HeadFound old new before after h
