-- What is seen of the next record of a capture, and what passing over records leaves.
use Rattle.std.specs.Prelude.{◌≡◌, ℕ, ◌+◌, ◌≤◌, ◌^◌, false, List, [], ◌∷◌, ◌++◌, Option, Some}
use Rattle.am_base.specs.Shelves.{Told}
use Rattle.am_ip6.specs.declared.marks.Place.{Place}
use Rattle.am_ip6.specs.Marks.Seen.{Marks, NoMark, CutOff}
use Rattle.am_pcap.specs.Packets.{Packet, reading_of}
use Rattle.am_pcap.specs.Readings.{Reading}
use Rattle.am_pcap.specs.CaptureFiles.{ReadsOn}
use Rattle.am_pcap.specs.declared.head.Head.{Head}
use Rattle.am_meter.specs.declared.stream.Marked.{Marked as MarkedRecord}
use Rattle.am_meter.specs.declared.stream.Looked.{Looked}
use Rattle.am_meter.specs.declared.stream.Looked.TheVariants.{Marked, Unmarked, Cut}
use Rattle.am_meter.specs.Streaming.{stream_of}
use Rattle.am_meter.specs.Streams.{StreamsOn}
use Rattle.am_meter.specs.Marks.{IsSeenIn}

-- the marked record that a record of this number is, whose mark is this
abbrev pub marked_of : Head → ℕ → Packet → MarkedRecord → MarkedRecord
marked_of h number p m = record { number = number; reading = reading_of h.form.nano p; mark = m.mark }

-- what is seen of a record of this number
abbrev pub ShowsAs : Place → Head → ℕ → Packet → Looked → Type 0
ShowsAs place h number p (Marked m) =
    (at : ℕ) × IsSeenIn place h.link p (Marks m.mark at) × (m ≡ marked_of h number p m)
ShowsAs place h number p Unmarked = IsSeenIn place h.link p NoMark
ShowsAs place h number p (Cut n) = IsSeenIn place h.link p CutOff × (n ≡ number)

-- the next record was read, and this is seen of it
pub record LooksAt (place : Place) (old new : Reading) (before after : Option Told) (l : Looked) : Type 0 where
  pub number : ℕ
  pub next : number ≡ old.decoded.summary.count + 1
  pub few : number ≤ 2 ^ 36
  pub count : new.decoded.summary.count ≡ number
  pub goes_on : new.over ≡ false
  pub head : Head
  pub head_is : old.decoded.summary.head ≡ Some head
  pub packet : Packet
  pub shows : ShowsAs place head number packet l
  pub reads : (first : Option Told) (name : List ℕ) (h : Head) (ps : List Packet)
      → ReadsOn first before name old h ps → ReadsOn first after name new h (ps ++ packet ∷ [])

-- records without a mark were passed over: whatever file is streamed, it is still, with the same marked records
pub record PassesOver (place : Place) (old now : Reading) (before mid : Option Told) : Type 0 where
  pub goes_on : now.over ≡ false
  pub passes : old.decoded.summary.count ≤ now.decoded.summary.count
  pub streams : (first : Option Told) (name : List ℕ) (ms : List MarkedRecord)
      → StreamsOn first before name place (stream_of place old) ms
      → StreamsOn first mid name place (stream_of place now) ms
