-- A batch that is filled from a capture on a shelf.
use Rattle.std.specs.Prelude.{◌≡◌, ℕ, ◌+◌, ◌<◌, ◌≤◌, ◌^◌, Bool, true, false, List, [], ◌∷◌, ◌++◌, length, Option}
use Rattle.am_base.specs.Shelves.{Told, IsAtEnd}
use Rattle.am_base.specs.Files.{OnFile, KeepsFiles}
use Rattle.am_pcap.specs.Packets.{Packet, reading_of}
use Rattle.am_pcap.specs.Readings.{Reading}
use Rattle.am_pcap.specs.Answers.{EndsReading}
use Rattle.am_pcap.specs.CaptureFiles.{ReadsOn, BeginsWith, IsWholeCapture, WhyStopped, is_whole}
use Rattle.am_pcap.specs.declared.head.Head.{Head}
use Rattle.am_pcap.specs.declared.capture.FileError.{FileError}
use Rattle.am_meter.specs.Batches.{BatchRecord, batch_record}

-- the record of a batch that a record of a capture is
abbrev pub record_of : Head → ℕ → Packet → BatchRecord
record_of h number p = batch_record h.link number (reading_of h.form.nano p) (is_whole p) p.bytes

-- the same of records that are numbered from here
abbrev pub records_of : Head → ℕ → List Packet → List BatchRecord
records_of h number [] = []
records_of h number (p ∷ ps) = record_of h number p ∷ records_of h (number + 1) ps

-- the next record of a capture was put into a batch, whatever file is read on
pub record Loads (old new : Reading) (before after : Option Told) (batch now : List BatchRecord) : Type 0 where
  pub goes_on : new.over ≡ false
  pub head : new.decoded.summary.head ≡ old.decoded.summary.head
  pub next : new.decoded.summary.count ≡ old.decoded.summary.count + 1
  pub few : new.decoded.summary.count ≤ 2 ^ 36
  pub loads : (first : Option Told) (name : List ℕ) (h : Head) (ps : List Packet)
      → ReadsOn first before name old h ps
      → (p : Packet) × ReadsOn first after name new h (ps ++ p ∷ [])
      × (now ≡ batch ++ record_of h (length ps + 1) p ∷ [])

-- the next record was put into a batch; or there is none, and the batch is as it was
abbrev pub LoadsSo : Reading → Reading → Option Told → Option Told → List BatchRecord → List BatchRecord → Bool → Type 0
LoadsSo old new before after batch now true = Loads old new before after batch now
LoadsSo old new before after batch now false = EndsReading old before after × (now ≡ batch)

-- a batch has the records of these packets of a file, which stand behind others, and the files are as they were
pub record HasNext (first after : Option Told) (name : List ℕ) (h : Head) (ps more : List Packet) (batch : List BatchRecord) : Type 0 where
  pub records : batch ≡ records_of h (length ps + 1) more
  pub begins : OnFile first name (λ bytes. BeginsWith bytes h (ps ++ more))
  pub kept : KeepsFiles first after

-- a batch was filled with the next records of a capture, whatever file is read on
pub record Fills (old now : Reading) (before mid : Option Told) (batch : List BatchRecord) : Type 0 where
  pub goes_on : now.over ≡ false
  pub passes : old.decoded.summary.count ≤ now.decoded.summary.count
  pub few : now.decoded.summary.count ≤ 2 ^ 36
  pub fills : (first : Option Told) (name : List ℕ) (h : Head) (ps : List Packet)
      → ReadsOn first before name old h ps
      → (more : List Packet) × ReadsOn first mid name now h (ps ++ more)
      × (batch ≡ records_of h (length ps + 1) more)

-- a batch was filled with the last records of a capture, which is whole and of which nothing is left, whatever file was read on
abbrev pub FillsToEnd : Reading → Option Told → Option Told → List BatchRecord → Type 0
FillsToEnd old before after batch =
    (first : Option Told) (name : List ℕ) (h : Head) (ps : List Packet)
    → ReadsOn first before name old h ps
    → (more : List Packet) × HasNext first after name h ps more batch
    × OnFile first name (λ bytes. IsWholeCapture bytes h (ps ++ more)) × IsAtEnd after

-- a batch was filled, with some records at least; or with the last ones
abbrev pub FillsSo : Reading → Reading → Option Told → Option Told → List BatchRecord → Bool → Type 0
FillsSo old new before after batch true =
    Fills old new before after batch × (old.decoded.summary.count < new.decoded.summary.count)
FillsSo old new before after batch false = FillsToEnd old before after batch

-- a batch was filled with the last records that a capture gave, whatever file was read on, and this is why it gives no more
abbrev pub FillsUntil : Reading → Option Told → Option Told → List BatchRecord → FileError → Type 0
FillsUntil old before after batch e =
    (first : Option Told) (name : List ℕ) (h : Head) (ps : List Packet)
    → ReadsOn first before name old h ps
    → (more : List Packet) × HasNext first after name h ps more batch
    × WhyStopped first after name h (ps ++ more) e
