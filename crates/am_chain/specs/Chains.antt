-- A command as a chain: its inputs one after another, each taken to its end before the next, and then what is printed.
-- What the inputs come to, what is printed, and what each stop leaves, are read off the chain.
use Rattle.std.specs.Prelude.{◌≡◌, ◌⊎◌, ℕ, ◌≤◌, ⊤, List, [], ◌∷◌, ◌++◌, Option, Some, Result, Ok, Err}
use Rattle.std.specs.Io.KnownBytes.{append_known}
use Rattle.am_base.specs.Counts.{Rose}
use Rattle.am_base.specs.Shelves.{Told, IsAbsent, IsAtEnd}
use Rattle.am_base.specs.Sinks.{AppendsFront}
use Rattle.am_base.specs.Files.{OnFile, KeepsFiles}
use Rattle.am_pcap.specs.Packets.{Packet}
use Rattle.am_pcap.specs.CaptureFiles.{BeginsWith, IsWholeCapture, IsRefusedBehind, IsRefusedHeader, IsLong, IsReadWhole, WhyNotOpened}
use Rattle.am_pcap.specs.declared.head.Head.{Head}
use Rattle.am_pcap.specs.declared.refusal.CapError.{CapError}
use Rattle.am_pcap.specs.declared.capture.FileError.TheVariants as opening
use Rattle.am_chain.specs.Answers.{Reason, Ending, Answer}
use Rattle.am_chain.specs.Answers.Reason.{TooLong, BadCapture}
use Rattle.am_chain.specs.Answers.Ending.{Done, Missing, Refused}
use Rattle.am_chain.specs.Answers.Answer.{Ended, NoCommand, ReadFault, WriteFault, NoMemory}

-- what a command reads from: what the shelf tells, how often it failed, and how often a name wasn't there
pub record Inputs : Type 0 where
  pub told : Option Told
  pub faults : ℕ
  pub missed : ℕ

abbrev pub inputs : Option Told → ℕ → ℕ → Inputs
inputs told faults missed = record { told = told; faults = faults; missed = missed }

-- what a command prints to: what was written, and how often a write failed
pub record Output : Type 0 where
  pub written : Option (List ℕ)
  pub faults : ℕ

abbrev pub output : Option (List ℕ) → ℕ → Output
output written faults = record { written = written; faults = faults }

-- how a capture is printed record by record
pub record Stream : Type 1 where
  -- what is printed of a file header and the first packets after it
  pub text_of : Head → List Packet → List ℕ → Type 0
  -- what is printed of a whole capture
  pub all_of : Head → List Packet → List ℕ → Type 0
  -- why a packet is refused that stands after those packets
  pub refuses : Head → List Packet → Packet → Reason → Type 0

pub data Chain : Type 1 where
  -- the file of this name is read whole and judged, and what comes next may depend on what is taken of it
  Reads : (A : Type 0) (name : List ℕ) (judge : List ℕ → Result A Reason → Type 0) (next : A → Chain) → Chain
  -- what was taken so far is refused, and nothing is printed
  Refuses : (name : Option (List ℕ)) (reason : Reason) → Chain
  -- such a text is made whole, and then printed
  Prints : (is : List ℕ → Type 0) → Chain
  -- such a text is printed piece by piece, and the command ends so
  Writes : (ending : Ending) (is : List ℕ → Type 0) → Chain
  -- the capture of this name is printed record by record
  Streams : (name : List ℕ) (stream : Stream) → Chain

-- the file of this name is there, and its bytes are judged so
abbrev pub Judged : {A : Type 0} → Option Told → List ℕ → (List ℕ → Result A Reason → Type 0) → Result A Reason → Type 0
Judged told name judge r = OnFile told name (λ bytes. judge bytes r)

-- this file ends the command: it isn't there, or its bytes are refused
abbrev pub EndsHere : {A : Type 0} → Option Told → List ℕ → (List ℕ → Result A Reason → Type 0) → Ending → Type 0
EndsHere told name judge Done = ⊥
EndsHere told name judge (Missing missing) = (missing ≡ name) × IsAbsent told name
EndsHere told name judge (Refused refused reason) = (refused ≡ Some name) × Judged told name judge (Err reason)

-- the text is what is printed of some first records of the capture
pub record IsTextOfFirst (told : Option Told) (name : List ℕ) (stream : Stream) (text : List ℕ) : Type 0 where
  pub head : Head
  pub packets : List Packet
  pub begins : OnFile told name (λ bytes. BeginsWith bytes head packets)
  pub printed : stream.text_of head packets text

-- the text is what is printed of the whole capture
pub record IsTextOfAll (told : Option Told) (name : List ℕ) (stream : Stream) (text : List ℕ) : Type 0 where
  pub head : Head
  pub packets : List Packet
  pub whole : OnFile told name (λ bytes. IsWholeCapture bytes head packets)
  pub printed : stream.all_of head packets text

-- the bytes are refused in a record, and the text is what is printed of the records before it
pub record IsTextBeforeBad (told : Option Told) (name : List ℕ) (stream : Stream) (error : CapError) (text : List ℕ) : Type 0 where
  pub head : Head
  pub packets : List Packet
  pub refused : OnFile told name (λ bytes. IsRefusedBehind bytes head packets error)
  pub printed : stream.text_of head packets text

-- the stream refuses a record, and the text is what is printed of the records before it
pub record IsTextBeforeRefused (told : Option Told) (name : List ℕ) (stream : Stream) (reason : Reason) (text : List ℕ) : Type 0 where
  pub head : Head
  pub packets : List Packet
  pub packet : Packet
  pub begins : OnFile told name (λ bytes. BeginsWith bytes head packets)
  pub next : OnFile told name (λ bytes. BeginsWith bytes head (packets ++ packet ∷ []))
  pub refused : stream.refuses head packets packet reason
  pub printed : stream.text_of head packets text

-- the file header is refused, and nothing is printed; or a record is, and what is printed of those before it
abbrev pub IsTextAtBad : Option Told → List ℕ → Stream → CapError → List ℕ → Type 0
IsTextAtBad told name stream error text =
    (OnFile told name (λ bytes. IsRefusedHeader bytes error) × (text ≡ [])) ⊎ IsTextBeforeBad told name stream error text

-- a capture that is printed record by record is refused so, and this text is printed before: of a file that is too long,
-- of some first records; of bytes that are no capture, and of a record that the stream refuses, of all records before
abbrev pub StreamRefuses : Option Told → List ℕ → Stream → Reason → List ℕ → Type 0
StreamRefuses told name stream reason text =
    ((reason ≡ TooLong) × OnFile told name IsLong × IsTextOfFirst told name stream text)
    ⊎ ((error : CapError) × (reason ≡ BadCapture error) × IsTextAtBad told name stream error text)
    ⊎ IsTextBeforeRefused told name stream reason text

-- what a capture that is printed record by record comes to, and the text that is printed
abbrev pub StreamEnds : Option Told → List ℕ → Stream → Ending → List ℕ → Type 0
StreamEnds told name stream Done text = IsTextOfAll told name stream text
StreamEnds told name stream (Missing missing) text = (missing ≡ name) × IsAbsent told name × (text ≡ [])
StreamEnds told name stream (Refused refused reason) text = (refused ≡ Some name) × StreamRefuses told name stream reason text

-- what the inputs of a chain come to where nothing fails: the first that isn't there or is refused ends it
abbrev pub Ends : Option Told → Chain → Ending → Type 0
Ends told (Reads A name judge next) ending =
    EndsHere told name judge ending ⊎ ((a : A) × Judged told name judge (Ok a) × Ends told (next a) ending)
Ends told (Refuses name reason) ending = ending ≡ Refused name reason
Ends told (Prints is) ending = ending ≡ Done
Ends told (Writes last is) ending = ending ≡ last
Ends told (Streams name stream) ending = (text : List ℕ) × StreamEnds told name stream ending text

-- an input was taken: the files are as they were, no count fell, and its file was read to its end
pub record Follows (before behind : Inputs) : Type 0 where
  pub kept : KeepsFiles before.told behind.told
  pub faults : before.faults ≤ behind.faults
  pub missed : before.missed ≤ behind.missed
  pub at_end : IsAtEnd behind.told

-- a command stops at this file with this answer: the file ends it, or could not be read, or memory ran out
abbrev pub StopsHere : {A : Type 0} → Inputs → Inputs → List ℕ → (List ℕ → Result A Reason → Type 0) → Answer → Type 0
StopsHere before after name judge (Ended Done) = ⊥
StopsHere before after name judge (Ended (Missing missing)) =
    EndsHere before.told name judge (Missing missing) × Rose before.missed after.missed
StopsHere before after name judge (Ended (Refused refused reason)) = EndsHere before.told name judge (Refused refused reason)
StopsHere before after name judge NoCommand = ⊥
StopsHere before after name judge (ReadFault failed) = (failed ≡ name) × Rose before.faults after.faults
StopsHere before after name judge WriteFault = ⊥
StopsHere before after name judge NoMemory = ⊤

-- a front of such a text was printed
abbrev pub PrintsFront : Output → Output → (List ℕ → Type 0) → Type 0
PrintsFront old new is = (text : List ℕ) × is text × AppendsFront old.written new.written text

-- such a text was printed, and nothing else
abbrev pub PrintsAll : Output → Output → (List ℕ → Type 0) → Type 0
PrintsAll old new is = (text : List ℕ) × is text × (new.written ≡ append_known old.written text)

-- a text that is made whole and then printed: a failed write leaves a front of it, want of memory nothing
abbrev pub PrintsWhole : Output → Output → (List ℕ → Type 0) → Answer → Type 0
PrintsWhole old new is (Ended ending) = (ending ≡ Done) × PrintsAll old new is
PrintsWhole old new is WriteFault = Rose old.faults new.faults × PrintsFront old new is
PrintsWhole old new is NoMemory = new.written ≡ old.written
PrintsWhole old new is _ = ⊥

-- a text that is printed piece by piece: a failed write and want of memory leave a front of it
abbrev pub PrintsPieces : Output → Output → Ending → (List ℕ → Type 0) → Answer → Type 0
PrintsPieces old new last is (Ended ending) = (ending ≡ last) × PrintsAll old new is
PrintsPieces old new last is WriteFault = Rose old.faults new.faults × PrintsFront old new is
PrintsPieces old new last is NoMemory = PrintsFront old new is
PrintsPieces old new last is _ = ⊥

-- nothing, or what is printed of some first records, or of the whole capture
abbrev pub IsTextOfSome : Option Told → List ℕ → Stream → List ℕ → Type 0
IsTextOfSome told name stream text = (text ≡ []) ⊎ IsTextOfFirst told name stream text ⊎ IsTextOfAll told name stream text

-- all whole records of what was read of the capture were printed
pub record PrintsRead (before after : Option Told) (old new : Output) (name : List ℕ) (stream : Stream) : Type 0 where
  pub head : Head
  pub packets : List Packet
  pub begins : OnFile before name (λ bytes. BeginsWith bytes head packets)
  pub read : IsReadWhole before after name head packets
  pub printed : PrintsAll old new (stream.text_of head packets)

-- what a failed read leaves of a capture that is printed record by record: nothing before the file header was read
abbrev pub PrintsAtFault : Option Told → Option Told → Output → Output → List ℕ → Stream → Type 0
PrintsAtFault before after old new name stream =
    (WhyNotOpened before after name opening.ReadFault × (new.written ≡ old.written)) ⊎ PrintsRead before after old new name stream

-- a capture that is printed record by record: each stop leaves what is printed of the records before it
abbrev pub StreamsSo : Inputs → Inputs → Output → Output → List ℕ → Stream → Answer → Type 0
StreamsSo before after old new name stream (Ended Done) =
    Follows before after × PrintsAll old new (StreamEnds before.told name stream Done)
StreamsSo before after old new name stream (Ended (Missing missing)) =
    Rose before.missed after.missed × PrintsAll old new (StreamEnds before.told name stream (Missing missing))
StreamsSo before after old new name stream (Ended (Refused refused reason)) =
    PrintsAll old new (StreamEnds before.told name stream (Refused refused reason))
StreamsSo before after old new name stream NoCommand = ⊥
StreamsSo before after old new name stream (ReadFault failed) =
    (failed ≡ name) × Rose before.faults after.faults × PrintsAtFault before.told after.told old new name stream
StreamsSo before after old new name stream WriteFault =
    Rose old.faults new.faults × PrintsFront old new (IsTextOfSome before.told name stream)
StreamsSo before after old new name stream NoMemory = PrintsFront old new (IsTextOfSome before.told name stream)

-- the chain was performed from these inputs to those, and printed from this output to that, with this answer
abbrev pub Performs : Inputs → Inputs → Output → Output → Chain → Answer → Type 0
Performs before after old new (Reads A name judge next) answer =
    (StopsHere before after name judge answer × (new.written ≡ old.written))
    ⊎ ((a : A) × (behind : Inputs) × Judged before.told name judge (Ok a) × Follows before behind
    × Performs behind after old new (next a) answer)
Performs before after old new (Refuses name reason) answer =
    ((answer ≡ Ended (Refused name reason)) ⊎ (answer ≡ NoMemory)) × (new.written ≡ old.written)
Performs before after old new (Prints is) answer = (after ≡ before) × PrintsWhole old new is answer
Performs before after old new (Writes last is) answer = (after ≡ before) × PrintsPieces old new last is answer
Performs before after old new (Streams name stream) answer = StreamsSo before after old new name stream answer
