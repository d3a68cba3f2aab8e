-- What a command answers: how it ended, with which status, and the line on standard error.
use Rattle.std.specs.Prelude.{ℕ, ⊤, List, [], ◌++◌, Option, Some, None, codes, decimal}
use Rattle.am_pcap.specs.declared.refusal.CapError.{CapError}
use Rattle.am_pcap.specs.CaptureTexts.{capture_text}
use Rattle.am_domain.specs.declared.error.DomainError.{DomainError}
use Rattle.am_domain.specs.DomainTexts.{domain_text}
use Rattle.am_insert.specs.declared.insert.InsertError.{InsertError}
use Rattle.am_insert.specs.InsertTexts.{insert_text}
use Rattle.am_report.specs.declared.error.ReportError.{ReportError}
use Rattle.am_report.specs.ReportTexts.{refusal_text}

-- why an input is refused
pub data Reason : Type 0 where
  -- its file has more bytes than it may have
  TooLong : Reason
  -- its bytes are no capture
  BadCapture : (error : CapError) → Reason
  -- bytes of this record that may hold a mark were not captured
  HeadersCut : (number : ℕ) → Reason
  -- its bytes are no domain file
  BadDomain : (error : DomainError) → Reason
  -- no mark can be put into the packet of this record
  NotInserted : (number : ℕ) (error : InsertError) → Reason
  -- this record has no room for a mark
  RecordFull : (number : ℕ) → Reason
  -- the domain has no node of the name that was asked for
  UnknownNode : Reason
  -- its bytes are no report; where the rows end early, this names the flow of the row that is wanted
  BadReport : (error : ReportError) (flow : List ℕ) → Reason
  -- the node of this name has a report already
  ReportTwice : (node : List ℕ) → Reason
  -- no report is of the node of this name
  NoReport : (node : List ℕ) → Reason

-- what the inputs of a command come to, where nothing fails
pub data Ending : Type 0 where
  -- the command is done
  Done : Ending
  -- no file has this name
  Missing : (name : List ℕ) → Ending
  -- an input is refused: the file of this name, or what has no file
  Refused : (name : Option (List ℕ)) (reason : Reason) → Ending

-- what a command answers
pub data Answer : Type 0 where
  -- its inputs came to this
  Ended : Ending → Answer
  -- the words are no command
  NoCommand : Answer
  -- this file could not be opened or read
  ReadFault : (name : List ℕ) → Answer
  -- the output could not be written
  WriteFault : Answer
  -- there was not enough memory
  NoMemory : Answer

abbrev pub ending_status : Ending → ℕ
ending_status Done = 0
ending_status (Missing name) = 4
ending_status (Refused name reason) = 3

abbrev pub status : Answer → ℕ
status (Ended ending) = ending_status ending
status NoCommand = 2
status (ReadFault name) = 5
status WriteFault = 6
status NoMemory = 7

-- what is said of an input that is refused
abbrev pub reason_text : Reason → List ℕ
reason_text TooLong = codes "too long"
reason_text (BadCapture error) = capture_text error
reason_text (HeadersCut number) = codes "headers of record " ++ decimal number ++ codes " are cut"
reason_text (BadDomain error) = domain_text error
reason_text (NotInserted number error) = codes "record " ++ decimal number ++ codes ": " ++ insert_text error
reason_text (RecordFull number) = codes "record " ++ decimal number ++ codes ": record full"
reason_text UnknownNode = codes "unknown node"
reason_text (BadReport error flow) = refusal_text error flow
reason_text (ReportTwice node) = codes "second report of node " ++ node
reason_text (NoReport node) = codes "no report of node " ++ node

-- what stands before that: the file's name, and of a domain that was read whole the word `domain`
abbrev pub subject : Option (List ℕ) → Reason → List ℕ
subject None reason = []
subject (Some name) (BadDomain error) = codes "domain: "
subject (Some name) reason = name ++ codes ": "

-- a line that says this
abbrev pub said : List ℕ → List ℕ
said what = codes "altmark: " ++ what ++ codes "\n"

-- a line that says this of a file
abbrev pub said_of : List ℕ → List ℕ → List ℕ
said_of name what = codes "altmark: " ++ name ++ codes ": " ++ what ++ codes "\n"

-- the line of an input that is refused
abbrev pub refusal_line : Option (List ℕ) → Reason → List ℕ
refusal_line name reason = codes "altmark: " ++ subject name reason ++ reason_text reason ++ codes "\n"

abbrev pub ending_line : Ending → List ℕ
ending_line Done = []
ending_line (Missing name) = said_of name (codes "missing")
ending_line (Refused name reason) = refusal_line name reason

-- the line on standard error; none where the command is done
abbrev pub line : Answer → List ℕ
line (Ended ending) = ending_line ending
line NoCommand = said (codes "usage")
line (ReadFault name) = said_of name (codes "read fault")
line WriteFault = said (codes "write fault")
line NoMemory = said (codes "out of memory")

-- a stop that names a file
abbrev pub NamesFile : Answer → Type 0
NamesFile (Ended Done) = ⊥
NamesFile (Ended (Missing name)) = ⊤
NamesFile (Ended (Refused name reason)) = ⊤
NamesFile NoCommand = ⊥
NamesFile (ReadFault name) = ⊤
NamesFile WriteFault = ⊥
NamesFile NoMemory = ⊥
