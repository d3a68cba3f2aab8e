-- What the values say that commands share: what a word names, why a command stops.
use Rattle.std.specs.Prelude.{◌≡◌, ◌⊎◌, ⊤, ℕ, List, Some, Result, Ok, Err, option_map, string_bytes}
use Rattle.am_base.specs.declared.file.FileFault.{FileFault}
use Rattle.am_base.specs.declared.file.FileFault.TheVariants as whole
use Rattle.am_pcap.specs.declared.capture.FileError.{FileError}
use Rattle.am_pcap.specs.declared.capture.FileError.TheVariants as capture
use Rattle.am_meter.specs.declared.stream.MeterError.{MeterError}
use Rattle.am_meter.specs.declared.stream.MeterError.TheVariants as meter
use Rattle.am_domain.specs.declared.error.DomainError.{DomainError}
use Rattle.am_domain.specs.declared.error.DomainError.TheVariants as domain
use Rattle.am_domain.specs.Domains.{DomainValue}
use Rattle.am_report.specs.declared.error.ReportError.{ReportError}
use Rattle.am_report.specs.declared.error.ReportError.TheVariants as report
use Rattle.am_report.specs.ReportTexts.{refused_flow}
use Rattle.am_chain.specs.Answers as said
use Rattle.am_chain.specs.Answers.{Answer, Ending}
use Rattle.am_chain.specs.Chains.{Inputs, Judged, Follows, StopsHere}
use Rattle.am_chain.specs.declared.answer.Reason.{Reason}
use Rattle.am_chain.specs.declared.answer.Reason.TheVariants.{TooLong, BadCapture, HeadersCut, BadDomain, NotInserted, RecordFull, UnknownNode, BadReport, ReportTwice, NoReport}
use Rattle.am_chain.specs.declared.answer.Stop.{Stop}
use Rattle.am_chain.specs.declared.answer.Unprinted.{Unprinted}
use Rattle.am_chain.specs.declared.answer.Unprinted.TheVariants as unprinted
use Rattle.am_chain.specs.declared.answer.Stop.TheVariants.{NoCommand, Missing, Refused, ReadFault, WriteFault, NoMemory}
use Rattle.am_chain.specs.declared.words.DomainFileWords.{DomainFileWords}
use Rattle.am_chain.specs.WordForms as form_of_words

-- what a `DomainFileWords` says
abbrev pub domain_file_shown : DomainFileWords → form_of_words.DomainFile
domain_file_shown w = record { domain = w.domain.now; file = w.file.now }

-- what a `Reason` says
abbrev pub reason_shown : Reason → said.Reason
reason_shown TooLong = said.Reason.TooLong
reason_shown (BadCapture error) = said.Reason.BadCapture error
reason_shown (HeadersCut number) = said.Reason.HeadersCut number
reason_shown (BadDomain error) = said.Reason.BadDomain error
reason_shown (NotInserted number error) = said.Reason.NotInserted number error
reason_shown (RecordFull number) = said.Reason.RecordFull number
reason_shown UnknownNode = said.Reason.UnknownNode
reason_shown (BadReport error flow) = said.Reason.BadReport error (string_bytes flow)
reason_shown (ReportTwice node) = said.Reason.ReportTwice (string_bytes node)
reason_shown (NoReport node) = said.Reason.NoReport (string_bytes node)

-- what a `Stop` says
abbrev pub stop_shown : Stop → Answer
stop_shown NoCommand = said.Answer.NoCommand
stop_shown (Missing name) = said.Answer.Ended (said.Ending.Missing (string_bytes name))
stop_shown (Refused name reason) = said.Answer.Ended (said.Ending.Refused (option_map (λ n. string_bytes n) name) (reason_shown reason))
stop_shown (ReadFault name) = said.Answer.ReadFault (string_bytes name)
stop_shown WriteFault = said.Answer.WriteFault
stop_shown NoMemory = said.Answer.NoMemory

-- the answer of a command that is done, or why it stopped
abbrev pub answer_of : Result (Unit {0}) Stop → Answer
answer_of (Ok done) = said.Answer.Ended said.Ending.Done
answer_of (Err stop) = stop_shown stop

-- the answer is this one, or want of memory
abbrev pub IsAnswered : Answer → Answer → Type 0
IsAnswered wanted answer = (answer ≡ wanted) ⊎ (answer ≡ said.Answer.NoMemory)

-- the answer where this file could not be read whole
abbrev pub file_answer : List ℕ → FileFault → Answer
file_answer name whole.Missing = said.Answer.Ended (said.Ending.Missing name)
file_answer name whole.ReadFault = said.Answer.ReadFault name
file_answer name whole.TooLong = said.Answer.Ended (said.Ending.Refused (Some name) said.Reason.TooLong)
file_answer name whole.Memory = said.Answer.NoMemory

-- the answer where this capture could not be opened or read on
abbrev pub capture_answer : List ℕ → FileError → Answer
capture_answer name capture.Missing = said.Answer.Ended (said.Ending.Missing name)
capture_answer name capture.ReadFault = said.Answer.ReadFault name
capture_answer name capture.TooLong = said.Answer.Ended (said.Ending.Refused (Some name) said.Reason.TooLong)
capture_answer name (capture.Bad error) = said.Answer.Ended (said.Ending.Refused (Some name) (said.Reason.BadCapture error))
capture_answer name capture.Memory = said.Answer.NoMemory

-- the answer where the marked records of this capture could not be given
abbrev pub stream_answer : List ℕ → MeterError → Answer
stream_answer name (meter.File error) = capture_answer name error
stream_answer name (meter.HeadersCut number) = said.Answer.Ended (said.Ending.Refused (Some name) (said.Reason.HeadersCut number))

-- what is said of the reason where a record is refused
abbrev pub OnRefused : Unprinted → (said.Reason → Type 0) → Type 0
OnRefused (unprinted.Refused reason) P = P (reason_shown reason)
OnRefused unprinted.NoMemory P = ⊤

-- the answer where a record of this capture isn't printed
abbrev pub record_answer : List ℕ → Unprinted → Answer
record_answer name (unprinted.Refused reason) = said.Answer.Ended (said.Ending.Refused (Some name) (reason_shown reason))
record_answer name unprinted.NoMemory = said.Answer.NoMemory

-- the answer where the bytes of this file are no domain file
abbrev pub domain_answer : List ℕ → DomainError → Answer
domain_answer name domain.Memory = said.Answer.NoMemory
domain_answer name error = said.Answer.Ended (said.Ending.Refused (Some name) (said.Reason.BadDomain error))

-- the answer where the bytes of this file are no report of the domain
abbrev pub report_answer : List ℕ → DomainValue → ReportError → Answer
report_answer name d report.Memory = said.Answer.NoMemory
report_answer name d error = said.Answer.Ended (said.Ending.Refused (Some name) (said.Reason.BadReport error (refused_flow d error)))

-- what a function answers that takes the file of this name: a value that stands for what is taken of it, or a stop at it
abbrev pub TakesInput :
    {A T : Type 0} → Inputs → Inputs → List ℕ → (List ℕ → Result A said.Reason → Type 0) → (T → A → Type 0) → Result T Stop → Type 0
TakesInput before after name judge Holds (Ok x) = (a : _) × Judged before.told name judge (Ok a) × Follows before after × Holds x a
TakesInput before after name judge Holds (Err stop) = StopsHere before after name judge (stop_shown stop)
