-- What is known of all inputs of commands: bytes that are taken aren't refused.
use Rattle.std.specs.Prelude.{◌≡◌, ℕ, Bool, List, ◌++◌, Result, Ok, Err}
use Rattle.am_ip6.specs.declared.marks.Place.{Place}
use Rattle.am_pcap.specs.Packets.{Packet}
use Rattle.am_pcap.specs.CaptureFiles.{BeginsWith, IsWholeCapture, IsRefusedIn, IsRefusedHeader}
use Rattle.am_pcap.specs.declared.refusal.CapError.{CapError}
use Rattle.am_pcap.specs.declared.head.Head.{Head}
use Rattle.am_pcap.specs.Frames.{IsFramed}
use Rattle.am_pcap.specs.declared.frame.Frame.{Frame}
use Rattle.am_pcap.specs.declared.frame.LinkKind.{LinkKind}
use Rattle.am_domain.specs.Domains.{DomainValue, IsLawful}
use Rattle.am_report.specs.declared.read.Report.{Report}
use Rattle.am_chain.specs.Answers.{Reason}
use Rattle.am_chain.specs.Inputs.{JudgesCapture, JudgesDomain, JudgesReport}

-- bytes of which something is taken aren't refused
pub record Excludes {A : Type 0} (judge : List ℕ → Result A Reason → Type 0) : Type 0 where
  pub never : (bytes : List ℕ) (a : A) (reason : Reason) → judge bytes (Ok a) → judge bytes (Err reason) → ⊥

-- bytes say one thing at most
pub record IsOne {A : Type 0} (judge : List ℕ → Result A Reason → Type 0) : Type 0 where
  pub same : (bytes : List ℕ) (a b : A) → judge bytes (Ok a) → judge bytes (Ok b) → a ≡ b

-- a packet begins at one place of its record at most
abbrev pub AreOneFrame : Type 0
AreOneFrame = (link : LinkKind) (bytes : List ℕ) (whole : Bool) (f g : Frame) → IsFramed link bytes whole f → IsFramed link bytes whole g → f ≡ g

-- these are the same header and the first of the same packets
pub record IsFront (h k : Head) (ps qs : List Packet) : Type 0 where
  pub head : h ≡ k
  pub more : List Packet
  pub packets : qs ≡ ps ++ more

-- a whole capture isn't refused in its file header or in a record, and what it begins with are its header and its first packets
pub record CaptureExcludes : Type 0 where
  pub header : (bytes : List ℕ) (h : Head) (ps : List Packet) (e : CapError) → IsWholeCapture bytes h ps → IsRefusedHeader bytes e → ⊥
  pub records : (bytes : List ℕ) (h : Head) (ps qs : List Packet) (e : CapError) → IsWholeCapture bytes h ps → IsRefusedIn bytes e qs → ⊥
  pub front : (bytes : List ℕ) (h k : Head) (ps qs : List Packet) → BeginsWith bytes h ps → IsWholeCapture bytes k qs → IsFront h k ps qs

-- what is known of the inputs of all commands
pub record Laws : Type 0 where
  pub capture : CaptureExcludes
  pub marks : (place : Place) → Excludes (JudgesCapture place)
  pub one_marks : (place : Place) → IsOne (JudgesCapture place)
  pub domain : Excludes JudgesDomain
  pub one_domain : IsOne JudgesDomain
  pub lawful : (bytes : List ℕ) (d : DomainValue) → JudgesDomain bytes (Ok d) → IsLawful d
  pub reports : (d : DomainValue) (taken : List Report) → IsLawful d → Excludes (JudgesReport d taken)
  pub one_report : (d : DomainValue) (taken : List Report) → IsLawful d → IsOne (JudgesReport d taken)
  pub frames : AreOneFrame
