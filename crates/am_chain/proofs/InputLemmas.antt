-- What taking an input says: what is taken of its file, or the stop at it.
use Rattle.std.proofs.Common.{arith, refl, sym, subst, ◌≡◌, ℕ, ◌≤◌, List, [], length, Option, Some, None, Ok, Err, inl, inr}
use Rattle.std.specs.Prelude.{Result}
use Rattle.am_base.specs.Counts.{Rose}
use Rattle.am_base.specs.Shelves.{Told, IsAbsent, IsAtEnd}
use Rattle.am_base.specs.Files.{OnFile, HasFile, IsWholeRead}
use Rattle.am_ip6.specs.declared.marks.Place.TheVariants.{HopByHop}
use Rattle.am_pcap.specs.declared.capture.FileError.TheVariants as file
use Rattle.am_ip6.specs.declared.marks.Place.{Place}
use Rattle.am_meter.specs.MeteredFiles.{WhyNoCells, capture_of}
use Rattle.am_meter.specs.Marks.{MarksRefusal, RefusesMarks, JudgesMarks}
use Rattle.am_meter.specs.Marks.MarksRefusal.{Long, BadCapture as RefusedMarks, HeadersCut as CutMarks}
use Rattle.am_meter.specs.Streaming.{Streaming}
use Rattle.am_meter.specs.Streams.{StreamsOn, EndsStream, StopsStream, WhyStreamStopped, WhyNotStreamed}
use Rattle.am_meter.specs.declared.stream.Marked.{Marked}
use Rattle.am_meter.specs.declared.stream.MeterError.{MeterError}
use Rattle.am_meter.specs.declared.stream.MeterError.TheVariants as meter
use Rattle.am_domain.specs.Domains.{DomainValue, TellsRefusal}
use Rattle.am_domain.specs.declared.error.DomainError.{DomainError}
use Rattle.am_domain.specs.declared.error.DomainError.TheVariants as domain
use Rattle.am_chain.specs.Answers.{Reason, Answer}
use Rattle.am_chain.specs.Answers.Reason.{BadDomain}
use Rattle.am_chain.specs.Chains.{Inputs, Judged, Follows, StopsHere}
use Rattle.am_domain.specs.declared.domain.TheConstants.{MAX_DOMAIN}
use Rattle.am_chain.specs.Inputs.{JudgesCapture, JudgesDomain, marks_reason}
use Rattle.am_chain.specs.Shown.{IsAnswered, stream_answer, domain_answer}
use Rattle.am_chain.proofs.FrontLemmas.{rose-later}

-- a file that was read is judged as its bytes are
pub judged-of :
    {A : Type 0} (told : Option Told) (name : List ℕ) (judge : List ℕ → Result A Reason → Type 0) (bytes : List ℕ) (r : Result A Reason)
    → HasFile told name bytes → judge bytes r → Judged told name judge r
judged-of None name judge bytes r there j = tt
judged-of (Some t) name judge bytes r there j = (bytes, there, j)

-- a file that was read whole is at its end
pub whole-at-end : (before after : Option Told) (name bytes : List ℕ) → IsWholeRead before after name bytes → IsAtEnd after
whole-at-end None after name bytes h = subst IsAtEnd (sym h) tt
whole-at-end (Some t) after name bytes h = subst IsAtEnd (sym h.1) refl

-- a stop that is answered is that stop, or want of memory
pub stop-answer :
    {A : Type 0} (before after : Inputs) (name : List ℕ) (judge : List ℕ → Result A Reason → Type 0) (wanted answer : Answer)
    → StopsHere before after name judge wanted → IsAnswered wanted answer → StopsHere before after name judge answer
stop-answer before after name judge wanted answer h is =
    elim is [
      | inl e ↦ subst (λ a. StopsHere before after name judge a) (sym e) h
      | inr e ↦ subst (λ a. StopsHere before after name judge a) (sym e) tt
    ]

-- bytes that aren't read as a domain are a stop at their file
pub domain-stops :
    (before after : Inputs) (name bytes : List ℕ) (e : DomainError)
    → HasFile before.told name bytes → length bytes ≤ MAX_DOMAIN → TellsRefusal bytes e → StopsHere before after name JudgesDomain (domain_answer name e)
domain-stops before after name bytes domain.Memory there short h = tt
domain-stops before after name bytes e there short h =
    (refl, judged-of before.told name JudgesDomain bytes (Err (BadDomain e)) there (inr (e, refl, short, h)))

-- what holds of the bytes of a file gives what follows of them
on-file-more : (told : Option Told) (name : List ℕ) (P Q : List ℕ → Type 0) → ((bytes : List ℕ) → P bytes → Q bytes) → OnFile told name P → OnFile told name Q
on-file-more None name P Q f p = tt
on-file-more (Some t) name P Q f p = (p.0, p.1, f p.0 p.2)

-- a capture that is refused in place of its marked records ends the command
marks-refused :
    (told : Option Told) (name : List ℕ) (e : MarksRefusal) (ms : List Marked)
    → OnFile told name (λ bytes. RefusesMarks HopByHop bytes e ms) → Judged told name (JudgesCapture HopByHop) (Err (marks_reason e))
marks-refused told name e ms h =
    on-file-more told name (λ bytes. RefusesMarks HopByHop bytes e ms) (λ bytes. JudgesCapture HopByHop bytes (Err (marks_reason e)))
    (λ bytes x. (e, (ms, x), refl)) h

not-streamed :
    (before after : Inputs) (name : List ℕ) (e : MeterError) → WhyNotStreamed HopByHop before.told after.told name e
    → (e ≡ meter.File file.Missing → Rose before.missed after.missed × IsAbsent before.told name)
    → (e ≡ meter.File file.ReadFault → Rose before.faults after.faults)
    → StopsHere before after name (JudgesCapture HopByHop) (stream_answer name e)
not-streamed before after name (meter.File file.Missing) why missing failed = ((refl, (missing refl).1), (missing refl).0)
not-streamed before after name (meter.File file.ReadFault) why missing failed = (refl, failed refl)
not-streamed before after name (meter.File file.TooLong) why missing failed = absurd why
not-streamed before after name (meter.File (file.Bad error)) why missing failed =
    (refl, marks-refused before.told name (RefusedMarks error) [] why.1)
not-streamed before after name (meter.File file.Memory) why missing failed = tt
not-streamed before after name (meter.HeadersCut number) why missing failed = absurd why

-- why a stream is not opened is a stop at its file
pub stream-not-opened-stops :
    (before after : Inputs) (name : List ℕ) (e : MeterError) (answer : Answer) → WhyNotStreamed HopByHop before.told after.told name e
    → (e ≡ meter.File file.Missing → Rose before.missed after.missed × IsAbsent before.told name)
    → (e ≡ meter.File file.ReadFault → Rose before.faults after.faults)
    → IsAnswered (stream_answer name e) answer
    → StopsHere before after name (JudgesCapture HopByHop) answer
stream-not-opened-stops before after name e answer why missing failed is =
    stop-answer before after name (JudgesCapture HopByHop) (stream_answer name e) answer (not-streamed before after name e why missing failed) is

not-streamed-on :
    (before now after : Inputs) (name : List ℕ) (ms : List Marked) (e : MeterError)
    → WhyStreamStopped HopByHop before.told after.told name ms e
    → (e ≡ meter.File file.ReadFault → Rose now.faults after.faults) → before.faults ≤ now.faults
    → StopsHere before after name (JudgesCapture HopByHop) (stream_answer name e)
not-streamed-on before now after name ms (meter.File file.Missing) why failed faults = absurd why
not-streamed-on before now after name ms (meter.File file.ReadFault) why failed faults =
    (refl, rose-later before.faults now.faults after.faults faults (failed refl))
not-streamed-on before now after name ms (meter.File file.TooLong) why failed faults = (refl, marks-refused before.told name Long ms why)
not-streamed-on before now after name ms (meter.File (file.Bad error)) why failed faults = (refl, marks-refused before.told name (RefusedMarks error) ms why)
not-streamed-on before now after name ms (meter.File file.Memory) why failed faults = absurd why
not-streamed-on before now after name ms (meter.HeadersCut number) why failed faults = (refl, marks-refused before.told name (CutMarks number) ms why)

-- why there is no next marked record is a stop at its file
pub stream-stops :
    (before now after : Inputs) (name : List ℕ) (s : Streaming) (ms : List Marked) (e : MeterError) (answer : Answer)
    → StreamsOn before.told now.told name HopByHop s ms → StopsStream s now.told after.told e
    → (e ≡ meter.File file.ReadFault → Rose now.faults after.faults) → before.faults ≤ now.faults
    → IsAnswered (stream_answer name e) answer
    → StopsHere before after name (JudgesCapture HopByHop) answer
stream-stops before now after name s ms e answer on stops failed faults answers =
    stop-answer before after name (JudgesCapture HopByHop) (stream_answer name e) answer
    (not-streamed-on before now after name ms e (stops before.told name HopByHop ms on).0 failed faults) answers

-- the end of a stream is what is taken of its file
pub stream-taken :
    (before now after : Inputs) (name : List ℕ) (s : Streaming) (ms : List Marked)
    → StreamsOn before.told now.told name HopByHop s ms → EndsStream s now.told after.told
    → before.faults ≤ now.faults → before.missed ≤ now.missed → now.faults ≤ after.faults → now.missed ≤ after.missed
    → Judged before.told name (JudgesCapture HopByHop) (Ok ms) × Follows before after
stream-taken before now after name s ms on ends faults missed faults_stay missed_stay =
    let e = ends before.told name HopByHop ms on in (
      e.0,
      record { kept = e.2; faults = omega (arith, faults, faults_stay); missed = omega (arith, missed, missed_stay); at_end = e.1 },
    )

-- a capture that is refused, whatever kind of header marks are looked for in, ends the command
capture-refused :
    (told : Option Told) (name : List ℕ) (place : Place) (e : MarksRefusal)
    → OnFile told name (λ bytes. JudgesMarks place bytes (Err e)) → Judged told name (JudgesCapture place) (Err (marks_reason e))
capture-refused told name place e h =
    on-file-more told name (λ bytes. JudgesMarks place bytes (Err e)) (λ bytes. JudgesCapture place bytes (Err (marks_reason e)))
    (λ bytes x. (e, x, refl)) h

no-cells :
    (before after : Inputs) (d : DomainValue) (node : ℕ) (e : MeterError) → WhyNoCells d node before.told e
    → (e ≡ meter.File file.Missing → Rose before.missed after.missed)
    → (e ≡ meter.File file.ReadFault → Rose before.faults after.faults)
    → StopsHere before after (capture_of d node) (JudgesCapture d.kind) (stream_answer (capture_of d node) e)
no-cells before after d node (meter.File file.Missing) why missing failed = ((refl, why), missing refl)
no-cells before after d node (meter.File file.ReadFault) why missing failed = (refl, failed refl)
no-cells before after d node (meter.File file.TooLong) why missing failed = (refl, capture-refused before.told (capture_of d node) d.kind Long why)
no-cells before after d node (meter.File (file.Bad error)) why missing failed =
    (refl, capture-refused before.told (capture_of d node) d.kind (RefusedMarks error) why)
no-cells before after d node (meter.File file.Memory) why missing failed = tt
no-cells before after d node (meter.HeadersCut number) why missing failed =
    (refl, capture-refused before.told (capture_of d node) d.kind (CutMarks number) why)

-- why a node has no cells is a stop at its capture
pub no-cells-stops :
    (before after : Inputs) (d : DomainValue) (node : ℕ) (name : List ℕ) (e : MeterError) (answer : Answer)
    → name ≡ capture_of d node → WhyNoCells d node before.told e
    → (e ≡ meter.File file.Missing → Rose before.missed after.missed)
    → (e ≡ meter.File file.ReadFault → Rose before.faults after.faults)
    → IsAnswered (stream_answer name e) answer
    → StopsHere before after (capture_of d node) (JudgesCapture d.kind) answer
no-cells-stops before after d node name e answer same why missing failed is =
    stop-answer before after (capture_of d node) (JudgesCapture d.kind) (stream_answer (capture_of d node) e) answer
    (no-cells before after d node e why missing failed) (subst (λ n. IsAnswered (stream_answer n e) answer) same is)
