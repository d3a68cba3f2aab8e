-- What `audit` printed is the loss table of the captures, and so tells what the world drops that they record.
use Rattle.std.proofs.Common.{arith, refl, sym, ap, subst, ◌∙◌, ◌≡◌, ℕ, zero, suc, ◌<◌, List, [], ◌∷◌, ◌++◌, length, get_or, Option, Some, None, Ok, inl, inr, append_assoc}
use Rattle.std.specs.Io.KnownBytes.{append_known}
use Rattle.std.proofs.lemmas.List.{append-nil, ext_get_or}
use Rattle.am_base.specs.Shelves.{Told, OnTold}
use Rattle.am_base.specs.Files.{OnFile, KeepsFiles}
use Rattle.am_control.specs.Plans.{IsPlanOf}
use Rattle.am_control.specs.Rows.{Measured}
use Rattle.am_domain.specs.Domains.{DomainValue, IsLawful, Reports}
use Rattle.am_domain.specs.Values.{NodeValue, no_node}
use Rattle.am_meter.specs.MeteredFiles.{capture_of}
use Rattle.am_meter.specs.declared.stream.Marked.{Marked}
use Rattle.am_world.specs.Delays.{TellsDelays}
use Rattle.am_world.specs.Losses.{AreRecorded, IsCountedFrom, TellsDrops}
use Rattle.am_world.specs.declared.event.Event.{Event}
use Rattle.am_chain.specs.Answers.{Answer, status}
use Rattle.am_chain.specs.Answers.Ending.{Done, Missing, Refused}
use Rattle.am_chain.specs.Answers.Answer.{Ended, NoCommand, ReadFault, WriteFault, NoMemory}
use Rattle.am_chain.specs.Chains.{Inputs, Output, Judged, Performs, PrintsAll}
use Rattle.am_run.specs.Forms.{Command, chain_of}
use Rattle.am_run.specs.Forms.Kind.{Auditing}
use Rattle.am_run.specs.Headline.{TellsWorld, HaveCaptures, TellsEachWorld}
use Rattle.am_chain.specs.Inputs.{JudgesCapture, JudgesDomain}
use Rattle.am_run.specs.Laws.{Laws}
use Rattle.am_run.specs.Runs.{Obeys}
use Rattle.am_run.specs.commands.Audit.{IsLossTable, audit_from, audit_chain}
use Rattle.am_run.proofs.ChainLemmas.{on-file-kept}
use Rattle.am_run.proofs.FormLemmas.{says-once}
use Rattle.am_run.proofs.SettledLemmas.{both-judged}

-- what is known of worlds
pub record KnownWorlds : Type 0 where
  pub drops : (d : DomainValue) (m : Measured) (events : List Event) (captures : ℕ → List Marked) (flow block : ℕ)
      → IsLawful d → IsPlanOf d m.plan → IsCountedFrom d captures m → AreRecorded d events captures
      → flow < length d.flows → Reports d block → TellsDrops d m events flow block
  pub delays : (d : DomainValue) (m : Measured) (events : List Event) (captures : ℕ → List Marked) (flow block : ℕ)
      → IsLawful d → IsPlanOf d m.plan → IsCountedFrom d captures m → AreRecorded d events captures
      → flow < length d.flows → Reports d block → TellsDelays d m events flow block

-- a loss table of captures that record a world tells what it drops
table-tells :
    (d : DomainValue) (taken : List (List Marked)) (events : List Event) (text : List ℕ) → KnownWorlds → IsLawful d
    → AreRecorded d events (λ node. get_or taken node []) → IsLossTable d taken text → TellsWorld d events text
table-tells d taken events text known lawful recorded table =
    let m : Measured = record { plan = table.plan; cells = table.cells } in
    let counted : IsCountedFrom d (λ node. get_or taken node []) m = λ node h. (table.have.metered node h).metered in
    record {
      measured = m;
      printed = table.printed;
      drops = λ flow block low reports. known.drops d m events (λ node. get_or taken node []) flow block lawful table.planned counted recorded low reports;
      delays = λ flow block low reports. known.delays d m events (λ node. get_or taken node []) flow block lawful table.planned counted recorded low reports;
    }

-- the captures of these nodes were taken, beside those before, and the table of all was printed
record Took (t : Told) (d : DomainValue) (ns : List NodeValue) (done : List (List Marked)) (old new : Output) : Type 0 where
  more : List (List Marked)
  each : length more ≡ length ns
  marked : (k : ℕ) → k < length ns → OnFile (Some t) (get_or ns k no_node).capture (λ bytes. JudgesCapture d.kind bytes (Ok (get_or more k [])))
  printed : PrintsAll old new (IsLossTable d (done ++ more))

-- what holds of a file now holds of it at first
abbrev Holds : Told → Option Told → Type 1
Holds t now = (name : List ℕ) (P : List ℕ → Type 0) → OnFile now name P → OnFile (Some t) name P

-- the capture of the first node, and those of the others
first-and-others :
    (t : Told) (d : DomainValue) (n : NodeValue) (ns : List NodeValue) (ms : List Marked) (more : List (List Marked))
    → OnFile (Some t) n.capture (λ bytes. JudgesCapture d.kind bytes (Ok ms))
    → ((k : ℕ) → k < length ns → OnFile (Some t) (get_or ns k no_node).capture (λ bytes. JudgesCapture d.kind bytes (Ok (get_or more k []))))
    → (k : ℕ) → k < length (n ∷ ns) → OnFile (Some t) (get_or (n ∷ ns) k no_node).capture (λ bytes. JudgesCapture d.kind bytes (Ok (get_or (ms ∷ more) k [])))
first-and-others t d n ns ms more first others zero h = first
first-and-others t d n ns ms more first others (suc k) h = others k (omega (arith, h))

took-all :
    (t : Told) (d : DomainValue) (ns : List NodeValue) (done : List (List Marked)) (before after : Inputs) (old new : Output)
    → Holds t before.told → Performs before after old new (audit_from d ns done) (Ended Done) → Took t d ns done old new
took-all t d [] done before after old new holds p = record {
  more = [];
  each = refl;
  marked = λ k h. absurd (omega (arith, h));
  printed = subst (λ xs. PrintsAll old new (IsLossTable d xs)) (sym (append-nil done)) p.1.1;
}
took-all t d (n ∷ ns) done before after old new holds p =
    elim p [
      | inl stop ↦ absurd stop.0
      | inr go ↦
          let ms = go.0 in
          let behind = go.1 in
          let rest = took-all t d ns (done ++ ms ∷ []) behind after old new
          (λ name P h. holds name P (on-file-kept before.told behind.told name P go.3.kept h)) go.4 in
          record {
            more = ms ∷ rest.more;
            each = ap suc rest.each;
            marked = λ k h. first-and-others t d n ns ms rest.more (holds n.capture (λ bytes. JudgesCapture d.kind bytes (Ok ms)) go.2) rest.marked k h;
            printed = subst (λ xs. PrintsAll old new (IsLossTable d xs)) (append_assoc done (ms ∷ []) rest.more) rest.printed;
          }
    ]

-- the captures say one list of marked records each, so what was taken are these
taken-are :
    (t : Told) (d : DomainValue) (taken : List (List Marked)) (old new : Output) → Laws → HaveCaptures (Some t) d taken
    → (took : Took t d d.nodes [] old new) → took.more ≡ taken
taken-are t d taken old new laws have took =
    ext_get_or [] took.more taken (took.each ∙ sym have.each)
    (λ i h.
    let inside : i < length d.nodes = omega (arith, h, took.each) in
    both-judged t (capture_of d i) (JudgesCapture d.kind) (laws.one_marks d.kind) (get_or took.more i []) (get_or taken i []) (took.marked i inside) (have.marked i inside))

-- what `audit` prints where it is done
audited :
    (t : Told) (before after : Inputs) (old new : Output) (file : List ℕ) (d : DomainValue) (taken : List (List Marked)) (events : List Event)
    → before.told ≡ Some t → Laws → KnownWorlds → Judged (Some t) file JudgesDomain (Ok d) → HaveCaptures (Some t) d taken
    → AreRecorded d events (λ node. get_or taken node [])
    → Performs before after old new (audit_chain (record { file = file })) (Ended Done)
    → (text : List ℕ) × (new.written ≡ append_known old.written text) × TellsWorld d events text
audited t before after old new file d taken events told laws known domain have recorded p =
    elim p [
      | inl stop ↦ absurd stop.0
      | inr go ↦
          let behind = go.1 in
          let first : Judged (Some t) file JudgesDomain (Ok go.0) = subst (λ x. Judged x file JudgesDomain (Ok go.0)) told go.2 in
          let same : go.0 ≡ d = both-judged t file JudgesDomain laws.one_domain go.0 d first domain in
          let rest : Performs behind after old new (audit_from d d.nodes []) (Ended Done) =
          subst (λ (x : DomainValue). Performs behind after old new (audit_from x x.nodes []) (Ended Done)) same go.4 in
          let kept : KeepsFiles (Some t) behind.told = subst (λ x. KeepsFiles x behind.told) told go.3.kept in
          let took = took-all t d d.nodes [] behind after old new (λ name P h. on-file-kept (Some t) behind.told name P kept h) rest in
          let printed : PrintsAll old new (IsLossTable d taken) = subst (λ xs. PrintsAll old new (IsLossTable d xs)) (taken-are t d taken old new laws have took) took.printed in
          let lawful = laws.lawful domain.0 d domain.2 in
          (printed.0, printed.2, table-tells d taken events printed.0 known lawful recorded printed.1)
    ]

-- an answer of status 0 is that of a command that is done
done-tells :
    (t : Told) (before after : Inputs) (old new : Output) (file : List ℕ) (d : DomainValue) (taken : List (List Marked)) (events : List Event)
    → before.told ≡ Some t → Laws → KnownWorlds → Judged (Some t) file JudgesDomain (Ok d) → HaveCaptures (Some t) d taken
    → AreRecorded d events (λ node. get_or taken node [])
    → (answer : Answer) → status answer ≡ 0 → Performs before after old new (audit_chain (record { file = file })) answer
    → (text : List ℕ) × (new.written ≡ append_known old.written text) × TellsWorld d events text
done-tells t before after old new file d taken events told laws known domain have recorded (Ended Done) is p =
    audited t before after old new file d taken events told laws known domain have recorded p
done-tells t before after old new file d taken events told laws known domain have recorded (Ended (Missing name)) is p = absurd (omega (arith, is))
done-tells t before after old new file d taken events told laws known domain have recorded (Ended (Refused name reason)) is p = absurd (omega (arith, is))
done-tells t before after old new file d taken events told laws known domain have recorded NoCommand is p = absurd (omega (arith, is))
done-tells t before after old new file d taken events told laws known domain have recorded (ReadFault name) is p = absurd (omega (arith, is))
done-tells t before after old new file d taken events told laws known domain have recorded WriteFault is p = absurd (omega (arith, is))
done-tells t before after old new file d taken events told laws known domain have recorded NoMemory is p = absurd (omega (arith, is))

-- of a run: what it printed tells what each world drops that the captures record
pub tells-each :
    (words : List (List ℕ)) (told : Option Told) (faults missed : ℕ) (after : Inputs) (old new : Output) (answer : Answer) (result : ℕ)
    → Laws → KnownWorlds → Obeys words (record { told = told; faults = faults; missed = missed }) after old new answer → status answer ≡ result
    → OnTold told (λ t. TellsEachWorld words (Some t) old.written new.written result)
tells-each words None faults missed after old new answer result laws known h is = tt
tells-each words (Some t) faults missed after old new answer result laws known h is =
    λ d events zero_is a.
    let before : Inputs = record { told = Some t; faults = faults; missed = missed } in
    let command : Command = record { kind = Auditing; asked = record { file = a.file } } in
    elim h [
      | inl none ↦ absurd (none.none command a.says)
      | inr one ↦
          let p : Performs before after old new (chain_of command) answer =
          says-once (λ c. Performs before after old new (chain_of c) answer) words one.command command one.says a.says one.performs in
          done-tells t before after old new a.file d a.taken events refl laws known a.domain a.captures a.recorded answer (is ∙ zero_is) p
    ]
