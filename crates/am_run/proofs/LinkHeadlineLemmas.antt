-- What `link` printed is the table of its captures, and so tells what the world drops between its points that they record.
use Rattle.std.proofs.Common.{arith, refl, sym, ap, subst, ◌∙◌, ◌≡◌, ℕ, ◌+◌, ◌<◌, List, [], length, get_or, Option, Some, None, Ok, inl, inr}
use Rattle.std.specs.Prelude.{slice_index_or}
use Rattle.std.proofs.lemmas.Int.{ints}
use Rattle.am_base.specs.Shelves.{Told, OnTold}
use Rattle.am_base.specs.Files.{KeepsFiles}
use Rattle.am_clock.specs.Times.{Times, IsTiming, times_of}
use Rattle.am_domain.specs.Domains.{DomainValue}
use Rattle.am_domain.specs.Values.{FlowValue}
use Rattle.am_graph.specs.Graphs.{start_of, end_of}
use Rattle.am_ip6.specs.declared.marks.Place.TheVariants.{HopByHop}
use Rattle.am_meter.specs.Metering.{node_shift}
use Rattle.am_meter.specs.declared.stream.Marked.{Marked}
use Rattle.am_world.specs.LinkLosses.{StandsAlone, CoverEnds, RecordEnds, dropped_on, counted_at, TellsLink}
use Rattle.am_world.specs.Passes.{sends}
use Rattle.am_world.specs.declared.event.Event.{Event}
use Rattle.am_chain.specs.Answers.{Answer, status}
use Rattle.am_chain.specs.Answers.Ending.{Done, Missing, Refused}
use Rattle.am_chain.specs.Answers.Answer.{Ended, NoCommand, ReadFault, WriteFault, NoMemory}
use Rattle.am_chain.specs.Chains.{Inputs, Output, Judged, Performs, PrintsAll}
use Rattle.am_run.specs.Forms.{Command, chain_of}
use Rattle.am_run.specs.Forms.Kind.{Linking}
use Rattle.am_chain.specs.Inputs.{JudgesCapture}
use Rattle.am_run.specs.Laws.{Laws}
use Rattle.am_run.specs.LinkHeadline.{TellsDropped, AsksOf, TellsEachLink}
use Rattle.am_run.specs.Runs.{Obeys}
use Rattle.am_chain.specs.Tables.{Row, count_in}
use Rattle.am_run.specs.commands.Link.{Link, IsLinkTable, link_times, link_chain}
use Rattle.am_run.proofs.ChainLemmas.{on-file-kept}
use Rattle.am_run.proofs.FormLemmas.{says-once}
use Rattle.am_run.proofs.SettledLemmas.{both-judged}

-- what is known of two captures at the ends of a link
abbrev pub KnownLinks : Type 0
KnownLinks =
    (d : DomainValue) (events : List Event) (link : ℕ) (ups downs : List Marked) (flow block : ℕ)
    → IsTiming d.times → StandsAlone d.links link → RecordEnds d events link ups downs
    → flow < length d.flows → CoverEnds d link block → TellsLink d events link ups downs flow block

-- this stands for a flow that there isn't
no_flow : FlowValue
no_flow = record { name = []; id = 0; source = record { bytes = []; length = 0 }; destination = record { bytes = []; length = 0 } }

-- what counts depends on the length of the blocks, and on no other number of a timing
counts-by-block :
    (t u : Times) (flow shift : ℕ) (ms : List Marked) (block : ℕ) → t.block ≡ u.block
    → count_in t flow shift ms block ≡ count_in u flow shift ms block
counts-by-block t u flow shift ms block same =
    subst (λ n. count_in t flow shift ms block ≡ count_in (times_of n u.skew u.delay_min u.delay_max) flow shift ms block) same refl

module _ (d : DomainValue) (events : List Event) (link flow : ℕ) (l : Link) (ups downs : List Marked)
    (known : KnownLinks) (timing : IsTiming d.times) (asks : AsksOf d link flow l) (alone : StandsAlone d.links link)
    (recorded : RecordEnds d events link ups downs) where
  -- what the command counts at a point of this shift is what the domain has there
  point-counts : (node shift : ℕ) (ms : List Marked) (block : ℕ) → node_shift d node ≡ shift
      → count_in (link_times l) l.flow shift ms block ≡ counted_at d node flow no_flow block ms
  point-counts node shift ms block same =
      counts-by-block (link_times l) d.times l.flow shift ms block asks.block
      ∙ ap (λ n. count_in d.times n shift ms block) (asks.flow_id no_flow)
      ∙ ap (λ z. count_in d.times (slice_index_or d.flows flow no_flow).id z ms block) (sym same)

  -- of a covered block, what entered left or was dropped
  block-lost : (block : ℕ) → CoverEnds d link block
      → count_in (link_times l) l.flow 0 ups block
      ≡ count_in (link_times l) l.flow l.shift downs block + dropped_on d.links link (sends d.times flow block) events
  block-lost block covered =
      let told = known d events link ups downs flow block timing alone recorded asks.flow_within covered in
      let entered = point-counts (start_of d.links link) 0 ups block asks.first in
      let left = point-counts (end_of d.links link) l.shift downs block asks.second in
      omega (arith, told.lost no_flow, entered, left)

  -- so the table tells what was dropped
  pub link-table-tells : (text : List ℕ) → IsLinkTable l ups downs text → TellsDropped d events link flow text
  link-table-tells text t = record {
    rows = t.rows;
    printed = t.printed;
    ascending = t.table.ascending;
    lost = λ k z h covered.
        let r : Row = get_or t.rows k z in
        let entered : r.entered ≡ count_in (link_times l) l.flow 0 ups r.block = t.table.entered k z h in
        let left : r.left ≡ count_in (link_times l) l.flow l.shift downs r.block = t.table.left k z h in
        let lost = block-lost r.block covered in
        omega (arith, ints, entered, left, lost);
    every = λ block covered some.
        let lost = block-lost block covered in
        t.table.every block (omega (arith, lost, some));
  }

-- where `link` is done, the table of its captures was printed
took-both :
    (t : Told) (before after : Inputs) (old new : Output) (l : Link) (ups downs : List Marked)
    → before.told ≡ Some t → Laws → Judged (Some t) l.up (JudgesCapture HopByHop) (Ok ups)
    → Judged (Some t) l.down (JudgesCapture HopByHop) (Ok downs)
    → Performs before after old new (link_chain l) (Ended Done) → PrintsAll old new (IsLinkTable l ups downs)
took-both t before after old new l ups downs told laws up down p =
    elim p [
      | inl stop ↦ absurd stop.0
      | inr go ↦
          let behind = go.1 in
          let first : Judged (Some t) l.up (JudgesCapture HopByHop) (Ok go.0) = subst (λ x. Judged x l.up (JudgesCapture HopByHop) (Ok go.0)) told go.2 in
          let ups-are : go.0 ≡ ups = both-judged t l.up (JudgesCapture HopByHop) (laws.one_marks HopByHop) go.0 ups first up in
          let kept : KeepsFiles (Some t) behind.told = subst (λ x. KeepsFiles x behind.told) told go.3.kept in
          elim go.4 [
            | inl stop ↦ absurd stop.0
            | inr on ↦
                let second : Judged (Some t) l.down (JudgesCapture HopByHop) (Ok on.0) = on-file-kept (Some t) behind.told l.down (λ bytes. JudgesCapture HopByHop bytes (Ok on.0)) kept on.2 in
                let downs-are : on.0 ≡ downs = both-judged t l.down (JudgesCapture HopByHop) (laws.one_marks HopByHop) on.0 downs second down in
                let printed : PrintsAll old new (IsLinkTable l go.0 on.0) = on.4.1.1 in
                let of-ups : PrintsAll old new (IsLinkTable l ups on.0) = subst (λ xs. PrintsAll old new (IsLinkTable l xs on.0)) ups-are printed in
                subst (λ xs. PrintsAll old new (IsLinkTable l ups xs)) downs-are of-ups
          ]
    ]

-- an answer of status 0 is that of a command that is done
link-done :
    (before after : Inputs) (old new : Output) (l : Link) (answer : Answer) → status answer ≡ 0
    → Performs before after old new (link_chain l) answer → Performs before after old new (link_chain l) (Ended Done)
link-done before after old new l (Ended Done) is p = p
link-done before after old new l (Ended (Missing name)) is p = absurd (omega (arith, is))
link-done before after old new l (Ended (Refused name reason)) is p = absurd (omega (arith, is))
link-done before after old new l NoCommand is p = absurd (omega (arith, is))
link-done before after old new l (ReadFault name) is p = absurd (omega (arith, is))
link-done before after old new l WriteFault is p = absurd (omega (arith, is))
link-done before after old new l NoMemory is p = absurd (omega (arith, is))

-- of a run: what it printed tells what each world drops between the points that the captures record
pub tells-each-link :
    (words : List (List ℕ)) (told : Option Told) (faults missed : ℕ) (after : Inputs) (old new : Output) (answer : Answer) (result : ℕ)
    → Laws → KnownLinks → Obeys words (record { told = told; faults = faults; missed = missed }) after old new answer → status answer ≡ result
    → OnTold told (λ t. TellsEachLink words (Some t) old.written new.written result)
tells-each-link words None faults missed after old new answer result laws known h is = tt
tells-each-link words (Some t) faults missed after old new answer result laws known h is =
    λ d events link flow zero_is a.
    let before : Inputs = record { told = Some t; faults = faults; missed = missed } in
    let command : Command = record { kind = Linking; asked = a.asked } in
    elim h [
      | inl none ↦ absurd (none.none command a.says)
      | inr one ↦
          let p : Performs before after old new (chain_of command) answer =
          says-once (λ c. Performs before after old new (chain_of c) answer) words one.command command one.says a.says one.performs in
          let done = link-done before after old new a.asked answer (is ∙ zero_is) p in
          let printed = took-both t before after old new a.asked a.ups a.downs refl laws a.up a.down done in (
            printed.0,
            printed.2,
            link-table-tells d events link flow a.asked a.ups a.downs known a.timing a.asks a.alone a.recorded printed.0 printed.1,
          )
    ]
