-- A node's capture, put alone on a shelf, is read as what it records.
use Rattle.std.proofs.Common.{◌≡◌, ◌∙◌, ℕ, ◌+◌, ◌*◌, ◌≤◌, ◌<◌, List, [], ◌∷◌, length, get_or, refl, sym, ap, subst, arith, Some, None, Ok, Err}
use Rattle.std.proofs.lemmas.List.{get_or_default}
use Rattle.std.proofs.lemmas.Slice.Eq.{bytes_eq-Decides}
use Rattle.std.specs.Prelude.{String, Vec, string_bytes, ◌++◌}
use Rattle.std.specs.declared.alloc.Global.{Global}
use Rattle.am_base.specs.InMemory.{as_files}
use Rattle.am_base.specs.Shelves.{Told, file_named}
use Rattle.am_base.specs.Files.{OnFile}
use Rattle.am_cells.specs.CellTables.{CellTable}
use Rattle.am_domain.specs.Domains.{DomainValue}
use Rattle.am_domain.specs.Values.{NodeValue, no_node}
use Rattle.am_ip6.specs.declared.marks.Place.{Place}
use Rattle.am_meter.specs.Marks.{JudgesMarks, MarksRefusal}
use Rattle.am_meter.specs.Marks.MarksRefusal.{Long, BadCapture, HeadersCut as CutAt}
use Rattle.am_meter.specs.MeteredFiles.{AreCellsOf as AreFileCells, WhyNoCells, capture_of}
use Rattle.am_meter.specs.declared.stream.Marked.{Marked}
use Rattle.am_meter.specs.declared.stream.MeterError.{MeterError}
use Rattle.am_meter.specs.declared.stream.MeterError.TheVariants.{File as OfFile, HeadersCut}
use Rattle.am_pcap.specs.declared.capture.FileError.TheVariants.{Missing, ReadFault, TooLong, Bad, Memory}
use Rattle.am_world.specs.Captures.{IsRecordOf, node_capture}
use Rattle.am_world.specs.Passes.{Records}
use Rattle.am_world.specs.declared.event.Event.{Event}
use Rattle.am_sim.specs.Measuring.{HasNodeCells, IsWant}

-- the only file of a shelf
abbrev pub alone : List ℕ → List ℕ → Told
alone name bytes = record { files = (name, bytes) ∷ []; open_name = None; rest = [] }

-- the name of a node's capture
pub named-capture : (d : DomainValue) (node : ℕ) (nodes : List NodeValue) (at : NodeValue) (text name : List ℕ)
    → nodes ≡ d.nodes → node < length d.nodes → at ≡ get_or nodes node at → text ≡ at.capture → name ≡ text → name ≡ capture_of d node
named-capture d node nodes at text name all within here told same =
    let there = here ∙ get_or_default nodes node at no_node (omega (arith, within, ap length all)) in
    same ∙ told ∙ ap (λ (n : NodeValue). n.capture) there ∙ ap (λ ns. (get_or ns node no_node).capture) all

-- a shelf of one file
pub alone-told : (told : Told) (files old : List (String Global × Vec ℕ Global)) (name : String Global) (bytes : Vec ℕ Global)
    → told ≡ record { files = as_files files; open_name = None; rest = [] } → files ≡ old ++ (name, bytes) ∷ [] → old ≡ []
    → told ≡ alone (string_bytes name) bytes.items
alone-told told files old name bytes is more none =
    is ∙ ap (λ fs. record { files = as_files fs; open_name = None; rest = [] }) (more ∙ ap (λ fs. fs ++ (name, bytes) ∷ []) none)

found-alone : (name bytes : List ℕ) → file_named ((name, bytes) ∷ []) name ≡ Some bytes
found-alone name bytes = rw ((bytes_eq-Decides name name).1 refl) refl

-- bytes are read in one way
pub record OneMarks : Type 0 where
  pub one : (place : Place) (bytes : List ℕ) (ms ns : List Marked) → JudgesMarks place bytes (Ok ms) → JudgesMarks place bytes (Ok ns) → ms ≡ ns
  pub not_refused : (place : Place) (bytes : List ℕ) (ms : List Marked) (e : MarksRefusal)
      → JudgesMarks place bytes (Ok ms) → JudgesMarks place bytes (Err e) → ⊥

-- what the capture records are its marked records
pub judged : (d : DomainValue) (events : List Event) (node : ℕ) (bytes : List ℕ) → (of : IsRecordOf d events node bytes)
    → length events ≤ 18 * 1000000 → length bytes ≤ 24 + 64 * length events → JudgesMarks d.kind bytes (Ok of.marked)
judged d events node bytes of short long = record {
  head = of.head;
  packets = of.packets;
  capture = record { short = omega (arith, short, long); capture = of.capture };
  marked = of.uncut;
}

module _ (d : DomainValue) (events : List Event) (node : ℕ) (name bytes : List ℕ) (told : Told) (laws : OneMarks)
    (is : told ≡ alone name bytes) (named : name ≡ capture_of d node) (of : IsRecordOf d events node bytes)
    (short : length events ≤ 18 * 1000000) (long : length bytes ≤ 24 + 64 * length events) (are : bytes ≡ node_capture d events node) where
  there : file_named told.files (capture_of d node) ≡ Some bytes
  there = ap (λ (t : Told). file_named t.files (capture_of d node)) is
      ∙ ap (λ n. file_named ((name, bytes) ∷ []) n) (sym named) ∙ found-alone name bytes

  -- so the cells over the file are those of the node
  pub node-cells : (t : CellTable) → AreFileCells d node (Some told) t → HasNodeCells d events node t
  node-cells t cells =
      let file = cells.judged in
      let same : file.0 ≡ bytes = cc (file.1, there) in
      let reads : JudgesMarks d.kind bytes (Ok cells.marks) = subst (λ bs. JudgesMarks d.kind bs (Ok cells.marks)) same file.2 in
      let alike : of.marked ≡ cells.marks = laws.one d.kind bytes of.marked cells.marks (judged d events node bytes of short long) reads in
      record {
        marks = cells.marks;
        cells = record {
          judged = subst (λ bs. JudgesMarks d.kind bs (Ok cells.marks)) are reads;
          records = subst (λ ms. Records d events node ms) alike of.records;
          metered = cells.metered;
        };
      }

  -- and it isn't refused
  none-refused : (e : MarksRefusal) → OnFile (Some told) (capture_of d node) (λ bs. JudgesMarks d.kind bs (Err e)) → ⊥
  none-refused e file =
      let same : file.0 ≡ bytes = cc (file.1, there) in
      laws.not_refused d.kind bytes of.marked e (judged d events node bytes of short long) (subst (λ bs. JudgesMarks d.kind bs (Err e)) same file.2)

  pub never-refused : (e : MeterError) → WhyNoCells d node (Some told) e → IsWant e
  never-refused (OfFile Missing) why = absurd (cc (why, there))
  never-refused (OfFile ReadFault) why = tt
  never-refused (OfFile TooLong) why = none-refused Long why
  never-refused (OfFile (Bad e)) why = none-refused (BadCapture e) why
  never-refused (OfFile Memory) why = tt
  never-refused (HeadersCut number) why = none-refused (CutAt number) why
