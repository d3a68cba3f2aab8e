-- What `mark` printed of a capture, `strip` turns back into that capture, under the same domain (RFC 9343, section 4).
use Rattle.std.specs.Prelude.{◌≡◌, ◌≤◌, ℕ, List, [], length, Some}
use Rattle.am_base.specs.Shelves.{Told}
use Rattle.am_base.specs.Files.{HasFile}
use Rattle.am_pcap.specs.declared.seeking.TheConstants.{MAX_READ}
use Rattle.am_domain.specs.Domains.{DomainValue}
use Rattle.am_insert.specs.Changes.{IsBytes}
use Rattle.am_chain.specs.Answers.{Ending, Answer}
use Rattle.am_chain.specs.Answers.Ending.{Done}
use Rattle.am_chain.specs.Answers.Answer.{Ended}
use Rattle.am_chain.specs.Chains.{Inputs, Output, inputs, Chain, StreamEnds, Performs}
use Rattle.am_chain.specs.WordForms.{DomainFile}
use Rattle.am_run.specs.commands.Mark.{marked_records, mark_chain}
use Rattle.am_run.specs.commands.Strip.{stripped_records, strip_chain}

-- under this domain `strip` turns the file of this name into these bytes: it is done, with them, and comes to nothing else
pub record StripsTo (d : DomainValue) (t : Told) (name bytes : List ℕ) : Type 0 where
  pub done : StreamEnds (Some t) name (stripped_records d) Done bytes
  pub only : (ending : Ending) (text : List ℕ) → StreamEnds (Some t) name (stripped_records d) ending text → (ending ≡ Done) × (text ≡ bytes)

-- a file that `mark` is done with, and what it printed of it, which has at most 2^40 bytes and is a file then, too: `strip`
-- turns that one into the first
abbrev pub StripUndoesMark : Type 0
StripUndoesMark =
    (d : DomainValue) (t u : Told) (name other file marked : List ℕ) → IsBytes file
    → HasFile (Some t) name file → StreamEnds (Some t) name (marked_records d) Done marked
    → length marked ≤ MAX_READ → HasFile (Some u) other marked → StripsTo d u other file

-- a command was performed over these files, with this answer, and this is what stands on its output, where nothing stood before
pub record LeavesText (t : Told) (chain : Chain) (answer : Answer) (text : List ℕ) : Type 0 where
  pub faults : ℕ
  pub missed : ℕ
  pub after : Inputs
  pub old : Output
  pub new : Output
  pub empty : old.written ≡ Some []
  pub performed : Performs (inputs (Some t) faults missed) after old new chain answer
  pub left : new.written ≡ Some text

-- a run of `mark` that was done, and left at most 2^40 bytes; and a run of `strip` with the same domain file over these bytes,
-- which was done or had an input missing or refused: it was done, and left the file that was marked
abbrev pub RunsUndo : Type 0
RunsUndo =
    (a b : DomainFile) (t u : Told) (domain file marked text : List ℕ) (ending : Ending) → IsBytes file
    → HasFile (Some t) a.domain domain → HasFile (Some t) a.file file → LeavesText t (mark_chain a) (Ended Done) marked
    → length marked ≤ MAX_READ
    → HasFile (Some u) b.domain domain → HasFile (Some u) b.file marked → LeavesText u (strip_chain b) (Ended ending) text
    → (ending ≡ Done) × (text ≡ file)
