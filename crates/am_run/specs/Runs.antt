-- What a run of the program does: the words are a command and its chain is performed, or they are none.
use Rattle.std.specs.Prelude.{◌≡◌, ◌⊎◌, ℕ, List, Option}
use Rattle.std.specs.Io.KnownBytes.{append_known}
use Rattle.am_base.specs.Counts.{Rose}
use Rattle.am_base.specs.Shelves.{Told}
use Rattle.am_base.specs.Sinks.{AppendsFront}
use Rattle.am_chain.specs.Answers.{Ending, Answer, NamesFile, ending_status, line}
use Rattle.am_chain.specs.Answers.{status as status_of}
use Rattle.am_chain.specs.Answers.Answer.{NoCommand, NoMemory}
use Rattle.am_chain.specs.Chains.{Inputs, Output, Ends, Performs}
use Rattle.am_run.specs.Forms.{Command, SaysCommand, IsNoCommand, chain_of}

-- the words are no command, and nothing was printed
pub record ObeysNone (words : List (List ℕ)) (old new : Output) (answer : Answer) : Type 0 where
  pub none : IsNoCommand words
  pub answer_is : answer ≡ NoCommand
  pub unprinted : new.written ≡ old.written

-- the words are a command, and its chain was performed with this answer
pub record ObeysOne (words : List (List ℕ)) (before after : Inputs) (old new : Output) (answer : Answer) : Type 0 where
  pub command : Command
  pub says : SaysCommand words command
  pub performs : Performs before after old new (chain_of command) answer

-- the words were obeyed
abbrev pub Obeys : List (List ℕ) → Inputs → Inputs → Output → Output → Answer → Type 0
Obeys words before after old new answer = ObeysNone words old new answer ⊎ ObeysOne words before after old new answer

-- this line was written, or a front of it where the sink failed
abbrev pub TellsLine : Output → Output → List ℕ → Type 0
TellsLine old new said = (new.written ≡ append_known old.written said) ⊎ (AppendsFront old.written new.written said × Rose old.faults new.faults)

-- a status that a fault or want of memory gives
abbrev pub IsFault : ℕ → Type 0
IsFault status = (status ≡ 5) ⊎ (status ≡ 6) ⊎ (status ≡ 7)

-- whatever the inputs of the command come to: the status is that of this ending, or of a fault
abbrev pub IsDecided : List (List ℕ) → Option Told → ℕ → Type 0
IsDecided words told status =
    (c : Command) (ending : Ending) → SaysCommand words c → Ends told (chain_of c) ending → (status ≡ ending_status ending) ⊎ IsFault status

-- the inputs come to an ending of this status
abbrev pub EndsWith : Option Told → Command → ℕ → Type 0
EndsWith told c status = (ending : Ending) × Ends told (chain_of c) ending × (status ≡ ending_status ending)

-- where nothing failed, the inputs of the command come to an ending of this status, or memory ran out
abbrev pub Completes : List (List ℕ) → Option Told → Type 0 → ℕ → Type 0
Completes words told failed status = (c : Command) → SaysCommand words c → (failed → ⊥) → EndsWith told c status ⊎ (status ≡ 7)

-- the answer of a run, which has this status
pub record Answers (words : List (List ℕ)) (before after : Inputs) (out_old out_new err_old err_new : Output) (result : ℕ) : Type 0 where
  pub answer : Answer
  pub status_is : status_of answer ≡ result
  pub obeys : Obeys words before after out_old out_new answer
  pub tells : TellsLine err_old err_new (line answer)

-- a stop is told as itself, or, where it names a file, as want of memory
pub record IsToldAs (old new : Output) (stop : Answer) (result : ℕ) : Type 0 where
  pub answer : Answer
  pub status_is : status_of answer ≡ result
  pub same : (answer ≡ stop) ⊎ (NamesFile stop × (answer ≡ NoMemory))
  pub tells : TellsLine old new (line answer)
