-- What the parts of a command add that prints a capture record by record.
use Rattle.std.specs.Prelude.{◌≡◌, ◌≤◌, ◌⊎◌, ◌+◌, ℕ, List, [], ◌∷◌, ◌++◌, length, Option}
use Rattle.am_base.specs.Counts.{Rose}
use Rattle.am_base.specs.Sinks.{IsWrittenOf, WritesAll, WritesFront}
use Rattle.am_pcap.specs.Packets.{Packet}
use Rattle.am_pcap.specs.declared.head.Head.{Head}
use Rattle.am_chain.specs.Answers.{Answer, Reason}
use Rattle.am_chain.specs.Answers.Answer.{WriteFault}
use Rattle.am_chain.specs.Chains.{Output, Stream}

-- what is known of the records so far: the file header, and their packets
abbrev pub Known : Type 1
Known = Head → List Packet → Type 0

-- bytes grew by a piece of which this holds
abbrev pub Grows : List ℕ → List ℕ → (List ℕ → Type 0) → Type 0
Grows old new is = (piece : List ℕ) × (new ≡ old ++ piece) × is piece

-- behind whatever records are known, and their text: one more record with this number and packet is known, and its text is
-- that of this piece behind the other
abbrev pub AddsRecord : Stream → Known → Known → Head → ℕ → Packet → List ℕ → Type 0
AddsRecord stream known later h number p piece =
    (ps : List Packet) (text : List ℕ) → known h ps → number ≡ length ps + 1 → stream.text_of h ps text
    → later h (ps ++ p ∷ []) × stream.text_of h (ps ++ p ∷ []) (text ++ piece)

-- behind whatever records are known, the record of this number and packet is refused so
abbrev pub RefusesRecord : Stream → Known → Head → ℕ → Packet → Reason → Type 0
RefusesRecord stream known h number p reason = (ps : List Packet) → known h ps → number ≡ length ps + 1 → stream.refuses h ps p reason

-- behind whatever records are known to be all of a capture, and their text: this piece is the rest
abbrev pub AddsRest : Stream → Known → Head → List ℕ → Type 0
AddsRest stream known h piece =
    (ps : List Packet) (text : List ℕ) → known h ps → stream.text_of h ps text → stream.all_of h ps (text ++ piece)

-- whatever was handed in before, it was written as far as it is no longer held
abbrev pub MovesOn : Option (List ℕ) → List ℕ → Option (List ℕ) → List ℕ → Type 0
MovesOn old held new kept =
    (start : Option (List ℕ)) (text : List ℕ) → IsWrittenOf start old held text → IsWrittenOf start new kept text

-- all that was held was written, and the answer is the wanted one; or the output failed, and a front of it was
abbrev pub Flushes : Output → List ℕ → Output → Answer → Answer → Type 0
Flushes old held new wanted answer =
    ((answer ≡ wanted) × WritesAll old.written held new.written × (old.faults ≤ new.faults))
    ⊎ ((answer ≡ WriteFault) × WritesFront old.written held new.written × Rose old.faults new.faults)
