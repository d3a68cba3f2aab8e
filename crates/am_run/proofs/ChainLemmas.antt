-- What a chain that was performed says of its inputs.
use Rattle.std.proofs.Common.{arith, refl, sym, ap, subst, ◌∙◌, ◌≡◌, ℕ, ◌≤◌, List, [], ◌++◌, length, Option, Some, None, Ok, Err, inl, inr}
use Rattle.std.specs.Prelude.{Result}
use Rattle.std.specs.Io.KnownBytes.{append_known}
use Rattle.std.proofs.Math.Seq.{take-length}
use Rattle.std.proofs.lemmas.List.{append-nil}
use Rattle.am_base.specs.Counts.{Rose}
use Rattle.am_base.specs.Shelves.{File, Told, OnTold, IsAbsent, file_named}
use Rattle.am_base.specs.Sinks.{AppendsFront}
use Rattle.am_base.specs.Files.{OnFile, KeepsFiles}
use Rattle.am_pcap.specs.Packets.{Packet}
use Rattle.am_pcap.specs.declared.head.Head.{Head}
use Rattle.am_pcap.specs.declared.refusal.CapError.{CapError}
use Rattle.am_chain.specs.Answers.{Reason, Ending, Answer}
use Rattle.am_chain.specs.Answers.Ending.{Done, Missing, Refused}
use Rattle.am_chain.specs.Answers.Answer.{Ended, NoCommand, ReadFault, WriteFault, NoMemory}
use Rattle.am_chain.specs.Chains.{Inputs, Output, Stream, Chain, Judged, EndsHere, Ends, Follows, StopsHere, Performs, IsTextOfFirst, IsTextBeforeBad, IsTextAtBad, IsTextBeforeRefused, IsTextOfSome, StreamRefuses, StreamEnds, StreamsSo, PrintsAll, PrintsFront, PrintsWhole, PrintsPieces}
use Rattle.am_chain.specs.Answers.{NamesFile}
use Rattle.am_chain.specs.Chains.Chain.{Reads, Refuses, Prints, Writes, Streams}

-- a fact of told files that a call kept
pub on-kept : (before after : Option Told) (P : List File → Type 0) → KeepsFiles before after → OnTold after (λ t. P t.files) → OnTold before (λ t. P t.files)
on-kept None after P kept h = tt
on-kept (Some t) None P kept h = absurd (cc kept)
on-kept (Some t) (Some u) P kept h = let same : u.files ≡ t.files = cc kept in subst P same h

pub on-file-kept :
    (before after : Option Told) (name : List ℕ) (P : List ℕ → Type 0) → KeepsFiles before after → OnFile after name P → OnFile before name P
on-file-kept before after name P kept h =
    on-kept before after (λ files. (bytes : List ℕ) × (file_named files name ≡ Some bytes) × P bytes) kept h

absent-kept : (before after : Option Told) (name : List ℕ) → KeepsFiles before after → IsAbsent after name → IsAbsent before name
absent-kept before after name kept h = on-kept before after (λ files. file_named files name ≡ None) kept h

ends-at-kept :
    {A : Type 0} (before after : Option Told) (name : List ℕ) (judge : List ℕ → Result A Reason → Type 0) (e : Ending)
    → KeepsFiles before after → EndsHere after name judge e → EndsHere before name judge e
ends-at-kept before after name judge Done kept h = h
ends-at-kept before after name judge (Missing missing) kept h = (h.0, absent-kept before after name kept h.1)
ends-at-kept before after name judge (Refused refused reason) kept h =
    (h.0, on-file-kept before after name (λ bytes. judge bytes (Err reason)) kept h.1)

first-kept :
    (before after : Option Told) (name : List ℕ) (stream : Stream) (text : List ℕ)
    → KeepsFiles before after → IsTextOfFirst after name stream text → IsTextOfFirst before name stream text
first-kept before after name stream text kept h =
    record { head = h.head; packets = h.packets; begins = on-file-kept before after name _ kept h.begins; printed = h.printed }

before-refused-kept :
    (before after : Option Told) (name : List ℕ) (stream : Stream) (reason : Reason) (text : List ℕ)
    → KeepsFiles before after → IsTextBeforeRefused after name stream reason text → IsTextBeforeRefused before name stream reason text
before-refused-kept before after name stream reason text kept h = record {
  head = h.head;
  packets = h.packets;
  packet = h.packet;
  begins = on-file-kept before after name _ kept h.begins;
  next = on-file-kept before after name _ kept h.next;
  refused = h.refused;
  printed = h.printed;
}

at-bad-kept :
    (before after : Option Told) (name : List ℕ) (stream : Stream) (error : CapError) (text : List ℕ)
    → KeepsFiles before after → IsTextAtBad after name stream error text → IsTextAtBad before name stream error text
at-bad-kept before after name stream error text kept h =
    elim h [
      | inl x ↦ inl (on-file-kept before after name _ kept x.0, x.1)
      | inr x ↦ inr (record { head = x.head; packets = x.packets; refused = on-file-kept before after name _ kept x.refused; printed = x.printed })
    ]

refuses-kept :
    (before after : Option Told) (name : List ℕ) (stream : Stream) (reason : Reason) (text : List ℕ)
    → KeepsFiles before after → StreamRefuses after name stream reason text → StreamRefuses before name stream reason text
refuses-kept before after name stream reason text kept h =
    elim h [
      | inl x ↦ inl (x.0, on-file-kept before after name _ kept x.1, first-kept before after name stream text kept x.2)
      | inr y ↦ elim y [
        | inl x ↦ inr (inl (x.0, x.1, at-bad-kept before after name stream x.0 text kept x.2))
        | inr x ↦ inr (inr (before-refused-kept before after name stream reason text kept x))
      ]
    ]

pub stream-ends-kept :
    (before after : Option Told) (name : List ℕ) (stream : Stream) (e : Ending) (text : List ℕ)
    → KeepsFiles before after → StreamEnds after name stream e text → StreamEnds before name stream e text
stream-ends-kept before after name stream Done text kept h =
    record { head = h.head; packets = h.packets; whole = on-file-kept before after name _ kept h.whole; printed = h.printed }
stream-ends-kept before after name stream (Missing missing) text kept h = (h.0, absent-kept before after name kept h.1, h.2)
stream-ends-kept before after name stream (Refused refused reason) text kept h =
    (h.0, refuses-kept before after name stream reason text kept h.1)

-- what the inputs come to depends on the files alone
ends-kept :
    (before after : Option Told) (c : Chain) (e : Ending) → KeepsFiles before after → Ends after c e → Ends before c e
ends-kept before after (Reads A name judge next) e kept h =
    elim h [
      | inl x ↦ inl (ends-at-kept before after name judge e kept x)
      | inr x ↦ inr (x.0, on-file-kept before after name (λ bytes. judge bytes (Ok x.0)) kept x.1, ends-kept before after (next x.0) e kept x.2)
    ]
ends-kept before after (Refuses name reason) e kept h = h
ends-kept before after (Prints is) e kept h = h
ends-kept before after (Writes last is) e kept h = h
ends-kept before after (Streams name stream) e kept h = (h.0, stream-ends-kept before after name stream e h.0 kept h.1)

-- a count that rose later rose
rose-later : (a b c : ℕ) → a ≤ b → Rose b c → Rose a c
rose-later a b c le rose = grind arith

-- what an answer says: what the inputs come to, or a count that rose
abbrev pub Comes : Inputs → Inputs → Output → Output → Chain → Answer → Type 0
Comes before after old new c (Ended e) = Ends before.told c e
Comes before after old new c NoCommand = ⊥
Comes before after old new c (ReadFault name) = Rose before.faults after.faults
Comes before after old new c WriteFault = Rose old.faults new.faults
Comes before after old new c NoMemory = Unit {0}

stop-comes :
    {A : Type 0} (before after : Inputs) (old new : Output) (name : List ℕ) (judge : List ℕ → Result A Reason → Type 0) (next : A → Chain) (answer : Answer)
    → StopsHere before after name judge answer → Comes before after old new (Reads A name judge next) answer
stop-comes before after old new name judge next (Ended Done) h = absurd h
stop-comes before after old new name judge next (Ended (Missing missing)) h = inl h.0
stop-comes before after old new name judge next (Ended (Refused refused reason)) h = inl h
stop-comes before after old new name judge next NoCommand h = h
stop-comes before after old new name judge next (ReadFault failed) h = h.1
stop-comes before after old new name judge next WriteFault h = absurd h
stop-comes before after old new name judge next NoMemory h = tt

later-comes :
    {A : Type 0} (before behind after : Inputs) (old new : Output) (name : List ℕ) (judge : List ℕ → Result A Reason → Type 0) (next : A → Chain) (a : A) (answer : Answer)
    → Judged before.told name judge (Ok a) → Follows before behind → Comes behind after old new (next a) answer
    → Comes before after old new (Reads A name judge next) answer
later-comes before behind after old new name judge next a (Ended e) judged follows h =
    inr (a, judged, ends-kept before.told behind.told (next a) e follows.kept h)
later-comes before behind after old new name judge next a NoCommand judged follows h = h
later-comes before behind after old new name judge next a (ReadFault failed) judged follows h =
    rose-later before.faults behind.faults after.faults follows.faults h
later-comes before behind after old new name judge next a WriteFault judged follows h = h
later-comes before behind after old new name judge next a NoMemory judged follows h = tt

whole-comes :
    (before after : Inputs) (old new : Output) (is : List ℕ → Type 0) (answer : Answer) → PrintsWhole old new is answer
    → Comes before after old new (Prints is) answer
whole-comes before after old new is (Ended e) h = h.0
whole-comes before after old new is NoCommand h = h
whole-comes before after old new is (ReadFault name) h = absurd h
whole-comes before after old new is WriteFault h = h.0
whole-comes before after old new is NoMemory h = tt

pieces-come :
    (before after : Inputs) (old new : Output) (last : Ending) (is : List ℕ → Type 0) (answer : Answer) → PrintsPieces old new last is answer
    → Comes before after old new (Writes last is) answer
pieces-come before after old new last is (Ended e) h = h.0
pieces-come before after old new last is NoCommand h = h
pieces-come before after old new last is (ReadFault name) h = absurd h
pieces-come before after old new last is WriteFault h = h.0
pieces-come before after old new last is NoMemory h = tt

stream-comes :
    (before after : Inputs) (old new : Output) (name : List ℕ) (stream : Stream) (answer : Answer) → StreamsSo before after old new name stream answer
    → Comes before after old new (Streams name stream) answer
stream-comes before after old new name stream (Ended Done) h = (h.1.0, h.1.1)
stream-comes before after old new name stream (Ended (Missing missing)) h = (h.1.0, h.1.1)
stream-comes before after old new name stream (Ended (Refused refused reason)) h = (h.0, h.1)
stream-comes before after old new name stream NoCommand h = h
stream-comes before after old new name stream (ReadFault failed) h = h.1
stream-comes before after old new name stream WriteFault h = h.0
stream-comes before after old new name stream NoMemory h = tt

-- an answer of a chain that was performed shows what its inputs come to, or a count that rose
pub comes :
    (before after : Inputs) (old new : Output) (c : Chain) (answer : Answer) → Performs before after old new c answer
    → Comes before after old new c answer
comes before after old new (Reads A name judge next) answer h =
    elim h [
      | inl x ↦ stop-comes before after old new name judge next answer x.0
      | inr x ↦ later-comes before x.1 after old new name judge next x.0 answer x.2 x.3 (comes x.1 after old new (next x.0) answer x.4)
    ]
comes before after old new (Refuses name reason) answer h =
    elim h.0 [
      | inl e ↦ subst (λ a. Comes before after old new (Refuses name reason) a) (sym e) refl
      | inr e ↦ subst (λ a. Comes before after old new (Refuses name reason) a) (sym e) tt
    ]
comes before after old new (Prints is) answer h = whole-comes before after old new is answer h.1
comes before after old new (Writes last is) answer h = pieces-come before after old new last is answer h.1
comes before after old new (Streams name stream) answer h = stream-comes before after old new name stream answer h

-- what was appended is a front of itself
whole-front : (old new : Option (List ℕ)) (text : List ℕ) → new ≡ append_known old text → AppendsFront old new text
whole-front old new text h = (length text, omega arith, h ∙ ap (λ x. append_known old x) (sym (take-length text)))

pub nothing : (w : Option (List ℕ)) → w ≡ append_known w []
nothing None = refl
nothing (Some xs) = ap Some (sym (append-nil xs))

-- nothing was printed, so a front was
front-of-none : (old new : Output) (P : List ℕ → Type 0) → P [] → new.written ≡ old.written → PrintsFront old new P
front-of-none old new P p h = ([], p, whole-front old.written new.written [] (h ∙ nothing old.written))

all-front : (old new : Output) (P Q : List ℕ → Type 0) → ((text : List ℕ) → P text → Q text) → PrintsAll old new P → PrintsFront old new Q
all-front old new P Q f h = (h.0, f h.0 h.1, whole-front old.written new.written h.0 h.2)

behind-begins :
    (told : Option Told) (name : List ℕ) (stream : Stream) (error : CapError) (text : List ℕ) → IsTextBeforeBad told name stream error text
    → IsTextOfFirst told name stream text
behind-begins None name stream error text h = record { head = h.head; packets = h.packets; begins = tt; printed = h.printed }
behind-begins (Some t) name stream error text h =
    record { head = h.head; packets = h.packets; begins = (h.refused.0, h.refused.1, h.refused.2.begins); printed = h.printed }

refusal-front :
    (told : Option Told) (name : List ℕ) (stream : Stream) (reason : Reason) (text : List ℕ) → StreamRefuses told name stream reason text
    → IsTextOfSome told name stream text
refusal-front told name stream reason text h =
    elim h [
      | inl x ↦ inr (inl x.2)
      | inr y ↦ elim y [
        | inl x ↦ elim x.2 [ inl z ↦ inl z.1 | inr z ↦ inr (inl (behind-begins told name stream x.0 text z)) ]
        | inr x ↦ inr (inl (record { head = x.head; packets = x.packets; begins = x.begins; printed = x.printed }))
      ]
    ]

stream-forgets :
    (before after : Inputs) (old new : Output) (name : List ℕ) (stream : Stream) (answer : Answer) → NamesFile answer
    → StreamsSo before after old new name stream answer → StreamsSo before after old new name stream NoMemory
stream-forgets before after old new name stream (Ended Done) n h = absurd n
stream-forgets before after old new name stream (Ended (Missing missing)) n h =
    all-front old new (StreamEnds before.told name stream (Missing missing)) (IsTextOfSome before.told name stream) (λ text x. inl x.2) h.1
stream-forgets before after old new name stream (Ended (Refused refused reason)) n h =
    all-front old new (StreamEnds before.told name stream (Refused refused reason)) (IsTextOfSome before.told name stream)
    (λ text x. refusal-front before.told name stream reason text x.1) h
stream-forgets before after old new name stream NoCommand n h = absurd n
stream-forgets before after old new name stream (ReadFault failed) n h =
    elim h.2 [
      | inl x ↦ front-of-none old new (IsTextOfSome before.told name stream) (inl refl) x.1
      | inr x ↦ all-front old new (stream.text_of x.head x.packets) (IsTextOfSome before.told name stream)
          (λ text y. inr (inl (record { head = x.head; packets = x.packets; begins = x.begins; printed = y }))) x.printed
    ]
stream-forgets before after old new name stream WriteFault n h = absurd n
stream-forgets before after old new name stream NoMemory n h = absurd n

whole-forgets :
    (old new : Output) (is : List ℕ → Type 0) (answer : Answer) → NamesFile answer → PrintsWhole old new is answer → PrintsWhole old new is NoMemory
whole-forgets old new is (Ended Done) n h = absurd n
whole-forgets old new is (Ended (Missing name)) n h = absurd (cc (h.0))
whole-forgets old new is (Ended (Refused name reason)) n h = absurd (cc (h.0))
whole-forgets old new is NoCommand n h = absurd n
whole-forgets old new is (ReadFault name) n h = absurd h
whole-forgets old new is WriteFault n h = absurd n
whole-forgets old new is NoMemory n h = absurd n

pieces-forget :
    (old new : Output) (last : Ending) (is : List ℕ → Type 0) (answer : Answer) → NamesFile answer → PrintsPieces old new last is answer
    → PrintsPieces old new last is NoMemory
pieces-forget old new last is (Ended e) n h = all-front old new is is (λ text x. x) h.1
pieces-forget old new last is NoCommand n h = absurd n
pieces-forget old new last is (ReadFault name) n h = absurd h
pieces-forget old new last is WriteFault n h = absurd n
pieces-forget old new last is NoMemory n h = absurd n

-- what a stop that names a file leaves, want of memory may leave
pub forgets :
    (before after : Inputs) (old new : Output) (c : Chain) (answer : Answer) → NamesFile answer → Performs before after old new c answer
    → Performs before after old new c NoMemory
forgets before after old new (Reads A name judge next) answer n h =
    elim h [
      | inl x ↦ inl (tt, x.1)
      | inr x ↦ inr (x.0, x.1, x.2, x.3, forgets x.1 after old new (next x.0) answer n x.4)
    ]
forgets before after old new (Refuses name reason) answer n h = (inr refl, h.1)
forgets before after old new (Prints is) answer n h = (h.0, whole-forgets old new is answer n h.1)
forgets before after old new (Writes last is) answer n h = (h.0, pieces-forget old new last is answer n h.1)
forgets before after old new (Streams name stream) answer n h = stream-forgets before after old new name stream answer n h

-- nothing stands behind the text of all records
pub all-behind :
    (stream : Stream) (h : Head) (ps : List Packet) (text : List ℕ)
    → stream.all_of h ps text → stream.all_of h ps (text ++ [])
all-behind stream h ps text is = subst (λ t. stream.all_of h ps t) (sym (append-nil text)) is
