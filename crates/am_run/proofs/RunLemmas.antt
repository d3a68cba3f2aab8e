-- What a run answers: two exactly where the words are no command; the status of what the inputs come to.
use Rattle.std.proofs.Common.{arith, refl, sym, ap, subst, ◌∙◌, ◌≡◌, ℕ, List, Option, Some, None, inl, inr}
use Rattle.std.specs.Prelude.{◌⊎◌}
use Rattle.am_base.specs.Counts.{Rose}
use Rattle.am_base.specs.Shelves.{Told, OnTold}
use Rattle.am_chain.specs.Answers.{Ending, Answer, ending_status, status}
use Rattle.am_chain.specs.Answers.Ending.{Done, Missing, Refused}
use Rattle.am_chain.specs.Answers.Answer.{Ended, NoCommand, ReadFault, WriteFault, NoMemory}
use Rattle.am_chain.specs.Chains.{Inputs, Output, Ends, Performs}
use Rattle.am_run.specs.Forms.{Command, SaysCommand, IsNoCommand, chain_of}
use Rattle.am_run.specs.Laws.{Laws}
use Rattle.am_run.specs.Runs.{Obeys, IsDecided, Completes}
use Rattle.am_chain.specs.Answers.{NamesFile}
use Rattle.am_run.proofs.ChainLemmas.{comes, forgets}
use Rattle.am_run.proofs.FormLemmas.{says-once}
use Rattle.am_run.proofs.SettledLemmas.{settled}

-- a status that isn't 2
named-two : (e : Ending) → ending_status e ≡ 2 → ⊥
named-two Done h = omega (arith, h)
named-two (Missing name) h = omega (arith, h)
named-two (Refused name reason) h = omega (arith, h)

performed-two :
    (before after : Inputs) (old new : Output) (c : Command) (answer : Answer) → Performs before after old new (chain_of c) answer → status answer ≡ 2 → ⊥
performed-two before after old new c (Ended e) p h = named-two e h
performed-two before after old new c NoCommand p h = comes before after old new (chain_of c) NoCommand p
performed-two before after old new c (ReadFault name) p h = omega (arith, h)
performed-two before after old new c WriteFault p h = omega (arith, h)
performed-two before after old new c NoMemory p h = omega (arith, h)

-- two exactly where the words are no command
pub two-exactly :
    (words : List (List ℕ)) (before after : Inputs) (old new : Output) (answer : Answer) (result : ℕ)
    → Obeys words before after old new answer → status answer ≡ result
    → (result ≡ 2 → IsNoCommand words) × (IsNoCommand words → result ≡ 2)
two-exactly words before after old new answer result h is =
    elim h [
      | inl none ↦ (λ two. none.none, λ unsaid. sym is ∙ ap status none.answer_is)
      | inr one ↦ (
        λ two. absurd (performed-two before after old new one.command answer one.performs (is ∙ two)),
        λ unsaid. absurd (unsaid one.command one.says),
      )
    ]

-- a stop that names a file is obeyed as want of memory too
obeyed-forgets :
    (words : List (List ℕ)) (before after : Inputs) (old new : Output) (answer : Answer) → NamesFile answer
    → Obeys words before after old new answer → Obeys words before after old new NoMemory
obeyed-forgets words before after old new answer n h =
    elim h [
      | inl none ↦ absurd (subst NamesFile none.answer_is n)
      | inr one ↦ inr (record { command = one.command; says = one.says; performs = forgets before after old new (chain_of one.command) answer n one.performs })
    ]

-- what is told of a stop was obeyed
pub told-obeyed :
    (words : List (List ℕ)) (before after : Inputs) (old new : Output) (stop answer : Answer)
    → (answer ≡ stop) ⊎ (NamesFile stop × (answer ≡ NoMemory))
    → Obeys words before after old new stop → Obeys words before after old new answer
told-obeyed words before after old new stop answer same h =
    elim same [
      | inl e ↦ subst (λ a. Obeys words before after old new a) (sym e) h
      | inr e ↦ subst (λ a. Obeys words before after old new a) (sym e.1) (obeyed-forgets words before after old new stop e.0 h)
    ]

-- the status of an ending, where the inputs come to another
decided-ended :
    (t : Told) (words : List (List ℕ)) (c d : Command) (e f : Ending) → Laws → SaysCommand words c → SaysCommand words d
    → Ends (Some t) (chain_of c) e → Ends (Some t) (chain_of d) f → ending_status e ≡ ending_status f
decided-ended t words c d e f laws s u p q =
    let there : Ends (Some t) (chain_of d) e = says-once (λ x. Ends (Some t) (chain_of x) e) words c d s u p in
    (settled t d.kind d.asked laws).same e f there q

decided-one :
    (t : Told) (words : List (List ℕ)) (after : Inputs) (old new : Output) (c : Command) (answer : Answer) (faults missed : ℕ) → Laws → SaysCommand words c
    → Performs (record { told = Some t; faults = faults; missed = missed }) after old new (chain_of c) answer → IsDecided words (Some t) (status answer)
decided-one t words after old new c (Ended e) faults missed laws s p =
    λ d f u q. inl (decided-ended t words c d e f laws s u (comes (record { told = Some t; faults = faults; missed = missed }) after old new (chain_of c) (Ended e) p) q)
decided-one t words after old new c NoCommand faults missed laws s p =
    absurd (comes (record { told = Some t; faults = faults; missed = missed }) after old new (chain_of c) NoCommand p)
decided-one t words after old new c (ReadFault name) faults missed laws s p = λ d f u q. inr (inl refl)
decided-one t words after old new c WriteFault faults missed laws s p = λ d f u q. inr (inr (inl refl))
decided-one t words after old new c NoMemory faults missed laws s p = λ d f u q. inr (inr (inr refl))

-- what the inputs come to gives the status
pub decided :
    (words : List (List ℕ)) (told : Option Told) (faults missed : ℕ) (after : Inputs) (old new : Output) (answer : Answer) (result : ℕ) → Laws
    → Obeys words (record { told = told; faults = faults; missed = missed }) after old new answer → status answer ≡ result
    → OnTold told (λ t. IsDecided words (Some t) result)
decided words None faults missed after old new answer result laws h is = tt
decided words (Some t) faults missed after old new answer result laws h is =
    elim h [
      | inl none ↦ λ d f u q. absurd (none.none d u)
      | inr one ↦ subst (λ n. IsDecided words (Some t) n) is (decided-one t words after old new one.command answer faults missed laws one.says one.performs)
    ]

completed-one :
    (t : Told) (words : List (List ℕ)) (after : Inputs) (old new : Output) (c : Command) (answer : Answer) (faults missed : ℕ) → SaysCommand words c
    → Performs (record { told = Some t; faults = faults; missed = missed }) after old new (chain_of c) answer
    → Completes words (Some t) (Rose faults after.faults ⊎ Rose old.faults new.faults) (status answer)
completed-one t words after old new c (Ended e) faults missed s p =
    λ d u sound. inl (
      e,
      says-once (λ x. Ends (Some t) (chain_of x) e) words c d s u
          (comes (record { told = Some t; faults = faults; missed = missed }) after old new (chain_of c) (Ended e) p),
      refl,
    )
completed-one t words after old new c NoCommand faults missed s p =
    absurd (comes (record { told = Some t; faults = faults; missed = missed }) after old new (chain_of c) NoCommand p)
completed-one t words after old new c (ReadFault name) faults missed s p =
    λ d u sound. absurd (sound (inl (comes (record { told = Some t; faults = faults; missed = missed }) after old new (chain_of c) (ReadFault name) p)))
completed-one t words after old new c WriteFault faults missed s p =
    λ d u sound. absurd (sound (inr (comes (record { told = Some t; faults = faults; missed = missed }) after old new (chain_of c) WriteFault p)))
completed-one t words after old new c NoMemory faults missed s p = λ d u sound. inr refl

-- and where nothing failed, the inputs come to an ending of this status
pub completed :
    (words : List (List ℕ)) (told : Option Told) (faults missed : ℕ) (after : Inputs) (old new : Output) (answer : Answer) (result : ℕ)
    → Obeys words (record { told = told; faults = faults; missed = missed }) after old new answer → status answer ≡ result
    → OnTold told (λ t. Completes words (Some t) (Rose faults after.faults ⊎ Rose old.faults new.faults) result)
completed words None faults missed after old new answer result h is = tt
completed words (Some t) faults missed after old new answer result h is =
    elim h [
      | inl none ↦ λ d u sound. absurd (none.none d u)
      | inr one ↦ subst (λ n. Completes words (Some t) (Rose faults after.faults ⊎ Rose old.faults new.faults) n) is
          (completed-one t words after old new one.command answer faults missed one.says one.performs)
    ]
