-- What `sim` printed where it is done: the text of rows that are right.
use Rattle.std.proofs.Common.{arith, ap, ◌∙◌, ◌≡◌, ℕ, List, inl, inr}
use Rattle.std.specs.Io.KnownBytes.{append_known}
use Rattle.am_chain.specs.Answers.{Answer, status}
use Rattle.am_chain.specs.Answers.Ending.{Done, Missing, Refused}
use Rattle.am_chain.specs.Answers.Answer.{Ended, NoCommand, ReadFault, WriteFault, NoMemory}
use Rattle.am_chain.specs.Chains.{Inputs, Output, Performs}
use Rattle.am_run.specs.Forms.{Command, chain_of}
use Rattle.am_run.specs.Forms.Kind.{Simulating}
use Rattle.am_run.specs.Runs.{Obeys}
use Rattle.am_run.specs.SimHeadline.{PrintsRight, TellsSim}
use Rattle.am_run.specs.commands.Sim.{Sim, sim_chain}
use Rattle.am_run.proofs.FormLemmas.{says-once}

-- an answer of status 0 is that of a command that is done
done-right :
    (before after : Inputs) (old new : Output) (s : Sim) (answer : Answer) → status answer ≡ 0
    → Performs before after old new (sim_chain s) answer → PrintsRight old.written new.written
done-right before after old new s (Ended Done) is p =
    elim p [
      | inl stop ↦ absurd stop.0
      | inr go ↦
          let printed = go.4.1.1 in
          let text = printed.1 in
          record { rows = text.rows; right = text.right; printed = printed.2 ∙ ap (λ x. append_known old.written x) text.printed }
    ]
done-right before after old new s (Ended (Missing name)) is p = absurd (omega (arith, is))
done-right before after old new s (Ended (Refused name reason)) is p = absurd (omega (arith, is))
done-right before after old new s NoCommand is p = absurd (omega (arith, is))
done-right before after old new s (ReadFault name) is p = absurd (omega (arith, is))
done-right before after old new s WriteFault is p = absurd (omega (arith, is))
done-right before after old new s NoMemory is p = absurd (omega (arith, is))

-- of a run: what `sim` printed is right
pub tells-sim :
    (words : List (List ℕ)) (before after : Inputs) (old new : Output) (answer : Answer) (result : ℕ)
    → Obeys words before after old new answer → status answer ≡ result → TellsSim words old.written new.written result
tells-sim words before after old new answer result h is =
    λ s zero_is says.
    let command : Command = record { kind = Simulating; asked = s } in
    elim h [
      | inl none ↦ absurd (none.none command says)
      | inr one ↦ done-right before after old new s answer (is ∙ zero_is)
          (says-once (λ c. Performs before after old new (chain_of c) answer) words one.command command one.says says one.performs)
    ]
