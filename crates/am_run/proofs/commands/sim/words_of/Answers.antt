use Rattle.std.proofs.Common.{◌≡◌, List, [], ◌∷◌, ℕ, map, string_bytes, arith, sym, subst}
use Rattle.std.specs.Prelude.{IfNone}
use Rattle.am_run.specs.commands.Sim.{Sim, SaysSimWords}
use Rattle.am_run.proofs.WordLemmas.{three}
use Rattle.am_run.proofs.commands.sim.words_of.Goals as goal

pub returns-in-len3-clause-none : goal.returns-in-len3-clause-none
returns-in-len3-clause-none c =
    let words = three string_bytes c.args.words.now c.domain-item.result c.from-item.result c.packets-item.result (omega arith) (omega arith)
    c.domain-item.is c.from-item.is c.packets-item.is in
    let spelled : map string_bytes c.args.words.now ≡ c.as_str.result.now ∷ c.as_str-in-len3.result.now ∷ c.as_str-in-len3-2.result.now ∷ [] =
    cc (words, c.as_str.ensures.value, c.as_str-in-len3.ensures.value, c.as_str-in-len3-2.ensures.value) in
    subst (λ (ws : List (List ℕ)). IfNone c.three_words.result ((s : Sim) → SaysSimWords ws s → ⊥)) (sym spelled) c.three_words.ensures.none
