use Rattle.std.proofs.Common.{◌≡◌, List, [], ◌∷◌, ℕ, map, string_bytes, arith, sym, subst}
use Rattle.std.specs.Prelude.{IfNone}
use Rattle.am_run.specs.commands.Link.{Link, SaysLinkWords}
use Rattle.am_run.proofs.WordLemmas.{five}
use Rattle.am_run.proofs.commands.link.words_of.Goals as goal

pub returns-in-len5-clause-none : goal.returns-in-len5-clause-none
returns-in-len5-clause-none c =
    let words = five string_bytes c.args.words.now c.block-item.result c.shift-item.result c.flow-item.result c.up-item.result c.down-item.result (omega arith) (omega arith)
    c.block-item.is c.shift-item.is c.flow-item.is c.up-item.is c.down-item.is in
    let spelled : map string_bytes c.args.words.now ≡ c.as_str.result.now ∷ c.as_str-in-len5.result.now ∷ c.as_str-in-len5-2.result.now ∷ c.as_str-in-len5-3.result.now ∷ c.as_str-in-len5-4.result.now ∷ [] =
    cc (words, c.as_str.ensures.value, c.as_str-in-len5.ensures.value, c.as_str-in-len5-2.ensures.value, c.as_str-in-len5-3.ensures.value, c.as_str-in-len5-4.ensures.value) in
    subst (λ (ws : List (List ℕ)). IfNone c.five_words.result ((l : Link) → SaysLinkWords ws l → ⊥)) (sym spelled) c.five_words.ensures.none
