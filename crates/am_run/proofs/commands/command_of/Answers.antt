use Rattle.std.proofs.Common.{List, ℕ, string_bytes, subst}
use Rattle.std.specs.Prelude.{IfNone}
use Rattle.am_run.specs.Forms.{IsNoCommand}
use Rattle.am_run.proofs.WordLemmas.{first-and-rest}
use Rattle.am_run.proofs.commands.command_of.Goals as goal

pub returns-in-len1-up-clause-none : goal.returns-in-len1-up-clause-none
returns-in-len1-up-clause-none c =
    let words = first-and-rest string_bytes c.args.words.now c.verb-item.result c.as_str.result.now c.in-len1-up.len_at_least c.verb-item.is c.as_str.ensures.value in
    subst (λ (ws : List (List ℕ)). IfNone c.command_named.result (IsNoCommand ws)) words c.command_named.ensures.none
