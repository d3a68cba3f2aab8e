use Rattle.std.proofs.Common.{arith, IsTrue}
use Rattle.am_domain.specs.Texts.{IsFileName}
use Rattle.am_run.proofs.WordLemmas.{names-more, none-of-names}
use Rattle.am_run.proofs.commands.loss.are_file_names.Goals as goal

pub returns-then-not-is_file_name : goal.returns-then-not-is_file_name
returns-then-not-is_file_name c =
    let not : IsFileName c.as_str.result.now → ⊥ = λ named. let is = c.is_file_name.ensures.1 named in cc (is, c.if-not-is_file_name.true) in
    (λ no. absurd (cc no), λ all. absurd (none-of-names c.args.words.now c.loop-word.word-index c.word-item.result c.as_str.result.now (omega arith) c.word-item.is c.as_str.ensures.value not all))

pub loop-word-preserved : goal.loop-word-preserved
loop-word-preserved c =
    let yes : IsTrue c.is_file_name.result = cc (c.if-not-is_file_name.false) in
    names-more c.args.words.now c.loop-word.word-index c.word-item.result c.as_str.result.now (omega arith) c.word-item.is c.as_str.ensures.value (c.is_file_name.ensures.0 yes) c.loop-word.invariant
