use Rattle.std.proofs.Common.{ap, ◌∙◌}
use Rattle.am_domain.proofs.RuleLemmas.{broken_end, kept_ends}
use Rattle.am_domain.proofs.judge.check_ends.Goals as goal

pub returns-in-Ok-clause-ok : goal.returns-in-Ok-clause-ok
returns-in-Ok-clause-ok c =
    kept_ends c.args.fields.now _ _ (c.as_slice.ensures.value ∙ ap (λ f. f.nodes) c.fields.view_is) (c.as_slice-2.ensures.value ∙ ap (λ f. f.links) c.fields.view_is) c.requires c.in-Ok.ensures.between

pub returns-in-Err-clause-err : goal.returns-in-Err-clause-err
returns-in-Err-clause-err c =
    broken_end c.args.fields.now c.in-Err.error _ _ (c.as_slice.ensures.value ∙ ap (λ f. f.nodes) c.fields.view_is) (c.as_slice-2.ensures.value ∙ ap (λ f. f.links) c.fields.view_is) c.requires c.in-Err.ensures.bad
