use Rattle.std.proofs.Common.{◌≡◌, ◌*◌, ◌-◌, length, ap, ◌∙◌, arith}
use Rattle.am_domain.proofs.RuleLemmas.{laid_out}
use Rattle.am_domain.proofs.judge.check_blocks.Goals as goal

pub returns-then-first-end-clause-err : goal.returns-then-first-end-clause-err
returns-then-first-end-clause-err c =
    (laid_out c.args.fields.now c.args.timing.now _ c.args.edges.now _ _ c.requires.timing (c.as_slice.ensures.value ∙ ap (λ f. f.nodes) c.fields.view_is) c.requires.joined c.reported-first.ensures.first c.reported-first.ensures.end, omega arith)

pub returns-then-count-gt-MAX_CELLS-clause-err : goal.returns-then-count-gt-MAX_CELLS-clause-err
returns-then-count-gt-MAX_CELLS-clause-err c =
    let flows : c.len.result ≡ length c.args.fields.now.flows = omega (arith, c.fields.inside.flows.ok.0, ap (λ f. length f.flows) c.fields.view_is) in (
      c.reported-first.result.0,
      c.reported-first.result.1,
      laid_out c.args.fields.now c.args.timing.now _ c.args.edges.now _ _ c.requires.timing (c.as_slice.ensures.value ∙ ap (λ f. f.nodes) c.fields.view_is) c.requires.joined c.reported-first.ensures.first c.reported-first.ensures.end,
      omega arith,
      ap (λ n. n * (c.reported-first.result.1 - c.reported-first.result.0)) flows,
      omega arith,
    )

pub returns-clause-laid_out : goal.returns-clause-laid_out
returns-clause-laid_out c =
    laid_out c.args.fields.now c.args.timing.now _ c.args.edges.now _ _ c.requires.timing (c.as_slice.ensures.value ∙ ap (λ f. f.nodes) c.fields.view_is) c.requires.joined c.reported-first.ensures.first c.reported-first.ensures.end
