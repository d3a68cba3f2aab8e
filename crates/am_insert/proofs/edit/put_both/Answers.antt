-- All of the first bytes and then the others, or a front of them together.
use Rattle.std.proofs.lemmas.Result.{on_ok_weaker, on_err_weaker}
use Rattle.am_insert.proofs.Writing.{at-err, both-written, first-broken, second-broken}
use Rattle.am_insert.proofs.edit.put_both.Goals as goal

pub returns-in_err-put-clause-front : goal.returns-in_err-put-clause-front
returns-in_err-put-clause-front g c = at-err c.from_residual.result (first-broken _ _ _ _ c.in_err-put.ensures.front)

pub returns-clause-all : goal.returns-clause-all
returns-clause-all g c = on_ok_weaker c.put-2.result (λ a. both-written _ _ _ _ _ c.in_ok-put.ensures.all a) c.put-2.ensures.all

pub returns-clause-front : goal.returns-clause-front
returns-clause-front g c = on_err_weaker c.put-2.result (λ f. second-broken _ _ _ _ _ c.in_ok-put.ensures.all f) c.put-2.ensures.front
