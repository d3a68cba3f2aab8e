use Rattle.std.proofs.lemmas.Result.{on_ok_weaker, on_err_weaker}
use Rattle.am_base.proofs.Gathering.{at-err, broke-off, flushed-then, flushed-front, passed-on, passed-front}
use Rattle.am_base.proofs.buffer.Buffer.write.Goals as goal

pub returns-in_err-flush-clause-front : goal.returns-in_err-flush-clause-front
returns-in_err-flush-clause-front g c = at-err c.from_residual.result (broke-off _ _ _ _ c.in_err-flush.ensures.front)

pub returns-then-bytes-gt-MAX_HELD-clause-all : goal.returns-then-bytes-gt-MAX_HELD-clause-all
returns-then-bytes-gt-MAX_HELD-clause-all g c =
    on_ok_weaker c.put.result
    (λ a. flushed-then _ _ _ _ c.flush.new.self _ _ c.in_ok-flush.ensures.all c.in_ok-flush.ensures.nothing
    (passed-on _ _ _ _ _ c.in_ok-flush.ensures.nothing c.in_ok-flush.ensures.nothing a))
    c.put.ensures.all

pub returns-then-bytes-gt-MAX_HELD-clause-front : goal.returns-then-bytes-gt-MAX_HELD-clause-front
returns-then-bytes-gt-MAX_HELD-clause-front g c =
    on_err_weaker c.put.result
    (λ f. flushed-front _ _ _ _ c.flush.new.self _ c.in_ok-flush.ensures.all c.in_ok-flush.ensures.nothing
    (passed-front _ _ _ _ c.in_ok-flush.ensures.nothing f))
    c.put.ensures.front
