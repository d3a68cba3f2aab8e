-- The fixed header with its changes, and then the headers.
use Rattle.std.proofs.Common.{arith, ap, sym, subst, ◌∙◌, ◌≡◌, ◌<◌, List, ◌∷◌, ℕ, length}
use Rattle.std.proofs.lemmas.Result.{on_ok_weaker, on_err_weaker}
use Rattle.std.specs.Prelude.{OnOk, OnErr, slice_set}
use Rattle.std.specs.Io.KnownBytes.{append_known}
use Rattle.am_base.specs.Sinks.{AppendsFront}
use Rattle.am_insert.specs.Changes.{with_payload}
use Rattle.am_insert.specs.Edits.{Change}
use Rattle.am_insert.proofs.Writing.{at-err, low-is, high-early, high-late, high-all, slice-rest}
use Rattle.am_insert.proofs.edit.Edit.write_front.Goals as goal

pub returns-then-self-lt-FIXED_LENGTH-clause-all : goal.returns-then-self-lt-FIXED_LENGTH-clause-all
returns-then-self-lt-FIXED_LENGTH-clause-all g c =
    subst (λ (v : Change). OnOk c.put_both.result (g.S.Sink.written c.put_both.new.sink ≡ append_known (g.S.Sink.written c.args.sink.now)
    (slice_set (with_payload v.payload c.args.front.now) v.place v.byte))) c.self.view_is
    (on_ok_weaker c.put_both.result
    (λ a. a ∙ ap (λ (l : List ℕ). append_known (g.S.Sink.written c.args.sink.now) l)
    (low-is c.args.front.now _ c.copy_from_slice.new.self _ c.self.inside.payload c.self.inside.place c.self.inside.byte
    c.split_at.ensures.front c.split_at.ensures.back c.copy_from_slice.ensures.after c.if-self-lt-FIXED_LENGTH.true c.requires.fixed))
    c.put_both.ensures.all)

pub returns-then-self-lt-FIXED_LENGTH-clause-front : goal.returns-then-self-lt-FIXED_LENGTH-clause-front
returns-then-self-lt-FIXED_LENGTH-clause-front g c =
    subst (λ (v : Change). OnErr c.put_both.result (AppendsFront (g.S.Sink.written c.args.sink.now) (g.S.Sink.written c.put_both.new.sink)
    (slice_set (with_payload v.payload c.args.front.now) v.place v.byte))) c.self.view_is
    (on_err_weaker c.put_both.result
    (λ f. subst (λ (l : List ℕ). AppendsFront (g.S.Sink.written c.args.sink.now) (g.S.Sink.written c.put_both.new.sink) l)
    (low-is c.args.front.now _ c.copy_from_slice.new.self _ c.self.inside.payload c.self.inside.place c.self.inside.byte
    c.split_at.ensures.front c.split_at.ensures.back c.copy_from_slice.ensures.after c.if-self-lt-FIXED_LENGTH.true c.requires.fixed) f)
    c.put_both.ensures.front)

pub returns-in_err-put_both-clause-front : goal.returns-in_err-put_both-clause-front
returns-in_err-put_both-clause-front g c =
    at-err c.from_residual.result
    (subst (λ (v : Change). AppendsFront (g.S.Sink.written c.args.sink.now) (g.S.Sink.written c.put_both-2.new.sink)
    (slice_set (with_payload v.payload c.args.front.now) v.place v.byte)) c.self.view_is
    (high-early (g.S.Sink.written c.args.sink.now) (g.S.Sink.written c.put_both-2.new.sink) c.args.front.now _ c.copy_from_slice.new.self _ _ c.split_at-2.result.1.now c.self.inside.payload c.self.inside.place c.self.inside.byte
    c.split_at.ensures.front c.split_at.ensures.back c.copy_from_slice.ensures.after c.split_at-2.ensures.front c.split_at-2.ensures.back
    (omega (arith, c.if-self-lt-FIXED_LENGTH.false)) (subst (λ (v : Change). v.place < length c.args.front.now) (sym c.self.view_is) c.requires.before)
    c.in_err-put_both.ensures.front))

pub returns-clause-all : goal.returns-clause-all
returns-clause-all g c =
    subst (λ (v : Change). OnOk c.put_both-3.result (g.S.Sink.written c.put_both-3.new.sink ≡ append_known (g.S.Sink.written c.args.sink.now)
    (slice_set (with_payload v.payload c.args.front.now) v.place v.byte))) c.self.view_is
    (on_ok_weaker c.put_both-3.result
    (λ a. high-all (g.S.Sink.written c.args.sink.now) (g.S.Sink.written c.put_both-2.new.sink) (g.S.Sink.written c.put_both-3.new.sink) c.args.front.now _ c.copy_from_slice.new.self _ _ c.split_at-2.result.1.now c.self.inside.payload c.self.inside.place c.self.inside.byte
    c.split_at.ensures.front c.split_at.ensures.back c.copy_from_slice.ensures.after c.split_at-2.ensures.front c.split_at-2.ensures.back
    (omega (arith, c.if-self-lt-FIXED_LENGTH.false)) (subst (λ (v : Change). v.place < length c.args.front.now) (sym c.self.view_is) c.requires.before)
    c.in_ok-put_both.ensures.all
    (subst (λ (l : List ℕ). g.S.Sink.written c.put_both-3.new.sink ≡ append_known (g.S.Sink.written c.put_both-2.new.sink) (c.self.inside.byte ∷ l))
    (slice-rest 1 c.split_at-2.result.1.now) a))
    c.put_both-3.ensures.all)

pub returns-clause-front : goal.returns-clause-front
returns-clause-front g c =
    subst (λ (v : Change). OnErr c.put_both-3.result (AppendsFront (g.S.Sink.written c.args.sink.now) (g.S.Sink.written c.put_both-3.new.sink)
    (slice_set (with_payload v.payload c.args.front.now) v.place v.byte))) c.self.view_is
    (on_err_weaker c.put_both-3.result
    (λ f. high-late (g.S.Sink.written c.args.sink.now) (g.S.Sink.written c.put_both-2.new.sink) (g.S.Sink.written c.put_both-3.new.sink) c.args.front.now _ c.copy_from_slice.new.self _ _ c.split_at-2.result.1.now c.self.inside.payload c.self.inside.place c.self.inside.byte
    c.split_at.ensures.front c.split_at.ensures.back c.copy_from_slice.ensures.after c.split_at-2.ensures.front c.split_at-2.ensures.back
    (omega (arith, c.if-self-lt-FIXED_LENGTH.false)) (subst (λ (v : Change). v.place < length c.args.front.now) (sym c.self.view_is) c.requires.before)
    c.in_ok-put_both.ensures.all
    (subst (λ (l : List ℕ). AppendsFront (g.S.Sink.written c.put_both-2.new.sink) (g.S.Sink.written c.put_both-3.new.sink) (c.self.inside.byte ∷ l))
    (slice-rest 1 c.split_at-2.result.1.now) f))
    c.put_both-3.ensures.front)
