-- The part before the place, and what comes behind it.
use Rattle.std.proofs.Common.{ap, sym, subst, ◌∙◌, ◌≡◌, List, ℕ, ◌++◌, take, drop, Some, None}
use Rattle.std.proofs.lemmas.List.{drop-drop}
use Rattle.std.proofs.lemmas.Result.{on_ok_weaker, on_err_weaker}
use Rattle.std.specs.Io.KnownBytes.{append_known}
use Rattle.am_base.specs.Sinks.{AppendsFront}
use Rattle.am_insert.specs.Edits.{Change}
use Rattle.am_insert.proofs.Writing.{at-err, tail_of, broken-early, broken-late, written-all, slice-rest}
use Rattle.am_insert.proofs.edit.Edit.write.Goals as goal

pub returns-in_err-write_front-clause-front : goal.returns-in_err-write_front-clause-front
returns-in_err-write_front-clause-front g c =
    let v = c.args.self.now in
    let front : c.split_at.result.0.now ≡ take v.at c.args.bytes.now =
    subst (λ (w : Change). c.split_at.result.0.now ≡ take w.at c.args.bytes.now) c.self.view_is c.split_at.ensures.front in
    at-err c.from_residual.result
    (broken-early (g.S.Sink.written c.args.sink.now) (g.S.Sink.written c.write_front.new.sink) c.args.bytes.now c.split_at.result.0.now v.payload v.place v.byte v.at v.eight c.requires.fixed c.requires.before front c.in_err-write_front.ensures.front)

pub returns-in-Some-clause-all : goal.returns-in-Some-clause-all
returns-in-Some-clause-all g c =
    let v = c.args.self.now in
    let front : c.split_at.result.0.now ≡ take v.at c.args.bytes.now =
    subst (λ (w : Change). c.split_at.result.0.now ≡ take w.at c.args.bytes.now) c.self.view_is c.split_at.ensures.front in
    let some : v.eight ≡ Some c.in-Some.eight = sym (ap (λ (w : Change). w.eight) c.self.view_is) ∙ c.in-Some.is in
    let rest : c.in-Some.eight ++ c.split_at.result.1.now ≡ tail_of c.args.bytes.now v.at v.eight =
    ap (λ l. c.in-Some.eight ++ l) (subst (λ (w : Change). c.split_at.result.1.now ≡ drop w.at c.args.bytes.now) c.self.view_is c.split_at.ensures.back)
    ∙ sym (ap (λ o. tail_of c.args.bytes.now v.at o) some) in
    on_ok_weaker c.put_both.result
    (λ a. written-all (g.S.Sink.written c.args.sink.now) (g.S.Sink.written c.write_front.new.sink) (g.S.Sink.written c.put_both.new.sink) c.args.bytes.now c.split_at.result.0.now (c.in-Some.eight ++ c.split_at.result.1.now) v.payload v.place v.byte v.at v.eight
    c.requires.fixed c.requires.before front rest c.in_ok-write_front.ensures.all a)
    c.put_both.ensures.all

pub returns-in-Some-clause-front : goal.returns-in-Some-clause-front
returns-in-Some-clause-front g c =
    let v = c.args.self.now in
    let front : c.split_at.result.0.now ≡ take v.at c.args.bytes.now =
    subst (λ (w : Change). c.split_at.result.0.now ≡ take w.at c.args.bytes.now) c.self.view_is c.split_at.ensures.front in
    let some : v.eight ≡ Some c.in-Some.eight = sym (ap (λ (w : Change). w.eight) c.self.view_is) ∙ c.in-Some.is in
    let rest : c.in-Some.eight ++ c.split_at.result.1.now ≡ tail_of c.args.bytes.now v.at v.eight =
    ap (λ l. c.in-Some.eight ++ l) (subst (λ (w : Change). c.split_at.result.1.now ≡ drop w.at c.args.bytes.now) c.self.view_is c.split_at.ensures.back)
    ∙ sym (ap (λ o. tail_of c.args.bytes.now v.at o) some) in
    on_err_weaker c.put_both.result
    (λ a. broken-late (g.S.Sink.written c.args.sink.now) (g.S.Sink.written c.write_front.new.sink) (g.S.Sink.written c.put_both.new.sink) c.args.bytes.now c.split_at.result.0.now (c.in-Some.eight ++ c.split_at.result.1.now) v.payload v.place v.byte v.at v.eight
    c.requires.fixed c.requires.before front rest c.in_ok-write_front.ensures.all a)
    c.put_both.ensures.front

pub returns-in-None-clause-all : goal.returns-in-None-clause-all
returns-in-None-clause-all g c =
    let v = c.args.self.now in
    let front : c.split_at.result.0.now ≡ take v.at c.args.bytes.now =
    subst (λ (w : Change). c.split_at.result.0.now ≡ take w.at c.args.bytes.now) c.self.view_is c.split_at.ensures.front in
    let none : v.eight ≡ None = sym (ap (λ (w : Change). w.eight) c.self.view_is) ∙ c.in-None.is in
    let rest : drop 8 c.split_at.result.1.now ≡ tail_of c.args.bytes.now v.at v.eight =
    ap (λ (l : List ℕ). drop 8 l) (subst (λ (w : Change). c.split_at.result.1.now ≡ drop w.at c.args.bytes.now) c.self.view_is c.split_at.ensures.back)
    ∙ drop-drop 8 v.at c.args.bytes.now ∙ sym (ap (λ o. tail_of c.args.bytes.now v.at o) none) in
    on_ok_weaker c.put.result
    (λ a. written-all (g.S.Sink.written c.args.sink.now) (g.S.Sink.written c.write_front.new.sink) (g.S.Sink.written c.put.new.sink) c.args.bytes.now c.split_at.result.0.now (drop 8 c.split_at.result.1.now) v.payload v.place v.byte v.at v.eight
    c.requires.fixed c.requires.before front rest c.in_ok-write_front.ensures.all
    (subst (λ (l : List ℕ). g.S.Sink.written c.put.new.sink ≡ append_known (g.S.Sink.written c.write_front.new.sink) l) (slice-rest 8 c.split_at.result.1.now) a))
    c.put.ensures.all

pub returns-in-None-clause-front : goal.returns-in-None-clause-front
returns-in-None-clause-front g c =
    let v = c.args.self.now in
    let front : c.split_at.result.0.now ≡ take v.at c.args.bytes.now =
    subst (λ (w : Change). c.split_at.result.0.now ≡ take w.at c.args.bytes.now) c.self.view_is c.split_at.ensures.front in
    let none : v.eight ≡ None = sym (ap (λ (w : Change). w.eight) c.self.view_is) ∙ c.in-None.is in
    let rest : drop 8 c.split_at.result.1.now ≡ tail_of c.args.bytes.now v.at v.eight =
    ap (λ (l : List ℕ). drop 8 l) (subst (λ (w : Change). c.split_at.result.1.now ≡ drop w.at c.args.bytes.now) c.self.view_is c.split_at.ensures.back)
    ∙ drop-drop 8 v.at c.args.bytes.now ∙ sym (ap (λ o. tail_of c.args.bytes.now v.at o) none) in
    on_err_weaker c.put.result
    (λ a. broken-late (g.S.Sink.written c.args.sink.now) (g.S.Sink.written c.write_front.new.sink) (g.S.Sink.written c.put.new.sink) c.args.bytes.now c.split_at.result.0.now (drop 8 c.split_at.result.1.now) v.payload v.place v.byte v.at v.eight
    c.requires.fixed c.requires.before front rest c.in_ok-write_front.ensures.all
    (subst (λ (l : List ℕ). AppendsFront (g.S.Sink.written c.write_front.new.sink) (g.S.Sink.written c.put.new.sink) l) (slice-rest 8 c.split_at.result.1.now) a))
    c.put.ensures.front
