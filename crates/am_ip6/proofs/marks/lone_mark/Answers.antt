-- The six bytes at place 42 are what the mark is read from, and all of it.
use Rattle.std.proofs.Common.{arith, rules, sym, subst, ◌≡◌, ◌≤◌, ℕ, List, length, take, drop}
use Rattle.std.proofs.lemmas.List.{length-take, length-drop}
use Rattle.am_opts.specs.Marking.{Marking, Spells}
use Rattle.am_ip6.proofs.marks.lone_mark.Goals as goal

six : (xs : List ℕ) → take 6 (take 6 xs) ≡ take 6 xs
six xs = search rules

same_mark : (xs : List ℕ) (m : Marking) → Spells (take 6 (take 6 xs)) m → Spells (take 6 xs) m
same_mark xs m s = subst (λ x. Spells x m) (six xs) s

pub returns-clause-has : goal.returns-clause-has
returns-clause-has c = record {
  there = c.if-bytes-lt-LONE_MARK_END.false;
  payload = omega (arith, c.payload.ensures);
  size = search rules;
  spelled = same_mark (drop 42 c.args.bytes.now) _ c.in-Some.ensures.only.1;
}

pub returns-in_default-clause-none : goal.returns-in_default-clause-none
returns-in_default-clause-none c = λ mark lone.
    let b = c.args.bytes.now in
    let long : 6 ≤ length (take 6 (drop 42 b)) = omega (arith, length-take 6 (drop 42 b), length-drop 42 b, lone.there) in
    let found = c.decode_mark.ensures.found 6 mark long (subst (λ x. Spells x mark) (sym (six (drop 42 b))) lone.spelled) in
    absurd (c.in_default.not-Some _ found)
