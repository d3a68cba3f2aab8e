use Rattle.std.proofs.Common.{arith, sym, subst, ℕ, List}
use Rattle.am_addr.specs.Walk.{Reads}
use Rattle.am_addr.proofs.Walk.{reads_colon, colon_reads, reads_digit, digit_reads, stops_other, stops_full, stops_colon, digit_fits, digit_below}
use Rattle.am_addr.proofs.list.Reading.step.Goals as goal

pub returns-in_default-clause-none : goal.returns-in_default-clause-none
returns-in_default-clause-none c rest values few r =
    stops_colon _ _ _ _ rest values c.if-byte-eq58.true c.in_default.ensures.none few r

pub returns-then-byte-eq58-clause-goes : goal.returns-then-byte-eq58-clause-goes
returns-then-byte-eq58-clause-goes c rest values =
    let e = c.in-Some.ensures.ended in (
      λ r. subst (λ (l : List ℕ). Reads l 0 0 rest values) (sym e.1) (reads_colon _ _ _ _ rest values c.if-byte-eq58.true e.0 r),
      λ r. colon_reads _ _ _ _ rest values c.if-byte-eq58.true e.0 (subst (λ (l : List ℕ). Reads l 0 0 rest values) e.1 r),
    )

pub returns-in_default-digit_of-clause-none : goal.returns-in_default-digit_of-clause-none
returns-in_default-digit_of-clause-none c rest values few r =
    stops_other _ _ _ _ rest values c.if-byte-eq58.false c.in_default-digit_of.ensures.none r

pub returns-then-self-eq-MOST_DIGITS-clause-none : goal.returns-then-self-eq-MOST_DIGITS-clause-none
returns-then-self-eq-MOST_DIGITS-clause-none c rest values few r =
    stops_full _ _ _ _ rest values c.if-byte-eq58.false c.if-self-eq-MOST_DIGITS.true r

pub overflow_mul-result : goal.overflow_mul-result
overflow_mul-result c =
    omega (arith, digit_fits c.args.self.digits c.args.self.value 0 (omega arith) c.args.self.small (omega arith))

pub overflow_add-result-2 : goal.overflow_add-result-2
overflow_add-result-2 c =
    omega (arith, digit_fits c.args.self.digits c.args.self.value c.in-Some-digit_of.digit (omega arith) c.args.self.small (digit_below _ _ c.in-Some-digit_of.ensures.only))

pub returns-clause-goes : goal.returns-clause-goes
returns-clause-goes c rest values =
    let is = c.in-Some-digit_of.ensures.only in (
      λ r. reads_digit _ _ _ _ _ rest values is r,
      λ r. digit_reads _ _ _ _ _ rest values is (omega arith) r,
    )
