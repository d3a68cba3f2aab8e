-- What stands at the place decides: an option comes first and the options behind it follow, or none follow.
use Rattle.std.proofs.Common.{arith, sym, subst, ap, ◌∙◌, length}
use Rattle.am_opts.specs.Options.{BeginsWithNone}
use Rattle.am_opts.proofs.Longest.{behind_none, behind_some}
use Rattle.am_opts.proofs.options.OptionsIterator.next.Goals as goal

pub returns-in_default-clause-steps : goal.returns-in_default-clause-steps
returns-in_default-clause-steps c =
    let nothing = behind_none c.args.self.now.area.now c.args.self.now.at (subst BeginsWithNone c.split_at.ensures.back c.in_default.ensures.none) in
    (nothing, nothing)

pub returns-clause-steps : goal.returns-clause-steps
returns-clause-steps c =
    behind_some c.args.self.now.area.now c.args.self.now.at c.in-Some.bytes.now c.in-Some.ensures.front.0 c.args.self.now.within
    c.in-Some.ensures.option (sym c.split_at.ensures.back ∙ c.in-Some.ensures.front.1)

pub returns-clause-goes : goal.returns-clause-goes
returns-clause-goes c =
    let next = behind_some c.args.self.now.area.now c.args.self.now.at c.in-Some.bytes.now c.in-Some.ensures.front.0 c.args.self.now.within
    c.in-Some.ensures.option (sym c.split_at.ensures.back ∙ c.in-Some.ensures.front.1) in
    record { on = λ f. (tt, tt, omega (arith, ap length next)); keeps = tt; rests = λ f. tt }
