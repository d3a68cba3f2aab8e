-- What is to come at the start is the longest front of the whole area.
use Rattle.am_opts.proofs.Longest.{behind_longest, longest_few}
use Rattle.am_opts.proofs.options.Options.over.Goals as goal

pub returns-clause-longest : goal.returns-clause-longest
returns-clause-longest c = behind_longest c.args.area.now 0

pub returns-clause-few : goal.returns-clause-few
returns-clause-few c = longest_few 0 c.args.area.now _ (behind_longest c.args.area.now 0)
