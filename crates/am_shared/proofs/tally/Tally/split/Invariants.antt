use Rattle.am_shared.proofs.tally.Tally.split.Given as goal

-- the budget that the call asks for is what the step gives
abbrev pub ghosts-give : goal.ghosts-give
ghosts-give a = record { given = a.budget }
