use Rattle.outcome_search.proofs.find.find_outcomes.Given as goal

abbrev pub ghosts-find_with : goal.ghosts-find_with
ghosts-find_with a = record { ways = record { program = a.program.now; fuel = a.fuel; steps = a.steps } }
