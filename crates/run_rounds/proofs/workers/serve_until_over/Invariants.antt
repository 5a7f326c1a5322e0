use Rattle.run_rounds.proofs.workers.serve_until_over.Given as goal

abbrev pub ghosts-serve_all : goal.ghosts-serve_all
ghosts-serve_all g a = record { heap = a.heap.now; program = a.terms.now.program.now; fuel = a.terms.now.fuel; tick = a.terms.now.tick }
