use Rattle.plain_machine.specs.Machine.{code_of}
use Rattle.machine_words.proofs.Placing.{placed_is}
use Rattle.machine_words.proofs.place_thread.place_thread.Goals as goal

pub returns : goal.returns
returns c =
    placed_is c.args.program.now (code_of c.args.program.now c.args.t) c.args.fuel c.args.thread.now c.stand.new.self c.stand-2.new.self c.mode-mode.result
    c.placed_mode-placed.result c.mode-mode.ensures c.stand.ensures c.placed_mode-placed.ensures c.stand-2.ensures
