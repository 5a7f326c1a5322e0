use Rattle.std.proofs.Common.{List, drop}
use Rattle.plain_monitor.specs.declared.entry.Value.{Value}
use Rattle.plain_machine.specs.Thread.{ThreadState}
use Rattle.machine_words.specs.Readers.{read_values}
use Rattle.machine_words.specs.inner.Telling.{TellsValues}
use Rattle.machine_words.proofs.Loops.{Fills}
use Rattle.machine_words.proofs.read_thread.read_locals.Given as goal

abbrev pub invariant-loop : goal.invariant-loop
invariant-loop l =
    Fills (λ (x : ThreadState). x.locals) (λ (x : ThreadState) (vs : List Value). record x { locals = vs }) read_values TellsValues
    l.initial.thread l.count (drop l.initial.at l.words) l.thread l.counter (drop l.at l.words)
