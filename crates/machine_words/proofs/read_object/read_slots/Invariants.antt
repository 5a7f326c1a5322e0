use Rattle.std.proofs.Common.{List, drop}
use Rattle.plain_monitor.specs.declared.entry.Value.{Value}
use Rattle.plain_monitor.specs.Objects.{PlainObject}
use Rattle.machine_words.specs.Readers.{read_values}
use Rattle.machine_words.specs.inner.Telling.{TellsValues}
use Rattle.machine_words.proofs.Loops.{Fills}
use Rattle.machine_words.proofs.read_object.read_slots.Given as goal

abbrev pub invariant-loop : goal.invariant-loop
invariant-loop l =
    Fills (λ (x : PlainObject). x.slots) (λ (x : PlainObject) (vs : List Value). record x { slots = vs }) read_values TellsValues
    l.initial.object l.slots (drop l.initial.at l.words) l.object l.counter (drop l.at l.words)
