use Rattle.std.proofs.Common.{ℕ, List, drop}
use Rattle.plain_monitor.specs.Objects.{PlainObject}
use Rattle.machine_words.specs.Readers.{read_pairs}
use Rattle.machine_words.specs.inner.Telling.{TellsPairs}
use Rattle.machine_words.proofs.Loops.{Fills}
use Rattle.machine_words.proofs.read_object.read_called.Given as goal

abbrev pub invariant-loop : goal.invariant-loop
invariant-loop l =
    Fills (λ (x : PlainObject). x.monitor.called) (λ (x : PlainObject) (ps : List (ℕ × ℕ)). record x { monitor = record x.monitor { called = ps } })
    read_pairs TellsPairs l.initial.object l.count (drop l.initial.at l.words) l.object l.counter (drop l.at l.words)
