-- How often a thread holds an object by its log, by its hold words.
use Rattle.std.proofs.Common.{◌≡◌, ℕ, ◌+◌, ◌<◌, true, List, ap, ◌∙◌, arith}
use Rattle.plain_monitor.specs.Objects.{PlainObject}
use Rattle.plain_monitor.specs.declared.entry.Logged.{Logged}
use Rattle.plain_history.specs.HeldByLog.{held_by, nothing_held, holds_by_monitor}
use Rattle.plain_history.proofs.HeldByLog.{holds_by_log}
use Rattle.core_world.specs.Words.Forms.{is_biased}
use Rattle.core_world.specs.Locks.{BiasedTo, lock, marks, hold_count, monitor_of}
use Rattle.core_world.specs.Threads.Stages.{hold_words_ahead}
use Rattle.core_world.specs.Valid.{Fits}
use Rattle.core_world.specs.World.{World, logs}
use Rattle.core_world.proofs.KnowledgeParts.{log_at}

module _ (w : World) (P : List PlainObject) (t o : ℕ) (within : t < w.shape.threads) (v : Fits w P) where
  held_standing : holds_by_monitor (monitor_of P o) t ≡ held_by nothing_held (w.known t).log o
  held_standing =
      holds_by_log w.shape.objects (logs w) P v.legal v.taken t o
      ∙ ap (λ (log : List Logged). held_by nothing_held log o) (log_at 0 w.shape.threads t t w.known (omega arith) within)

  -- its hold words are those of its log, but for the one that it is taking or leaving
  pub held_named : hold_count o (w.known t).holds ≡ held_by nothing_held (w.known t).log o + hold_words_ahead (w.known t).stage o
  held_named = v.holds.number t o ∙ ap (λ n. n + hold_words_ahead (w.known t).stage o) held_standing

  -- it holds nothing of an object that has a bias but not its own
  pub unheld_of : is_biased (marks w o) ≡ true → (lock w o ≡ BiasedTo t → ⊥) → held_by nothing_held (w.known t).log o ≡ 0
  unheld_of biased other = let a = v.biases.unheld o t biased other in omega (arith, a, held_named)
