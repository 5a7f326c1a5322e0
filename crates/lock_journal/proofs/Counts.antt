-- Counting the enters of logs by path.
use Rattle.std.proofs.Common.{◌≡◌, ℕ, ◌≤◌, if◌then◌else◌, Bool, true, false, List, [], ◌∷◌, length, get_or, refl, sym, ◌∙◌, arith}
use Rattle.plain_monitor.specs.declared.entry.Path.{Path}
use Rattle.plain_monitor.specs.declared.entry.Path.TheVariants.{BiasOwn, BiasTaken, StackFirst, StackAgain, MonitorFirst, MonitorAgain}
use Rattle.plain_monitor.specs.declared.entry.Logged.{Logged}
use Rattle.plain_monitor.specs.Order.{order}
use Rattle.plain_machine.specs.Machine.{PlainMachine}
use Rattle.lock_journal.specs.RunText.{is_enter_by}
use Rattle.lock_journal.specs.inner.Enters.{enters_in, enters_in_all, enters_of, count_at}
use Rattle.lock_journal.proofs.EntersOfLogs.{enters_by-order}

enter_by-few : (b : Bool) → (if b then 1 else 0) ≤ 1
enter_by-few true = omega arith
enter_by-few false = omega arith

-- a log has no more enters than entries
pub enters_in-few : (m : PlainMachine) (c : ℕ) (path : Path) (log : List Logged) → enters_in m c path log ≤ length log
enters_in-few m c path [] = omega arith
enters_in-few m c path (l ∷ log) = omega (arith, enter_by-few (is_enter_by m c path l.entry), enters_in-few m c path log)

six_counts : (ns : List ℕ) → length ns ≡ 6 → ns ≡ get_or ns 0 0 ∷ get_or ns 1 0 ∷ get_or ns 2 0 ∷ get_or ns 3 0 ∷ get_or ns 4 0 ∷ get_or ns 5 0 ∷ []
six_counts (a ∷ b ∷ c ∷ d ∷ e ∷ f ∷ []) h = refl
six_counts ns h = absurd (omega arith)

-- the six counts are those of the entries in one order
pub counts_are : (m : PlainMachine) (c : ℕ) (logs : List (List Logged)) (ns : List ℕ) → length ns ≡ 6
    → ((path : Path) → count_at ns path ≡ enters_in_all m c path logs) → ns ≡ enters_of m c (order logs)
counts_are m c logs ns h f =
    let is = λ (path : Path). f path ∙ sym (enters_by-order m c path logs) in
    six_counts ns h ∙ rw (is BiasOwn, is BiasTaken, is StackFirst, is StackAgain, is MonitorFirst, is MonitorAgain) refl
