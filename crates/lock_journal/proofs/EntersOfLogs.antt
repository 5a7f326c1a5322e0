-- The enters of all logs in one order are those of the logs.
use Rattle.std.proofs.Common.{◌≡◌, ℕ, ◌+◌, Bool, true, false, List, [], ◌∷◌, ◌++◌, map, refl, ap, ◌∙◌, arith}
use Rattle.plain_monitor.specs.declared.entry.Path.{Path}
use Rattle.plain_monitor.specs.declared.entry.Logged.{Logged}
use Rattle.plain_monitor.specs.Order.{is_before, insert_ordered, ordered, with_threads, order}
use Rattle.plain_machine.specs.Machine.{PlainMachine}
use Rattle.lock_journal.specs.RunText.{enters_by}
use Rattle.lock_journal.specs.inner.Enters.{enter_by, enters_in, enters_in_all}

enters_by-insert : (m : PlainMachine) (c : ℕ) (path : Path) (x : ℕ × Logged) (ys : List (ℕ × Logged))
    → enters_by m c path (insert_ordered x ys) ≡ enter_by m c path x.1.entry + enters_by m c path ys
enters_by-insert m c path x [] = refl
enters_by-insert m c path x (y ∷ ys) = by_case (is_before x y) refl (enters_by-insert m c path x ys) where
  by_case : (b : Bool) → is_before x y ≡ b → enters_by m c path (insert_ordered x ys) ≡ enter_by m c path x.1.entry + enters_by m c path ys
      → enters_by m c path (insert_ordered x (y ∷ ys)) ≡ enter_by m c path x.1.entry + enters_by m c path (y ∷ ys)
  by_case true e rest = rw e refl
  by_case false e rest = rw (e, rest) (omega arith)

enters_by-ordered : (m : PlainMachine) (c : ℕ) (path : Path) (xs : List (ℕ × Logged)) → enters_by m c path (ordered xs) ≡ enters_by m c path xs
enters_by-ordered m c path [] = refl
enters_by-ordered m c path (x ∷ xs) = enters_by-insert m c path x (ordered xs) ∙ ap (λ n. enter_by m c path x.1.entry + n) (enters_by-ordered m c path xs)

enters_by-log : (m : PlainMachine) (c : ℕ) (path : Path) (t : ℕ) (log : List Logged) (xs : List (ℕ × Logged))
    → enters_by m c path (map (λ l. (t, l)) log ++ xs) ≡ enters_in m c path log + enters_by m c path xs
enters_by-log m c path t [] xs = omega arith
enters_by-log m c path t (l ∷ log) xs = rw (enters_by-log m c path t log xs) (omega arith)

enters_by-logs : (m : PlainMachine) (c : ℕ) (path : Path) (t : ℕ) (logs : List (List Logged))
    → enters_by m c path (with_threads t logs) ≡ enters_in_all m c path logs
enters_by-logs m c path t [] = refl
enters_by-logs m c path t (log ∷ logs) =
    enters_by-log m c path t log (with_threads (t + 1) logs) ∙ ap (λ n. enters_in m c path log + n) (enters_by-logs m c path (t + 1) logs)

pub enters_by-order : (m : PlainMachine) (c : ℕ) (path : Path) (logs : List (List Logged)) → enters_by m c path (order logs) ≡ enters_in_all m c path logs
enters_by-order m c path logs = enters_by-ordered m c path (with_threads 0 logs) ∙ enters_by-logs m c path 0 logs
