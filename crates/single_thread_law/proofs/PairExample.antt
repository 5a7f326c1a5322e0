-- The example of two threads: two runs of it, which differ in their logs, their ends and their texts; and a log with a gap.
use Rattle.std.proofs.Common.{◌≡◌, ℕ, ◌+◌, pos, Bool, false, List, [], ◌∷◌, Some, refl, ap, arith}
use Rattle.std.specs.Prelude.{slice_get, slice_index}
use Rattle.lock_journal.specs.RunText.{text_of_run}
use Rattle.lock_journal.specs.declared.record.ClassLine.{ClassLine}
use Rattle.lock_journal.specs.declared.record.Shot.{Shot}
use Rattle.plain_history.specs.ExactStamps.{StampsAreExact}
use Rattle.plain_machine.specs.Legal.{machine_after}
use Rattle.plain_machine.specs.Machine.{PlainMachine, slot_at}
use Rattle.plain_machine.specs.Running.{run_on}
use Rattle.plain_monitor.specs.declared.entry.Entry.TheVariants.{Done}
use Rattle.plain_monitor.specs.declared.entry.Logged.{Logged}
use Rattle.plain_monitor.specs.History.{last_stamp, log_of}
use Rattle.single_thread_law.specs.LoneRun.{AreSameButForPaths}
use Rattle.single_thread_law.specs.PairExample.{first_then_second, pair_end, pair_fuel, pair_program, second_then_first}

-- STAMPS
abbrev gapped : List (List Logged)
gapped = (record { stamp = 2; entry = Done } ∷ []) ∷ []

pub gap : ((i : ℕ) (l : Logged) → slice_get (log_of gapped 0) i ≡ Some l → l.stamp ≡ i + 1) → ⊥
gap each = let here : 2 ≡ 1 = each 0 (record { stamp = 2; entry = Done }) refl in omega (arith, here)

pub gap_exact : StampsAreExact gapped → ⊥
gap_exact exact = let here : 2 ≡ 1 = exact 0 [] (record { stamp = 2; entry = Done }) [] refl in omega (arith, here)

pub two : ((i : ℕ) (l : Logged) → slice_get (log_of second_then_first 0) i ≡ Some l → l.stamp ≡ i + 1) → ⊥
two each = let here : 5 ≡ 1 = each 0 _ refl in omega (arith, here)

-- LOGS
-- the last stamp of the first log
last_of_first : List (List Logged) → ℕ
last_of_first logs = last_stamp (log_of logs 0)

pub other_logs : AreSameButForPaths first_then_second second_then_first → ⊥
unfolding last_of_first
other_logs same = let last : 5 ≡ 9 = ap last_of_first same in omega (arith, last)

pub other_ends : pair_end (pos 2) ≡ pair_end (pos 1) → ⊥
other_ends same = let value = ap (λ (m : PlainMachine). slot_at m 0 0) same in cc

pub first : machine_after pair_program pair_fuel first_then_second ≡ Some (pair_end (pos 2))
unfolding run_on
first = refl

pub second : machine_after pair_program pair_fuel second_then_first ≡ Some (pair_end (pos 1))
unfolding run_on
second = refl

-- TEXTS. One begins with the name of the first thread, and the other with that of the second.
module _ (start : ℕ) (bias halted : Bool) (classes : List ClassLine) (shots : List (List Shot)) where
  pub other_texts : text_of_run false false (record {
    program = pair_program;
    fuel = pair_fuel;
    start = start;
    bias = bias;
    logs = first_then_second;
    shots = shots;
    classes = classes;
    halted = halted;
  }) (pair_end (pos 2)) ≡ text_of_run false false (record {
    program = pair_program;
    fuel = pair_fuel;
    start = start;
    bias = bias;
    logs = second_then_first;
    shots = shots;
    classes = classes;
    halted = halted;
  }) (pair_end (pos 1)) → ⊥
  other_texts same = let letter : 116 ≡ 117 = ap (λ (text : List ℕ). slice_index text 0) same in omega (arith, letter)
