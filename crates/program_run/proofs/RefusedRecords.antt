-- Records that are none of a run, by whose biases they have and by what their dumps leave out.
use Rattle.std.proofs.Common.{◌≡◌, ℕ, zero, suc, ◌<◌, ◌≤◌, List, [], ◌∷◌, Some, length, refl, ap, arith}
use Rattle.std.specs.Prelude.{slice_get, slice_index, IsTrue}
use Rattle.std.proofs.lemmas.Option.{none-some}
use Rattle.heap_table.specs.Seen.{ClosedSeen}
use Rattle.lock_journal.specs.declared.record.ClassLine.{ClassLine}
use Rattle.lock_journal.specs.declared.record.RunRecord.{RunRecord}
use Rattle.lock_journal.specs.declared.record.Shot.{Shot}
use Rattle.object_program.specs.Program.{ProgramText}
use Rattle.plain_history.specs.EnterPaths.{entries_on}
use Rattle.plain_history.specs.Tied.{is_tied}
use Rattle.plain_history.proofs.InOrder.{in_order_at}
use Rattle.plain_monitor.specs.declared.entry.Entry.TheVariants.{Enter, Exit}
use Rattle.plain_monitor.specs.declared.entry.Logged.{Logged}
use Rattle.plain_monitor.specs.declared.entry.Path.{Path}
use Rattle.plain_monitor.specs.declared.entry.Path.TheVariants.{BiasOwn, BiasTaken}
use Rattle.plain_monitor.specs.History.{log_of}
use Rattle.plain_monitor.specs.Order.{is_before, order}
use Rattle.plain_monitor.proofs.Lists.{all_at}
use Rattle.plain_monitor.proofs.Orders.{before_asym}
use Rattle.core_law.specs.TakenBiases.{times_taken}
use Rattle.program_run.specs.Biases.{RecordObeysBiasLaw, class_in}
use Rattle.program_run.specs.Shots.{IsRightShot, AreRightShots, shots_of}

-- one thread takes the bias and lets go, and another one enters by this path
abbrev handed : Path → List (List Logged)
handed path =
    (record { stamp = 1; entry = Enter 0 BiasTaken } ∷ record { stamp = 2; entry = Exit 0 } ∷ [])
    ∷ (record { stamp = 3; entry = Enter 0 path } ∷ []) ∷ []

pub from_nowhere : (tick : ℕ) (r : RunRecord) (c : ClosedSeen) → r.logs ≡ handed BiasOwn → RecordObeysBiasLaw tick r c → ⊥
from_nowhere tick r c logs h =
    let taken = h.taken 1 0 [] (record { stamp = 3; entry = Enter 0 BiasOwn }) [] (ap (λ (x : List (List Logged)). log_of x 1) logs) refl in
    cc taken

pub wanders : (tick k : ℕ) (r : RunRecord) (c : ClosedSeen) (line : ClassLine) → r.logs ≡ handed BiasTaken
    → class_in r 0 ≡ Some k → slice_get r.classes k ≡ Some line → line.rebias ≡ 0 → RecordObeysBiasLaw tick r c → ⊥
wanders tick k r c line logs class at none h =
    let few = h.few 0 k line class at in
    let twice : times_taken 0 (entries_on 0 (order r.logs)) ≡ 2 = ap (λ (x : List (List Logged)). times_taken 0 (entries_on 0 (order x))) logs in
    omega (arith, few, twice, none)

-- a thread that logged something has a log
has_log : (logs : List (List Logged)) (v j : ℕ) (m : Logged) → slice_get (log_of logs v) j ≡ Some m → v < length logs
has_log [] v j m e = absurd (none-some m e)
has_log (log ∷ logs) zero j m e = omega arith
has_log (log ∷ logs) (suc v) j m e = let below = has_log logs v j m e in omega (arith, below)

pub leaves_out : (p : ProgramText) (fuel : ℕ) (r : RunRecord) (t k u v i j : ℕ) (shot : Shot) (l m : Logged)
    → slice_get (shots_of r.shots t) k ≡ Some shot
    → slice_get (log_of r.logs u) i ≡ Some l → i < slice_index shot.cut u
    → slice_get (log_of r.logs v) j ≡ Some m → slice_index shot.cut v ≤ j
    → IsTrue (is_tied l.entry m.entry) → IsTrue (is_before (v, m) (u, l)) → AreRightShots p fuel r.logs r.shots → ⊥
leaves_out p fuel r t k u v i j shot l m at at-l before at-m since tied earlier shots =
    let right = all_at (IsRightShot p fuel r.logs) (shots_of r.shots t) k shot (shots.right t) at in
    let many = has_log r.logs v j m at-m in
    let first = in_order_at shot.cut r.logs u v i j l m right.in_order at-l before at-m since (omega (arith, many, right.threads)) tied in
    let not_first = before_asym (v, m) (u, l) earlier in
    absurd (cc (first, not_first))
