-- The run of the small program of one thread, as a plain run and as runs of all settings.
use Rattle.std.proofs.Common.{◌≡◌, ◌⊎◌, ℕ, zero, suc, ◌<◌, ◌≤◌, Bool, true, false, if◌then◌else◌, List, [], ◌∷◌, Some, length, map}
use Rattle.std.proofs.Common.{refl, sym, ap, ◌∙◌, subst, inl, inr, arith}
use Rattle.std.specs.Prelude.{slice_get, slice_index, IsSome}
use Rattle.std.specs.List.{AllByRecursion}
use Rattle.std.proofs.lemmas.List.{length-map}
use Rattle.std.proofs.lemmas.List.Sums.{sum_by-cons}
use Rattle.std.proofs.lemmas.Option.{none-some, same_Some}
use Rattle.core_world.specs.Shots.{dumps_from}
use Rattle.heap_table.specs.Seen.{ClosedSeen}
use Rattle.lock_journal.specs.declared.record.RunRecord.{RunRecord}
use Rattle.lock_journal.specs.declared.record.Shot.{Shot}
use Rattle.lock_policy.specs.Policy.{revoke_threshold}
use Rattle.plain_machine.specs.Legal.{machine_after}
use Rattle.plain_machine.specs.Running.{run_on}
use Rattle.plain_monitor.specs.declared.entry.Logged.{Logged}
use Rattle.plain_monitor.specs.History.{log_of}
use Rattle.single_thread_law.specs.LoneExample.{lone_end, lone_fuel, lone_logs, lone_program, lone_shots}
use Rattle.single_thread_law.specs.LoneRun.{with_no_path, with_no_paths}
use Rattle.single_thread_law.proofs.LoneExample.{exact, lone_cut, rises, under, undrawn}
use Rattle.program_run.specs.declared.settings.Settings.{Settings}
use Rattle.program_run.specs.PlainRun.{IsMadeBy, IsPlainRun}
use Rattle.program_run.specs.Ran.{IsRan}
use Rattle.program_run.specs.Shots.{AreRightShots, IsNoLater, IsRightShot, shots_of}
use Rattle.program_run.specs.Verdicts.{entries_in, most_verdicts}
use Rattle.program_run.proofs.ChosenPaths.{made as every}
use Rattle.program_run.proofs.NoPaths.{after_bare}

taken : IsSome (machine_after lone_program lone_fuel lone_logs)
unfolding run_on
taken = refl

-- the only shot of the run
abbrev lone_shot : Shot
lone_shot = record { number = 1; cut = 1 ∷ []; cells = record { owner = Some 0; count = 1 } ∷ [] }

within : (u : ℕ) → slice_index lone_shot.cut u ≤ length (log_of lone_logs u)
within zero = omega arith
within (suc u) = omega arith

shot_right : IsRightShot lone_program lone_fuel lone_logs lone_shot
unfolding run_on
shot_right = record {
  threads = refl;
  within = λ u. within u;
  in_order = (((λ h. refl), ((λ h. refl), ((λ h. refl), ((λ h. refl), tt)))), tt);
  machine = lone_cut;
  under = refl;
  cells = refl;
}

shots_right : (t : ℕ) → AllByRecursion (IsRightShot lone_program lone_fuel lone_logs) (shots_of lone_shots t)
shots_right zero = (shot_right, tt)
shots_right (suc t) = tt

shots_of_dumps : (t : ℕ) → map (λ (s : Shot). (slice_index s.cut t, s.number)) (shots_of lone_shots t) ≡ dumps_from 0 (log_of lone_logs t)
shots_of_dumps zero = refl
shots_of_dumps (suc t) = refl

-- there is one shot
only_shot : (t i : ℕ) (shot : Shot) → slice_get (shots_of lone_shots t) i ≡ Some shot → lone_shot ≡ shot
only_shot zero zero shot at = same_Some lone_shot shot at
only_shot zero (suc i) shot at = absurd (none-some shot at)
only_shot (suc t) i shot at = absurd (none-some shot at)

no_later : (u : ℕ) → slice_index lone_shot.cut u ≤ slice_index lone_shot.cut u
no_later u = omega arith

shots_in_order : (t u i j : ℕ) (a b : Shot) → slice_get (shots_of lone_shots t) i ≡ Some a → slice_get (shots_of lone_shots u) j ≡ Some b
    → IsNoLater a b ⊎ IsNoLater b a
shots_in_order t u i j a b at-a at-b =
    inl (subst (λ (x : Shot). IsNoLater x b) (only_shot t i a at-a)
    (subst (λ (x : Shot). IsNoLater lone_shot x) (only_shot u j b at-b) no_later))

pub shots : AreRightShots lone_program lone_fuel lone_logs lone_shots
shots = record { right = shots_right; dumps = shots_of_dumps; ordered = shots_in_order }

pub plain : (start : ℕ) → IsPlainRun lone_program lone_fuel start lone_logs lone_shots lone_end
plain start =
    record {
      pathless = refl;
      all_logs = refl;
      all_shots = refl;
      legal = record { rises = rises; taken = taken };
      under = under;
      over = inr refl;
      right = shots;
      hashes = λ o. refl;
      first = undrawn;
      stamps = exact;
    }

-- RUNS
pub made : (start workers quantum tick : ℕ) (bias : Bool)
    → IsMadeBy (record { fuel = lone_fuel; start = start; bias = bias; workers = workers; quantum = quantum; tick = tick })
    lone_program lone_logs lone_shots
made start workers quantum tick bias =
    every (record { fuel = lone_fuel; start = start; bias = bias; workers = workers; quantum = quantum; tick = tick })
    lone_program lone_logs lone_shots lone_end (plain start)

entries_bare : (logs : List (List Logged)) → entries_in (with_no_paths logs) ≡ entries_in logs
entries_bare [] = refl
entries_bare (log ∷ logs) =
    let bare = sum_by-cons (λ (own : List Logged). length own) (map with_no_path log) (with_no_paths logs) in
    let own = sum_by-cons (λ (own : List Logged). length own) log logs in
    let many = length-map log with_no_path in
    let rest = entries_bare logs in
    omega (arith, bare, own, many, rest)

few_more : (halted : Bool) (n : ℕ) → n ≡ 1 → (if halted then n else 0) ≤ 1
few_more true n one = omega (arith, one)
few_more false n one = omega arith

few : (s : Settings) (r : RunRecord) (c : ClosedSeen) → IsRan s lone_program r c → with_no_paths r.logs ≡ lone_logs
    → most_verdicts r < revoke_threshold
few s r c ran same =
    let entries : entries_in r.logs ≡ 5 = sym (entries_bare r.logs) ∙ ap entries_in same in
    let more = few_more r.halted (length r.logs) ran.all.logs in
    omega (arith, entries, more)

pub ran : (start workers quantum tick : ℕ) (bias : Bool) → (r : RunRecord) × (c : ClosedSeen)
    × IsRan (record { fuel = lone_fuel; start = start; bias = bias; workers = workers; quantum = quantum; tick = tick })
    lone_program r c
    × (machine_after lone_program lone_fuel r.logs ≡ Some lone_end) × (most_verdicts r < revoke_threshold) × (r.shots ≡ lone_shots)
ran start workers quantum tick bias =
    let run = made start workers quantum tick bias in
    let after = sym (after_bare lone_program lone_fuel run.run.logs) ∙ ap (machine_after lone_program lone_fuel) run.logs_are ∙ under in
    (run.run, run.closed, run.ran, after, few _ run.run run.closed run.ran run.logs_are, run.shots_are)
