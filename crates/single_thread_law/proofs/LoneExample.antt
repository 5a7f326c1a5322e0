-- The example of a program of one thread: it is a program, and its run is one.
use Rattle.std.proofs.Common.{◌≡◌, ℕ, zero, suc, Bool, ◌||◌, true, false, List, [], ◌∷◌, ◌++◌}
use Rattle.std.proofs.Common.{Some, None, refl, subst, inl, inr, arith}
use Rattle.std.specs.Prelude.{slice_index_or}
use Rattle.std.specs.List.{AllByRecursion, list_any}
use Rattle.core_world.specs.Clauses.Draws.{AreDraws, first_draw}
use Rattle.object_program.specs.Valid.{IsProgram}
use Rattle.plain_machine.specs.Legal.{machine_after}
use Rattle.plain_machine.specs.Machine.{PlainMachine}
use Rattle.plain_machine.specs.Running.{run_on}
use Rattle.plain_machine.specs.declared.monitor_call.MonitorCall.TheVariants as call
use Rattle.plain_machine.specs.declared.monitor_call.Mode.TheVariants.{Calling}
use Rattle.plain_history.specs.EnterPaths.{has_hash}
use Rattle.plain_history.specs.ExactStamps.{IsExactStamp, IsTakingStamp, StampsAreExact}
use Rattle.plain_history.specs.FirstDraws.{DrawsComeFirst}
use Rattle.plain_monitor.specs.declared.entry.Logged.{Logged}
use Rattle.plain_monitor.specs.declared.entry.Value.TheVariants.{Ref}
use Rattle.plain_monitor.specs.History.{RisesAbove, last_above, log_of}
use Rattle.single_thread_law.specs.LoneExample.{lone_end, lone_fuel, lone_logs, lone_program, lone_shots}
use Rattle.single_thread_law.specs.LoneRun.{IsLoneRun}
use Rattle.single_thread_law.specs.Shots.{AreShotsOf}

-- LOGS. What holds of each entry of a log, by its place in it.
abbrev pub AreExactFrom : List (List Logged) → ℕ → List Logged → Type 0
AreExactFrom logs last [] = Unit {0}
AreExactFrom logs last (l ∷ log) = IsExactStamp logs last l.entry l.stamp × AreExactFrom logs l.stamp log

pub exact_from : (logs : List (List Logged)) (last : ℕ) (log : List Logged) → AreExactFrom logs last log
    → (before : List Logged) (l : Logged) (later : List Logged) → log ≡ before ++ l ∷ later → IsExactStamp logs (last_above last before) l.entry l.stamp
exact_from logs last [] exact [] l later split = cc
exact_from logs last [] exact (k ∷ before) l later split = cc
exact_from logs last (x ∷ log) exact [] l later split =
    let same : x ≡ l = cc in subst (λ (y : Logged). IsExactStamp logs last y.entry y.stamp) same exact.0
exact_from logs last (x ∷ log) exact (k ∷ before) l later split =
    let same : x ≡ k = cc in
    let rest : log ≡ before ++ l ∷ later = cc in
    subst (λ (y : Logged). IsExactStamp logs (last_above y.stamp before) l.entry l.stamp) same (exact_from logs x.stamp log exact.1 before l later rest)

-- an entry that takes an object which nobody let go of below its stamp
pub first_taking : (logs : List (List Logged)) (o : ℕ) → IsTakingStamp logs o 0 1
first_taking logs o =
    record {
      let_go = 0;
      is_last = record { below = omega arith; logged = inl refl; last = λ t s gone below. omega (arith, below) };
      next = refl;
    }

lone_exact : (t : ℕ) → AreExactFrom lone_logs 0 (log_of lone_logs t)
lone_exact zero = (first_taking lone_logs 0, (refl, (refl, (refl, (refl, tt)))))
lone_exact (suc t) = tt

pub exact : StampsAreExact lone_logs
exact t before l later split = exact_from lone_logs 0 (log_of lone_logs t) (lone_exact t) before l later split

-- no thread of these logs asks for a hash
none_before : (f : Logged → Bool) (before later : List Logged) → list_any f (before ++ later) ≡ false → list_any f before ≡ false
none_before f [] later none = refl
none_before f (l ∷ before) later none = by_test (f l) none (λ h. none_before f before later h)
  where
    by_test : (b : Bool) → b || list_any f (before ++ later) ≡ false
        → (list_any f (before ++ later) ≡ false → list_any f before ≡ false) → b || list_any f before ≡ false
    by_test true h rest = h
    by_test false h rest = rest h

no_hash : (o t : ℕ) → has_hash o (log_of lone_logs t) ≡ false
no_hash o zero = refl
no_hash o (suc t) = refl

pub undrawn : DrawsComeFirst lone_logs
undrawn t o value number before l later split is =
    none_before _ before (l ∷ later) (subst (λ (log : List Logged). has_hash o log ≡ false) split (no_hash o t))

pub rises : AllByRecursion (RisesAbove 0) lone_logs
rises = ((omega arith, (omega arith, (omega arith, (omega arith, (omega arith, tt))))), tt)

pub under : machine_after lone_program lone_fuel lone_logs ≡ Some lone_end
unfolding run_on
under = refl

pub program : IsProgram lone_program
program =
    record {
      class_names = (refl, refl, tt);
      class_slots = (omega arith, tt);
      classes_few = omega arith;
      object_names = (refl, refl, tt);
      objects = ((omega arith, refl, omega arith, λ h. refl), tt);
      objects_few = omega arith;
      thread_names = (refl, refl, tt);
      threads = (
        record {
          locals = (refl, refl, tt);
          locals_few = omega arith;
          labels = tt;
          targets = tt;
          code = ((omega arith, omega arith), (omega arith, (tt, (omega arith, (omega arith, (tt, tt))))));
          code_few = omega arith;
          ends = ((λ h. cc), ((λ h. cc), ((λ h. cc), ((λ h. cc), ((λ h. cc), refl)))));
        },
        tt,
      );
      threads_some = omega arith;
      threads_few = omega arith;
    }

none_drawn : (start t : ℕ) → AreDraws (first_draw start t) 0 (log_of lone_logs t)
none_drawn start zero = (tt, (tt, (tt, (tt, (tt, tt)))))
none_drawn start (suc t) = tt

pub run : (start : ℕ) → IsLoneRun lone_program lone_fuel start lone_logs lone_end
run start =
    record {
      one = refl;
      rises = rises;
      under = under;
      over = inr refl;
      drawn = none_drawn start;
      one_drawn = λ o t has. let none = no_hash o t in cc;
      drawn_first = undrawn;
      exact = exact;
    }

-- the machine before the dump
abbrev pub lone_cut : PlainMachine
lone_cut =
    record {
      program = lone_program;
      objects = record {
        monitor = record { owner = Some 0; count = 1; waits = []; called = [] };
        slots = [];
        hash = None;
      } ∷ [];
      made = [] ∷ [];
      threads =
          record {
            place = 2;
            locals = Ref 0 ∷ [];
            fuel = 8;
            holds = 1 ∷ [];
            dumps = 0;
            made = 0;
            mode = Calling (call.Dump 1);
          } ∷ [];
    }

pub dumps : AreShotsOf lone_program lone_fuel (log_of lone_logs 0) (slice_index_or lone_shots 0 [])
unfolding run_on
dumps = record { right = (record { machine = lone_cut; under = refl; cells = refl }, tt); dumps = refl }
