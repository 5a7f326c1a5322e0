-- What a run of local instructions leaves: the holds and the dumps stay, and the thread calls or unwinds.
use Rattle.std.proofs.Common.{◌≡◌, ℕ, zero, suc, ◌+◌, true, false, List, length, replicate, slice_get, Some, refl, ◌∙◌}
use Rattle.plain_monitor.proofs.Lists.{all_at, all_each, all_map}
use Rattle.object_program.specs.declared.program.Code.{Code}
use Rattle.object_program.specs.declared.program.ThreadDef.{ThreadDef}
use Rattle.object_program.specs.Program.{ProgramText, objects_total}
use Rattle.plain_machine.specs.declared.monitor_call.MonitorCall.{MonitorCall}
use Rattle.plain_machine.specs.declared.monitor_call.MonitorCall.TheVariants as call
use Rattle.plain_machine.specs.declared.monitor_call.Mode.{Mode}
use Rattle.plain_machine.specs.declared.monitor_call.Mode.TheVariants.{Calling}
use Rattle.plain_machine.specs.Thread.{ThreadState, Step, Goes, Calls, Stops, step_of}
use Rattle.plain_machine.specs.Running.{instruction_at, after_step, run_on, first_state}
use Rattle.plain_machine.specs.Ready.{waits_on}
use Rattle.plain_machine.specs.inner.Kept.{unrun}
use Rattle.plain_machine.specs.Machine.{new_machine, is_live}
use Rattle.plain_machine.proofs.Effects.{Effect, Puts, Passes, Heads, Asks, IsEffectOf, apply, by_effect}

-- a dump that a thread calls has the number after those that it has made
abbrev IsNextDump : ℕ → MonitorCall → Type 0
IsNextDump made (call.Dump number) = number ≡ made + 1
IsNextDump made c = Unit {0}

abbrev pub DumpsNext : ℕ → Mode → Type 0
DumpsNext made (Calling c) = IsNextDump made c
DumpsNext made m = Unit {0}

-- a step leaves the holds and the dumps, and calls the next dump
abbrev IsSteady : ThreadState → Step → Type 0
IsSteady s (Goes next) = (next.holds ≡ s.holds) × (next.dumps ≡ s.dumps)
IsSteady s (Calls c) = IsNextDump s.dumps c
IsSteady s (Stops e) = Unit {0}

effect_steady : (p : ProgramText) (s : ThreadState) (c : Code) (x : Effect) → IsEffectOf p s c x → IsSteady s (apply s x)
effect_steady p s c (Puts x v) is = (refl, refl)
effect_steady p s c Passes is = (refl, refl)
effect_steady p s c (Heads l) is = (refl, refl)
effect_steady p s c (Asks (call.Dump k)) is = is.1.0
effect_steady p s c x is = tt

step_steady : (p : ProgramText) (s : ThreadState) (c : Code) → IsSteady s (step_of p s c)
step_steady p s c = by_effect p s (IsSteady s) c (effect_steady p s c)

-- a thread that ran, with these holds and dumps before and after
pub record ThreadHasRun (holds : List ℕ) (dumps : ℕ) (s : ThreadState) : Type 0 where
  pub holds_stay : s.holds ≡ holds
  pub dumps_stay : s.dumps ≡ dumps
  pub awake : (o : ℕ) → waits_on s.mode o ≡ false
  pub lives : is_live s ≡ true
  pub next : DumpsNext s.dumps s.mode

step_runs : (s : ThreadState) (n : ℕ) (step : Step) (go : ThreadState → ThreadState) → IsSteady s step
    → ((next : ThreadState) → ThreadHasRun next.holds next.dumps (go next))
    → ThreadHasRun s.holds s.dumps (after_step s n step go)
step_runs s n (Goes next) go h ih =
    let r = ih next in
    record {
      holds_stay = r.holds_stay ∙ h.0;
      dumps_stay = r.dumps_stay ∙ h.1;
      awake = r.awake;
      lives = r.lives;
      next = r.next;
    }
step_runs s n (Calls c) go h ih =
    record { holds_stay = refl; dumps_stay = refl; awake = λ o. refl; lives = refl; next = h }
step_runs s n (Stops e) go h ih =
    record { holds_stay = refl; dumps_stay = refl; awake = λ o. refl; lives = refl; next = tt }

pub has_run : (p : ProgramText) (cs : List Code) (fuel : ℕ) (s : ThreadState)
    → ThreadHasRun s.holds s.dumps (run_on p cs fuel s)
unfolding run_on
has_run p cs zero s = record { holds_stay = refl; dumps_stay = refl; awake = λ o. refl; lives = refl; next = tt }
has_run p cs (suc n) s =
    let c = instruction_at cs s.place in
    step_runs s n (step_of p s c) (λ next. run_on p cs n next) (step_steady p s c) (λ next. has_run p cs n next)

-- a thread that ran from its start: no holds and no dumps
abbrev pub HasBegun : ProgramText → ThreadState → Type 0
HasBegun p s = ThreadHasRun (replicate (objects_total p) 0) 0 s

first_begun : (p : ProgramText) (fuel : ℕ) (d : ThreadDef) → HasBegun p (first_state p d fuel)
first_begun p fuel d = has_run p d.code fuel (unrun (length d.locals) (objects_total p) fuel)

-- so has each thread before its first entry
pub begun : (p : ProgramText) (fuel t : ℕ) (s : ThreadState) → slice_get (new_machine p fuel).threads t ≡ Some s
    → HasBegun p s
begun p fuel t s at =
    let each = all_each (λ d. HasBegun p (first_state p d fuel)) p.threads (first_begun p fuel) in
    all_at (HasBegun p) (new_machine p fuel).threads t s (all_map (HasBegun p) (λ d. first_state p d fuel) p.threads each) at
