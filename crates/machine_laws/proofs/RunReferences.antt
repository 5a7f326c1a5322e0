-- A run of local instructions brings no reference but to declared objects.
use Rattle.std.proofs.Common.{◌≡◌, ℕ, zero, suc, ◌<◌, List, refl, ◌∙◌, subst}
use Rattle.std.specs.List.{AllByRecursion}
use Rattle.plain_monitor.specs.declared.entry.Value.{Value}
use Rattle.plain_monitor.specs.declared.entry.Value.TheVariants.{Nil, Ref}
use Rattle.object_program.specs.declared.program.Code.{Code}
use Rattle.object_program.specs.declared.program.Code.TheVariants as code
use Rattle.object_program.specs.Program.{ProgramText, declared_total}
use Rattle.object_program.specs.Valid.{IsProgram}
use Rattle.plain_machine.specs.declared.monitor_call.MonitorCall.{MonitorCall}
use Rattle.plain_machine.specs.declared.monitor_call.MonitorCall.TheVariants as call
use Rattle.plain_machine.specs.Thread.{ThreadState, Step, Goes, Calls, Stops, sets, step_of}
use Rattle.plain_machine.specs.Running.{instruction_at, after_step, run_on}
use Rattle.plain_machine.proofs.Effects.{Effect, Puts, Passes, Heads, Asks, IsLocal, IsAsked, IsEffectOf, apply, by_effect}
use Rattle.machine_laws.specs.References.{RefersTo, CallRefersTo, ModeRefersTo}
use Rattle.machine_laws.proofs.ReachedRunning.{IsRunnable, put_value}
use Rattle.plain_monitor.proofs.Lists.{all_or, all_set}

-- a thread with the references, the holds and the count of one that it ran on from
pub record IsSameBut (These : ℕ → Type 0) (s next : ThreadState) : Type 0 where
  pub locals : AllByRecursion (RefersTo These) next.locals
  pub holds : next.holds ≡ s.holds
  pub made : next.made ≡ s.made

pub record RunRefersTo (These : ℕ → Type 0) (s next : ThreadState) : Type 0 where
  pub same : IsSameBut These s next
  pub mode : ModeRefersTo These next.mode

abbrev StepRefersTo : (ℕ → Type 0) → ThreadState → Step → Type 0
StepRefersTo These s (Goes next) = IsSameBut These s next
StepRefersTo These s (Calls c) = CallRefersTo These c
StepRefersTo These s (Stops e) = Unit {0}

module _ (These : ℕ → Type 0) (p : ProgramText) (declared : (o : ℕ) → o < declared_total p → These o) (valid : IsProgram p) where
  module _ (s : ThreadState) (all : AllByRecursion (RefersTo These) s.locals) where
    sets_refers : (x : ℕ) (v : Value) → RefersTo These v → StepRefersTo These s (sets s x v)
    sets_refers x v h = record { locals = all_set (RefersTo These) s.locals x v h all; holds = refl; made = refl }

    local_refers : (v : Value) → IsLocal s v → RefersTo These v
    local_refers v at = subst (RefersTo These) at.1 (all_or (RefersTo These) s.locals at.0 Nil tt all)

    call_refers : (k : MonitorCall) → IsAsked p s k → CallRefersTo These k
    call_refers (call.Enter o) is = local_refers (Ref o) is.0
    call_refers (call.Exit o) is = local_refers (Ref o) is.0
    call_refers (call.Wait o) is = local_refers (Ref o) is.0
    call_refers (call.Notify o) is = local_refers (Ref o) is.0
    call_refers (call.NotifyAll o) is = local_refers (Ref o) is.0
    call_refers (call.Get x o k) is = local_refers (Ref o) is.0.0
    call_refers (call.Put o k v) is = (local_refers (Ref o) is.0.0, local_refers v is.2)
    call_refers (call.Hash x o) is = local_refers (Ref o) is
    call_refers (call.New x d) is = tt
    call_refers (call.Print v) is = local_refers v is
    call_refers (call.Dump k) is = tt

    effect_refers : (c : Code) → IsRunnable p c → (x : Effect) → IsEffectOf p s c x → StepRefersTo These s (apply s x)
    effect_refers c r (Puts x v) is = sets_refers x v (put_value (RefersTo These) p c v valid r is.1 (λ z range. tt) declared)
    effect_refers c r Passes is = record { locals = all; holds = refl; made = refl }
    effect_refers c r (Heads l) is = record { locals = all; holds = refl; made = refl }
    effect_refers c r (Asks k) is = call_refers k is.1
    effect_refers c r _ is = tt

    step_refers : (c : Code) → IsRunnable p c → StepRefersTo These s (step_of p s c)
    step_refers c r = by_effect p s (StepRefersTo These s) c (effect_refers c r)

    after_refers : (k : ℕ) (step : Step) (go : ThreadState → ThreadState) → StepRefersTo These s step
        → ((next : ThreadState) → AllByRecursion (RefersTo These) next.locals → RunRefersTo These next (go next)) → RunRefersTo These s (after_step s k step go)
    after_refers k (Goes next) go h ih =
        let r = ih next h.locals in
        record { same = record { locals = r.same.locals; holds = r.same.holds ∙ h.holds; made = r.same.made ∙ h.made }; mode = r.mode }
    after_refers k (Calls c) go h ih = record { same = record { locals = all; holds = refl; made = refl }; mode = h }
    after_refers k (Stops e) go h ih = record { same = record { locals = all; holds = refl; made = refl }; mode = tt }

  pub run_refers : (cs : List Code) → AllByRecursion (IsRunnable p) cs → (fuel : ℕ) (s : ThreadState) → AllByRecursion (RefersTo These) s.locals
      → RunRefersTo These s (run_on p cs fuel s)
  unfolding run_on
  run_refers cs runs zero s all = record { same = record { locals = all; holds = refl; made = refl }; mode = tt }
  run_refers cs runs (suc k) s all =
      after_refers s all k (step_of p s (instruction_at cs s.place)) (λ next. run_on p cs k next)
      (step_refers s all (instruction_at cs s.place) (all_or (IsRunnable p) cs s.place code.End tt runs)) (λ next more. run_refers cs runs k next more)
