-- An instruction does the same to a thread without its place.
use Rattle.std.proofs.Common.{◌≡◌, ℕ, ◌+◌, false, nat_lt, if◌then◌else◌, List, refl, ap, sym, ◌∙◌, subst}
use Rattle.std.proofs.lemmas.Bool.{true≢false}
use Rattle.plain_monitor.specs.declared.entry.Value.{Value}
use Rattle.plain_monitor.specs.declared.entry.Value.TheVariants.{Ref}
use Rattle.plain_monitor.specs.declared.entry.Ending.{Ending}
use Rattle.plain_monitor.specs.declared.entry.Ending.TheVariants as ending
use Rattle.plain_monitor.specs.declared.entry.Fault.TheVariants.{Unguarded, Range}
use Rattle.object_program.specs.declared.program.ClassDef.{ClassDef}
use Rattle.object_program.specs.declared.program.ObjectDef.{ObjectDef}
use Rattle.object_program.specs.declared.program.ThreadDef.{ThreadDef}
use Rattle.object_program.specs.declared.program.Code.{Code}
use Rattle.object_program.specs.declared.program.Code.TheVariants as instr
use Rattle.object_program.specs.Program.{ProgramText, declared_total, slots_of_class, class_in_program, most_in, slots_of}
use Rattle.plain_machine.specs.declared.monitor_call.MonitorCall.{MonitorCall}
use Rattle.plain_machine.specs.declared.monitor_call.MonitorCall.TheVariants as call
use Rattle.plain_machine.specs.Thread.{ThreadState, Step, Goes, Calls, Stops, step_of, local, faults, on_object, on_slot, owner_only}
use Rattle.plain_machine.proofs.Effects.{Effect, Heads, Asks, Over, IsEffectOf, is_jump, apply, by_effects}
use Rattle.sync_source.specs.Valid.{IsPlain}
use Rattle.sync_source.specs.SyncThread.{unplaced}
use Rattle.sync_source.specs.inner.Alike.{erased, unplaced_mode}

-- a trap names the instruction that the thread is at, from 1
abbrev pub IsAt : ℕ → Ending → Type 0
IsAt place (ending.Trap f i) = i ≡ place + 1
IsAt place ending.Spent = Unit {0}
IsAt place ending.Done = Unit {0}

-- what an instruction leads to, and what it leads to for the thread without its place
abbrev pub StepsAlike : ThreadState → Step → Step → Type 0
StepsAlike s (Goes n) (Goes m) = (record m { place = 0 } ≡ erased n) × (n.place ≡ s.place + 1)
StepsAlike s (Calls c) (Calls d) = c ≡ d
StepsAlike s (Stops e) (Stops f) = (unplaced e ≡ unplaced f) × IsAt s.place e
StepsAlike s a b = ⊥

-- what an instruction that doesn't jump does
effect_alike : (p : ProgramText) (s : ThreadState) (c : Code) → is_jump c ≡ false → (x : Effect) → IsEffectOf p s c x
    → StepsAlike s (apply s x) (apply (erased s) x)
effect_alike p s c h (Heads l) is = absurd (true≢false (sym is ∙ h))
effect_alike p s c h (Asks k) is = refl
effect_alike p s c h Over is = (refl, tt)
effect_alike p s c h _ is = (refl, refl)

code_alike : (p : ProgramText) (s : ThreadState) (c : Code) → is_jump c ≡ false → StepsAlike s (step_of p s c) (step_of p (erased s) c)
code_alike p s c h = by_effects p s (StepsAlike s) 0 s.fuel (unplaced_mode s.mode) c (effect_alike p s c h)

no_jump : (c : Code) → IsPlain c → is_jump c ≡ false
no_jump (instr.Jump l) h = absurd h
no_jump (instr.Jlt x y l) h = absurd h
no_jump (instr.Jeq x y l) h = absurd h
no_jump c h = refl

module _ (s : ThreadState) where
  pub enter_alike : (p q : ProgramText) (x : ℕ) → StepsAlike s (step_of p s (instr.Enter x)) (step_of q (erased s) (instr.Enter x))
  enter_alike p q x = code_alike p s (instr.Enter x) refl

  pub exit_alike : (p q : ProgramText) (x : ℕ) → StepsAlike s (step_of p s (instr.Exit x)) (step_of q (erased s) (instr.Exit x))
  exit_alike p q x = code_alike p s (instr.Exit x) refl

  module _ (classes : List ClassDef) (objects : List ObjectDef) (ts us : List ThreadDef) (same : most_in classes ts ≡ most_in classes us) where
    abbrev p : ProgramText
    p = record { classes = classes; objects = objects; threads = ts }

    abbrev q : ProgramText
    q = record { classes = classes; objects = objects; threads = us }

    -- an object that isn't declared has as many slots by the one's threads as by the other's
    same_slots : (o : ℕ) → slots_of p o ≡ slots_of q o
    same_slots o = ap (λ (n : ℕ). if nat_lt o (declared_total p) then slots_of_class classes (class_in_program p o) else n) same

    on_same : (r : ThreadState) (v : Value) (k : ℕ) (c : ℕ → MonitorCall)
        → on_object r v (λ o. on_slot p r o k (c o)) ≡ on_object r v (λ o. on_slot q r o k (c o))
    on_same r (Ref o) k c = ap (λ (n : ℕ). if nat_lt k n then owner_only r o Unguarded (Calls (c o)) else faults r Range) (same_slots o)
    on_same r v k c = refl

    same_step : (r : ThreadState) (c : Code) → step_of p r c ≡ step_of q r c
    same_step r (instr.Get x o k) = on_same r (local r o) k (λ n. call.Get x n k)
    same_step r (instr.Put o k x) = on_same r (local r o) k (λ n. call.Put n k (local r x))
    same_step r c = refl

    pub plain_alike : (c : Code) → IsPlain c → StepsAlike s (step_of p s c) (step_of q (erased s) c)
    plain_alike c h = subst (StepsAlike s (step_of p s c)) (same_step (erased s) c) (code_alike p s c (no_jump c h))
