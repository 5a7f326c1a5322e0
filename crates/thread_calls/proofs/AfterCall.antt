-- A thread that went past the call that it made, or stands before it, has advanced.
use Rattle.std.proofs.Common.{◌≡◌, ℕ, Bool, true, refl, sym, ap, ◌∙◌, subst}
use Rattle.core_world.specs.declared.answer.Progress.{Progress}
use Rattle.core_world.specs.declared.answer.Progress.TheVariants.{Done, Pending}
use Rattle.heap_table.specs.Seen.{HeapSeen, PassSeen}
use Rattle.object_program.specs.Program.{ProgramText}
use Rattle.plain_machine.specs.declared.monitor_call.MonitorCall.{MonitorCall}
use Rattle.plain_machine.specs.declared.monitor_call.MonitorCall.TheVariants as call
use Rattle.plain_machine.specs.declared.monitor_call.Mode.TheVariants.{Calling}
use Rattle.plain_monitor.specs.declared.entry.Entry.{Entry}
use Rattle.plain_monitor.specs.declared.entry.Value.{Value}
use Rattle.thread_frame.specs.Frames.{FrameSeen, before_call}
use Rattle.thread_frame.proofs.Moves.{after_before}
use Rattle.thread_calls.specs.Advances.{HasAdvanced, MayAdvance}
use Rattle.thread_calls.specs.Asked.{unfinished_of, unfinished_of_call}
use Rattle.thread_calls.specs.Between.{IsHeapOf}
use Rattle.thread_calls.specs.inner.Made.{HasMade, IsAfterCall, IsRare, MayMake}
use Rattle.thread_calls.proofs.Advanced.{asks_call, call_done, still_waits}
use Rattle.thread_calls.proofs.May.{may_make}

-- a call that isn't a wait
abbrev pub IsNoWait : MonitorCall → Type 0
IsNoWait (call.Wait o) = ⊥
IsNoWait c = Unit {0}

pub no_wait : (c : MonitorCall) → ((o : ℕ) → c ≡ call.Wait o → ⊥) → IsNoWait c
no_wait (call.Wait o) other = other o refl
no_wait c other = tt

-- a call that none of the others is
pub rare_other : (c : MonitorCall) → ((o : ℕ) → c ≡ call.Enter o → ⊥) → ((o : ℕ) → c ≡ call.Exit o → ⊥) → ((o : ℕ) → c ≡ call.Wait o → ⊥)
    → ((x o k : ℕ) → c ≡ call.Get x o k → ⊥) → ((o k : ℕ) (v : Value) → c ≡ call.Put o k v → ⊥) → IsRare c
rare_other (call.Enter o) e x w g p = e o refl
rare_other (call.Exit o) e x w g p = x o refl
rare_other (call.Wait o) e x w g p = w o refl
rare_other (call.Get y o k) e x w g p = g y o k refl
rare_other (call.Put o k v) e x w g p = p o k v refl
rare_other c e x w g p = tt

-- The thread is at the call c, which is d.
module _ (h : HeapSeen) (text : ProgramText) (fuel : ℕ) (p : PassSeen) (f : FrameSeen) (c d : MonitorCall) (is : c ≡ d) (of : IsHeapOf h text)
    (may : MayAdvance h text fuel p (before_call f c)) (no : IsNoWait d) where
  abbrev b : FrameSeen
  b = before_call f d

  so : MayAdvance h text fuel p b
  so = subst (λ x. MayAdvance h text fuel p (before_call f x)) is may

  other : (o : ℕ) → d ≡ call.Wait o → ⊥
  other o e = subst IsNoWait e no

  -- it may make the call that it stands before
  pub may_make_at : MayMake h p d
  may_make_at = may_make h text fuel p b of so d (asks_call h text fuel p b of so d refl) other

  -- and what it came to, where it made it
  came_to : (q : PassSeen) (g : FrameSeen) (progress : Progress Entry) (came : Progress Bool) → HasMade h p q d progress → IsAfterCall f g d progress came
      → HasAdvanced h text fuel p q b g came
  came_to q g (Done e) came made after =
      subst (HasAdvanced h text fuel p q b g) (sym after.1)
      (subst (λ x. HasAdvanced h text fuel p q b x (Done true)) (sym (after.0 ∙ sym (after_before f d e)))
      (call_done h text fuel p b of so q d e refl other made))
  came_to q g (Pending why) came made after =
      let asks = asks_call h text fuel p b of so d refl in
      subst (HasAdvanced h text fuel p q b g) (sym after.1)
      (subst (λ x. HasAdvanced h text fuel p q b x (Pending why)) (sym after.0)
      (still_waits h text fuel p b of so q why (Calling d) (unfinished_of_call d) refl made.0 (sym (ap unfinished_of asks)) made.1))

  pub came_after : (q : PassSeen) (g : FrameSeen) (progress : Progress Entry) (came : Progress Bool)
      → HasMade h p q d progress → IsAfterCall f g d progress came
      → HasAdvanced h text fuel p q (before_call f c) g came
  came_after q g progress came made after =
      subst (λ x. HasAdvanced h text fuel p q (before_call f x) g came) (sym is) (came_to q g progress came made after)
