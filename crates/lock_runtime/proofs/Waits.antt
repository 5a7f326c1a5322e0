-- A thread that lets go logs one entry. By which marks no notify comes to an end, and what whole waits and notifies begin with.
use Rattle.std.proofs.Common.{◌≡◌, ℕ, ◌+◌, List, [], ◌∷◌, Option, Some, length, length-append, refl, sym, ap, ◌∙◌}
use Rattle.mark_word.specs.declared.mark.MarkForm.{MarkForm}
use Rattle.mark_word.specs.declared.mark.MarkForm.TheVariants.{Inflating, Locked, Inflated}
use Rattle.mark_word.specs.Mark.{read_mark}
use Rattle.plain_monitor.specs.declared.entry.Entry.TheVariants as entry
use Rattle.plain_monitor.specs.declared.entry.Logged.{Logged}
use Rattle.core_world.specs.declared.word_id.WordId.TheVariants.{Mark}
use Rattle.core_world.specs.Threads.ThreadView.{Local, Start, local_of}
use Rattle.core_world.specs.Trees.Operations.{no_bias, wait_going, wait_beginning, notify_at, notify_going, notify_all_at, notify_all_going}
use Rattle.core_world.specs.Trees.Plans.{CallContext, load}
use Rattle.core_world.specs.Trees.StepTree.{StepTree, unreachable, ask, ◌>>=◌}
use Rattle.core_world.specs.Trees.WaitSteps.{monitor_wait_steps, monitor_resume_steps}
use Rattle.core_world.specs.Words.Forms.{waits_on}
use Rattle.core_world.specs.Words.Shape.{Shape}
use Rattle.core_calls.specs.Paths.{Says}
use Rattle.core_calls.proofs.Runs.{tells, did, did_one}
use Rattle.core_calls.proofs.wait.WaitsSay.{LetGo, monitor_wait_says}
use Rattle.heap_table.specs.Parts.{IsDueOn, HasMadeSteps}
use Rattle.heap_table.specs.Seen.{HeapSeen, PassSeen, IsOf}
use Rattle.heap_table.specs.Stepping.{HasStepped}
use Rattle.heap_table.proofs.Resting.{IsCallOf}
use Rattle.heap_table.proofs.StepsLeft.{AreLeft, all_left, step_made, left_as, alike_after}
use Rattle.lock_runtime.specs.inner.WaitParts.{inflated_wait, marked_notify, marked_notify_all}
use Rattle.lock_runtime.proofs.After.{arm_first}
use Rattle.lock_runtime.proofs.Unbiased.{first_after}

-- LETTING GO
pub logs_wait : (h : HeapSeen) (e : CallContext) (k : Local) (o m : ℕ) (p q : PassSeen) (saved : ℕ) → HasMadeSteps h (monitor_wait_steps e k o m) p q saved
    → length q.known.log ≡ length p.known.log + 1
logs_wait h e k o m p q saved run =
    let says : Says (monitor_wait_steps e k o m) (LetGo e k o) = record { by = monitor_wait_says e k o m [] (record { are = refl }) } in
    let one = did_one (entry.Wait o) e.unfinished e.check p.known q.known (did (entry.Wait o ∷ []) e.unfinished e.check p.known q.known (tells says run.ran)) in
    ap (λ (l : List Logged). length l) one.1 ∙ length-append p.known.log (record { stamp = one.0; entry = entry.Wait o } ∷ [])

-- NOTIFIES
pub never_notified : (f : MarkForm) (s : Shape) (e : CallContext) (k : Local) (o : ℕ)
    → (f ≡ Inflating → ⊥) → ((t p : ℕ) → f ≡ Locked t p → ⊥) → ((m : ℕ) → f ≡ Inflated m → ⊥)
    → notify_at (Some f) s e k o ≡ unreachable
never_notified Inflating s e k o inflating locked inflated = absurd (inflating refl)
never_notified (Locked t p) s e k o inflating locked inflated = absurd (locked t p refl)
never_notified (Inflated m) s e k o inflating locked inflated = absurd (inflated m refl)
never_notified _ s e k o inflating locked inflated = refl

pub never_all_notified : (f : MarkForm) (s : Shape) (e : CallContext) (k : Local) (o : ℕ)
    → (f ≡ Inflating → ⊥) → ((t p : ℕ) → f ≡ Locked t p → ⊥) → ((m : ℕ) → f ≡ Inflated m → ⊥)
    → notify_all_at (Some f) s e k o ≡ unreachable
never_all_notified Inflating s e k o inflating locked inflated = absurd (inflating refl)
never_all_notified (Locked t p) s e k o inflating locked inflated = absurd (locked t p refl)
never_all_notified (Inflated m) s e k o inflating locked inflated = absurd (inflated m refl)
never_all_notified _ s e k o inflating locked inflated = refl

-- what is left once the mark is loaded, by its form
pub by_mark : {A : Type 0} {h : HeapSeen} {p q : PassSeen} {mark : ℕ} (e : CallContext) (o : ℕ) (by : Option MarkForm → Local → StepTree A)
    → IsOf h p → IsDueOn h p e.task (ask (load e (Mark o)) >>= (λ m. by (read_mark m) (local_of p.known))) → HasStepped h p q (load e (Mark o)) mark
    → (f : Option MarkForm) → read_mark mark ≡ f
    → AreLeft h e.task p (ask (load e (Mark o)) >>= (λ m. by (read_mark m) (local_of p.known))) q (by f (local_of q.known))
by_mark e o by heap due did f form =
    let local = (alike_after did refl refl refl).local in left_as (step_made (all_left heap due) refl refl refl did) (λ i. by (form i) (sym local i))

-- WHOLE CALLS
pub first_to_wait : (s : Shape) (e : CallContext) (k : Start) (o now : ℕ) → IsCallOf e.task (wait_going s e k o now)
first_to_wait s e k o now =
    arm_first e.task (waits_on k.local.wait o) (monitor_resume_steps e k.local.thread k.saved o) (wait_beginning s e k o now) refl
    (first_after s e k (no_bias o now) (inflated_wait s e k.kept k.local o) refl)

pub first_to_notify : (s : Shape) (e : CallContext) (k : Start) (o now : ℕ) → IsCallOf e.task (notify_going s e k o now)
first_to_notify s e k o now = first_after s e k (no_bias o now) (marked_notify s e k.local o) refl

pub first_to_notify_all : (s : Shape) (e : CallContext) (k : Start) (o now : ℕ) → IsCallOf e.task (notify_all_going s e k o now)
first_to_notify_all s e k o now = first_after s e k (no_bias o now) (marked_notify_all s e k.local o) refl
