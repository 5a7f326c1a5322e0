-- How a thread and its pass stand after a wait.
use Rattle.std.proofs.Common.{◌≡◌, ℕ, ◌≤◌, not, cond, eq-eqb, ◌++◌, ◌∷◌, [], append_assoc, map, Bool, true, false}
use Rattle.std.proofs.Common.{List, length, sum, Option, Some, None, Ok, refl, sym, ap, ◌∙◌, subst, arith}
use Rattle.plain_monitor.specs.declared.entry.Entry.{Entry}
use Rattle.plain_monitor.specs.declared.entry.Entry.TheVariants as entry
use Rattle.plain_monitor.specs.declared.entry.Logged.{Logged}
use Rattle.core_calls.specs.CallsSay.{WaitSays, lets_go, begins_with}
use Rattle.core_calls.specs.Causes.{of_waits}
use Rattle.core_calls.specs.Paths.{Leaves, Tells}
use Rattle.core_calls.proofs.Runs.{did, did_one}
use Rattle.core_world.specs.declared.answer.Progress.{Progress}
use Rattle.core_world.specs.declared.answer.Progress.TheVariants.{Done, Pending}
use Rattle.core_world.specs.declared.answer.PendingCause.{PendingCause}
use Rattle.core_world.specs.declared.heap_call.Operation.TheVariants as op
use Rattle.core_world.specs.declared.heap_call.HeapCall.TheVariants as task
use Rattle.core_world.specs.declared.heap_call.Unfinished.{Unfinished}
use Rattle.core_world.specs.Trees.Operations.{wait_steps}
use Rattle.heap_table.specs.Resting.{start_now}
use Rattle.heap_table.specs.Seen.{HeapSeen, PassSeen}
use Rattle.lock_runtime.specs.Standing.{StandsAfterTurn}
use Rattle.object_program.specs.Program.{ProgramText}
use Rattle.plain_machine.specs.declared.monitor_call.NextEntry.TheVariants.{Calls, Resumes}
use Rattle.plain_machine.specs.declared.monitor_call.MonitorCall.TheVariants as call
use Rattle.plain_machine.specs.declared.monitor_call.Mode.TheVariants.{Calling, Waiting}
use Rattle.machine_laws.proofs.ReachedAsked.{asked_of}
use Rattle.thread_frame.specs.Frames.{FrameSeen, frame_after, is_in_wait, mode_rank}
use Rattle.thread_frame.specs.Sights.{counts_from}
use Rattle.thread_calls.specs.Advances.{HasAdvanced, MayAdvance, DoneIn, PendedIn, MadeCall, RanFrom}
use Rattle.thread_calls.specs.Asked.{unfinished_of, unfinished_on}
use Rattle.thread_calls.specs.Between.{IsHeapOf, state_by}
use Rattle.thread_calls.proofs.Advanced.{asks_call, asks_resume, at_log, fuel_is, framed, still_waits, progress_over, progress_waits, waits_are}
use Rattle.thread_calls.proofs.After.{Came, logged, left, after_did, cause_some, entries_some, stepped_by, tells_so, stands_same}
use Rattle.thread_calls.proofs.Counts.{sum_kept}
use Rattle.thread_calls.proofs.Framed.{IsFramed, holds_with, framed_next, holds_after_entry}
use Rattle.thread_calls.proofs.May.{thread_is}

two_entries : (a b : Entry) (new : List Logged) → map (λ (x : Logged). x.entry) new ≡ a ∷ b ∷ []
    → (s : ℕ) × (t : ℕ) × (new ≡ record { stamp = s; entry = a } ∷ record { stamp = t; entry = b } ∷ [])
two_entries a b [] h = absurd (cc h)
two_entries a b (x ∷ []) h = absurd (cc h)
two_entries a b (x ∷ y ∷ []) h =
    let first : x.entry ≡ a = cc h in
    let second : y.entry ≡ b = cc h in
    (x.stamp, y.stamp, λ i. record { stamp = x.stamp; entry = first i } ∷ record { stamp = y.stamp; entry = second i } ∷ [])
two_entries a b (x ∷ y ∷ z ∷ zs) h = absurd (cc h)

no_entries : (b : Bool) → cond {A = List Entry} b [] [] ≡ []
no_entries true = refl
no_entries false = refl

module _ (h : HeapSeen) (p : ProgramText) (fuel : ℕ) (k : PassSeen) (f : FrameSeen) (of : IsHeapOf h p) (may : MayAdvance h p fuel k f)
    (o now : ℕ) (q : PassSeen)
    (c : Came h k q) (progress : Progress (Unit {0})) (tells : Tells k.known q.known (λ ms. WaitSays (start_now h k) o ms (Ok progress)))
    (stands : StandsAfterTurn q.known progress) (ran : RanFrom h (wait_steps h.heap.shape (start_now h k) o now) k q (Ok progress)) where
  abbrev t : ℕ
  t = k.known.thread

  abbrev counts : List ℕ
  counts = counts_from 0 (length h.heap.shape.objects) k.known.holds

  abbrev waiting : Option Unfinished
  waiting = unfinished_on op.Wait o

  told : (z : Progress (Unit {0})) → progress ≡ z → Tells k.known q.known (λ ms. WaitSays (start_now h k) o ms (Ok z))
  told z is = subst (λ (x : Progress (Unit {0})). Tells k.known q.known (λ ms. WaitSays (start_now h k) o ms (Ok x))) is tells

  came_by : (z : Progress (Unit {0})) → progress ≡ z → RanFrom h (wait_steps h.heap.shape (start_now h k) o now) k q (Ok z)
  came_by z is = subst (λ (x : Progress (Unit {0})). RanFrom h (wait_steps h.heap.shape (start_now h k) o now) k q (Ok x)) is ran

  pended : (why : PendingCause) → progress ≡ Pending why → MadeCall (PendedIn h why) k q
  pended why is =
      let by = told (Pending why) is in
      record {
        task = task.Wait o now;
        is = came_by (Pending why) is;
        stepped = stepped_by k q by (cause_some t o why by.steps by.says.1.1.0.cause);
      }

  -- FROM THE WAIT, which has let go: it logs the Resume, or nothing
  goes_on : f.mode ≡ Some (Waiting o) → lets_go (start_now h k) o ≡ false
  goes_on mode = waits_are h p fuel k f of may o (Waiting o) mode ∙ ap not (eq-eqb o o refl)

  pub resume_done : (x : Unit {0}) → f.mode ≡ Some (Waiting o) → progress ≡ Done x
      → HasAdvanced h p fuel k q f (frame_after f (Resumes o) (entry.Resume o)) (Done true)
  resume_done x mode is =
      let one = tells_so (told (Done x) is) (λ ms z. subst (λ b. Leaves (begins_with b o (entry.Resume o ∷ [])) None false ms) (goes_on mode) z.1) in
      let m = logged h k q c (entry.Resume o) one (subst (StandsAfterTurn q.known) is stands) (task.Wait o now) (came_by (Done x) is) in
      let l : Logged = record { stamp = m.stamp; entry = entry.Resume o } in
      let asks = asks_resume h p fuel k f of may o mode in
      let before = framed h p fuel k f of may in
      let g = frame_after f (Resumes o) (entry.Resume o) in
      let holds = holds_with p t counts f (Resumes o) (entry.Resume o) in
      let next = framed_next p fuel t k.known.log counts f of.program before (Waiting o) (Resumes o) l mode asks (eq-eqb o o refl) tt in
      let is_now = at_log h p fuel k f of may q (k.known.log ++ l ∷ []) holds g m.log next in
      let stays = sum_kept (entry.Resume o) holds counts refl
      (holds_after_entry p fuel t k.known.log counts f of.program before (Waiting o) (Resumes o) l mode asks (eq-eqb o o refl) tt) in
      let w = ap is_in_wait mode in
      let r = ap mode_rank mode in
      progress_over h p fuel k f of may q g true holds is_now m.is_after m.unfinished m.runs m.call (omega arith) (omega (arith, w)) (omega (arith, r, stays))

  pub resume_left : (why : PendingCause) → f.mode ≡ Some (Waiting o) → progress ≡ Pending why → HasAdvanced h p fuel k q f f (Pending why)
  resume_left why mode is =
      let none = tells_so (told (Pending why) is) (λ ms z.
      subst (λ es. Leaves es waiting false ms) (ap (λ b. cond (of_waits why) (begins_with b o []) []) (goes_on mode) ∙ no_entries (of_waits why)) z.1.0) in
      let l = left h k q c waiting why none (stands_same (Unit {0}) q.known why (subst (StandsAfterTurn q.known) is stands)) (pended why is) in
      still_waits h p fuel k f of may q why (Waiting o) waiting mode l (sym (ap unfinished_of (asks_resume h p fuel k f of may o mode))) refl

  -- FROM THE CALL: it lets go, and logs the Wait, or not yet
  begins : f.mode ≡ Some (Calling (call.Wait o)) → lets_go (start_now h k) o ≡ true
  begins mode = waits_are h p fuel k f of may o (Calling (call.Wait o)) mode

  pub wait_left : (why : PendingCause) → f.mode ≡ Some (Calling (call.Wait o)) → progress ≡ Pending why → of_waits why ≡ false
      → HasAdvanced h p fuel k q f f (Pending why)
  wait_left why mode is kept =
      let none = tells_so (told (Pending why) is) (λ ms z.
      subst (λ b. Leaves (cond b (begins_with (lets_go (start_now h k) o) o []) []) waiting false ms) kept z.1.0) in
      let l = left h k q c waiting why none (stands_same (Unit {0}) q.known why (subst (StandsAfterTurn q.known) is stands)) (pended why is) in
      let asks = asks_call h p fuel k f of may (call.Wait o) mode in
      still_waits h p fuel k f of may q why (Calling (call.Wait o)) waiting mode l (sym (ap unfinished_of asks)) refl

  -- after the Wait
  module _ (mode : f.mode ≡ Some (Calling (call.Wait o))) (stamp : ℕ) where
    abbrev waits : FrameSeen
    waits = frame_after f (Calls (call.Wait o)) (entry.Wait o)

    abbrev first : Logged
    first = record { stamp = stamp; entry = entry.Wait o }

    abbrev kept : List ℕ
    kept = holds_with p t counts f (Calls (call.Wait o)) (entry.Wait o)

    lets : IsFramed p fuel t (k.known.log ++ first ∷ []) kept waits
    lets =
        framed_next p fuel t k.known.log counts f of.program (framed h p fuel k f of may) (Calling (call.Wait o)) (Calls (call.Wait o)) first mode
        (asks_call h p fuel k f of may (call.Wait o) mode) (eq-eqb o o refl) tt

    lets_stay : sum kept ≤ sum counts
    lets_stay =
        sum_kept (entry.Wait o) kept counts refl
        (holds_after_entry p fuel t k.known.log counts f of.program (framed h p fuel k f of may) (Calling (call.Wait o)) (Calls (call.Wait o)) first mode
        (asks_call h p fuel k f of may (call.Wait o) mode) (eq-eqb o o refl) tt)

    paid : 1 ≤ f.fuel
    paid =
        let asks = asks_call h p fuel k f of may (call.Wait o) mode in
        let one = (asked_of p (state_by h p k f) (Calls (call.Wait o)) (thread_is h p fuel k f of may) asks).fuel in
        let same = fuel_is h p fuel k f of may (Calling (call.Wait o)) mode in
        omega (arith, one, same)

  pub wait_let_go : (why : PendingCause) → f.mode ≡ Some (Calling (call.Wait o)) → progress ≡ Pending why → of_waits why ≡ true
      → HasAdvanced h p fuel k q f (frame_after f (Calls (call.Wait o)) (entry.Wait o)) (Pending why)
  wait_let_go why mode is gone =
      let one = tells_so (told (Pending why) is) (λ ms z.
      subst (λ b. Leaves (cond b (begins_with true o []) []) waiting false ms) gone
      (subst (λ b. Leaves (cond (of_waits why) (begins_with b o []) []) waiting false ms) (begins mode) z.1.0)) in
      let d = did (entry.Wait o ∷ []) waiting false k.known q.known one in
      let e = did_one (entry.Wait o) waiting false k.known q.known d in
      let g = waits mode e.0 in
      let holds = kept mode e.0 in
      let is_now = at_log h p fuel k f of may q (k.known.log ++ first mode e.0 ∷ []) holds g e.1 (lets mode e.0) in
      let w = ap is_in_wait mode in
      let one_paid = paid mode e.0 in
      progress_waits h p fuel k f of may q g why holds waiting is_now
      (record {
        is_after = after_did h k q c d;
        unfinished = d.unfinished;
        stands = stands_same (Unit {0}) q.known why (subst (StandsAfterTurn q.known) is stands);
        call = pended why is;
      })
      refl refl refl refl (omega (arith, w, one_paid)) (omega arith)

  -- and after the Resume, in the same call
  pub wait_done : (x : Unit {0}) → f.mode ≡ Some (Calling (call.Wait o)) → progress ≡ Done x
      → HasAdvanced h p fuel k q f (frame_after (frame_after f (Calls (call.Wait o)) (entry.Wait o)) (Resumes o) (entry.Resume o)) (Done true)
  wait_done x mode is =
      let both = tells_so (told (Done x) is) (λ ms z. subst (λ b. Leaves (begins_with b o (entry.Resume o ∷ [])) None false ms) (begins mode) z.1) in
      let d = did (entry.Wait o ∷ entry.Resume o ∷ []) None false k.known q.known both in
      let e = two_entries (entry.Wait o) (entry.Resume o) d.new d.entries in
      let w = first mode e.0 in
      let l : Logged = record { stamp = e.1; entry = entry.Resume o } in
      let more = k.known.log ++ w ∷ [] in
      let log : q.known.log ≡ more ++ l ∷ [] =
      d.log ∙ ap (λ (z : List Logged). k.known.log ++ z) e.2 ∙ sym (append_assoc k.known.log (w ∷ []) (l ∷ [])) in
      let mid = waits mode e.0 in
      let held = kept mode e.0 in
      let g = frame_after mid (Resumes o) (entry.Resume o) in
      let holds = holds_with p t held mid (Resumes o) (entry.Resume o) in
      let next = framed_next p fuel t more held mid of.program (lets mode e.0) (Waiting o) (Resumes o) l refl refl (eq-eqb o o refl) tt in
      let is_now = at_log h p fuel k f of may q (more ++ l ∷ []) holds g log next in
      let stays = sum_kept (entry.Resume o) holds held refl
      (holds_after_entry p fuel t more held mid of.program (lets mode e.0) (Waiting o) (Resumes o) l refl refl (eq-eqb o o refl) tt) in
      let before = lets_stay mode e.0 in
      let one_paid = paid mode e.0 in
      let v = ap is_in_wait mode in
      let r = ap mode_rank mode in
      let call : MadeCall (DoneIn h) k q =
      record { task = task.Wait o now; is = came_by (Done x) is; stepped = stepped_by k q both (entries_some both.steps _ _ both.says.entries) } in
      progress_over h p fuel k f of may q g true holds is_now (after_did h k q c d) d.unfinished (subst (StandsAfterTurn q.known) is stands) call
      (omega arith) (omega (arith, v, one_paid)) (omega (arith, r, one_paid, stays, before))
