-- Each call leaves the room that the log has to keep.
use Rattle.std.proofs.Common.{◌≡◌, ℕ, zero, suc, ◌+◌, ◌≤◌, ◌==◌, not, cond, ltb-true, Bool, true, false, List, []}
use Rattle.std.proofs.Common.{◌∷◌, length, slice_index, Ok, Err, None, refl, sym, ap, ◌∙◌, subst, arith}
use Rattle.std.proofs.lemmas.Bool.{and_parts}
use Rattle.mark_word.specs.Hold.{read_hold}
use Rattle.plain_monitor.specs.declared.entry.Entry.{Entry}
use Rattle.plain_monitor.specs.declared.entry.Entry.TheVariants as entry
use Rattle.plain_monitor.specs.declared.entry.Ending.{Ending}
use Rattle.plain_monitor.specs.declared.entry.Ending.TheVariants as ending
use Rattle.plain_monitor.specs.declared.entry.Logged.{Logged}
use Rattle.plain_monitor.specs.Endings.{ending_entry}
use Rattle.plain_history.specs.HeldByLog.{held_by, nothing_held}
use Rattle.core_calls.specs.CallsSay.{EnterSays, ExitSays, WaitSays, NotifySays, NotifyAllSays, HashSays, GetSays}
use Rattle.core_calls.specs.CallsSay.{PutSays, DumpSays, PollSays, ResumeSays, CheckSays, begins_with}
use Rattle.core_calls.specs.Causes.{of_waits}
use Rattle.core_calls.specs.Paths.{Tells, entries_of}
use Rattle.core_law.specs.CountsAndVerdicts.{sum_below}
use Rattle.core_world.specs.Clauses.WordForms.{IsHold}
use Rattle.core_world.specs.Locks.{hold_count}
use Rattle.core_world.specs.Threads.ThreadView.{ThreadView, StepMade, Start}
use Rattle.core_world.specs.Threads.References.{has_reference}
use Rattle.core_world.specs.Words.Forms.{waits_on}
use Rattle.core_world.specs.Words.Shape.{Shape}
use Rattle.core_world.specs.declared.answer.Progress.TheVariants.{Done, Pending}
use Rattle.core_world.specs.declared.heap_call.HeapCall.{HeapCall}
use Rattle.core_world.specs.declared.heap_call.HeapCall.TheVariants as task
use Rattle.heap_table.specs.Kept.{all_holds}
use Rattle.heap_table.specs.Resting.{Rests, start_now}
use Rattle.heap_table.specs.Seen.{HeapSeen, PassSeen}
use Rattle.own_logs.proofs.HoldSums.{all_named}
use Rattle.own_logs.proofs.OwnHolds.{own_number}
use Rattle.own_logs.proofs.Settled.{Settled, settled}
use Rattle.core_world.specs.Clauses.Lengths.{log_limit}
use Rattle.lock_runtime_c.specs.LogRoom.{Fits, is_full, KeepsRoom, needs_room, room_for}
use Rattle.lock_runtime_c.specs.inner.MayMake.{MayMake}
use Rattle.lock_runtime_c.proofs.MayBegin.{fits, not_barred}
use Rattle.lock_runtime_c.specs.Told.{barred, IsMade}
use Rattle.lock_runtime_c.specs.declared.outcome.Outcome.{Outcome}
use Rattle.lock_runtime_c.proofs.LogRoom.{sizes, grows, exits}

-- The holds of a thread that rests are as many as its log tells.
forms : (s : Shape) (k : ThreadView) → Settled s k → (p : ℕ) → IsHold s (read_hold (slice_index k.holds p))
forms s k z p =
    let there = subst (λ word. IsHold z.world.shape (read_hold word)) (z.fits.holds.stored k.thread p) (z.fits.forms.holds k.thread p) in
    let here = subst (λ (x : ThreadView). IsHold z.world.shape (read_hold (slice_index x.holds p))) z.knew there in
    subst (λ (x : Shape). IsHold x (read_hold (slice_index k.holds p))) z.shape here

held_sum : (h : HeapSeen) (p : PassSeen) → Rests h p → all_holds p.known.holds ≡ sum_below (length h.heap.shape.objects) (held_by nothing_held p.known.log)
held_sum h p rests =
    all_named h.heap.shape 0 p.known.holds (forms h.heap.shape p.known (settled h p rests))
    ∙ ap (λ f. sum_below (length h.heap.shape.objects) f) (λ i o. own_number h p o rests i)

-- HOW MUCH each call logs
said : (n : ℕ) (es : List Entry) (ms : List StepMade) → entries_of ms ≡ es → sizes es ≤ n → sizes (entries_of ms) ≤ n
said n es ms is le = subst (λ (x : List Entry). sizes x ≤ n) (sym is) le

silent : (n : ℕ) (ms : List StepMade) → ms ≡ [] → sizes (entries_of ms) ≤ n
silent n ms is = said n [] ms (ap entries_of is) (omega arith)

enter_logs : (k : Start) (o : ℕ) (ms : List StepMade) (r : _) → EnterSays k o ms r → sizes (entries_of ms) ≤ 2
enter_logs k o ms (Ok (Done path)) s = said 2 _ ms s.1.entries (omega arith)
enter_logs k o ms (Ok (Pending why)) s = said 2 _ ms s.1.0.entries (omega arith)
enter_logs k o ms (Err e) s = silent 2 ms s.1

begun : (o : ℕ) (w : Bool) → sizes (begins_with (not w) o (entry.Resume o ∷ [])) ≤ cond w 1 3
begun o true = omega arith
begun o false = omega arith

left : (o : ℕ) (w b : Bool) → sizes (cond b (begins_with (not w) o []) []) ≤ cond w 1 3
left o true true = omega arith
left o true false = omega arith
left o false true = omega arith
left o false false = omega arith

wait_logs : (k : Start) (o : ℕ) (ms : List StepMade) (r : _) → WaitSays k o ms r → sizes (entries_of ms) ≤ cond (waits_on k.local.wait o) 1 3
wait_logs k o ms (Ok (Done x)) s = said _ _ ms s.1.entries (begun o (waits_on k.local.wait o))
wait_logs k o ms (Ok (Pending why)) s = said _ _ ms s.1.0.entries (left o (waits_on k.local.wait o) (of_waits why))
wait_logs k o ms (Err e) s = silent _ ms s.1

notify_logs : (k : Start) (o : ℕ) (ms : List StepMade) (r : _) → NotifySays k o ms r → sizes (entries_of ms) ≤ 1
notify_logs k o ms (Ok (Done woken)) s = said 1 _ ms s.1.entries (omega arith)
notify_logs k o ms (Ok (Pending why)) s = said 1 _ ms s.1.0.entries (omega arith)
notify_logs k o ms (Err e) s = silent 1 ms s.1

notify_all_logs : (k : Start) (o : ℕ) (ms : List StepMade) (r : _) → NotifyAllSays k o ms r → sizes (entries_of ms) ≤ 1
notify_all_logs k o ms (Ok (Done woken)) s = said 1 _ ms s.1.entries (omega arith)
notify_all_logs k o ms (Ok (Pending why)) s = said 1 _ ms s.1.0.entries (omega arith)
notify_all_logs k o ms (Err e) s = silent 1 ms s.1

hash_logs : (k : Start) (o : ℕ) (ms : List StepMade) (r : _) → HashSays k o ms r → sizes (entries_of ms) ≤ 1
hash_logs k o ms (Done value) s = said 1 _ ms s.2.entries (omega arith)
hash_logs k o ms (Pending why) s = said 1 _ ms s.0.entries (omega arith)

get_logs : (k : Start) (o slot : ℕ) (ms : List StepMade) (r : _) → GetSays k o slot ms r → sizes (entries_of ms) ≤ 1
get_logs k o slot ms (Ok value) s = said 1 _ ms s.1.0.entries (omega arith)
get_logs k o slot ms (Err e) s = silent 1 ms s.1

put_logs : (k : Start) (o slot : ℕ) (v : _) (ms : List StepMade) (r : _) → PutSays k o slot v ms r → sizes (entries_of ms) ≤ 1
put_logs k o slot v ms (Ok x) s = said 1 _ ms s.1.0.entries (omega arith)
put_logs k o slot v ms (Err e) s = silent 1 ms s.1

dump_logs : (k : Start) (ms : List StepMade) (r : _) → DumpSays k ms r → sizes (entries_of ms) ≤ 1
dump_logs k ms (Ok (Done number)) s = said 1 _ ms s.1.1.entries (omega arith)
dump_logs k ms (Ok (Pending why)) s = said 1 _ ms s.1.0.entries (omega arith)
dump_logs k ms (Err e) s = silent 1 ms s.1

end_logs : (e : Ending) → sizes (ending_entry e ∷ []) ≤ 1
end_logs (ending.Trap f index) = omega arith
end_logs ending.Spent = omega arith
end_logs ending.Done = omega arith

poll_logs : (k : Start) (ms : List StepMade) (r : _) → PollSays k ms r → sizes (entries_of ms) ≤ 0
poll_logs k ms (Done x) s = said 0 _ ms s.0.entries (omega arith)
poll_logs k ms (Pending why) s = said 0 _ ms s.0.entries (omega arith)

resume_logs : (k : Start) (ms : List StepMade) (r : _) → ResumeSays k ms r → sizes (entries_of ms) ≤ 0
resume_logs k ms (Done x) s = said 0 _ ms s.0.entries (omega arith)
resume_logs k ms (Pending why) s = said 0 _ ms s.0.entries (omega arith)

check_logs : (k : Start) (ms : List StepMade) (r : _) → CheckSays k ms r → sizes (entries_of ms) ≤ 0
check_logs k ms (Done x) s = said 0 _ ms s.0.entries (omega arith)
check_logs k ms (Pending why) s = said 0 _ ms s.0.entries (omega arith)

-- WHAT IS LEFT, of a bound on the log's length. The pass was p, and is q.
module _ (bound : ℕ) (h : HeapSeen) (p q : PassSeen) (rp : Rests h p) (rq : Rests h q) where
  keeps : (P : List StepMade → Type 0) (t : Tells p.known q.known P) (m : ℕ) → sizes (entries_of t.steps) ≤ m
      → length p.known.log + (all_holds p.known.holds + m) ≤ bound → length q.known.log + all_holds q.known.holds ≤ bound
  keeps P t m few room =
      let n = length h.heap.shape.objects in
      let a = grows n p.known.log t.new in
      let b = held_sum h p rp in
      let c = held_sum h q rq in
      let d = ap (λ (log : List Logged). length log + sum_below n (held_by nothing_held log)) t.log in
      let e = ap sizes t.entries in
      omega (arith, a, b, c, d, e, few, room)

  exit_keeps : (o : ℕ) (r : _) (t : Tells p.known q.known (λ ms. ExitSays (start_now h p) o ms r)) → has_reference h.heap.shape p.known o ≡ true
      → length p.known.log + all_holds p.known.holds ≤ bound → length q.known.log + all_holds q.known.holds ≤ bound
  exit_keeps o (Ok (Done x)) t known kept =
      let n = length h.heap.shape.objects in
      let within = ltb-true o n (and_parts _ _ known).0 in
      let number = own_number h p o rp in
      let some : 1 ≤ held_by nothing_held p.known.log o = positive (hold_count o p.known.holds) (held_by nothing_held p.known.log o) number t.says.0 in
      let a = exits n o p.known.log t.new within some (t.entries ∙ t.says.1.entries) in
      let b = held_sum h p rp in
      let c = held_sum h q rq in
      let d = ap (λ (log : List Logged). length log + sum_below n (held_by nothing_held log)) t.log in
      omega (arith, a, b, c, d, kept)
    where
      positive : (a b : ℕ) → a ≡ b → (a == 0) ≡ false → 1 ≤ b
      positive zero b is some = absurd (cc some)
      positive (suc a) b is some = omega (arith, is)
  exit_keeps o (Ok (Pending why)) t known kept =
      keeps (λ ms. ExitSays (start_now h p) o ms (Ok (Pending why))) t 0 (said 0 _ t.steps t.says.1.0.entries (omega arith)) (omega (arith, kept))
  exit_keeps o (Err e) t known kept = keeps (λ ms. ExitSays (start_now h p) o ms (Err e)) t 0 (silent 0 t.steps t.says.1) (omega (arith, kept))

  made_keeps : (t : HeapCall) (out : Outcome) → MayMake h p t → (needs_room t ≡ true → length p.known.log + room_for p t ≤ bound)
      → length p.known.log + all_holds p.known.holds ≤ bound → IsMade h t p q out → length q.known.log + all_holds q.known.holds ≤ bound
  made_keeps (task.Enter o now) out may room kept m = let r = room refl in
      keeps _ m.3 2 (enter_logs (start_now h p) o m.3.steps m.0 m.3.says) (omega (arith, r))
  made_keeps (task.Notify o now) out may room kept m = let r = room refl in
      keeps _ m.3 1 (notify_logs (start_now h p) o m.3.steps m.0 m.3.says) (omega (arith, r))
  made_keeps (task.NotifyAll o now) out may room kept m = let r = room refl in
      keeps _ m.3 1 (notify_all_logs (start_now h p) o m.3.steps m.0 m.3.says) (omega (arith, r))
  made_keeps (task.Hash o now) out may room kept m = let r = room refl in keeps _ m.3 1 (hash_logs (start_now h p) o m.3.steps m.0 m.3.says) (omega (arith, r))
  made_keeps (task.Get o slot) out may room kept m = let r = room refl in
      keeps _ m.3 1 (get_logs (start_now h p) o slot m.3.steps m.0 m.3.says) (omega (arith, r))
  made_keeps (task.Put o slot v) out may room kept m = let r = room refl in
      keeps _ m.3 1 (put_logs (start_now h p) o slot v m.3.steps m.0 m.3.says) (omega (arith, r))
  made_keeps (task.Print v) out may room kept m = let r = room refl in keeps _ m.3 1 (said 1 _ m.3.steps m.3.says.entries (omega arith)) (omega (arith, r))
  made_keeps task.Dump out may room kept m = let r = room refl in keeps _ m.3 1 (dump_logs (start_now h p) m.3.steps m.0 m.3.says) (omega (arith, r))
  made_keeps (task.Finish e) out may room kept m = let r = room refl in keeps _ m.3 1 (said 1 _ m.3.steps m.3.says.entries (end_logs e)) (omega (arith, r))
  made_keeps (task.Wait o now) out may room kept m = let r = room refl in
      keeps _ m.3 (cond (waits_on p.known.wait o) 1 3) (wait_logs (start_now h p) o m.3.steps m.0 m.3.says) (omega (arith, r))
  made_keeps task.Poll out may room kept m = keeps _ m.3 0 (poll_logs (start_now h p) m.3.steps m.0 m.3.says) (omega (arith, kept))
  made_keeps task.Stop out may room kept m = keeps _ m.3 0 (said 0 _ m.3.steps m.3.says.0.entries (omega arith)) (omega (arith, kept))
  made_keeps task.Resume out may room kept m = keeps _ m.3 0 (resume_logs (start_now h p) m.3.steps m.0 m.3.says) (omega (arith, kept))
  made_keeps task.Check out may room kept m = keeps _ m.3 0 (check_logs (start_now h p) m.3.steps m.0 m.3.says) (omega (arith, kept))
  made_keeps (task.Exit o) out may room kept m = exit_keeps o m.0 m.3 (and_parts _ _ may.call.may).0 kept
  made_keeps (task.Create c) out may room kept m = absurd m
  made_keeps (task.StackEnter o mark) out may room kept m = absurd m
  made_keeps (task.StackExit o) out may room kept m = absurd m
  made_keeps task.Request out may room kept m = absurd m
  made_keeps task.Reached out may room kept m = absurd m
  made_keeps task.Release out may room kept m = absurd m

module _ (h : HeapSeen) (p q : PassSeen) (rp : Rests h p) (rq : Rests h q) (limit : q.limit ≡ p.limit) where
  roomy : (t : HeapCall) → is_full p t ≡ false → needs_room t ≡ true → Fits p (room_for p t)
  roomy (task.Enter o now) full needs = fits p _ full
  roomy (task.Exit o) full needs = fits p _ full
  roomy (task.Wait o now) full needs = fits p _ full
  roomy (task.Notify o now) full needs = fits p _ full
  roomy (task.NotifyAll o now) full needs = fits p _ full
  roomy (task.Hash o now) full needs = fits p _ full
  roomy (task.Get o slot) full needs = fits p _ full
  roomy (task.Put o slot v) full needs = fits p _ full
  roomy (task.Print v) full needs = fits p _ full
  roomy task.Dump full needs = fits p _ full
  roomy (task.Create c) full needs = fits p _ full
  roomy (task.Finish e) full needs = fits p _ full
  roomy (task.StackEnter o mark) full needs = fits p _ full
  roomy (task.StackExit o) full needs = fits p _ full
  roomy task.Request full needs = fits p _ full
  roomy task.Reached full needs = fits p _ full
  roomy task.Release full needs = fits p _ full
  roomy task.Poll full needs = absurd (cc needs)
  roomy task.Stop full needs = absurd (cc needs)
  roomy task.Resume full needs = absurd (cc needs)
  roomy task.Check full needs = absurd (cc needs)

  -- a call that wasn't barred leaves the room that the log has to keep
  pub begun_keeps : (t : HeapCall) (out : Outcome) → MayMake h p t → barred h p t ≡ None → KeepsRoom p → IsMade h t p q out → KeepsRoom q
  begun_keeps t out may none kept made =
      let full = (not_barred h p t none).1 in
      let page = made_keeps p.limit h p q rp rq t out may (λ needs. (roomy t full needs).page) kept.exits.page made in
      record {
        exits = record {
          page = omega (arith, page, limit);
          stamps = made_keeps log_limit h p q rp rq t out may (λ needs. (roomy t full needs).stamps) kept.exits.stamps made;
        };
        wide = λ none. let was = kept.wide (rp.is_of.room ∙ sym rq.is_of.room ∙ none) in omega (arith, was, limit);
      }
