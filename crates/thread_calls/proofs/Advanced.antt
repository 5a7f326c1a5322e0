-- One entry more, or none: how a thread and its pass stand after a call.
use Rattle.std.proofs.Common.{◌≡◌, ℕ, ◌+◌, ◌-◌, ◌<◌, ◌≤◌, ◌==◌, not, eq-eqb, ◌++◌, ◌∷◌, [], Bool, true, false, List, length}
use Rattle.std.proofs.Common.{sum, slice_index, Option, Some, None, is_some, refl, sym, ap, ◌∙◌, subst, arith, inl, inr}
use Rattle.std.proofs.lemmas.Bool.{and_from}
use Rattle.plain_monitor.specs.declared.entry.Entry.{Entry}
use Rattle.plain_monitor.specs.declared.entry.Entry.TheVariants as entry
use Rattle.plain_monitor.specs.declared.entry.Ending.{Ending}
use Rattle.plain_monitor.specs.declared.entry.Ending.TheVariants as ending
use Rattle.plain_monitor.specs.declared.entry.Logged.{Logged}
use Rattle.core_calls.specs.CallsSay.{lets_go}
use Rattle.core_world.specs.declared.answer.Progress.TheVariants.{Done, Pending}
use Rattle.core_world.specs.declared.answer.PendingCause.{PendingCause}
use Rattle.core_world.specs.declared.heap_call.Unfinished.{Unfinished}
use Rattle.plain_monitor.specs.Endings.{ending_entry}
use Rattle.heap_table.specs.Resting.{start_now}
use Rattle.heap_table.specs.Seen.{HeapSeen, PassSeen}
use Rattle.lock_runtime.specs.Standing.{IsRunning, StandsAfterTurn}
use Rattle.own_logs.proofs.OwnWaits.{own_waits}
use Rattle.object_program.specs.Program.{ProgramText, objects_total}
use Rattle.plain_machine.specs.declared.monitor_call.NextEntry.TheVariants.{Calls, Resumes, Leaves as Left, Ends}
use Rattle.plain_machine.specs.declared.monitor_call.MonitorCall.{MonitorCall}
use Rattle.plain_machine.specs.declared.monitor_call.MonitorCall.TheVariants as call
use Rattle.plain_machine.specs.declared.monitor_call.Mode.{Mode}
use Rattle.plain_machine.specs.declared.monitor_call.Mode.TheVariants.{Calling, Waiting, Unwinding}
use Rattle.plain_machine.specs.Asking.{ask, ask_in, fits, held_from, unwinds, fault_number}
use Rattle.plain_machine.specs.Machine.{code_of}
use Rattle.plain_machine.specs.Ready.{waits_on}
use Rattle.plain_machine.specs.Thread.{ThreadState}
use Rattle.machine_laws.proofs.ReachedAsked.{asked_of}
use Rattle.thread_frame.specs.Frames.{FrameSeen, before_call, frame_after, frame_after_call, next_state, state_in, led_on}
use Rattle.thread_frame.specs.Frames.{locals_of, shown_mode, has_ended, is_in_wait, unspent, rank_of, mode_rank}
use Rattle.thread_frame.specs.Sights.{counts_from}
use Rattle.thread_logs.specs.Followed.{HasValue}
use Rattle.thread_logs.proofs.Standing.{waits_told}
use Rattle.thread_calls.specs.Advances.{HasAdvanced, MayAdvance, DoneIn, PendedIn, MadeCall, HasSpent}
use Rattle.thread_calls.specs.Asked.{unfinished_of}
use Rattle.thread_calls.specs.Between.{IsHeapOf, state_by}
use Rattle.thread_calls.specs.inner.Made.{IsAfter, HasLogged, HasLeft, HasTold}
use Rattle.thread_calls.proofs.Counts.{sum_after, sum_left, sum_kept, keeps}
use Rattle.thread_calls.proofs.Framed.{IsFramed, holds_with, framed_next, framed_by, holds_after_entry, on_from, sum_holds}
use Rattle.thread_calls.proofs.May.{thread_is}
use Rattle.thread_calls.proofs.Shapes.{as_many}

-- FRAMES before and after a call
pub stands_before : (f : FrameSeen) (c : MonitorCall) → f.mode ≡ Some (Calling c) → f ≡ before_call f c
stands_before f c at = ap (λ m. record f { mode = m }) at

call_fuel : (f : FrameSeen) (c : MonitorCall) (e : Entry) → (frame_after_call f c e).fuel ≡ f.fuel - 1
call_fuel f (call.Wait o) e = refl
call_fuel f c e = refl

call_mode : (f : FrameSeen) (c : MonitorCall) (e : Entry) → ((o : ℕ) → c ≡ call.Wait o → ⊥) → (frame_after_call f c e).mode ≡ None
call_mode f (call.Wait o) e other = absurd (other o refl)
call_mode f c e other = refl

-- the entry of an ending
fits_end : (g : Ending) → fits (Ends g) (ending_entry g) ≡ true
fits_end (ending.Trap f i) = and_from (fault_number f == fault_number f) (i == i) (eq-eqb _ _ refl) (eq-eqb i i refl)
fits_end ending.Spent = refl
fits_end ending.Done = refl

end_value : (n : ℕ) (g : Ending) → HasValue n (ending_entry g)
end_value n (ending.Trap f i) = tt
end_value n _ = tt

end_keeps : (g : Ending) → keeps (ending_entry g) ≡ true
end_keeps (ending.Trap f i) = refl
end_keeps _ = refl

-- what a pending call leaves, whatever it logged
pub record IsLeftWith (h : HeapSeen) (k q : PassSeen) (u : Option Unfinished) (why : PendingCause) : Type 0 where
  pub is_after : IsAfter h k q
  pub unfinished : q.known.unfinished ≡ u
  pub stands : StandsAfterTurn {A = Bool} q.known (Pending why)
  pub call : MadeCall (PendedIn h why) k q

module _ (h : HeapSeen) (p : ProgramText) (fuel : ℕ) (k : PassSeen) (f : FrameSeen) (of : IsHeapOf h p) (may : MayAdvance h p fuel k f) where
  abbrev t : ℕ
  t = k.known.thread

  abbrev s : ThreadState
  s = state_by h p k f

  abbrev counts : List ℕ
  counts = counts_from 0 (length h.heap.shape.objects) k.known.holds

  pub framed : IsFramed p fuel t k.known.log counts f
  framed = framed_by h p of fuel k may.on.rests f may.on.follows may.on.values

  -- A FRAME THAT STANDS BEFORE SOMETHING is its thread
  stands_as : (m : Mode) → f.mode ≡ Some m → s ≡ state_in (locals_of p t) counts f
  stands_as m e = ap (λ x. led_on p (code_of p t) x (state_in (locals_of p t) counts f)) e

  pub mode_is : (m : Mode) → f.mode ≡ Some m → s.mode ≡ m
  mode_is m e = ap (λ (x : ThreadState). x.mode) (stands_as m e) ∙ ap shown_mode e

  pub fuel_is : (m : Mode) → f.mode ≡ Some m → s.fuel ≡ f.fuel
  fuel_is m e = ap (λ (x : ThreadState). x.fuel) (stands_as m e)

  holds_are : (m : Mode) → f.mode ≡ Some m → s.holds ≡ counts
  holds_are m e = ap (λ (x : ThreadState). x.holds) (stands_as m e)

  asks_in : (m : Mode) → f.mode ≡ Some m → ask s ≡ ask_in s m
  asks_in m e = ap (ask_in s) (mode_is m e)

  pub asks_call : (c : MonitorCall) → f.mode ≡ Some (Calling c) → ask s ≡ Some (Calls c)
  asks_call c e = asks_in (Calling c) e

  pub asks_resume : (o : ℕ) → f.mode ≡ Some (Waiting o) → ask s ≡ Some (Resumes o)
  asks_resume o e = asks_in (Waiting o) e

  asks_unwind : (g : Ending) (held : Option ℕ) → f.mode ≡ Some (Unwinding g) → held_from 0 counts ≡ held → ask s ≡ Some (unwinds g held)
  asks_unwind g held e least =
      asks_in (Unwinding g) e ∙ ap (λ hs. Some (unwinds g (held_from 0 hs))) (holds_are (Unwinding g) e) ∙ ap (λ x. Some (unwinds g x)) least

  pub asks_leave : (g : Ending) (o : ℕ) → f.mode ≡ Some (Unwinding g) → held_from 0 counts ≡ Some o → ask s ≡ Some (Left o)
  asks_leave g o e least = asks_unwind g (Some o) e least

  pub asks_end : (g : Ending) → f.mode ≡ Some (Unwinding g) → held_from 0 counts ≡ None → ask s ≡ Some (Ends g)
  asks_end g e least = asks_unwind g None e least

  -- it waits by its word exactly where its frame does
  pub waits_are : (o : ℕ) (m : Mode) → f.mode ≡ Some m → lets_go (start_now h k) o ≡ not (waits_on m o)
  waits_are o m e =
      let by_log = own_waits h k o may.on.rests in
      let by_state = waits_told p fuel t o k.known.log s may.on.follows in
      ap not (by_log ∙ sym by_state ∙ ap (λ x. waits_on x o) (mode_is m e))

  module _ (q : PassSeen) where
    -- ONE TURN, done or pending
    pub progress_over : (g : FrameSeen) (done : Bool) (holds : List ℕ) → IsFramed p fuel t q.known.log holds g → IsAfter h k q → q.known.unfinished ≡ None
        → IsRunning q.known → MadeCall (DoneIn h) k q → g.fuel ≤ f.fuel → HasSpent f g (Done done) → rank_of g + sum holds < rank_of f + sum counts
        → HasAdvanced h p fuel k q f g (Done done)
    progress_over g done holds is b none runs call fewer spent falls =
        let before = sum_holds h p of fuel k may.on.rests counts framed.count framed.each in
        let after = sum_holds h p of fuel q b.rests holds is.count is.each in
        record {
          on = on_from h p of fuel k q f g may.on b holds is fewer (inl none) (λ r. absurd (cc (r, runs.asks)));
          unchecked = b.unchecked;
          thread = b.thread;
          stands = runs;
          calls = inr call;
          spent = spent;
          fallen = omega (arith, before, after, falls);
        }

    pub progress_waits : (g : FrameSeen) (why : PendingCause) (holds : List ℕ) (u : Option Unfinished)
        → IsFramed p fuel t q.known.log holds g → IsLeftWith h k q u why
        → u ≡ unfinished_of (ask (next_state p t holds g)) → is_some u ≡ true → is_some g.mode ≡ true → has_ended g ≡ false
        → unspent f ≡ unspent g → g.fuel ≤ f.fuel → HasAdvanced h p fuel k q f g (Pending why)
    progress_waits g why holds u is l asked some before live spent fewer =
        let same = l.unfinished ∙ asked in
        record {
          on = on_from h p of fuel k q f g may.on l.is_after holds is fewer (inr same) (λ r. record {
            live = live;
            before = before;
            some = ap is_some l.unfinished ∙ some;
            is = same;
          });
          unchecked = l.is_after.unchecked;
          thread = l.is_after.thread;
          stands = l.stands;
          calls = l.call;
          spent = (spent, live);
          fallen = tt;
        }

    pub at_log : (log : List Logged) (holds : List ℕ) (g : FrameSeen) → q.known.log ≡ log
        → IsFramed p fuel t log holds g → IsFramed p fuel t q.known.log holds g
    at_log log holds g e is = subst (λ (x : List Logged). IsFramed p fuel t x holds g) (sym e) is

    -- pending with its log as it was
    pub still_waits : (why : PendingCause) (m : Mode) (u : Option Unfinished) → f.mode ≡ Some m → HasLeft h k q u why → u ≡ unfinished_of (ask s)
        → is_some u ≡ true → HasAdvanced h p fuel k q f f (Pending why)
    still_waits why m u mode l asked some =
        progress_waits f why counts u (at_log k.known.log counts f l.log framed)
        (record { is_after = l.is_after; unfinished = l.unfinished; stands = l.stands; call = l.call })
        asked some (ap is_some mode) may.live refl (omega arith)

    -- A CALL that isn't a wait
    pub call_done : (c : MonitorCall) (e : Entry) → f.mode ≡ Some (Calling c) → ((o : ℕ) → c ≡ call.Wait o → ⊥) → HasTold h k q c e
        → HasAdvanced h p fuel k q f (frame_after f (Calls c) e) (Done true)
    call_done c e mode other m =
        let l : Logged = record { stamp = m.is.stamp; entry = m.logged } in
        let asks = asks_call c mode in
        let value = subst (λ (n : ℕ). HasValue n m.logged) (as_many h p of) m.of.value in
        let g = frame_after f (Calls c) e in
        let more = k.known.log ++ l ∷ [] in
        let holds = holds_with p t counts f (Calls c) m.logged in
        let next = framed_next p fuel t k.known.log counts f of.program framed (Calling c) (Calls c) l mode asks m.of.is value in
        let is = at_log more holds g m.is.log (subst (IsFramed p fuel t more holds) (sym (m.same f)) next) in
        let grows = sum_after m.logged holds counts
        (holds_after_entry p fuel t k.known.log counts f of.program framed (Calling c) (Calls c) l mode asks m.of.is value) in
        let paid = (asked_of p s (Calls c) (thread_is h p fuel k f of may) asks).fuel in
        let same = fuel_is (Calling c) mode in
        let less = call_fuel f c e in
        let ran : g.mode ≡ None = call_mode f c e other in
        let w = ap is_in_wait mode in
        let v = ap is_in_wait ran in
        let r = ap mode_rank mode in
        let z = ap mode_rank ran in
        progress_over g true holds is m.is.is_after m.is.unfinished m.is.runs m.is.call (omega (arith, less))
        (omega (arith, paid, same, less, w, v)) (omega (arith, paid, same, less, r, z, grows))

    -- A HOLD LEFT, AND THE END, of a thread that unwinds
    pub leave_done : (g : Ending) (o : ℕ) → f.mode ≡ Some (Unwinding g) → held_from 0 counts ≡ Some o → HasLogged h k q (entry.Exit o)
        → HasAdvanced h p fuel k q f (frame_after f (Left o) (entry.Exit o)) (Done false)
    leave_done g o mode least m =
        let l : Logged = record { stamp = m.stamp; entry = entry.Exit o } in
        let asks = asks_leave g o mode least in
        let holds = holds_with p t counts f (Left o) (entry.Exit o) in
        let next = framed_next p fuel t k.known.log counts f of.program framed (Unwinding g) (Left o) l mode asks (eq-eqb o o refl) tt in
        let is = at_log (k.known.log ++ l ∷ []) holds f m.log next in
        let held_then = holds_after_entry p fuel t k.known.log counts f of.program framed (Unwinding g) (Left o) l mode asks (eq-eqb o o refl) tt in
        let held = (asked_of p s (Left o) (thread_is h p fuel k f of may) asks).held in
        let same = ap (λ (hs : List ℕ). slice_index hs o) (holds_are (Unwinding g) mode) in
        let falls = sum_left o holds counts held_then (omega (arith, held.0, next.count)) (omega (arith, held.1, same)) in
        progress_over f false holds is m.is_after m.unfinished m.runs m.call (omega arith) refl (omega (arith, falls))

    pub end_done : (g : Ending) → f.mode ≡ Some (Unwinding g) → held_from 0 counts ≡ None → HasLogged h k q (ending_entry g)
        → HasAdvanced h p fuel k q f (frame_after f (Ends g) (ending_entry g)) (Done false)
    end_done g mode least m =
        let e = ending_entry g in
        let l : Logged = record { stamp = m.stamp; entry = e } in
        let asks = asks_end g mode least in
        let over = frame_after f (Ends g) e in
        let holds = holds_with p t counts f (Ends g) e in
        let value = end_value (objects_total p) g in
        let next = framed_next p fuel t k.known.log counts f of.program framed (Unwinding g) (Ends g) l mode asks (fits_end g) value in
        let is = at_log (k.known.log ++ l ∷ []) holds over m.log next in
        let stays = sum_kept e holds counts (end_keeps g)
        (holds_after_entry p fuel t k.known.log counts f of.program framed (Unwinding g) (Ends g) l mode asks (fits_end g) value) in
        let w = ap is_in_wait mode in
        let r = ap mode_rank mode in
        progress_over over false holds is m.is_after m.unfinished m.runs m.call (omega arith) (omega (arith, w)) (omega (arith, r, stays))
