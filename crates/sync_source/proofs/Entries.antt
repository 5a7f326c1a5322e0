-- The two threads ask the same, the index of a trap aside, and stay alike after an entry.
use Rattle.std.proofs.Common.{◌≡◌, ℕ, ◌+◌, Bool, true, false, ◌&&◌, ◌==◌, List, Option, Some, None, option_and_then, refl, sym, ap, subst}
use Rattle.plain_monitor.proofs.Threads.{same_thread}
use Rattle.plain_monitor.specs.declared.entry.Ending.{Ending}
use Rattle.plain_monitor.specs.declared.entry.Ending.TheVariants as ending
use Rattle.plain_monitor.specs.declared.entry.Entry.{Entry}
use Rattle.plain_monitor.specs.declared.entry.Entry.TheVariants.{Get, Hash, New, Trap}
use Rattle.plain_monitor.specs.Monitor.{only_if}
use Rattle.object_program.specs.declared.program.ClassDef.{ClassDef}
use Rattle.object_program.specs.declared.program.ObjectDef.{ObjectDef}
use Rattle.object_program.specs.declared.program.ThreadDef.{ThreadDef}
use Rattle.object_program.specs.declared.program.Code.{Code}
use Rattle.object_program.specs.Program.{ProgramText, most_in}
use Rattle.plain_machine.specs.declared.monitor_call.MonitorCall.{MonitorCall}
use Rattle.plain_machine.specs.declared.monitor_call.MonitorCall.TheVariants as call
use Rattle.plain_machine.specs.declared.monitor_call.Mode.{Mode}
use Rattle.plain_machine.specs.declared.monitor_call.Mode.TheVariants.{Calling, Waiting, Unwinding, Ended}
use Rattle.plain_machine.specs.Thread.{ThreadState, past}
use Rattle.plain_machine.specs.Running.{run_on}
use Rattle.plain_machine.specs.Asking.{held_from, unwinds, is_call, is_ending, is_exit, is_resume, fits, fault_number}
use Rattle.plain_machine.specs.Asking.{answered, holds_more, holds_less, after_call, after_entry, thread_after}
use Rattle.sync_source.specs.SyncThread.{Left, SyncState, unplaced, sync_run, sync_after_call, sync_after_entry, sync_thread_after, with_index}
use Rattle.sync_source.specs.inner.Alike.{StandsInCode, StandsIn, AreAlike, erased, OptionAlike, index_in}
use Rattle.sync_source.proofs.Units.{run_alike}

module _ (code : List Code) (classes : List ClassDef) (objects : List ObjectDef) (ts us : List ThreadDef)
    (same : most_in classes ts ≡ most_in classes us) where
  abbrev p : ProgramText
  p = record { classes = classes; objects = objects; threads = ts }

  abbrev q : ProgramText
  q = record { classes = classes; objects = objects; threads = us }

  -- a call's answer changes no place and no mode, and so the rest runs on alike
  answer_alike : (left : Left) (s t : ThreadState) (a : ThreadState) (n : ℕ) → StandsInCode code (s.place + 1) left
      → a ≡ erased t → t.place ≡ s.place → AreAlike code (sync_run q n left a) (run_on p code n (past t))
  answer_alike left s t a n h e k =
      let at : StandsInCode code (t.place + 1) left = subst (λ (i : ℕ). StandsInCode code (i + 1) left) (sym k) h in
      subst (λ (x : ThreadState). AreAlike code (sync_run q n left x) (run_on p code n (past t)))
      (sym e) (run_alike code classes objects ts us same n left (past t) at)

  after_call_alike : (left : Left) (s : ThreadState) (c : MonitorCall) (e : Entry) → StandsInCode code (s.place + 1) left
      → AreAlike code (sync_after_call q (record { left = left; thread = erased s }) c e) (after_call p code s c e)
  after_call_alike left s (call.Enter o) e h = answer_alike left s (holds_more s o) _ _ h refl refl
  after_call_alike left s (call.Exit o) e h = answer_alike left s (holds_less s o) _ _ h refl refl
  after_call_alike left s (call.Wait o) e h = record { same = refl; stands = h }
  after_call_alike left s (call.Notify o) e h = answer_alike left s s _ _ h refl refl
  after_call_alike left s (call.NotifyAll o) e h = answer_alike left s s _ _ h refl refl
  after_call_alike left s (call.Get x o k) e h = answer_alike left s (answered s (call.Get x o k) e) _ _ h (got e) (got_place e)
    where
      got : (e : Entry) → answered (erased s) (call.Get x o k) e ≡ erased (answered s (call.Get x o k) e)
      got (Get object slot value) = refl
      got e = refl

      got_place : (e : Entry) → (answered s (call.Get x o k) e).place ≡ s.place
      got_place (Get object slot value) = refl
      got_place e = refl
  after_call_alike left s (call.Put o k v) e h = answer_alike left s s _ _ h refl refl
  after_call_alike left s (call.Hash x o) e h = answer_alike left s (answered s (call.Hash x o) e) _ _ h (got e) (got_place e)
    where
      got : (e : Entry) → answered (erased s) (call.Hash x o) e ≡ erased (answered s (call.Hash x o) e)
      got (Hash object value drawn) = refl
      got e = refl

      got_place : (e : Entry) → (answered s (call.Hash x o) e).place ≡ s.place
      got_place (Hash object value drawn) = refl
      got_place e = refl
  after_call_alike left s (call.New x c) e h = answer_alike left s (answered s (call.New x c) e) _ _ h (got e) (got_place e)
    where
      got : (e : Entry) → answered (erased s) (call.New x c) e ≡ erased (answered s (call.New x c) e)
      got (New object class) = refl
      got e = refl

      got_place : (e : Entry) → (answered s (call.New x c) e).place ≡ s.place
      got_place (New object class) = refl
      got_place e = refl
  after_call_alike left s (call.Print v) e h = answer_alike left s s _ _ h refl refl
  after_call_alike left s (call.Dump n) e h = answer_alike left s (record s { dumps = n }) _ _ h refl refl

  -- the two are alike where both are there
  if_both : (b : Bool) (a : SyncState) (s : ThreadState) → AreAlike code a s → OptionAlike code (only_if b a) (only_if b s)
  if_both true a s h = h
  if_both false a s h = tt

  -- the ending of a thread that has left its holds
  end_fits : (ending : Ending) (e : Entry) → is_ending (unplaced ending) (with_index 0 e) ≡ is_ending ending (with_index (index_in (Unwinding ending)) e)
  end_fits (ending.Trap f i) (Trap g j) = ap (λ (b : Bool). (fault_number f == fault_number g) && b) (sym (same_thread i))
  end_fits _ e = refl

  exit_fits : (o i : ℕ) (e : Entry) → is_exit o (with_index 0 e) ≡ is_exit o (with_index i e)
  exit_fits o i (Trap g j) = refl
  exit_fits o i e = refl

  only_both : (b c : Bool) (a : SyncState) (s : ThreadState) → b ≡ c → AreAlike code a s → OptionAlike code (only_if b a) (only_if c s)
  only_both b c a s e h = subst (λ (d : Bool). OptionAlike code (only_if b a) (only_if d s)) e (if_both b a s h)

  -- a thread that unwinds
  unwinding_alike : (left : Left) (s : ThreadState) (ending : Ending) (e : Entry) (held : Option ℕ) → (let t = record s { mode = Unwinding ending } in
      let x = with_index (index_in (Unwinding ending)) e in OptionAlike code (option_and_then (λ asked. only_if (fits asked (with_index 0 e))
      (sync_after_entry q (record { left = left; thread = erased t }) asked (with_index 0 e))) (Some (unwinds (unplaced ending) held)))
      (option_and_then (λ asked. only_if (fits asked x) (after_entry p code t asked x)) (Some (unwinds ending held))))
  unwinding_alike left s ending e None = only_both _ _ _ (record s { mode = Ended ending }) (end_fits ending e) (record { same = refl; stands = tt })
  unwinding_alike left s ending e (Some o) = only_both _ _ _ (holds_less (record s { mode = Unwinding ending }) o)
      (exit_fits o (index_in (Unwinding ending)) e) (record { same = refl; stands = tt })

  -- a thread in this mode
  mode_alike : (left : Left) (s : ThreadState) (mode : Mode) (e : Entry) → StandsIn code mode s.place left → (let t = record s { mode = mode } in
      OptionAlike code (sync_thread_after q (record { left = left; thread = erased t }) e) (thread_after p code t (with_index (index_in mode) e)))
  mode_alike left s (Calling c) e h =
      if_both (is_call c (with_index 0 e)) _ _ (after_call_alike left (record s { mode = Calling c }) c (with_index 0 e) h)
  mode_alike left s (Waiting o) e h =
      if_both (is_resume o (with_index 0 e)) _ _ (run_alike code classes objects ts us same s.fuel left (record s { mode = Waiting o }) h)
  mode_alike left s (Unwinding ending) e h = unwinding_alike left s ending e (held_from 0 s.holds)
  mode_alike left s (Ended ending) e h = tt

  -- both take an entry, with the index that the code's thread asks for where it is a trap, and are alike after it; or neither does
  pub thread_alike : (a : SyncState) (s : ThreadState) (e : Entry) → AreAlike code a s
      → OptionAlike code (sync_thread_after q a e) (thread_after p code s (with_index (index_in s.mode) e))
  thread_alike a s e h =
      let same : record { left = a.left; thread = erased s } ≡ a = ap (λ x. record { left = a.left; thread = x }) (sym h.same) in
      subst (λ (x : SyncState). OptionAlike code (sync_thread_after q x e) (thread_after p code s (with_index (index_in s.mode) e))) same
      (mode_alike a.left s s.mode e h.stands)
