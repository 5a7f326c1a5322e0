-- A thread that waits on an object holds it by its log.
use Rattle.std.proofs.Common.{refl, ◌≡◌, ℕ, ◌-◌, ◌≤◌, eqb-true, true, List, [], ◌∷◌, slice_index, Some, ap, ◌∙◌, subst, eq-eqb}
use Rattle.std.proofs.lemmas.Option.{same_Some}
use Rattle.plain_monitor.specs.declared.entry.Entry.{Entry}
use Rattle.plain_monitor.specs.declared.entry.Logged.{Logged}
use Rattle.plain_history.specs.Joined.{run_log}
use Rattle.plain_history.proofs.Joined.{first_some}
use Rattle.object_program.specs.Program.{ProgramText}
use Rattle.object_program.specs.Valid.{IsProgram}
use Rattle.plain_machine.specs.declared.monitor_call.NextEntry.{NextEntry}
use Rattle.plain_machine.specs.declared.monitor_call.NextEntry.TheVariants.{Calls, Resumes, Leaves, Ends}
use Rattle.plain_machine.specs.declared.monitor_call.MonitorCall.{MonitorCall}
use Rattle.plain_machine.specs.declared.monitor_call.MonitorCall.TheVariants as call
use Rattle.plain_machine.specs.declared.monitor_call.Mode.TheVariants.{Waiting}
use Rattle.plain_machine.specs.Asking.{ask, answered, after_entry, thread_after}
use Rattle.plain_machine.specs.Machine.{code_of}
use Rattle.machine_laws.specs.ReachedThread.{IsThreadOf}
use Rattle.plain_machine.specs.Ready.{waits_on}
use Rattle.plain_machine.specs.Running.{run_on}
use Rattle.plain_machine.specs.Thread.{ThreadState, past, holds_of}
use Rattle.machine_laws.proofs.ReachedAsked.{asked_of}
use Rattle.thread_logs.specs.Followed.{FollowsCode, HaveValues}
use Rattle.thread_logs.proofs.Entries.{has_made}
use Rattle.thread_logs.proofs.Onward.{onward, is_first}
use Rattle.thread_logs.proofs.Running.{has_run, begun}

abbrev HoldsItsWait : ThreadState → Type 0
HoldsItsWait s = (o : ℕ) → waits_on s.mode o ≡ true → 1 ≤ holds_of s o

module _ (p : ProgramText) (t : ℕ) (valid : IsProgram p) where
  runs : (n : ℕ) (s : ThreadState) → HoldsItsWait (run_on p (code_of p t) n s)
  runs n s o w = let awake = (has_run p (code_of p t) n s).awake o in absurd (cc (awake, w))

  -- after each entry that it asked for
  by_call : (s : ThreadState) (c : MonitorCall) (e : Entry) → IsThreadOf p s → ask s ≡ Some (Calls c)
      → HoldsItsWait (after_entry p (code_of p t) s (Calls c) e)
  by_call s (call.Wait i) e is asks o w =
      let held = (asked_of p s (Calls (call.Wait i)) is asks).call.1 in
      subst (λ (j : ℕ). 1 ≤ slice_index s.holds j) (eqb-true i o w) held
  by_call s c e is asks o w = runs (s.fuel - 1) (past (answered s c e)) o w

  by_entry : (s : ThreadState) (a : NextEntry) (e : Entry) → IsThreadOf p s → ask s ≡ Some a → HoldsItsWait (after_entry p (code_of p t) s a e)
  by_entry s (Calls c) e is asks o w = by_call s c e is asks o w
  by_entry s (Resumes i) e is asks o w = runs s.fuel s o w
  by_entry s (Leaves i) e is asks o w =
      let awake = ap (λ m. waits_on m o) (asked_of p s (Leaves i) is asks).mode in
      absurd (cc (awake, w))
  by_entry s (Ends g) e is asks o w = absurd (cc w)

  along : (log : List Logged) (s final : ThreadState) → IsThreadOf p s → HoldsItsWait s → HaveValues p log
      → run_log (thread_after p (code_of p t)) s log ≡ Some final → HoldsItsWait final
  along [] s final is held values leads = subst HoldsItsWait (same_Some s final leads) held
  along (l ∷ log) s final is held values leads =
      let step = thread_after p (code_of p t) in
      let a = first_some (λ next. run_log step next log) (step s l.entry) final leads in
      let m = has_made p (code_of p t) s a.0 l.entry a.1 in
      let next = (onward p t valid s a.0 l.entry is values.0 a.1).thread in
      along log a.0 final next (subst HoldsItsWait m.is (by_entry s m.asked l.entry is m.asks)) values.1 a.2

  pub waits_held : (fuel o : ℕ) (log : List Logged) (s : ThreadState) → HaveValues p log → FollowsCode p fuel t log s → s.mode ≡ Waiting o
      → 1 ≤ holds_of s o
  waits_held fuel o log s values follows mode =
      let first = (is_first p fuel t follows.first valid follows.there).thread in
      let awake = begun p fuel t follows.first follows.there in
      let begins : HoldsItsWait follows.first = λ i w. absurd (cc (awake.awake i, w)) in
      along log follows.first s first begins values follows.leads o (ap (λ m. waits_on m o) mode ∙ eq-eqb o o refl)
