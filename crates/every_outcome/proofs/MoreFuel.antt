-- A thread with more fuel does the same, where it isn't spent.
use Rattle.std.proofs.Common.{◌≡◌, ℕ, zero, suc, ◌+◌, ◌-◌, ◌≤◌, true, false, List, Option, Some, None, refl, sym, subst, arith}
use Rattle.std.proofs.lemmas.Bool.{false≢true, true≢false}
use Rattle.std.proofs.lemmas.Option.{none-some, same_Some}
use Rattle.plain_monitor.specs.declared.entry.Ending.TheVariants.{Spent}
use Rattle.plain_monitor.specs.declared.entry.Entry.{Entry}
use Rattle.plain_monitor.specs.declared.entry.Entry.TheVariants as entry
use Rattle.object_program.specs.declared.program.Code.{Code}
use Rattle.object_program.specs.Program.{ProgramText}
use Rattle.plain_machine.specs.declared.monitor_call.MonitorCall.{MonitorCall}
use Rattle.plain_machine.specs.declared.monitor_call.MonitorCall.TheVariants as call
use Rattle.plain_machine.specs.declared.monitor_call.Mode.{Mode}
use Rattle.plain_machine.specs.declared.monitor_call.Mode.TheVariants.{Unwinding, Ended}
use Rattle.plain_machine.specs.declared.monitor_call.NextEntry.{NextEntry}
use Rattle.plain_machine.specs.declared.monitor_call.NextEntry.TheVariants as asked
use Rattle.plain_machine.specs.Thread.{ThreadState, Step, Goes, Calls, Stops, past, step_of}
use Rattle.plain_machine.specs.Running.{instruction_at, run_on}
use Rattle.plain_machine.specs.Asking.{ask, ask_in, held_from, unwinds, answered, after_call, after_entry}
use Rattle.every_outcome.specs.Fuel.{with_fuel, is_spent}
use Rattle.plain_machine.proofs.Effects.{in_mode}
use Rattle.every_outcome.proofs.SameSteps.{step_same}

-- a run with d more units, of a thread with any fuel and any mode noted
pub run_more : (n d g top : ℕ) (md : Mode) (p : ProgramText) (c : List Code) (s : ThreadState) → is_spent (run_on p c n s).mode ≡ false
    → with_fuel top (run_on p c (n + d) (in_mode g md s)) ≡ with_fuel top (run_on p c n s)
unfolding run_on
run_more zero d g top md p c s h = absurd (true≢false h)
run_more (suc n) d g top md p c s h = go (step_of p s (instruction_at c s.place)) refl (λ next k. run_more n d g top md p c next k)
  where
    more : suc n + d ≡ suc (n + d)
    more = omega arith

    go : (st : Step) → step_of p s (instruction_at c s.place) ≡ st
        → ((next : ThreadState) → is_spent (run_on p c n next).mode ≡ false
        → with_fuel top (run_on p c (n + d) (in_mode g md next)) ≡ with_fuel top (run_on p c n next))
        → with_fuel top (run_on p c (suc n + d) (in_mode g md s)) ≡ with_fuel top (run_on p c (suc n) s)
    go (Goes next) e ih = rw (more, step_same g md p s (instruction_at c s.place), e) (ih next (rw e at h))
    go (Calls c2) e ih = rw (more, step_same g md p s (instruction_at c s.place), e) refl
    go (Stops x) e ih = rw (more, step_same g md p s (instruction_at c s.place), e) refl

-- a run has no more fuel after it
pub run_fuel : (n : ℕ) (p : ProgramText) (c : List Code) (s : ThreadState) → (run_on p c n s).fuel ≤ n
unfolding run_on
run_fuel zero p c s = omega arith
run_fuel (suc n) p c s = go (step_of p s (instruction_at c s.place)) refl (λ next. run_fuel n p c next)
  where
    go : (st : Step) → step_of p s (instruction_at c s.place) ≡ st → ((next : ThreadState) → (run_on p c n next).fuel ≤ n) → (run_on p c (suc n) s).fuel ≤ suc n
    go (Goes next) e ih = let less : (run_on p c n next).fuel ≤ n = ih next in rw e (omega (arith, less))
    go (Calls k) e ih = rw e (omega arith)
    go (Stops x) e ih = rw e (omega arith)

pub answered_with : (g : ℕ) (s : ThreadState) (c : MonitorCall) (e : Entry) → answered (with_fuel g s) c e ≡ with_fuel g (answered s c e)
answered_with g s (call.Get x o k) (entry.Get object slot value) = refl
answered_with g s (call.Get x o k) e = refl
answered_with g s (call.Hash x o) (entry.Hash object value drawn) = refl
answered_with g s (call.Hash x o) e = refl
answered_with g s (call.New x k) (entry.New object class) = refl
answered_with g s (call.New x k) e = refl
answered_with g s c e = refl

runs_more : (top : ℕ) (p : ProgramText) (i : List Code) (s : ThreadState) (c : MonitorCall) (e : Entry) → s.fuel ≤ top
    → is_spent (run_on p i (s.fuel - 1) (past (answered s c e))).mode ≡ false
    → with_fuel top (run_on p i (top - 1) (past (answered (with_fuel top s) c e))) ≡ with_fuel top (run_on p i (s.fuel - 1) (past (answered s c e)))
runs_more top p i s c e few h =
    let d : ℕ = (top - 1) - (s.fuel - 1) in
    let more : top - 1 ≡ (s.fuel - 1) + d = omega (arith, few) in
    rw (answered_with top s c e, more) (run_more (s.fuel - 1) d top top (answered s c e).mode p i (past (answered s c e)) h)

call_more : (top : ℕ) (p : ProgramText) (i : List Code) (s : ThreadState) (c : MonitorCall) (e : Entry)
    → s.fuel ≤ top → is_spent (after_call p i s c e).mode ≡ false
    → with_fuel top (after_call p i (with_fuel top s) c e) ≡ with_fuel top (after_call p i s c e)
call_more top p i s (call.Wait o) e few h = refl
call_more top p i s c e few h = runs_more top p i s c e few h

-- a thread with more fuel goes the same way after an entry, where it isn't spent
pub entry_more : (top : ℕ) (p : ProgramText) (i : List Code) (s : ThreadState) (a : NextEntry) (e : Entry) → s.fuel ≤ top
    → is_spent (after_entry p i s a e).mode ≡ false
    → with_fuel top (after_entry p i (with_fuel top s) a e) ≡ with_fuel top (after_entry p i s a e)
entry_more top p i s (asked.Calls c) e few h = call_more top p i s c e few h
entry_more top p i s (asked.Resumes o) e few h =
    let d : ℕ = top - s.fuel in
    let more : top ≡ s.fuel + d = omega (arith, few) in
    subst (λ (n : ℕ). with_fuel top (run_on p i n (with_fuel top s)) ≡ with_fuel top (run_on p i s.fuel s)) (sym more)
    (run_more s.fuel d top top s.mode p i s h)
entry_more top p i s (asked.Leaves o) e few h = refl
entry_more top p i s (asked.Ends x) e few h = refl

fuel_call : (p : ProgramText) (i : List Code) (s : ThreadState) (c : MonitorCall) (e : Entry) → (after_call p i s c e).fuel ≤ s.fuel
fuel_call p i s (call.Wait o) e = omega arith
fuel_call p i s c e = omega (arith, run_fuel (s.fuel - 1) p i (past (answered s c e)))

pub entry_fuel : (p : ProgramText) (i : List Code) (s : ThreadState) (a : NextEntry) (e : Entry) → (after_entry p i s a e).fuel ≤ s.fuel
entry_fuel p i s (asked.Calls c) e = fuel_call p i s c e
entry_fuel p i s (asked.Resumes o) e = run_fuel s.fuel p i s
entry_fuel p i s (asked.Leaves o) e = omega arith
entry_fuel p i s (asked.Ends x) e = omega arith

-- a spent thread stays spent
pub spent_stays : (p : ProgramText) (i : List Code) (s : ThreadState) (a : NextEntry) (e : Entry) → is_spent s.mode ≡ true → ask s ≡ Some a
    → is_spent (after_entry p i s a e).mode ≡ true
spent_stays p i s a e spent asks = go s.mode refl spent asks
  where
    leaves : (held : Option ℕ) → ◌≡◌ {A = Option NextEntry} (Some (unwinds Spent held)) (Some a) → is_spent (after_entry p i s a e).mode ≡ true
    leaves None h = subst (λ (b : NextEntry). is_spent (after_entry p i s b e).mode ≡ true) (same_Some _ _ h) refl
    leaves (Some o) h = subst (λ (b : NextEntry). is_spent (after_entry p i s b e).mode ≡ true) (same_Some _ _ h) spent

    go : (mode : Mode) → s.mode ≡ mode → is_spent mode ≡ true → ask_in s mode ≡ Some a → is_spent (after_entry p i s a e).mode ≡ true
    go (Unwinding Spent) at h q = leaves (held_from 0 s.holds) q
    go (Ended Spent) at h q = absurd (none-some a q)
    go mode at h q = absurd (false≢true h)
