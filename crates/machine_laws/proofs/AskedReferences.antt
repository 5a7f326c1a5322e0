-- What a thread asks refers to what the thread does, and so does the thread after the entry, but for what the entry brings.
use Rattle.std.proofs.Common.{◌≡◌, ◌⊎◌, inl, inr, ℕ, zero, suc, ◌+◌, ◌-◌, ◌<◌, ◌≤◌, ◌==◌, ◌&&◌, true, List, [], ◌∷◌}
use Rattle.std.proofs.Common.{slice_index, slice_set, Option, Some, None, refl, sym, ap, ◌∙◌, subst, arith, eqb-true}
use Rattle.std.specs.List.{AllByRecursion}
use Rattle.std.proofs.lemmas.Bool.{false≢true, and_parts}
use Rattle.std.proofs.lemmas.Option.{none-some, same_Some}
use Rattle.plain_monitor.specs.declared.entry.Value.{Value}
use Rattle.plain_monitor.specs.declared.entry.Value.TheVariants.{Nil, Int, Ref}
use Rattle.plain_monitor.specs.declared.entry.Ending.{Ending}
use Rattle.plain_monitor.specs.declared.entry.Ending.TheVariants as ending
use Rattle.plain_monitor.specs.declared.entry.Entry.{Entry}
use Rattle.plain_monitor.specs.declared.entry.Entry.TheVariants.{Enter, Exit, Get, Put, Wait, Resume, Notify, NotifyAll}
use Rattle.plain_monitor.specs.declared.entry.Entry.TheVariants.{Hash, New, Print, Dump, Trap, Spent, Done}
use Rattle.plain_monitor.specs.Made.{creates, needs, refers}
use Rattle.plain_monitor.specs.Objects.{same_value}
use Rattle.object_program.specs.declared.program.Code.{Code}
use Rattle.object_program.specs.Program.{ProgramText, declared_total}
use Rattle.object_program.specs.Valid.{IsProgram}
use Rattle.plain_machine.specs.declared.monitor_call.MonitorCall.{MonitorCall}
use Rattle.plain_machine.specs.declared.monitor_call.MonitorCall.TheVariants as call
use Rattle.plain_machine.specs.declared.monitor_call.Mode.{Mode}
use Rattle.plain_machine.specs.declared.monitor_call.Mode.TheVariants.{Calling, Waiting, Unwinding, Ended}
use Rattle.plain_machine.specs.declared.monitor_call.NextEntry.{NextEntry}
use Rattle.plain_machine.specs.declared.monitor_call.NextEntry.TheVariants.{Calls, Resumes, Leaves, Ends}
use Rattle.plain_machine.specs.Thread.{ThreadState, holds_of, past}
use Rattle.plain_machine.specs.Running.{run_on}
use Rattle.plain_machine.specs.Asking.{ask, ask_in, unwinds, held_from, is_call, is_ending, fits, answered, after_call, after_entry}
use Rattle.machine_laws.specs.References.{RefersTo, CallRefersTo, ModeRefersTo, ThreadRefersTo}
use Rattle.machine_laws.proofs.ReachedRunning.{IsRunnable}
use Rattle.machine_laws.proofs.ReachedAsked.{held_at}
use Rattle.machine_laws.proofs.ReachedObjects.{same_is}
use Rattle.machine_laws.proofs.RunReferences.{run_refers}
use Rattle.plain_monitor.proofs.Lists.{all_set, all_each}

-- what the entries that a thread asks for need are objects of these
abbrev pub AskRefersTo : (ℕ → Type 0) → NextEntry → Type 0
AskRefersTo These (Calls c) = CallRefersTo These c
AskRefersTo These (Resumes o) = These o
AskRefersTo These (Leaves o) = These o
AskRefersTo These (Ends e) = Unit {0}

-- what the entry gives its thread refers to one of these
abbrev pub BringsTo : (ℕ → Type 0) → Entry → Type 0
BringsTo These (Get object slot value) = RefersTo These value
BringsTo These (New object class) = These object
BringsTo These e = Unit {0}

-- how many objects an entry makes
abbrev pub count_made : Option (ℕ × ℕ) → ℕ
count_made None = 0
count_made (Some p) = 1

module _ (These : ℕ → Type 0) where
  -- WHAT A THREAD ASKS
  unwound_refers : (s : ThreadState) (e : Ending) (held : Option ℕ) (a : NextEntry) → ThreadRefersTo These s → held_from 0 s.holds ≡ held
      → ◌≡◌ {A = Option NextEntry} (Some (unwinds e held)) (Some a) → AskRefersTo These a
  unwound_refers s e None a h at asks = subst (AskRefersTo These) (same_Some _ _ asks) tt
  unwound_refers s e (Some o) a h at asks =
      let r = held_at 0 s.holds o at in
      let same : o ≡ r.place = omega (arith, r.is) in
      subst (AskRefersTo These) (same_Some _ _ asks) (h.holds o (subst (λ (k : ℕ). 1 ≤ slice_index s.holds k) (sym same) r.held))

  asks_in : (s : ThreadState) (mode : Mode) (a : NextEntry) → ThreadRefersTo These s → ModeRefersTo These mode → ask_in s mode ≡ Some a → AskRefersTo These a
  asks_in s (Calling c) a h m asks = subst (AskRefersTo These) (same_Some _ _ asks) m
  asks_in s (Waiting o) a h m asks = subst (AskRefersTo These) (same_Some _ _ asks) m
  asks_in s (Unwinding e) a h m asks = unwound_refers s e (held_from 0 s.holds) a h refl asks
  asks_in s (Ended e) a h m asks = absurd (none-some a asks)

  pub ask_refers : (s : ThreadState) (a : NextEntry) → ThreadRefersTo These s → ask s ≡ Some a → AskRefersTo These a
  ask_refers s a h asks = asks_in s s.mode a h h.mode asks

  -- WHAT AN ENTRY NEEDS THAT FITS
  here : (o k : ℕ) → (o == k) ≡ true → These o → These k
  here o k same h = subst These (eqb-true o k same) h

  value_refers : (v : Value) → RefersTo These v → AllByRecursion These (refers v)
  value_refers Nil h = tt
  value_refers (Int z) h = tt
  value_refers (Ref o) h = (h, tt)

  same_refers : (v w : Value) → same_value v w ≡ true → RefersTo These v → AllByRecursion These (refers w)
  same_refers v w same h = value_refers w (subst (RefersTo These) (same_is v w same) h)

  call_needs : (c : MonitorCall) (e : Entry) → CallRefersTo These c → is_call c e ≡ true → AllByRecursion These (needs e)
  call_needs (call.Enter o) (Enter k path) h fit = (here o k fit h, tt)
  call_needs (call.Exit o) (Exit k) h fit = (here o k fit h, tt)
  call_needs (call.Wait o) (Wait k) h fit = (here o k fit h, tt)
  call_needs (call.Notify o) (Notify k woken) h fit = (here o k fit h, tt)
  call_needs (call.NotifyAll o) (NotifyAll k many) h fit = (here o k fit h, tt)
  call_needs (call.Get x o i) (Get k slot value) h fit = (here o k (and_parts (o == k) (i == slot) fit).0 h, tt)
  call_needs (call.Put o i v) (Put k slot value) h fit =
      let both = and_parts ((o == k) && (i == slot)) (same_value v value) fit in
      (here o k (and_parts (o == k) (i == slot) both.0).0 h.0, same_refers v value both.1 h.1)
  call_needs (call.Hash x o) (Hash k value drawn) h fit = (here o k fit h, tt)
  call_needs (call.New x c) (New object class) h fit = tt
  call_needs (call.Print v) (Print value) h fit = same_refers v value fit h
  call_needs (call.Dump n) (Dump number) h fit = tt
  call_needs c e h fit = absurd (false≢true fit)

  end_needs : (g : Ending) (e : Entry) → is_ending g e ≡ true → AllByRecursion These (needs e)
  end_needs (ending.Trap f i) (Trap fault index) fit = tt
  end_needs ending.Spent Spent fit = tt
  end_needs ending.Done Done fit = tt
  end_needs g e fit = absurd (false≢true fit)

  pub asked_needs : (a : NextEntry) (e : Entry) → AskRefersTo These a → fits a e ≡ true → AllByRecursion These (needs e)
  asked_needs (Calls c) e h fit = call_needs c e h fit
  asked_needs (Resumes o) (Resume k) h fit = (here o k fit h, tt)
  asked_needs (Resumes o) e h fit = absurd (false≢true fit)
  asked_needs (Leaves o) (Exit k) h fit = (here o k fit h, tt)
  asked_needs (Leaves o) e h fit = absurd (false≢true fit)
  asked_needs (Ends g) e h fit = end_needs g e fit

  -- THE THREAD AFTER AN ENTRY
  answered_locals : (s : ThreadState) (c : MonitorCall) (e : Entry) → AllByRecursion (RefersTo These) s.locals
      → BringsTo These e → AllByRecursion (RefersTo These) (answered s c e).locals
  answered_locals s (call.Get x o k) (Get object slot value) all b = all_set (RefersTo These) s.locals x value b all
  answered_locals s (call.Hash x o) (Hash object value drawn) all b = all_set (RefersTo These) s.locals x _ tt all
  answered_locals s (call.New x c) (New object class) all b = all_set (RefersTo These) s.locals x (Ref object) b all
  answered_locals s c e all b = all

  -- a hold that is read after a write was there before, or is the one that was written
  held_before : (xs : List ℕ) (o k i : ℕ) → 1 ≤ slice_index (slice_set xs o k) i → (1 ≤ slice_index xs i) ⊎ ((i ≡ o) × (1 ≤ k))
  held_before [] o k i h = inl h
  held_before (x ∷ xs) zero k zero h = inr (refl, h)
  held_before (x ∷ xs) zero k (suc i) h = inl h
  held_before (x ∷ xs) (suc o) k zero h = inl h
  held_before (x ∷ xs) (suc o) k (suc i) h = elim (held_before xs o k i h) [
    | inl before ↦ inl before
    | inr now ↦ inr (ap suc now.0, now.1)
  ]

  holds_set : (s : ThreadState) (o k : ℕ) → These o → ((i : ℕ) → 1 ≤ holds_of s i → These i) → (i : ℕ) → 1 ≤ slice_index (slice_set s.holds o k) i → These i
  holds_set s o k is h i held = elim (held_before s.holds o k i held) [
    | inl before ↦ h i before
    | inr now ↦ subst These (sym now.0) is
  ]

  answered_holds : (s : ThreadState) (c : MonitorCall) (e : Entry) → CallRefersTo These c
      → ((i : ℕ) → 1 ≤ holds_of s i → These i) → (i : ℕ) → 1 ≤ holds_of (answered s c e) i → These i
  answered_holds s (call.Enter o) e is h i held = holds_set s o _ is h i held
  answered_holds s (call.Exit o) e is h i held = holds_set s o _ is h i held
  answered_holds s (call.Get x o k) (Get object slot value) is h i held = h i held
  answered_holds s (call.Hash x o) (Hash object value drawn) is h i held = h i held
  answered_holds s (call.New x c) (New object class) is h i held = h i held
  answered_holds s c e is h i held = h i held

  module _ (p : ProgramText) (cs : List Code) (declared : (o : ℕ) → o < declared_total p → These o)
      (valid : IsProgram p) (runs : AllByRecursion (IsRunnable p) cs) where
    runs_on : (fuel : ℕ) (a : ThreadState) → AllByRecursion (RefersTo These) a.locals
        → ((i : ℕ) → 1 ≤ holds_of a i → These i) → ThreadRefersTo These (run_on p cs fuel a)
    runs_on fuel a all holds =
        let r = run_refers These p declared valid cs runs fuel a all in
        record { locals = r.same.locals; holds = λ o held. holds o (subst (λ (xs : List ℕ). 1 ≤ slice_index xs o) r.same.holds held); mode = r.mode }

    called : (s : ThreadState) (c : MonitorCall) (e : Entry) → ThreadRefersTo These s → CallRefersTo These c → BringsTo These e
        → ThreadRefersTo These (run_on p cs (s.fuel - 1) (past (answered s c e)))
    called s c e h is b = runs_on (s.fuel - 1) (past (answered s c e)) (answered_locals s c e h.locals b) (answered_holds s c e is h.holds)

    call_after : (s : ThreadState) (c : MonitorCall) (e : Entry) → ThreadRefersTo These s
        → CallRefersTo These c → BringsTo These e → ThreadRefersTo These (after_call p cs s c e)
    call_after s (call.Wait o) e h is b = record { locals = h.locals; holds = h.holds; mode = is }
    call_after s (call.Enter o) e h is b = called s (call.Enter o) e h is b
    call_after s (call.Exit o) e h is b = called s (call.Exit o) e h is b
    call_after s (call.Notify o) e h is b = called s (call.Notify o) e h is b
    call_after s (call.NotifyAll o) e h is b = called s (call.NotifyAll o) e h is b
    call_after s (call.Get x o k) e h is b = called s (call.Get x o k) e h is b
    call_after s (call.Put o k v) e h is b = called s (call.Put o k v) e h is b
    call_after s (call.Hash x o) e h is b = called s (call.Hash x o) e h is b
    call_after s (call.New x c) e h is b = called s (call.New x c) e h is b
    call_after s (call.Print v) e h is b = called s (call.Print v) e h is b
    call_after s (call.Dump k) e h is b = called s (call.Dump k) e h is b

    pub entry_after : (s : ThreadState) (a : NextEntry) (e : Entry) → ThreadRefersTo These s
        → AskRefersTo These a → BringsTo These e → ThreadRefersTo These (after_entry p cs s a e)
    entry_after s (Calls c) e h is b = call_after s c e h is b
    entry_after s (Resumes o) e h is b = runs_on s.fuel s h.locals h.holds
    entry_after s (Leaves o) e h is b = record { locals = h.locals; holds = holds_set s o _ is h.holds; mode = h.mode }
    entry_after s (Ends g) e h is b = record { locals = h.locals; holds = h.holds; mode = tt }

-- HOW MANY OBJECTS IT HAS MADE
answered_made : (s : ThreadState) (c : MonitorCall) (e : Entry) → is_call c e ≡ true → (answered s c e).made ≡ s.made + count_made (creates e)
answered_made s (call.Enter o) (Enter k path) fit = omega arith
answered_made s (call.Exit o) (Exit k) fit = omega arith
answered_made s (call.Wait o) (Wait k) fit = omega arith
answered_made s (call.Notify o) (Notify k woken) fit = omega arith
answered_made s (call.NotifyAll o) (NotifyAll k many) fit = omega arith
answered_made s (call.Get x o i) (Get k slot value) fit = omega arith
answered_made s (call.Put o i v) (Put k slot value) fit = omega arith
answered_made s (call.Hash x o) (Hash k value drawn) fit = omega arith
answered_made s (call.New x c) (New object class) fit = omega arith
answered_made s (call.Print v) (Print value) fit = omega arith
answered_made s (call.Dump n) (Dump number) fit = omega arith
answered_made s c e fit = absurd (false≢true fit)

module _ (p : ProgramText) (cs : List Code) (valid : IsProgram p) (runs : AllByRecursion (IsRunnable p) cs) where
  run_made : (fuel : ℕ) (s : ThreadState) → (run_on p cs fuel s).made ≡ s.made
  run_made fuel s = (run_refers (λ o. Unit {0}) p (λ o l. tt) valid cs runs fuel s (all_each (RefersTo (λ o. Unit {0})) s.locals anything)).same.made
    where
      anything : (v : Value) → RefersTo (λ o. Unit {0}) v
      anything Nil = tt
      anything (Int z) = tt
      anything (Ref o) = tt

  call_made : (s : ThreadState) (c : MonitorCall) (e : Entry) → is_call c e ≡ true → (after_call p cs s c e).made ≡ s.made + count_made (creates e)
  call_made s (call.Wait o) (Wait k) fit = omega arith
  call_made s (call.Wait o) e fit = absurd (false≢true fit)
  call_made s (call.Enter o) e fit = run_made _ _ ∙ answered_made s (call.Enter o) e fit
  call_made s (call.Exit o) e fit = run_made _ _ ∙ answered_made s (call.Exit o) e fit
  call_made s (call.Notify o) e fit = run_made _ _ ∙ answered_made s (call.Notify o) e fit
  call_made s (call.NotifyAll o) e fit = run_made _ _ ∙ answered_made s (call.NotifyAll o) e fit
  call_made s (call.Get x o k) e fit = run_made _ _ ∙ answered_made s (call.Get x o k) e fit
  call_made s (call.Put o k v) e fit = run_made _ _ ∙ answered_made s (call.Put o k v) e fit
  call_made s (call.Hash x o) e fit = run_made _ _ ∙ answered_made s (call.Hash x o) e fit
  call_made s (call.New x c) e fit = run_made _ _ ∙ answered_made s (call.New x c) e fit
  call_made s (call.Print v) e fit = run_made _ _ ∙ answered_made s (call.Print v) e fit
  call_made s (call.Dump k) e fit = run_made _ _ ∙ answered_made s (call.Dump k) e fit

  end_made : (s : ThreadState) (g : Ending) (e : Entry) → is_ending g e ≡ true → s.made ≡ s.made + count_made (creates e)
  end_made s (ending.Trap f i) (Trap fault index) fit = omega arith
  end_made s ending.Spent Spent fit = omega arith
  end_made s ending.Done Done fit = omega arith
  end_made s g e fit = absurd (false≢true fit)

  pub entry_made : (s : ThreadState) (a : NextEntry) (e : Entry) → fits a e ≡ true → (after_entry p cs s a e).made ≡ s.made + count_made (creates e)
  entry_made s (Calls c) e fit = call_made s c e fit
  entry_made s (Resumes o) (Resume k) fit = omega (arith, run_made s.fuel s)
  entry_made s (Resumes o) e fit = absurd (false≢true fit)
  entry_made s (Leaves o) (Exit k) fit = omega arith
  entry_made s (Leaves o) e fit = absurd (false≢true fit)
  entry_made s (Ends g) e fit = end_made s g e fit
