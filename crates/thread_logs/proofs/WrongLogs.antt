-- Why threads, logs and machines that are wrong are refused.
use Rattle.std.proofs.Common.{◌≡◌, ◌≢◌, ℕ, ◌+◌, ◌*◌, ◌<◌, ◌≤◌, true, false, List, [], ◌∷◌, ◌++◌, length, drop}
use Rattle.std.proofs.Common.{slice_get, Option, Some, None, option_and_then, refl, sym, subst, ◌∙◌, arith, eq-eqb}
use Rattle.std.proofs.lemmas.Option.{same_Some}
use Rattle.plain_monitor.specs.declared.entry.Entry.{Entry}
use Rattle.plain_monitor.specs.declared.entry.Entry.TheVariants as entry
use Rattle.plain_monitor.specs.declared.entry.Logged.{Logged}
use Rattle.plain_monitor.specs.declared.entry.Path.{Path}
use Rattle.plain_monitor.specs.declared.entry.Value.TheVariants.{Ref}
use Rattle.plain_monitor.specs.History.{objects_after}
use Rattle.plain_monitor.specs.Objects.{PlainObject}
use Rattle.plain_monitor.specs.Order.{order}
use Rattle.plain_history.specs.Cuts.{logs_since}
use Rattle.plain_history.specs.Joined.{run_log}
use Rattle.plain_history.specs.Known.{knows_by_log}
use Rattle.plain_history.proofs.Joined.{first_some}
use Rattle.object_program.specs.Program.{ProgramText, objects_total, numbering_of, shape_of}
use Rattle.object_program.specs.Valid.{IsProgram}
use Rattle.plain_machine.specs.declared.monitor_call.MonitorCall.TheVariants as call
use Rattle.plain_machine.specs.declared.monitor_call.NextEntry.TheVariants.{Calls}
use Rattle.plain_machine.specs.Asking.{ask, thread_after}
use Rattle.plain_machine.specs.Legal.{IsLegal, after_all, machine_after}
use Rattle.plain_machine.specs.Machine.{PlainMachine, code_of, new_machine}
use Rattle.plain_machine.specs.Running.{run_on}
use Rattle.plain_machine.specs.Thread.{ThreadState, local, holds_of}
use Rattle.thread_logs.specs.Examples.{printers, entered, prints_from, in_turn}
use Rattle.thread_logs.specs.Followed.{FollowsCode, HasFollowed, HaveValues}
use Rattle.thread_logs.specs.Passed.{IsOnTheWay}
use Rattle.thread_logs.proofs.Logs.{followed_work}
use Rattle.thread_logs.proofs.References.{made_told, needs_told, local_told}
use Rattle.thread_logs.proofs.Standing.{holds_told, dumps_told}

-- OPTIONS. What follows on what is there
then_is : {A B : Type 0} (f : A → Option B) (o : Option A) (a : A) (b : B) → o ≡ Some a → f a ≡ Some b → option_and_then f o ≡ Some b
then_is f o a b is next = rw is next

-- LOGS. An entry that isn't taken
module _ {S : Type 0} (step : S → Entry → Option S) where
  stops : (log : List Logged) (l : Logged) (s m : S) → run_log step s log ≡ Some m → step m l.entry ≡ None
      → run_log step s (log ++ l ∷ []) ≡ None
  stops [] l s m h none = let same = same_Some s m h in rw (same, none) refl
  stops (x ∷ log) l s m h none =
      let a = first_some (λ next. run_log step next log) (step s x.entry) m h in
      rw a.1 (stops log l a.0 m a.2 none)

module _ (p : ProgramText) (fuel t : ℕ) where
  pub not_asked : (log : List Logged) (l : Logged) (s : ThreadState) → FollowsCode p fuel t log s
      → thread_after p (code_of p t) s l.entry ≡ None → HasFollowed p fuel t (log ++ l ∷ []) → ⊥
  not_asked log l s h none more =
      let step = thread_after p (code_of p t) in
      let same = same_Some more.follows.first h.first (sym more.follows.there ∙ h.there) in
      let leads = subst (λ (x : ThreadState). run_log step x (log ++ l ∷ []) ≡ Some more.now) same more.follows.leads in
      let stop = stops step log l h.first s h.leads none in
      absurd (cc (leads, stop))

  pub not_longer : (log : List Logged) → IsProgram p → HaveValues p log → 2 * fuel + 1 < length log → HasFollowed p fuel t log → ⊥
  not_longer log valid values long h =
      let few = followed_work p fuel t log h.now valid values h.follows in
      absurd (omega (arith, few, long))

  -- WHERE A THREAD STANDS
  pub not_held : (o m n : ℕ) (path : Path) (s : ThreadState) → o < objects_total p → 1 ≤ holds_of s o
      → FollowsCode p fuel t (record { stamp = m; entry = entry.Enter o path } ∷ record { stamp = n; entry = entry.Exit o } ∷ []) s → ⊥
  not_held o m n path s within held h =
      let told = holds_told p fuel t o (record { stamp = m; entry = entry.Enter o path } ∷ record { stamp = n; entry = entry.Exit o } ∷ []) s h within in
      absurd (omega (arith, held, told))

  pub not_undumped : (n : ℕ) (s : ThreadState) → s.dumps ≡ 0 → FollowsCode p fuel t (record { stamp = n; entry = entry.Dump 1 } ∷ []) s → ⊥
  not_undumped n s none h =
      let told = dumps_told p fuel t 0 (record { stamp = n; entry = entry.Dump 1 } ∷ []) s h in
      absurd (omega (arith, none, told))

  pub not_unmade : (n o c : ℕ) (s : ThreadState) → IsProgram p → s.made ≡ 0
      → FollowsCode p fuel t (record { stamp = n; entry = entry.New o c } ∷ []) s → ⊥
  not_unmade n o c s valid none h =
      let told = made_told p fuel t (record { stamp = n; entry = entry.New o c } ∷ []) s valid h in
      absurd (omega (arith, none, told))

  -- REFERENCES
  pub not_printed : (o : ℕ) (log : List Logged) (s : ThreadState) → IsProgram p → knows_by_log (numbering_of p) log o ≡ false
      → ask s ≡ Some (Calls (call.Print (Ref o))) → FollowsCode p fuel t log s → ⊥
  not_printed o log s valid unknown asks h =
      let known = needs_told p fuel t log s valid h (Calls (call.Print (Ref o))) (entry.Print (Ref o)) asks (eq-eqb o o refl) in
      absurd (cc (unknown, known.0))

  pub not_referred : (x o : ℕ) (log : List Logged) (s : ThreadState) → IsProgram p → knows_by_log (numbering_of p) log o ≡ false
      → local s x ≡ Ref o → FollowsCode p fuel t log s → ⊥
  not_referred x o log s valid unknown refers h =
      let known = local_told p fuel t log s valid h x o refers in
      absurd (cc (unknown, known))

  -- two threads that a log leads to are one
  pub not_elsewhere : (log : List Logged) (s now : ThreadState) → FollowsCode p fuel t log s → FollowsCode p fuel t log now → s ≢ now → ⊥
  not_elsewhere log s now h g differ =
      let step = thread_after p (code_of p t) in
      let first = same_Some h.first g.first (sym h.there ∙ g.there) in
      let leads = subst (λ (x : ThreadState). run_log step x log ≡ Some s) first h.leads in
      differ (same_Some s now (sym leads ∙ g.leads))

-- MACHINES
pub no_other_objects : (p : ProgramText) (logs : List (List Logged)) (m : PlainMachine) (objects : List PlainObject)
    → objects_after (shape_of p) logs ≡ Some m.objects → objects_after (shape_of p) logs ≡ Some objects → m.objects ≢ objects → ⊥
no_other_objects p logs m objects has after differ = differ (same_Some m.objects objects (sym has ∙ after))

-- THE EXAMPLES
pub not_the_rest : HasFollowed printers 8 0 (drop 1 (prints_from 1)) → ⊥
unfolding run_on
not_the_rest h =
    let both =
    then_is (λ s. run_log (thread_after printers (code_of printers 0)) s (drop 1 (prints_from 1))) (slice_get (new_machine printers 8).threads 0)
    h.follows.first h.now h.follows.there h.follows.leads in
    absurd (cc both)

pub not_through : (last machine : PlainMachine) → IsOnTheWay printers 8 in_turn (0 ∷ 1 ∷ []) last machine → ⊥
unfolding run_on
not_through last machine w =
    let both =
    then_is (λ m. after_all m (order (logs_since (0 ∷ 1 ∷ []) in_turn))) (machine_after printers 8 ([] ∷ (entered 4 ∷ []) ∷ []))
    machine last w.under w.onward in
    absurd (cc both)

pub no_machine : (m : PlainMachine) → machine_after printers 8 ((entered 1 ∷ []) ∷ (entered 2 ∷ []) ∷ []) ≡ Some m → ⊥
unfolding run_on
no_machine m h = absurd (cc h)

pub not_legal : IsLegal printers 8 ((entered 1 ∷ []) ∷ (entered 2 ∷ []) ∷ []) → ⊥
unfolding run_on
not_legal h = let taken : false ≡ true = h.taken in absurd (cc taken)
