-- What a thread refers to its log tells, and how many objects it has made.
use Rattle.std.proofs.Common.{◌≡◌, ℕ, ◌+◌, ◌<◌, ◌||◌, nat_lt, Bool, true, false, List, [], ◌∷◌, length}
use Rattle.std.proofs.Common.{Option, Some, None, refl, sym, ap, ◌∙◌, subst, arith, length-append, eq-eqb}
use Rattle.std.specs.List.{AllByRecursion}
use Rattle.std.proofs.lemmas.Bool.Decides.{nat_tests}
use Rattle.std.proofs.lemmas.Option.{same_Some}
use Rattle.plain_monitor.specs.declared.entry.Entry.{Entry}
use Rattle.plain_monitor.specs.declared.entry.Entry.TheVariants.{Get, New}
use Rattle.plain_monitor.specs.declared.entry.Logged.{Logged}
use Rattle.plain_monitor.specs.declared.entry.Value.TheVariants.{Nil, Int, Ref}
use Rattle.plain_monitor.specs.Made.{first_made, creates, needs}
use Rattle.plain_monitor.proofs.Lists.{all_at, all_or, all_weaker}
use Rattle.plain_history.specs.Joined.{run_log}
use Rattle.plain_history.specs.Known.{class_made, news, tells_of, is_told, knows_by_log}
use Rattle.plain_history.proofs.Joined.{first_some}
use Rattle.object_program.specs.Program.{ProgramText, declared_total, numbering_of}
use Rattle.object_program.specs.Valid.{IsProgram}
use Rattle.plain_machine.specs.declared.monitor_call.NextEntry.{NextEntry}
use Rattle.plain_machine.specs.Thread.{ThreadState, local}
use Rattle.plain_machine.specs.Asking.{ask, fits, thread_after}
use Rattle.plain_machine.specs.Machine.{code_of, new_machine}
use Rattle.plain_machine.proofs.NeededObjects.{first_is_total}
use Rattle.machine_laws.specs.References.{RefersTo, ThreadRefersTo}
use Rattle.machine_laws.proofs.ReachedRunning.{code_runs}
use Rattle.machine_laws.proofs.ReachedFirst.{IsNewTo, new_threads}
use Rattle.machine_laws.proofs.AskedReferences.{BringsTo, count_made, ask_refers, asked_needs, entry_after, entry_made}
use Rattle.thread_logs.specs.Followed.{FollowsCode}
use Rattle.thread_logs.proofs.Entries.{has_made}

-- THE COUNT
length_made : (q : Option (ℕ × ℕ)) → length (class_made q) ≡ count_made q
length_made None = refl
length_made (Some p) = refl

module _ (p : ProgramText) (t : ℕ) (valid : IsProgram p) where
  made_on : (log : List Logged) (s final : ThreadState) → run_log (thread_after p (code_of p t)) s log ≡ Some final → final.made ≡ s.made + length (news log)
  made_on [] s final h = let same = ap (λ (x : ThreadState). x.made) (same_Some s final h) in omega (arith, same)
  made_on (l ∷ log) s final h =
      let a = first_some (λ next. run_log (thread_after p (code_of p t)) next log) (thread_after p (code_of p t) s l.entry) final h in
      let m = has_made p (code_of p t) s a.0 l.entry a.1 in
      let step = ap (λ (x : ThreadState). x.made) (sym m.is) ∙ entry_made p (code_of p t) valid (code_runs p t valid) s m.asked l.entry m.fit in
      let rest = made_on log a.0 final a.2 in
      omega (arith, step, rest, length_made (creates l.entry), length-append (class_made (creates l.entry)) (news log))

  -- THE REFERENCES, where each entry brings what is of these
  refers_on : (These : ℕ → Type 0) → ((o : ℕ) → o < declared_total p → These o)
      → (log : List Logged) (s final : ThreadState) → AllByRecursion (λ l. BringsTo These l.entry) log
      → ThreadRefersTo These s → run_log (thread_after p (code_of p t)) s log ≡ Some final → ThreadRefersTo These final
  refers_on These declared [] s final all r h = subst (ThreadRefersTo These) (same_Some s final h) r
  refers_on These declared (l ∷ log) s final all r h =
      let a = first_some (λ next. run_log (thread_after p (code_of p t)) next log) (thread_after p (code_of p t) s l.entry) final h in
      let m = has_made p (code_of p t) s a.0 l.entry a.1 in
      let next =
      entry_after These p (code_of p t) declared valid (code_runs p t valid) s m.asked l.entry r (ask_refers These s m.asked r m.asks) all.0 in
      refers_on These declared log a.0 final all.1 (subst (ThreadRefersTo These) m.is next) a.2

-- WHAT THE LOG TELLS
abbrev Knows : ProgramText → List Logged → ℕ → Type 0
Knows p log o = knows_by_log (numbering_of p) log o ≡ true

or_right : (a b : Bool) → b ≡ true → (a || b) ≡ true
or_right true b h = refl
or_right false b h = h

-- what an entry brings it tells of
brings_told : (These : ℕ → Type 0) (e : Entry) → ((o : ℕ) → tells_of o e ≡ true → These o) → BringsTo These e
brings_told These (Get object slot (Ref o)) f = f o (eq-eqb o o refl)
brings_told These (Get object slot Nil) f = tt
brings_told These (Get object slot (Int z)) f = tt
brings_told These (New o class) f = f o (eq-eqb o o refl)
brings_told These e f = tt

told_each : (log : List Logged) → AllByRecursion (λ l. (o : ℕ) → tells_of o l.entry ≡ true → is_told log o ≡ true) log
told_each [] = tt
told_each (l ∷ log) = (
  λ o h. ap (λ b. b || is_told log o) h,
  all_weaker (λ k. (o : ℕ) → tells_of o k.entry ≡ true → is_told log o ≡ true) (λ k. (o : ℕ) → tells_of o k.entry ≡ true → is_told (l ∷ log) o ≡ true)
      (λ k f o h. or_right (tells_of o l.entry) (is_told log o) (f o h)) log (told_each log),
)

module _ (p : ProgramText) (fuel t : ℕ) (log : List Logged) (s : ThreadState) (valid : IsProgram p) (h : FollowsCode p fuel t log s) where
  declared_known : (o : ℕ) → o < declared_total p → Knows p log o
  declared_known o l =
      let total : first_made (numbering_of p) ≡ declared_total p = first_is_total p.objects in
      let below : nat_lt o (first_made (numbering_of p)) ≡ true = grind (arith, nat_tests, l, total) in
      ap (λ b. b || is_told log o) below

  brings : AllByRecursion (λ l. BringsTo (Knows p log) l.entry) log
  brings =
      all_weaker (λ l. (o : ℕ) → tells_of o l.entry ≡ true → is_told log o ≡ true) (λ l. BringsTo (Knows p log) l.entry)
      (λ l f. brings_told (Knows p log) l.entry (λ o e. or_right (nat_lt o (first_made (numbering_of p))) (is_told log o) (f o e))) log (told_each log)

  first : IsNewTo (Knows p log) h.first
  first = all_at (IsNewTo (Knows p log)) (new_machine p fuel).threads t h.first (new_threads (Knows p log) p declared_known fuel valid) h.there

  refers : ThreadRefersTo (Knows p log) s
  refers = refers_on p t valid (Knows p log) declared_known log h.first s brings first.0 h.leads

  pub made_told : s.made ≡ length (news log)
  made_told = let on = made_on p t valid log h.first s h.leads in let none = first.1 in omega (arith, on, none)

  pub needs_told : (a : NextEntry) (e : Entry) → ask s ≡ Some a → fits a e ≡ true → AllByRecursion (λ o. knows_by_log (numbering_of p) log o ≡ true) (needs e)
  needs_told a e asks fit = asked_needs (Knows p log) a e (ask_refers (Knows p log) s a refers asks) fit

  pub local_told : (x o : ℕ) → local s x ≡ Ref o → knows_by_log (numbering_of p) log o ≡ true
  local_told x o is = subst (RefersTo (Knows p log)) is (all_or (RefersTo (Knows p log)) s.locals x Nil tt refers.locals)
