-- Paths for the enters of logs that have none: the first enter of each object takes its bias, where there are biases, and all others go by
-- stack locks.
use Rattle.std.proofs.Common.{◌≡◌, ℕ, zero, suc, ◌+◌, ◌<◌, ◌≤◌, ◌==◌, ◌&&◌, ◌||◌, not, Bool, true, false, cond, if◌then◌else◌, List}
use Rattle.std.proofs.Common.{[], ◌∷◌, ◌++◌, length, map, Option, Some, None, refl, sym, ap, ◌∙◌, subst, arith, eqb-true, eq-eqb}
use Rattle.std.specs.List.{AllByRecursion, list_any}
use Rattle.std.proofs.lemmas.Bool.{and_parts, false≢true}
use Rattle.std.proofs.lemmas.Option.{same_Some}
use Rattle.lock_journal.specs.declared.record.Shot.{Shot}
use Rattle.single_thread_law.specs.LoneRun.{with_no_paths, without_path}
use Rattle.plain_history.specs.EnterPaths.{EndsStay, PathFits, PathsFit, entries_on, first_path, is_by_bias, is_first, is_own, needs_bias}
use Rattle.plain_history.specs.HeldByLog.{held_after, nothing_held}
use Rattle.plain_history.specs.Tied.{bound_to, is_same_object}
use Rattle.object_program.specs.Program.{ProgramText, shape_of}
use Rattle.plain_machine.specs.Legal.{IsLegal, after_all, machine_after}
use Rattle.plain_machine.specs.Machine.{PlainMachine, new_machine}
use Rattle.plain_monitor.specs.declared.entry.Entry.{Entry}
use Rattle.plain_monitor.specs.declared.entry.Entry.TheVariants as entry
use Rattle.plain_monitor.specs.declared.entry.Logged.{Logged}
use Rattle.plain_monitor.specs.declared.entry.Path.{Path}
use Rattle.plain_monitor.specs.declared.entry.Path.TheVariants.{BiasOwn, BiasTaken, StackAgain, StackFirst}
use Rattle.plain_monitor.specs.History.{RisesAbove, log_of}
use Rattle.plain_monitor.specs.Order.{order, with_threads}
use Rattle.plain_monitor.proofs.Lists.{all_append}
use Rattle.plain_monitor.proofs.Orders.{all_ordered}
use Rattle.core_law.specs.TakenBiases.{OwnsAreTaken, takes_bias, times_taken}
use Rattle.core_world.specs.Threads.Stages.{one_if}
use Rattle.program_run.specs.declared.settings.Settings.{Settings}
use Rattle.program_run.specs.PlainRun.{IsMadeBy, IsPlainRun}
use Rattle.program_run.proofs.FirstEnters.{AreApart, IsStep, IsUnentered, first_bare, first_enter, is_enter_of}
use Rattle.program_run.proofs.FirstEnters.{new_unentered, order_apart, own_least, rises_at, step_on, unbound_enters_not}
use Rattle.program_run.proofs.MadeRuns.{HasPaths, made_with}
use Rattle.program_run.proofs.NoPaths.{after_bare, bare, legal_from, order_bare}

abbrev is_at : Option (ℕ × ℕ) → ℕ → ℕ → Bool
is_at None t stamp = false
is_at (Some f) t stamp = (f.0 == t) && (f.1 == stamp)

at_self : (t stamp : ℕ) → is_at (Some (t, stamp)) t stamp ≡ true
at_self t stamp = λ i. eq-eqb t t refl i && eq-eqb stamp stamp refl i

-- whose place that is
record IsPlace (f : Option (ℕ × ℕ)) (t stamp : ℕ) : Type 0 where
  place : ℕ × ℕ
  is : f ≡ Some place
  thread : place.0 ≡ t
  stamp_is : place.1 ≡ stamp

place_of : (f : Option (ℕ × ℕ)) (t stamp : ℕ) → is_at f t stamp ≡ true → IsPlace f t stamp
place_of None t stamp h = absurd (false≢true h)
place_of (Some f) t stamp h =
    let both = and_parts (f.0 == t) (f.1 == stamp) h in
    record { place = f; is = refl; thread = eqb-true f.0 t both.0; stamp_is = eqb-true f.1 stamp both.1 }

abbrev path_by : Bool → Bool → Path
path_by takes first = if takes then BiasTaken else if first then StackFirst else StackAgain

abbrev is_enter : Entry → Bool
is_enter (entry.Enter o path) = true
is_enter _ = false

-- what is no enter has no path
skipped : (b : Bool) (e : Entry) (es : List Entry) → is_enter e ≡ false → first_path (cond b (e ∷ es) es) ≡ first_path es
skipped false e es none = refl
skipped true (entry.Enter o path) es none = absurd (false≢true (sym none))
skipped true e es none = refl

later_none : (a b : Bool) → (a || b) ≡ false → b ≡ false
later_none true b h = absurd (cc h)
later_none false b h = h

first_none : (a b : Bool) → (a || b) ≡ false → a ≡ false
first_none true b h = absurd (cc h)
first_none false b h = refl

-- what holds of all entries holds of one
one_of_all : (P : Logged → Type 0) (before later : List Logged) (l : Logged) → AllByRecursion P (before ++ l ∷ later) → P l
one_of_all P [] later l all = all.0
one_of_all P (x ∷ before) later l all = one_of_all P before later l all.1

-- an entry that needs no bias takes none
takes_none : (o : ℕ) (e : Entry) → needs_bias e ≡ false → takes_bias o e ≡ false
takes_none o (entry.Enter k BiasTaken) h = absurd (false≢true (sym h))
takes_none o (entry.Enter k path) h = refl
takes_none o e h = refl

none_taken : (o : ℕ) (es : List Entry) → list_any needs_bias es ≡ false → times_taken o es ≡ 0
none_taken o [] h = refl
none_taken o (e ∷ es) h =
    let first : one_if (takes_bias o e) ≡ 0 = ap one_if (takes_none o e (first_none (needs_bias e) (list_any needs_bias es) h)) in
    let rest = none_taken o es (later_none (needs_bias e) (list_any needs_bias es) h) in
    omega (arith, first, rest)

at_most_one : (b : Bool) → one_if b ≤ 1
at_most_one true = omega arith
at_most_one false = omega arith

-- with biases or without, where these are the first enters of objects
module _ (biased : Bool) (firsts : ℕ → Option (ℕ × ℕ)) where
  abbrev takes : ℕ → ℕ → ℕ → Bool
  takes o t stamp = biased && is_at (firsts o) t stamp

  abbrev pub chosen : ℕ → ℕ → (ℕ → ℕ) → Entry → Entry
  chosen t stamp held (entry.Enter o path) = entry.Enter o (path_by (takes o t stamp) (held o == 0))
  chosen t stamp held e = e

  abbrev pub with_paths : ℕ → (ℕ → ℕ) → List Logged → List Logged
  with_paths t held [] = []
  with_paths t held (l ∷ log) =
      record { stamp = l.stamp; entry = chosen t l.stamp held l.entry } ∷ with_paths t (held_after l.entry held) log

  abbrev pub all_paths : ℕ → List (List Logged) → List (List Logged)
  all_paths t [] = []
  all_paths t (log ∷ logs) = with_paths t nothing_held log ∷ all_paths (t + 1) logs

  -- nothing else is changed
  bare_chosen : (t stamp : ℕ) (held : ℕ → ℕ) (e : Entry) → without_path (chosen t stamp held e) ≡ without_path e
  bare_chosen t stamp held (entry.Enter o path) = refl
  bare_chosen t stamp held e = refl

  bare_paths : (t : ℕ) (held : ℕ → ℕ) (log : List Logged) → bare (with_paths t held log) ≡ bare log
  bare_paths t held [] = refl
  bare_paths t held (l ∷ log) =
      λ i. record { stamp = l.stamp; entry = bare_chosen t l.stamp held l.entry i } ∷ bare_paths t (held_after l.entry held) log i

  pub bare_all : (t : ℕ) (logs : List (List Logged)) → with_no_paths (all_paths t logs) ≡ with_no_paths logs
  bare_all t [] = refl
  bare_all t (log ∷ logs) = λ i. bare_paths t nothing_held log i ∷ bare_all (t + 1) logs i

  pub many : (t : ℕ) (logs : List (List Logged)) → length (all_paths t logs) ≡ length logs
  many t [] = refl
  many t (log ∷ logs) = ap suc (many (t + 1) logs)

  paths_at : (u : ℕ) (logs : List (List Logged)) (t : ℕ) → log_of (all_paths u logs) t ≡ with_paths (u + t) nothing_held (log_of logs t)
  paths_at u [] zero = refl
  paths_at u [] (suc t) = refl
  paths_at u (log ∷ logs) zero = let same : u ≡ u + 0 = omega arith in ap (λ (n : ℕ). with_paths n nothing_held log) same
  paths_at u (log ∷ logs) (suc t) =
      let same : u + 1 + t ≡ u + suc t = omega arith in
      paths_at (u + 1) logs t ∙ ap (λ (n : ℕ). with_paths n nothing_held (log_of logs t)) same

  -- no enter goes by a bias of its own
  abbrev IsNotOwn : Logged → Type 0
  IsNotOwn l = (o : ℕ) → l.entry ≡ entry.Enter o BiasOwn → ⊥

  chosen_not_own : (t stamp : ℕ) (held : ℕ → ℕ) (e : Entry) (o : ℕ) → chosen t stamp held e ≡ entry.Enter o BiasOwn → ⊥
  chosen_not_own t stamp held (entry.Enter k path) o h = by_test (takes k t stamp) (held k == 0) h
    where
      by_test : (b first : Bool) → entry.Enter k (path_by b first) ≡ entry.Enter o BiasOwn → ⊥
      by_test true first same = cc same
      by_test false true same = cc same
      by_test false false same = cc same
  chosen_not_own t stamp held e o h = cc h

  none_own : (t : ℕ) (held : ℕ → ℕ) (log : List Logged) → AllByRecursion IsNotOwn (with_paths t held log)
  none_own t held [] = tt
  none_own t held (l ∷ log) = (chosen_not_own t l.stamp held l.entry, none_own t (held_after l.entry held) log)

  pub owns_none : (logs : List (List Logged)) (t : ℕ) → OwnsAreTaken (log_of (all_paths 0 logs) t)
  owns_none logs t o before l later is enters =
      let all = subst (AllByRecursion IsNotOwn) (sym (paths_at 0 logs t) ∙ is) (none_own (0 + t) nothing_held (log_of logs t)) in
      absurd (one_of_all IsNotOwn before later l all o enters)

  -- HOLDS
  -- the objects whose first enter comes later are not held
  abbrev IsUnheld : (ℕ → ℕ) → ℕ → Type 0
  IsUnheld held last = (o : ℕ) (f : ℕ × ℕ) → firsts o ≡ Some f → last < f.1 → held o ≡ 0

  abbrev AreLate : Logged → Type 0
  AreLate l = (o : ℕ) (f : ℕ × ℕ) → firsts o ≡ Some f → is_enter_of o l.entry ≡ true → f.1 ≤ l.stamp

  unheld_on : (held : ℕ → ℕ) (last : ℕ) (l : Logged) → IsUnheld held last → last < l.stamp → AreLate l
      → IsUnheld (held_after l.entry held) l.stamp
  unheld_on held last l unheld rises late o f first more = by_entry l.entry (late o f first)
    where
      before : held o ≡ 0
      before = unheld o f first (omega (arith, rises, more))

      by_entry : (e : Entry) → (is_enter_of o e ≡ true → f.1 ≤ l.stamp) → held_after e held o ≡ 0
      by_entry (entry.Enter k path) few = by_test (k == o) few
        where
          by_test : (b : Bool) → (b ≡ true → f.1 ≤ l.stamp) → held o + (if b then 1 else 0) ≡ 0
          by_test true few = let low = few refl in absurd (omega (arith, low, more))
          by_test false few = omega (arith, before)
      by_entry (entry.Exit k) few = omega (arith, before)
      by_entry e few = before

  held_alike : (t stamp : ℕ) (held : ℕ → ℕ) (e : Entry) (o : ℕ) → held_after (chosen t stamp held e) held o ≡ held_after e held o
  held_alike t stamp held (entry.Enter k path) o = refl
  held_alike t stamp held e o = refl

  path_fits : (t last : ℕ) (held : ℕ → ℕ) (l : Logged) → IsUnheld held last → last < l.stamp
      → PathFits held (chosen t l.stamp held l.entry)
  path_fits t last held l unheld rises = by_entry l.entry
    where
      by_entry : (e : Entry) → PathFits held (chosen t l.stamp held e)
      by_entry (entry.Enter o path) = by_test (takes o t l.stamp) refl (held o == 0) refl
        where
          by_test : (b : Bool) → takes o t l.stamp ≡ b → (first : Bool) → (held o == 0) ≡ first
              → is_first (path_by b first) ≡ (first && not (is_own (path_by b first)))
          by_test true is true e = refl
          by_test true is false e =
              let p = place_of (firsts o) t l.stamp ((and_parts biased (is_at (firsts o) t l.stamp) is).1) in
              let none : held o ≡ 0 = unheld o p.place p.is (omega (arith, rises, p.stamp_is)) in
              absurd (false≢true (sym e ∙ ap (λ n. n == 0) none))
          by_test false is true e = refl
          by_test false is false e = refl
      by_entry e = tt

  paths_fit : (t last : ℕ) (held : ℕ → ℕ) (log : List Logged) → IsUnheld held last → RisesAbove last log → AllByRecursion AreLate log
      → PathsFit held (with_paths t held log)
  paths_fit t last held [] unheld rises late = tt
  paths_fit t last held (l ∷ log) unheld rises late = (
    path_fits t last held l unheld rises.0,
    subst (λ (h : ℕ → ℕ). PathsFit h (with_paths t (held_after l.entry held) log)) (λ i o. sym (held_alike t l.stamp held l.entry o) i)
        (paths_fit t l.stamp (held_after l.entry held) log (unheld_on held last l unheld rises.0 late.0) rises.1 late.1),
  )

  pub log_fits : (logs : List (List Logged)) (t : ℕ) → RisesAbove 0 (log_of logs t) → AllByRecursion AreLate (log_of logs t)
      → PathsFit nothing_held (log_of (all_paths 0 logs) t)
  log_fits logs t rises late =
      subst (PathsFit nothing_held) (sym (paths_at 0 logs t))
      (paths_fit (0 + t) 0 nothing_held (log_of logs t) (λ o f first more. refl) rises late)

  -- BIASES
  -- the path that an enter has so
  abbrev IsRightEntry : ℕ → ℕ → Entry → Type 0
  IsRightEntry t stamp (entry.Enter o path) =
      (takes o t stamp ≡ true → path ≡ BiasTaken) × (is_by_bias path ≡ true → takes o t stamp ≡ true)
  IsRightEntry t stamp _ = Unit {0}

  abbrev IsRight : ℕ × Logged → Type 0
  IsRight x = IsRightEntry x.0 x.1.stamp x.1.entry

  chosen_right : (t stamp : ℕ) (held : ℕ → ℕ) (e : Entry) → IsRightEntry t stamp (chosen t stamp held e)
  chosen_right t stamp held (entry.Enter o path) = by_test (takes o t stamp) (held o == 0)
    where
      by_test : (b first : Bool) → (b ≡ true → path_by b first ≡ BiasTaken) × (is_by_bias (path_by b first) ≡ true → b ≡ true)
      by_test true first = ((λ h. refl), (λ h. refl))
      by_test false true = ((λ h. absurd (false≢true h)), (λ h. absurd (false≢true h)))
      by_test false false = ((λ h. absurd (false≢true h)), (λ h. absurd (false≢true h)))
  chosen_right t stamp held e = tt

  log_right : (t : ℕ) (held : ℕ → ℕ) (log : List Logged) → AllByRecursion IsRight (map (λ (l : Logged). (t, l)) (with_paths t held log))
  log_right t held [] = tt
  log_right t held (l ∷ log) = (chosen_right t l.stamp held l.entry, log_right t (held_after l.entry held) log)

  threads_right : (t : ℕ) (logs : List (List Logged)) → AllByRecursion IsRight (with_threads t (all_paths t logs))
  threads_right t [] = tt
  threads_right t (log ∷ logs) =
      all_append IsRight (map (λ (l : Logged). (t, l)) (with_paths t nothing_held log)) (with_threads (t + 1) (all_paths (t + 1) logs))
      (log_right t nothing_held log) (threads_right (t + 1) logs)

  pub order_right : (logs : List (List Logged)) → AllByRecursion IsRight (order (all_paths 0 logs))
  order_right logs = all_ordered IsRight (with_threads 0 (all_paths 0 logs)) (threads_right 0 logs)

  -- an entry of another place has no bias path
  not_first : (o : ℕ) (f : ℕ × ℕ) → firsts o ≡ Some f → (t stamp : ℕ) → (t ≡ f.0 → f.1 < stamp) → (e : Entry) → IsRightEntry t stamp e
      → is_same_object (bound_to e) (Some o) ≡ true → needs_bias e ≡ false
  not_first o f first t stamp later (entry.Enter k path) right same = by_path (is_by_bias path) refl
    where
      by_path : (b : Bool) → is_by_bias path ≡ b → b ≡ false
      by_path false is = refl
      by_path true is =
          let at = (and_parts biased (is_at (firsts k) t stamp) (right.1 is)).1 in
          let p = place_of (firsts k) t stamp at in
          let here : p.place ≡ f = same_Some p.place f (sym p.is ∙ ap firsts (eqb-true k o same) ∙ first) in
          let thread : t ≡ f.0 = sym p.thread ∙ ap (λ (x : ℕ × ℕ). x.0) here in
          let less = later thread in
          let stamp_is : f.1 ≡ stamp = ap (λ (x : ℕ × ℕ). x.1) (sym here) ∙ p.stamp_is in
          absurd (omega (arith, less, stamp_is))
  not_first o f first t stamp later e right same = refl

  none_later : (o : ℕ) (f : ℕ × ℕ) → firsts o ≡ Some f → (xs : List (ℕ × Logged)) → AllByRecursion IsRight xs
      → AllByRecursion (λ (y : ℕ × Logged). y.0 ≡ f.0 → f.1 < y.1.stamp) xs → list_any needs_bias (entries_on o xs) ≡ false
  none_later o f first [] right later = refl
  none_later o f first (x ∷ xs) right later =
      by_test (is_same_object (bound_to x.1.entry) (Some o)) refl (none_later o f first xs right.1 later.1)
    where
      by_test : (b : Bool) → is_same_object (bound_to x.1.entry) (Some o) ≡ b → list_any needs_bias (entries_on o xs) ≡ false
          → list_any needs_bias (cond b (x.1.entry ∷ entries_on o xs) (entries_on o xs)) ≡ false
      by_test true is rest = λ i. not_first o f first x.0 x.1.stamp later.0 x.1.entry right.0 is i || rest i
      by_test false is rest = rest

  none_stay : (es : List Entry) → list_any needs_bias es ≡ false → EndsStay es
  none_stay [] h = tt
  none_stay (e ∷ es) h = let rest = later_none (needs_bias e) (list_any needs_bias es) h in ((λ ends. rest), none_stay es rest)

  pub stay : (o : ℕ) (xs : List (ℕ × Logged)) (m final : PlainMachine) → after_all m xs ≡ Some final → IsUnentered o m.objects
      → AllByRecursion IsRight xs → AreApart xs → first_enter o xs ≡ firsts o → EndsStay (entries_on o xs)
  stay o [] m final h free right apart first = tt
  stay o (x ∷ xs) m final h free right apart first =
      let n = step_on m final o x xs h free in
      by_test n (is_same_object (bound_to x.1.entry) (Some o)) refl (λ free next. stay o xs n.0 final n.1.on free right.1 apart.1 next)
    where
      by_test : (n : (k : PlainMachine) × IsStep m k final o x xs) (b : Bool) → is_same_object (bound_to x.1.entry) (Some o) ≡ b
          → (IsUnentered o n.0.objects → first_enter o xs ≡ firsts o → EndsStay (entries_on o xs))
          → EndsStay (cond b (x.1.entry ∷ entries_on o xs) (entries_on o xs))
      by_test n true is rest =
          let enters = n.1.enters is in
          let here : Some (x.0, x.1.stamp) ≡ firsts o =
          ap (λ (b : Bool). if b then Some (x.0, x.1.stamp) else first_enter o xs) (sym enters) ∙ first in
          let none = none_later o (x.0, x.1.stamp) (sym here) xs right.1 apart.0 in
          ((λ ends. none), none_stay (entries_on o xs) none)
      by_test n false is rest =
          let next : first_enter o xs ≡ firsts o =
          ap (λ (b : Bool). if b then Some (x.0, x.1.stamp) else first_enter o xs) (sym (unbound_enters_not o x.1.entry is)) ∙ first in
          rest (n.1.free is) next

  -- the bias is taken once at most
  pub taken_once : (o : ℕ) (xs : List (ℕ × Logged)) (m final : PlainMachine) → after_all m xs ≡ Some final → IsUnentered o m.objects
      → AllByRecursion IsRight xs → AreApart xs → first_enter o xs ≡ firsts o → times_taken o (entries_on o xs) ≤ 1
  taken_once o [] m final h free right apart first = omega arith
  taken_once o (x ∷ xs) m final h free right apart first =
      let n = step_on m final o x xs h free in
      by_test n (is_same_object (bound_to x.1.entry) (Some o)) refl (λ free next. taken_once o xs n.0 final n.1.on free right.1 apart.1 next)
    where
      by_test : (n : (k : PlainMachine) × IsStep m k final o x xs) (b : Bool) → is_same_object (bound_to x.1.entry) (Some o) ≡ b
          → (IsUnentered o n.0.objects → first_enter o xs ≡ firsts o → times_taken o (entries_on o xs) ≤ 1)
          → times_taken o (cond b (x.1.entry ∷ entries_on o xs) (entries_on o xs)) ≤ 1
      by_test n true is rest =
          let enters = n.1.enters is in
          let here : Some (x.0, x.1.stamp) ≡ firsts o =
          ap (λ (b : Bool). if b then Some (x.0, x.1.stamp) else first_enter o xs) (sym enters) ∙ first in
          let none = none_taken o (entries_on o xs) (none_later o (x.0, x.1.stamp) (sym here) xs right.1 apart.0) in
          let most = at_most_one (takes_bias o x.1.entry) in
          omega (arith, none, most)
      by_test n false is rest =
          let next : first_enter o xs ≡ firsts o =
          ap (λ (b : Bool). if b then Some (x.0, x.1.stamp) else first_enter o xs) (sym (unbound_enters_not o x.1.entry is)) ∙ first in
          rest (n.1.free is) next

  -- the first enter takes the bias
  pub first_takes : biased ≡ true → (o : ℕ) (path : Path) (xs : List (ℕ × Logged)) → AllByRecursion IsRight xs → first_enter o xs ≡ firsts o
      → first_path (entries_on o xs) ≡ Some path → path ≡ BiasTaken
  first_takes on o path [] right first is = absurd (cc is)
  first_takes on o path (x ∷ xs) right first is = by_entry x.1.entry right.0 first is (λ f e. first_takes on o path xs right.1 f e)
    where
      by_entry : (e : Entry) → IsRightEntry x.0 x.1.stamp e
          → (if is_enter_of o e then Some (x.0, x.1.stamp) else first_enter o xs) ≡ firsts o
          → first_path (cond (is_same_object (bound_to e) (Some o)) (e ∷ entries_on o xs) (entries_on o xs)) ≡ Some path
          → (first_enter o xs ≡ firsts o → first_path (entries_on o xs) ≡ Some path → path ≡ BiasTaken) → path ≡ BiasTaken
      by_entry (entry.Enter k p) right first is rest = by_same (k == o) refl first is
        where
          by_same : (b : Bool) → (k == o) ≡ b → (if b then Some (x.0, x.1.stamp) else first_enter o xs) ≡ firsts o
              → first_path (cond b (entry.Enter k p ∷ entries_on o xs) (entries_on o xs)) ≡ Some path → path ≡ BiasTaken
          by_same true same f e =
              let at : is_at (firsts k) x.0 x.1.stamp ≡ true =
              ap (λ (g : Option (ℕ × ℕ)). is_at g x.0 x.1.stamp) (ap firsts (eqb-true k o same) ∙ sym f) ∙ at_self x.0 x.1.stamp in
              let both : takes k x.0 x.1.stamp ≡ true = λ i. on i && at i in
              sym (same_Some p path e) ∙ right.0 both
          by_same false same f e = rest f e
      by_entry e right first is rest = rest first (sym (skipped (is_same_object (bound_to e) (Some o)) e (entries_on o xs) refl) ∙ is)

  -- without biases nothing has one
  pub none_by_bias : biased ≡ false → (o : ℕ) (xs : List (ℕ × Logged)) → AllByRecursion IsRight xs
      → list_any needs_bias (entries_on o xs) ≡ false
  none_by_bias off o [] right = refl
  none_by_bias off o (x ∷ xs) right =
      by_test (is_same_object (bound_to x.1.entry) (Some o)) (by_entry x.1.entry right.0) (none_by_bias off o xs right.1)
    where
      by_entry : (e : Entry) → IsRightEntry x.0 x.1.stamp e → needs_bias e ≡ false
      by_entry (entry.Enter k path) right = by_path (is_by_bias path) refl
        where
          by_path : (b : Bool) → is_by_bias path ≡ b → b ≡ false
          by_path false is = refl
          by_path true is = absurd (false≢true (sym off ∙ (and_parts biased (is_at (firsts k) x.0 x.1.stamp) (right.1 is)).0))
      by_entry e right = refl

      by_test : (b : Bool) → needs_bias x.1.entry ≡ false → list_any needs_bias (entries_on o xs) ≡ false
          → list_any needs_bias (cond b (x.1.entry ∷ entries_on o xs) (entries_on o xs)) ≡ false
      by_test true none rest = λ i. none i || rest i
      by_test false none rest = rest

-- ALL LOGS
module _ (biased : Bool) (p : ProgramText) (fuel : ℕ) (logs : List (List Logged)) (final : PlainMachine) (pathless : with_no_paths logs ≡ logs)
    (legal : IsLegal p fuel logs) (under : machine_after p fuel logs ≡ Some final) where
  abbrev firsts_of : ℕ → Option (ℕ × ℕ)
  firsts_of o = first_enter o (order logs)

  abbrev chosen_logs : List (List Logged)
  chosen_logs = all_paths biased firsts_of 0 logs

  same_again : with_no_paths chosen_logs ≡ logs
  same_again = bare_all biased firsts_of 0 logs ∙ pathless

  first_again : (o : ℕ) → first_enter o (order chosen_logs) ≡ firsts_of o
  first_again o =
      sym (first_bare o (order chosen_logs)) ∙ ap (first_enter o) (sym (order_bare chosen_logs))
      ∙ ap (λ (ls : List (List Logged)). first_enter o (order ls)) same_again

  legal_again : IsLegal p fuel chosen_logs
  legal_again = legal_from p fuel chosen_logs (subst (λ (ls : List (List Logged)). IsLegal p fuel ls) (sym same_again) legal)

  under_again : machine_after p fuel chosen_logs ≡ Some final
  under_again = sym (after_bare p fuel chosen_logs) ∙ ap (machine_after p fuel) same_again ∙ under

  all_late : (t : ℕ) (ls : List Logged) → ((o : ℕ) (f : ℕ × ℕ) → firsts_of o ≡ Some f
      → AllByRecursion (λ (l : Logged). is_enter_of o l.entry ≡ true → f.1 ≤ l.stamp) ls)
      → AllByRecursion (λ (l : Logged). (o : ℕ) (f : ℕ × ℕ) → firsts_of o ≡ Some f → is_enter_of o l.entry ≡ true → f.1 ≤ l.stamp) ls
  all_late t [] each = tt
  all_late t (l ∷ ls) each = ((λ o f first. (each o f first).0), all_late t ls (λ o f first. (each o f first).1))

  pub has_paths : HasPaths biased logs
  has_paths =
      record {
        logs = chosen_logs;
        same = bare_all biased firsts_of 0 logs;
        many = many biased firsts_of 0 logs;
        stays = λ o.
            stay biased firsts_of o (order chosen_logs) (new_machine p fuel) final under_again (new_unentered o (shape_of p))
            (order_right biased firsts_of logs) (order_apart chosen_logs legal_again.rises) (first_again o);
        paths = λ t.
            log_fits biased firsts_of logs t (rises_at logs t legal.rises)
            (all_late t (log_of logs t) (λ o f first. own_least logs o t f legal.rises first));
        entered = λ on o path. first_takes biased firsts_of on o path (order chosen_logs) (order_right biased firsts_of logs) (first_again o);
        plain = λ off o. none_by_bias biased firsts_of off o (order chosen_logs) (order_right biased firsts_of logs);
        taken = owns_none biased firsts_of logs;
        few = λ o.
            taken_once biased firsts_of o (order chosen_logs) (new_machine p fuel) final under_again (new_unentered o (shape_of p))
            (order_right biased firsts_of logs) (order_apart chosen_logs legal_again.rises) (first_again o);
      }

-- a plain run is one of these settings, with biases or without
pub made : (s : Settings) (p : ProgramText) (logs : List (List Logged)) (shots : List (List Shot)) (m : PlainMachine)
    → IsPlainRun p s.fuel s.start logs shots m → IsMadeBy s p logs shots
made s p logs shots m plain =
    made_with s p logs shots m plain (has_paths s.bias p s.fuel logs m plain.pathless plain.legal plain.under)
