-- The enters that are counted are those by each path.
use Rattle.std.proofs.Common.{◌≡◌, ℕ, ◌+◌, ◌<◌, ◌≤◌, ◌==◌, ◌||◌, nat_le, if◌then◌else◌, eqb-true, eq-eqb, Bool, true, false}
use Rattle.std.proofs.Common.{List, [], ◌∷◌, length, map, get_or, slice_index, slice_set, refl, sym, ◌∙◌, subst, arith}
use Rattle.std.proofs.lemmas.Bool.Decides.{nat_tests}
use Rattle.std.proofs.lemmas.List.{length-set, get_or-set_same, get_or-set_other}
use Rattle.std.specs.List.{list_any}
use Rattle.plain_monitor.specs.declared.entry.Path.{Path}
use Rattle.plain_monitor.specs.declared.entry.Path.TheVariants.{BiasOwn, BiasTaken, StackFirst, StackAgain, MonitorFirst, MonitorAgain}
use Rattle.plain_monitor.specs.declared.entry.Entry.{Entry}
use Rattle.plain_monitor.specs.declared.entry.Entry.TheVariants.{Enter, Resume}
use Rattle.plain_monitor.specs.declared.entry.Logged.{Logged}
use Rattle.lock_journal.specs.RunText.{path_number}
use Rattle.wait_report.specs.declared.tallies.Tally.{Tally}
use Rattle.wait_report.specs.Counts.{paths, is_enter, is_enter_by, enters_by, is_entered}
use Rattle.wait_report.specs.inner.Tallies.{had_by, entered_by, count_at}
use Rattle.wait_report.proofs.Tallied.{tally_on, tally_through}

-- 1 for an enter of the object by this path
abbrev enter_by : ℕ → Path → Entry → ℕ
enter_by o path e = if is_enter_by o path e then 1 else 0

path_below : (path : Path) → path_number path < 6
path_below BiasOwn = omega arith
path_below _ = omega arith

-- a path's count, where one was raised
raised : (counts : List ℕ) (by path : Path) → length counts ≡ 6
    → count_at (slice_set counts (path_number by) (count_at counts by + 1)) path ≡ count_at counts path + (if path_number by == path_number path then 1 else 0)
raised counts by path six = by_test (path_number by == path_number path) refl where
  by_test : (b : Bool) → (path_number by == path_number path) ≡ b
      → count_at (slice_set counts (path_number by) (count_at counts by + 1)) path ≡ count_at counts path + (if b then 1 else 0)
  by_test true t =
      let same : path_number by ≡ path_number path = eqb-true (path_number by) (path_number path) t in
      let P : ℕ → Type 0 = λ k. slice_index (slice_set counts (path_number by) (count_at counts by + 1)) k ≡ slice_index counts k + 1 in
      subst P same (get_or-set_same counts (path_number by) (count_at counts by + 1) 0 (omega (arith, path_below by, six)))
  by_test false t =
      get_or-set_other counts (path_number by) (path_number path) (count_at counts by + 1) 0
      (λ h. absurd (let own : (path_number by == path_number path) ≡ true = eq-eqb (path_number by) (path_number path) (sym h) in cc (own, t)))
      ∙ omega arith

-- what an entry adds to the counts
record Adds (o : ℕ) (e : Entry) (y next : Tally) : Type 0 where
  counts : (path : Path) → count_at next.paths path ≡ count_at y.paths path + enter_by o path e
  six : length next.paths ≡ 6

nothing_added : (o : ℕ) (e : Entry) (y : Tally) → length y.paths ≡ 6 → ((path : Path) → is_enter_by o path e ≡ false) → Adds o e y y
nothing_added o e y six none = record { counts = λ path. rw (none path) (omega arith); six = six }

enter_adds : (o t k : ℕ) (by : Path) (y : Tally) → length y.paths ≡ 6 → Adds o (Enter k by) y (tally_on o y t (Enter k by))
enter_adds o t k by y six = by_test (k == o) refl where
  by_test : (b : Bool) → (k == o) ≡ b → Adds o (Enter k by) y (if b then entered_by (had_by y t) by else y)
  by_test true e = record { counts = λ path. rw e (raised y.paths by path six); six = length-set y.paths (path_number by) _ ∙ six }
  by_test false e = nothing_added o (Enter k by) y six (λ path. rw e refl)

resume_adds : (o t k : ℕ) (y : Tally) → length y.paths ≡ 6 → Adds o (Resume k) y (tally_on o y t (Resume k))
resume_adds o t k y six = by_test (k == o) where
  by_test : (b : Bool) → Adds o (Resume k) y (if b then had_by y t else y)
  by_test true = record { counts = λ path. omega arith; six = six }
  by_test false = record { counts = λ path. omega arith; six = six }

entry_adds : (o t : ℕ) (e : Entry) (y : Tally) → length y.paths ≡ 6 → Adds o e y (tally_on o y t e)
entry_adds o t (Enter k by) y six = enter_adds o t k by y six
entry_adds o t (Resume k) y six = resume_adds o t k y six
entry_adds o t e y six = record { counts = λ path. omega arith; six = six }

-- the counts after all entries
pub record AddsAll (o : ℕ) (xs : List (ℕ × Logged)) (y next : Tally) : Type 0 where
  pub counts : (path : Path) → count_at next.paths path ≡ count_at y.paths path + enters_by xs o path
  pub six : length next.paths ≡ 6

pub through_adds : (o : ℕ) (xs : List (ℕ × Logged)) (y : Tally) → length y.paths ≡ 6 → AddsAll o xs y (tally_through o y xs)
through_adds o [] y six = record { counts = λ path. omega arith; six = six }
through_adds o (x ∷ xs) y six =
    let here = entry_adds o x.0 x.1.entry y six in
    let rest = through_adds o xs (tally_on o y x.0 x.1.entry) here.six in
    record { counts = λ path. omega (arith, here.counts path, rest.counts path); six = rest.six }

pub six_counts : (ns : List ℕ) → length ns ≡ 6 → ns ≡ get_or ns 0 0 ∷ get_or ns 1 0 ∷ get_or ns 2 0 ∷ get_or ns 3 0 ∷ get_or ns 4 0 ∷ get_or ns 5 0 ∷ []
six_counts (a ∷ b ∷ c ∷ d ∷ e ∷ f ∷ []) h = refl
six_counts ns h = absurd (omega arith)

-- counts by path that begin with none are those of the entries
pub counts_are : (o : ℕ) (xs : List (ℕ × Logged)) (ns : List ℕ) → length ns ≡ 6
    → ((path : Path) → count_at ns path ≡ enters_by xs o path) → ns ≡ map (enters_by xs o) paths
counts_are o xs ns six is = six_counts ns six ∙ rw (is BiasOwn, is BiasTaken, is StackFirst, is StackAgain, is MonitorFirst, is MonitorAgain) refl

-- an object is entered where some path has an enter
any_path : (f : Path → ℕ) (path : Path) → 1 ≤ f path → list_any (λ n. nat_le 1 n) (map f paths) ≡ true
any_path f BiasOwn h = grind (arith, nat_tests)
any_path f _ h = grind (arith, nat_tests)

-- the path by which an object is entered
record HasPath (o : ℕ) (xs : List (ℕ × Logged)) : Type 0 where
  path : Path
  some : 1 ≤ enters_by xs o path

entry_path : (o : ℕ) (t : ℕ) (l : Logged) (xs : List (ℕ × Logged)) (e : Entry) → l.entry ≡ e → is_enter o e ≡ true → HasPath o ((t, l) ∷ xs)
entry_path o t l xs (Enter k by) at h =
    let is : is_enter_by o by l.entry ≡ true = rw (at, h, eq-eqb (path_number by) (path_number by) refl) refl in
    record { path = by; some = rw is (omega arith) }
entry_path o t l xs e at h = absurd (cc h)

has_path : (o : ℕ) (xs : List (ℕ × Logged)) → is_entered xs o ≡ true → HasPath o xs
has_path o [] h = absurd (cc h)
has_path o (x ∷ xs) h = by_test (is_enter o x.1.entry) refl h (has_path o xs) where
  by_test : (b : Bool) → is_enter o x.1.entry ≡ b → (b || is_entered xs o) ≡ true → (is_entered xs o ≡ true → HasPath o xs) → HasPath o (x ∷ xs)
  by_test true e h rest = entry_path o x.0 x.1 xs x.1.entry refl e
  by_test false e h rest = let r = rest h in record { path = r.path; some = omega (arith, r.some) }

no_entry : (o : ℕ) (path : Path) (e : Entry) → is_enter o e ≡ false → is_enter_by o path e ≡ false
no_entry o path (Enter k by) h = rw h refl
no_entry o path e h = refl

no_enters : (o : ℕ) (xs : List (ℕ × Logged)) (path : Path) → is_entered xs o ≡ false → enters_by xs o path ≡ 0
no_enters o [] path h = refl
no_enters o (x ∷ xs) path h = by_test (is_enter o x.1.entry) refl h (no_enters o xs path) where
  by_test : (b : Bool) → is_enter o x.1.entry ≡ b → (b || is_entered xs o) ≡ false
      → (is_entered xs o ≡ false → enters_by xs o path ≡ 0) → enters_by (x ∷ xs) o path ≡ 0
  by_test true e h rest = absurd (cc h)
  by_test false e h rest = let none = no_entry o path x.1.entry e in let r = rest h in rw (none, r) refl

pub any_counted : (o : ℕ) (xs : List (ℕ × Logged)) → list_any (λ n. nat_le 1 n) (map (enters_by xs o) paths) ≡ is_entered xs o
any_counted o xs = by_test (is_entered xs o) refl where
  by_test : (b : Bool) → is_entered xs o ≡ b → list_any (λ n. nat_le 1 n) (map (enters_by xs o) paths) ≡ b
  by_test true e = let r = has_path o xs e in any_path (enters_by xs o) r.path r.some
  by_test false e = rw (
    no_enters o xs BiasOwn e,
    no_enters o xs BiasTaken e,
    no_enters o xs StackFirst e,
    no_enters o xs StackAgain e,
    no_enters o xs MonitorFirst e,
    no_enters o xs MonitorAgain e,
  ) refl
