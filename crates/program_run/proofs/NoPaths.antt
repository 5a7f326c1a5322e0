-- Logs whose paths of enters are taken away: what of a run doesn't look at these.
use Rattle.std.proofs.Common.{◌≡◌, ℕ, zero, suc, ◌+◌, ◌||◌, Bool, true, false, if◌then◌else◌, List, [], ◌∷◌}
use Rattle.std.proofs.Common.{◌++◌, map, Option, Some, option_and_then, refl, sym, ap, ◌∙◌, subst, inl, inr}
use Rattle.std.specs.Prelude.{IsSome}
use Rattle.std.specs.List.{AllByRecursion, flat_map}
use Rattle.std.proofs.lemmas.List.{map-append}
use Rattle.core_law.specs.Draws.{HasDraws}
use Rattle.core_world.specs.Clauses.Draws.{AreDraws, Draw, IsNextDraw, all_draws, draw_in, drawn_by, drawn_for, draws_for}
use Rattle.lock_journal.specs.RunText.{printed}
use Rattle.lock_journal.specs.declared.record.Shot.{Shot}
use Rattle.single_thread_law.specs.LoneRun.{with_no_path, with_no_paths, without_path}
use Rattle.machine_laws.proofs.ReachedPaths.{path_changes_nothing}
use Rattle.object_program.specs.Program.{ProgramText}
use Rattle.plain_history.specs.EnterPaths.{has_hash, is_hash}
use Rattle.plain_history.specs.ExactStamps.{IsExactStamp, IsTakingStamp, StampsAreExact}
use Rattle.plain_history.specs.FirstDraws.{DrawsComeFirst}
use Rattle.plain_history.specs.HeldByLog.{HasLetGo, held_after, held_by, nothing_held}
use Rattle.plain_machine.specs.Legal.{IsLegal, after_all, machine_after}
use Rattle.plain_machine.specs.Machine.{PlainMachine, new_machine, take as after_one}
use Rattle.plain_monitor.specs.declared.entry.Entry.{Entry}
use Rattle.plain_monitor.specs.declared.entry.Entry.TheVariants as entry
use Rattle.plain_monitor.specs.declared.entry.Logged.{Logged}
use Rattle.plain_monitor.specs.declared.entry.Path.TheVariants.{StackFirst}
use Rattle.plain_monitor.specs.History.{RisesAbove, last_above, last_stamp, log_of}
use Rattle.plain_monitor.specs.Order.{insert_ordered, is_before, order, ordered, with_threads}

abbrev pub bare : List Logged → List Logged
bare log = map with_no_path log

abbrev pub bare_at : ℕ × Logged → ℕ × Logged
bare_at x = (x.0, with_no_path x.1)

-- what is without paths stays so
bare_twice : (e : Entry) → without_path (without_path e) ≡ without_path e
bare_twice (entry.Enter o path) = refl
bare_twice e = refl

log_twice : (log : List Logged) → bare (bare log) ≡ bare log
log_twice [] = refl
log_twice (l ∷ log) = λ i. record { stamp = l.stamp; entry = bare_twice l.entry i } ∷ log_twice log i

pub all_twice : (logs : List (List Logged)) → with_no_paths (with_no_paths logs) ≡ with_no_paths logs
all_twice [] = refl
all_twice (log ∷ logs) = λ i. log_twice log i ∷ all_twice logs i

pub log_bare : (logs : List (List Logged)) (t : ℕ) → log_of (with_no_paths logs) t ≡ bare (log_of logs t)
log_bare [] zero = refl
log_bare [] (suc t) = refl
log_bare (log ∷ logs) zero = refl
log_bare (log ∷ logs) (suc t) = log_bare logs t

-- ORDER
thread_bare : (t : ℕ) (log : List Logged) → map (λ (l : Logged). (t, l)) (bare log) ≡ map bare_at (map (λ (l : Logged). (t, l)) log)
thread_bare t [] = refl
thread_bare t (l ∷ log) = ap (λ xs. (t, with_no_path l) ∷ xs) (thread_bare t log)

threads_bare : (t : ℕ) (logs : List (List Logged)) → with_threads t (with_no_paths logs) ≡ map bare_at (with_threads t logs)
threads_bare t [] = refl
threads_bare t (log ∷ logs) =
    (λ i. thread_bare t log i ++ threads_bare (t + 1) logs i)
    ∙ sym (map-append bare_at (map (λ (l : Logged). (t, l)) log) (with_threads (t + 1) logs))

insert_bare : (x : ℕ × Logged) (ys : List (ℕ × Logged)) → insert_ordered (bare_at x) (map bare_at ys) ≡ map bare_at (insert_ordered x ys)
insert_bare x [] = refl
insert_bare x (y ∷ ys) = by_test (is_before x y) (insert_bare x ys)
  where
    by_test : (b : Bool) → insert_ordered (bare_at x) (map bare_at ys) ≡ map bare_at (insert_ordered x ys)
        → (if b then bare_at x ∷ bare_at y ∷ map bare_at ys else bare_at y ∷ insert_ordered (bare_at x) (map bare_at ys))
        ≡ map bare_at (if b then x ∷ y ∷ ys else y ∷ insert_ordered x ys)
    by_test true rest = refl
    by_test false rest = ap (λ zs. bare_at y ∷ zs) rest

ordered_bare : (xs : List (ℕ × Logged)) → ordered (map bare_at xs) ≡ map bare_at (ordered xs)
ordered_bare [] = refl
ordered_bare (x ∷ xs) = ap (insert_ordered (bare_at x)) (ordered_bare xs) ∙ insert_bare x (ordered xs)

pub order_bare : (logs : List (List Logged)) → order (with_no_paths logs) ≡ map bare_at (order logs)
order_bare logs = ap ordered (threads_bare 0 logs) ∙ ordered_bare (with_threads 0 logs)

-- MACHINES
take_bare : (m : PlainMachine) (t : ℕ) (e : Entry) → after_one m t (without_path e) ≡ after_one m t e
take_bare m t (entry.Enter o path) = path_changes_nothing m t o StackFirst path
take_bare m t e = refl

after_all_bare : (m : PlainMachine) (xs : List (ℕ × Logged)) → after_all m (map bare_at xs) ≡ after_all m xs
after_all_bare m [] = refl
after_all_bare m (x ∷ xs) =
    ap (option_and_then (λ n. after_all n (map bare_at xs))) (take_bare m x.0 x.1.entry)
    ∙ ap (λ f. option_and_then f (after_one m x.0 x.1.entry)) (λ i n. after_all_bare n xs i)

pub after_bare : (p : ProgramText) (fuel : ℕ) (logs : List (List Logged))
    → machine_after p fuel (with_no_paths logs) ≡ machine_after p fuel logs
after_bare p fuel logs = ap (after_all (new_machine p fuel)) (order_bare logs) ∙ after_all_bare (new_machine p fuel) (order logs)

rises_to : (n : ℕ) (log : List Logged) → RisesAbove n log → RisesAbove n (bare log)
rises_to n [] r = tt
rises_to n (l ∷ log) r = (r.0, rises_to l.stamp log r.1)

all_rise_to : (logs : List (List Logged)) → AllByRecursion (RisesAbove 0) logs → AllByRecursion (RisesAbove 0) (with_no_paths logs)
all_rise_to [] r = tt
all_rise_to (log ∷ logs) r = (rises_to 0 log r.0, all_rise_to logs r.1)

pub legal_to : (p : ProgramText) (fuel : ℕ) (logs : List (List Logged)) → IsLegal p fuel logs → IsLegal p fuel (with_no_paths logs)
legal_to p fuel logs x =
    record { rises = all_rise_to logs x.rises; taken = subst (λ (r : Option PlainMachine). IsSome r) (sym (after_bare p fuel logs)) x.taken }

rises_from : (n : ℕ) (log : List Logged) → RisesAbove n (bare log) → RisesAbove n log
rises_from n [] r = tt
rises_from n (l ∷ log) r = (r.0, rises_from l.stamp log r.1)

all_rise_from : (logs : List (List Logged)) → AllByRecursion (RisesAbove 0) (with_no_paths logs) → AllByRecursion (RisesAbove 0) logs
all_rise_from [] r = tt
all_rise_from (log ∷ logs) r = (rises_from 0 log r.0, all_rise_from logs r.1)

pub legal_from : (p : ProgramText) (fuel : ℕ) (logs : List (List Logged)) → IsLegal p fuel (with_no_paths logs) → IsLegal p fuel logs
legal_from p fuel logs x =
    record { rises = all_rise_from logs x.rises; taken = subst (λ (r : Option PlainMachine). IsSome r) (after_bare p fuel logs) x.taken }

-- SPLITS
-- where a log has this entry once its paths are taken away
record IsSplit (log before : List Logged) (l : Logged) : Type 0 where
  front : List Logged
  at : Logged
  rest : List Logged
  log_is : log ≡ front ++ at ∷ rest
  before_is : bare front ≡ before
  at_is : with_no_path at ≡ l

split_bare : (log before : List Logged) (l : Logged) (later : List Logged) → bare log ≡ before ++ l ∷ later → IsSplit log before l
split_bare [] [] l later e = absurd (cc e)
split_bare [] (b ∷ before) l later e = absurd (cc e)
split_bare (k ∷ log) [] l later e =
    let head : with_no_path k ≡ l = cc in
    record { front = []; at = k; rest = log; log_is = refl; before_is = refl; at_is = head }
split_bare (k ∷ log) (b ∷ before) l later e =
    let head : with_no_path k ≡ b = cc in
    let tail : bare log ≡ before ++ l ∷ later = cc in
    let s = split_bare log before l later tail in
    record {
      front = k ∷ s.front;
      at = s.at;
      rest = s.rest;
      log_is = ap (λ ls. k ∷ ls) s.log_is;
      before_is = λ i. head i ∷ s.before_is i;
      at_is = s.at_is;
    }

joined : (log before : List Logged) (l : Logged) (later : List Logged) → log ≡ before ++ l ∷ later
    → bare log ≡ bare before ++ with_no_path l ∷ bare later
joined log before l later e = ap bare e ∙ map-append with_no_path before (l ∷ later)

-- LETTING GO
held_after_bare : (e : Entry) (held : ℕ → ℕ) (o : ℕ) → held_after (without_path e) held o ≡ held_after e held o
held_after_bare (entry.Enter k path) held o = refl
held_after_bare e held o = refl

held_bare : (held : ℕ → ℕ) (log : List Logged) → held_by held (bare log) ≡ held_by held log
held_bare held [] = refl
held_bare held (l ∷ log) =
    held_bare (held_after (without_path l.entry) held) log
    ∙ ap (λ (h : ℕ → ℕ). held_by h log) (λ i o. held_after_bare l.entry held o i)

wait_from : (e : Entry) (o : ℕ) → without_path e ≡ entry.Wait o → e ≡ entry.Wait o
wait_from (entry.Enter k path) o h = absurd (cc h)
wait_from e o h = h

exit_from : (e : Entry) (o : ℕ) → without_path e ≡ entry.Exit o → e ≡ entry.Exit o
exit_from (entry.Enter k path) o h = absurd (cc h)
exit_from e o h = h

hash_from : (e : Entry) (o value : ℕ) (draw : Option ℕ) → without_path e ≡ entry.Hash o value draw → e ≡ entry.Hash o value draw
hash_from (entry.Enter k path) o value draw h = absurd (cc h)
hash_from e o value draw h = h

let_go_to : (log : List Logged) (o stamp : ℕ) → HasLetGo log o stamp → HasLetGo (bare log) o stamp
let_go_to log o stamp g =
    record {
      before = bare g.before;
      entry = without_path g.entry;
      later = bare g.later;
      log_is = joined log g.before _ g.later g.log_is;
      lets_go = elim g.lets_go [
        | inl waits ↦ inl (ap without_path waits)
        | inr exits ↦ inr (ap without_path exits.0, ap (λ (h : ℕ → ℕ). h o) (held_bare nothing_held g.before) ∙ exits.1)
      ];
    }

let_go_from : (log : List Logged) (o stamp : ℕ) → HasLetGo (bare log) o stamp → HasLetGo log o stamp
let_go_from log o stamp g =
    let s = split_bare log g.before (record { stamp = stamp; entry = g.entry }) g.later g.log_is in
    let same : s.at.stamp ≡ stamp = ap (λ (l : Logged). l.stamp) s.at_is in
    let is : without_path s.at.entry ≡ g.entry = ap (λ (l : Logged). l.entry) s.at_is in
    let before : held_by nothing_held s.front ≡ held_by nothing_held g.before =
    sym (held_bare nothing_held s.front) ∙ ap (held_by nothing_held) s.before_is in
    record {
      before = s.front;
      entry = s.at.entry;
      later = s.rest;
      log_is = s.log_is ∙ (λ i. s.front ++ record { stamp = same i; entry = s.at.entry } ∷ s.rest);
      lets_go = elim g.lets_go [
        | inl waits ↦ inl (wait_from s.at.entry o (is ∙ waits))
        | inr exits ↦ inr (exit_from s.at.entry o (is ∙ exits.0), ap (λ (h : ℕ → ℕ). h o) before ∙ exits.1)
      ];
    }

-- STAMPS
taking_to : (logs : List (List Logged)) (o last stamp : ℕ) → IsTakingStamp logs o last stamp → IsTakingStamp (with_no_paths logs) o last stamp
taking_to logs o last stamp x =
    record {
      let_go = x.let_go;
      is_last = record {
        below = x.is_last.below;
        logged = elim x.is_last.logged [
          | inl none ↦ inl none
          | inr g ↦
              let there = let_go_to (log_of logs g.0) o x.let_go g.1 in
              inr (g.0, subst (λ (log : List Logged). HasLetGo log o x.let_go) (sym (log_bare logs g.0)) there)
        ];
        last = λ t s g. x.is_last.last t s
            (let_go_from (log_of logs t) o s (subst (λ (log : List Logged). HasLetGo log o s) (log_bare logs t) g));
      };
      next = x.next;
    }

exact_to : (logs : List (List Logged)) (last : ℕ) (e : Entry) (stamp : ℕ) → IsExactStamp logs last e stamp
    → IsExactStamp (with_no_paths logs) last (without_path e) stamp
exact_to logs last (entry.Enter o path) stamp x = taking_to logs o last stamp x
exact_to logs last (entry.Resume o) stamp x = taking_to logs o last stamp x
exact_to logs last e stamp x = x

last_bare : (n : ℕ) (log : List Logged) → last_above n (bare log) ≡ last_above n log
last_bare n [] = refl
last_bare n (l ∷ log) = last_bare l.stamp log

pub stamps_to : (logs : List (List Logged)) → StampsAreExact logs → StampsAreExact (with_no_paths logs)
stamps_to logs exact t before l later e =
    let s = split_bare (log_of logs t) before l later (sym (log_bare logs t) ∙ e) in
    let last : last_stamp s.front ≡ last_stamp before = sym (last_bare 0 s.front) ∙ ap last_stamp s.before_is in
    subst (λ (x : ℕ × Logged). IsExactStamp (with_no_paths logs) x.0 x.1.entry x.1.stamp) (λ i. (last i, s.at_is i))
    (exact_to logs (last_stamp s.front) s.at.entry s.at.stamp (exact t s.front s.at s.rest s.log_is))

taking_from : (logs : List (List Logged)) (o last stamp : ℕ) → IsTakingStamp (with_no_paths logs) o last stamp → IsTakingStamp logs o last stamp
taking_from logs o last stamp x =
    record {
      let_go = x.let_go;
      is_last = record {
        below = x.is_last.below;
        logged = elim x.is_last.logged [
          | inl none ↦ inl none
          | inr g ↦
              let there = subst (λ (log : List Logged). HasLetGo log o x.let_go) (log_bare logs g.0) g.1 in
              inr (g.0, let_go_from (log_of logs g.0) o x.let_go there)
        ];
        last = λ t s g. x.is_last.last t s
            (subst (λ (log : List Logged). HasLetGo log o s) (sym (log_bare logs t)) (let_go_to (log_of logs t) o s g));
      };
      next = x.next;
    }

exact_from : (logs : List (List Logged)) (last : ℕ) (e : Entry) (stamp : ℕ) → IsExactStamp (with_no_paths logs) last (without_path e) stamp
    → IsExactStamp logs last e stamp
exact_from logs last (entry.Enter o path) stamp x = taking_from logs o last stamp x
exact_from logs last (entry.Resume o) stamp x = taking_from logs o last stamp x
exact_from logs last e stamp x = x

-- where a log has an entry, it has it once the paths are taken away
joined_at : (logs : List (List Logged)) (t : ℕ) (before : List Logged) (l : Logged) (later : List Logged) → log_of logs t ≡ before ++ l ∷ later
    → log_of (with_no_paths logs) t ≡ bare before ++ with_no_path l ∷ bare later
joined_at logs t before l later e = log_bare logs t ∙ joined (log_of logs t) before l later e

pub stamps_from : (logs : List (List Logged)) → StampsAreExact (with_no_paths logs) → StampsAreExact logs
stamps_from logs exact t before l later e =
    exact_from logs (last_stamp before) l.entry l.stamp
    (subst (λ (n : ℕ). IsExactStamp (with_no_paths logs) n (without_path l.entry) l.stamp) (last_bare 0 before)
    (exact t (bare before) (with_no_path l) (bare later) (joined_at logs t before l later e)))

-- DRAWS
draw_bare : (e : Entry) → draw_in (without_path e) ≡ draw_in e
draw_bare (entry.Enter o path) = refl
draw_bare e = refl

drawn_to : (first n : ℕ) (log : List Logged) → AreDraws first n log → AreDraws first n (bare log)
drawn_to first n [] d = tt
drawn_to first n (l ∷ log) d = (
  subst (IsNextDraw first n) (sym (draw_bare l.entry)) d.0,
  subst (λ (x : Option Draw). AreDraws first (drawn_by x + n) (bare log)) (sym (draw_bare l.entry))
      (drawn_to first (drawn_by (draw_in l.entry) + n) log d.1),
)

hash_bare : (o : ℕ) (e : Entry) → is_hash o (without_path e) ≡ is_hash o e
hash_bare o (entry.Enter k path) = refl
hash_bare o e = refl

has_hash_bare : (o : ℕ) (log : List Logged) → has_hash o (bare log) ≡ has_hash o log
has_hash_bare o [] = refl
has_hash_bare o (l ∷ log) = λ i. hash_bare o l.entry i || has_hash_bare o log i

draws_for_bare : (o : ℕ) (log : List Logged) → draws_for o (bare log) ≡ draws_for o log
draws_for_bare o [] = refl
draws_for_bare o (l ∷ log) = λ i. drawn_for o (draw_bare l.entry i) + draws_for_bare o log i

all_draws_bare : (o : ℕ) (logs : List (List Logged)) → all_draws o (with_no_paths logs) ≡ all_draws o logs
all_draws_bare o [] = refl
all_draws_bare o (log ∷ logs) = λ i. draws_for_bare o log i + all_draws_bare o logs i

has_hash_at : (logs : List (List Logged)) (o t : ℕ) → has_hash o (log_of (with_no_paths logs) t) ≡ has_hash o (log_of logs t)
has_hash_at logs o t = ap (has_hash o) (log_bare logs t) ∙ has_hash_bare o (log_of logs t)

first_to : (logs : List (List Logged)) → DrawsComeFirst logs → DrawsComeFirst (with_no_paths logs)
first_to logs first t o value number before l later e is =
    let s = split_bare (log_of logs t) before l later (sym (log_bare logs t) ∙ e) in
    let same : without_path s.at.entry ≡ l.entry = ap (λ (x : Logged). x.entry) s.at_is in
    ap (has_hash o) (sym s.before_is) ∙ has_hash_bare o s.front
    ∙ first t o value number s.front s.at s.rest s.log_is (hash_from s.at.entry o value (Some number) (same ∙ is))

pub draws_to : (start : ℕ) (logs : List (List Logged)) → HasDraws start logs → HasDraws start (with_no_paths logs)
draws_to start logs d =
    record {
      drawn = λ t. subst (AreDraws _ 0) (sym (log_bare logs t)) (drawn_to _ 0 (log_of logs t) (d.drawn t));
      one = λ o t has. all_draws_bare o logs ∙ d.one o t (sym (has_hash_at logs o t) ∙ has);
      first = first_to logs d.first;
    }

drawn_from : (first n : ℕ) (log : List Logged) → AreDraws first n (bare log) → AreDraws first n log
drawn_from first n [] d = tt
drawn_from first n (l ∷ log) d = (
  subst (IsNextDraw first n) (draw_bare l.entry) d.0,
  drawn_from first (drawn_by (draw_in l.entry) + n) log
      (subst (λ (x : Option Draw). AreDraws first (drawn_by x + n) (bare log)) (draw_bare l.entry) d.1),
)

first_from : (logs : List (List Logged)) → DrawsComeFirst (with_no_paths logs) → DrawsComeFirst logs
first_from logs first t o value number before l later e is =
    sym (has_hash_bare o before)
    ∙ first t o value number (bare before) (with_no_path l) (bare later) (joined_at logs t before l later e) (ap without_path is)

pub draws_from : (start : ℕ) (logs : List (List Logged)) → HasDraws start (with_no_paths logs) → HasDraws start logs
draws_from start logs d =
    record {
      drawn = λ t. drawn_from _ 0 (log_of logs t) (subst (AreDraws _ 0) (log_bare logs t) (d.drawn t));
      one = λ o t has. sym (all_draws_bare o logs) ∙ d.one o t (has_hash_at logs o t ∙ has);
      first = first_from logs d.first;
    }

-- TEXT
abbrev pub prints : ProgramText → List (List Shot) → List (ℕ × Logged) → List (List ℕ)
prints p shots xs = flat_map (λ x. printed p shots x.0 x.1.entry) xs

printed_bare : (p : ProgramText) (shots : List (List Shot)) (t : ℕ) (e : Entry) → printed p shots t (without_path e) ≡ printed p shots t e
printed_bare p shots t (entry.Enter o path) = refl
printed_bare p shots t e = refl

all_printed_bare : (p : ProgramText) (shots : List (List Shot)) (xs : List (ℕ × Logged)) → prints p shots (map bare_at xs) ≡ prints p shots xs
all_printed_bare p shots [] = refl
all_printed_bare p shots (x ∷ xs) = λ i. printed_bare p shots x.0 x.1.entry i ++ all_printed_bare p shots xs i

pub prints_bare : (p : ProgramText) (shots : List (List Shot)) (logs : List (List Logged))
    → prints p shots (order (with_no_paths logs)) ≡ prints p shots (order logs)
prints_bare p shots logs = ap (prints p shots) (order_bare logs) ∙ all_printed_bare p shots (order logs)
