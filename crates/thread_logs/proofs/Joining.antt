-- Objects and threads together are the machine.
use Rattle.std.proofs.Common.{◌≡◌, ℕ, zero, suc, ◌+◌, ◌<◌, ◌≤◌, true, List, [], ◌∷◌, length, map, slice_get, slice_set}
use Rattle.std.proofs.Common.{Option, Some, None, IsSome, option_map, option_and_then, refl, sym, ap, ◌∙◌, subst, arith}
use Rattle.std.specs.List.{AllByRecursion}
use Rattle.std.proofs.lemmas.List.{length-map}
use Rattle.std.proofs.lemmas.Option.{none-some, same_Some}
use Rattle.plain_monitor.specs.declared.entry.Entry.{Entry}
use Rattle.plain_monitor.specs.declared.entry.Logged.{Logged}
use Rattle.plain_monitor.specs.Objects.{PlainObject, new_objects, take_entry}
use Rattle.plain_monitor.specs.Made.{take_made, made_after}
use Rattle.plain_monitor.specs.Order.{order}
use Rattle.plain_monitor.specs.History.{RisesAbove, objects_after, log_of, run_all}
use Rattle.plain_history.specs.Joined.{run_log, both, take_joined, take_all_joined, EachTakesItsLog}
use Rattle.plain_history.proofs.Joined.{first_some}
use Rattle.object_program.specs.Program.{ProgramText, shape_of, numbering_of}
use Rattle.object_program.specs.Valid.{IsProgram}
use Rattle.machine_laws.proofs.ReachedAsked.{taken}
use Rattle.machine_laws.proofs.ReachedFrame.{moved_to}
use Rattle.plain_machine.specs.declared.monitor_call.NextEntry.{NextEntry}
use Rattle.plain_machine.specs.Thread.{ThreadState}
use Rattle.plain_machine.specs.Asking.{ask, fits, after_entry, thread_after}
use Rattle.plain_machine.specs.Machine.{PlainMachine, new_machine, code_of, made_after_entry, take}
use Rattle.plain_machine.specs.Legal.{IsLegal, after_all, machine_after}
use Rattle.thread_logs.specs.inner.Coded.{Coded, coded_step}
use Rattle.thread_logs.specs.Followed.{FollowsCode, HaveFollowed}

abbrev with_code : ProgramText → ℕ → ThreadState → Coded
with_code p t s = record { program = p; code = code_of p t; state = s }

-- the states of the threads from t on, with their code
abbrev coded : ProgramText → ℕ → List ThreadState → List Coded
coded p t [] = []
coded p t (s ∷ ss) = with_code p t s ∷ coded p (t + 1) ss

get_coded : (p : ProgramText) (t i : ℕ) (ss : List ThreadState)
    → slice_get (coded p t ss) i ≡ option_map (with_code p (t + i)) (slice_get ss i)
get_coded p t i [] = refl
get_coded p t zero (s ∷ ss) = ap (λ (n : ℕ). Some (with_code p n s)) (omega arith)
get_coded p t (suc i) (s ∷ ss) =
    let e : t + 1 + i ≡ t + suc i = omega arith in
    get_coded p (t + 1) i ss ∙ ap (λ (n : ℕ). option_map (with_code p n) (slice_get ss i)) e

set_coded : (p : ProgramText) (t i : ℕ) (ss : List ThreadState) (s : ThreadState)
    → slice_set (coded p t ss) i (with_code p (t + i) s) ≡ coded p t (slice_set ss i s)
set_coded p t i [] s = refl
set_coded p t zero (x ∷ ss) s = ap (λ (n : ℕ). with_code p n s ∷ coded p (t + 1) ss) (omega arith)
set_coded p t (suc i) (x ∷ ss) s =
    let e : t + suc i ≡ t + 1 + i = omega arith in
    let there = ap (λ (n : ℕ). slice_set (coded p (t + 1) ss) i (with_code p n s)) e in
    ap (λ xs. with_code p t x ∷ xs) (there ∙ set_coded p (t + 1) i ss s)

length_coded : (p : ProgramText) (t : ℕ) (ss : List ThreadState) → length (coded p t ss) ≡ length ss
length_coded p t [] = refl
length_coded p t (s ∷ ss) = let h = length_coded p (t + 1) ss in omega (arith, h)

states_of : (p : ProgramText) (t : ℕ) (ss : List ThreadState) → map (λ (c : Coded). c.state) (coded p t ss) ≡ ss
states_of p t [] = refl
states_of p t (s ∷ ss) = ap (λ xs. s ∷ xs) (states_of p (t + 1) ss)

-- the same from thread 0 on
get_first : (p : ProgramText) (t : ℕ) (ss : List ThreadState)
    → slice_get (coded p 0 ss) t ≡ option_map (with_code p t) (slice_get ss t)
get_first p t ss =
    let z : 0 + t ≡ t = omega arith in
    get_coded p 0 t ss ∙ ap (λ (n : ℕ). option_map (with_code p n) (slice_get ss t)) z

set_first : (p : ProgramText) (t : ℕ) (ss : List ThreadState) (s : ThreadState)
    → slice_set (coded p 0 ss) t (with_code p t s) ≡ coded p 0 (slice_set ss t s)
set_first p t ss s =
    let z : t ≡ 0 + t = omega arith in
    ap (λ (n : ℕ). slice_set (coded p 0 ss) t (with_code p n s)) z ∙ set_coded p 0 t ss s

-- the states with their code after an entry that led the one of thread t to this one
abbrev set_after : PlainMachine → ℕ → Coded → List Coded
set_after m t after = slice_set (coded m.program 0 m.threads) t after

-- the same where thread t is in this state before the entry
abbrev taken_by : PlainMachine → ℕ → Entry → Option Coded → Option (List Coded)
taken_by m t e before = option_and_then (λ c. option_map (set_after m t) (coded_step c e)) before

-- both parts of a machine
abbrev parts : PlainMachine → List PlainObject × List Coded
parts m = (m.objects, coded m.program 0 m.threads)

-- the thread and the objects alone move on
abbrev pub together : PlainMachine → ℕ → Option ThreadState → Option (List PlainObject) → Option PlainMachine
together m t None objects = None
together m t (Some s) None = None
together m t (Some s) (Some objects) = Some (record m { objects = objects; threads = slice_set m.threads t s })

abbrev pub take_together : PlainMachine → ℕ → Entry → Option PlainMachine
take_together m t e = option_and_then (λ s. together m t (thread_after m.program (code_of m.program t) s e) (take_entry m.objects t e)) (slice_get m.threads t)

moved_parts : (m : PlainMachine) (t : ℕ) (a : Option ThreadState) (o : Option (List PlainObject))
    → both o (option_map (set_after m t) (option_map (with_code m.program t) a)) ≡ option_map parts (together m t a o)
moved_parts m t None None = refl
moved_parts m t None (Some x) = refl
moved_parts m t (Some n) None = refl
moved_parts m t (Some n) (Some x) = ap (λ xs. Some (x, xs)) (set_first m.program t m.threads n)

nothing_moved : (o : Option (List PlainObject)) → both {B = List Coded} o None ≡ None
nothing_moved None = refl
nothing_moved (Some x) = refl

take_at : (m : PlainMachine) (t : ℕ) (e : Entry) (r : Option ThreadState)
    → both (take_entry m.objects t e) (taken_by m t e (option_map (with_code m.program t) r))
    ≡ option_map parts
    (option_and_then (λ s. together m t (thread_after m.program (code_of m.program t) s e) (take_entry m.objects t e)) r)
take_at m t e None = nothing_moved (take_entry m.objects t e)
take_at m t e (Some s) = moved_parts m t (thread_after m.program (code_of m.program t) s e) (take_entry m.objects t e)

take_parts : (m : PlainMachine) (t : ℕ) (e : Entry)
    → take_joined coded_step m.objects (coded m.program 0 m.threads) t e ≡ option_map parts (take_together m t e)
take_parts m t e =
    ap (λ r. both (take_entry m.objects t e) (taken_by m t e r)) (get_first m.program t m.threads)
    ∙ take_at m t e (slice_get m.threads t)

-- both parts after these entries
abbrev joined_on : List (ℕ × Logged) → List PlainObject × List Coded → Option (List PlainObject × List Coded)
joined_on xs p = take_all_joined coded_step p.0 p.1 xs

after_parts : (m : PlainMachine) (xs : List (ℕ × Logged))
    → take_all_joined coded_step m.objects (coded m.program 0 m.threads) xs ≡ option_map parts (run_all take_together m xs)
after_parts m [] = refl
after_parts m (x ∷ xs) =
    ap (option_and_then (joined_on xs)) (take_parts m x.0 x.1.entry) ∙ onward (take_together m x.0 x.1.entry) (λ n. after_parts n xs)
  where
    onward : (r : Option PlainMachine) → ((n : PlainMachine) → joined_on xs (parts n) ≡ option_map parts (run_all take_together n xs))
        → option_and_then (joined_on xs) (option_map parts r) ≡ option_map parts (option_and_then (λ n. run_all take_together n xs) r)
    onward None h = refl
    onward (Some n) h = h n

-- the machine where this is made: threads and objects together don't look at that
abbrev with_made : List (List ℕ) → PlainMachine → PlainMachine
with_made made m = record m { made = made }

-- what a machine takes, its threads and its objects take together
together_at : (made : List (List ℕ)) (m n : PlainMachine) (t : ℕ) (e : Entry) (s : ThreadState) (a : NextEntry) (objects : List PlainObject)
    → slice_get m.threads t ≡ Some s → ask s ≡ Some a → fits a e ≡ true
    → take_entry m.objects t e ≡ Some objects → with_made made (moved_to m t (after_entry m.program (code_of m.program t) s a e) objects) ≡ with_made made n
    → take_together (with_made made m) t e ≡ Some (with_made made n)
together_at made m n t e s a objects at asks fit takes is =
    let after : thread_after m.program (code_of m.program t) s e ≡ Some (after_entry m.program (code_of m.program t) s a e) = rw (asks, fit) refl in
    rw (at, after, takes) (ap Some is)

took_together : (made : List (List ℕ)) (m n : PlainMachine) (t : ℕ) (e : Entry)
    → take m t e ≡ Some n → take_together (with_made made m) t e ≡ Some (with_made made n)
took_together made m n t e h =
    let k = taken m t e n h in
    together_at made m n t e k.s k.asked k.objects k.at k.asks k.fit k.takes (ap (with_made made) k.is)

pub all_together : (made : List (List ℕ)) (m last : PlainMachine) (xs : List (ℕ × Logged)) → after_all m xs ≡ Some last
    → run_all take_together (with_made made m) xs ≡ Some (with_made made last)
all_together made m last [] h = ap (option_map (with_made made)) h
all_together made m last (x ∷ xs) h =
    let a = first_some (λ n. after_all n xs) (take m x.0 x.1.entry) last h in
    rw (took_together made m a.0 x.0 x.1.entry a.1) (all_together made a.0 last xs a.2)

-- threads and objects together go on alike, whatever was made
moved_alike : (made : List (List ℕ)) (m : PlainMachine) (t : ℕ) (r : Option ThreadState) (o : Option (List PlainObject))
    → together (with_made made m) t r o ≡ option_map (with_made made) (together m t r o)
moved_alike made m t None o = refl
moved_alike made m t (Some s) None = refl
moved_alike made m t (Some s) (Some objects) = refl

step_alike : (made : List (List ℕ)) (m : PlainMachine) (t : ℕ) (e : Entry)
    → take_together (with_made made m) t e ≡ option_map (with_made made) (take_together m t e)
step_alike made m t e = by_thread (slice_get m.threads t)
  where
    by_thread : (r : Option ThreadState)
        → option_and_then (λ s. together (with_made made m) t (thread_after m.program (code_of m.program t) s e) (take_entry m.objects t e)) r
        ≡ option_map (with_made made) (option_and_then (λ s. together m t (thread_after m.program (code_of m.program t) s e) (take_entry m.objects t e)) r)
    by_thread None = refl
    by_thread (Some s) = moved_alike made m t (thread_after m.program (code_of m.program t) s e) (take_entry m.objects t e)

pub all_alike : (made : List (List ℕ)) (m last : PlainMachine) (xs : List (ℕ × Logged)) → run_all take_together m xs ≡ Some last
    → run_all take_together (with_made made m) xs ≡ Some (with_made made last)
all_alike made m last [] h = ap (option_map (with_made made)) h
all_alike made m last (x ∷ xs) h =
    let a = first_some (λ n. run_all take_together n xs) (take_together m x.0 x.1.entry) last h in
    rw (step_alike made m x.0 x.1.entry, a.1) (all_alike made a.0 last xs a.2)

-- and the machine takes what they take together, where each entry finds what it needs
taken_together : (m n : PlainMachine) (made : List (List ℕ)) (t : ℕ) (e : Entry) → take_together m t e ≡ Some n → made_after_entry m t e ≡ Some made
    → (take m t e ≡ Some (with_made made n)) × (n.program ≡ m.program)
taken_together m n made t e k makes =
    let a = first_some (λ s. together m t (thread_after m.program (code_of m.program t) s e) (take_entry m.objects t e)) (slice_get m.threads t) n k in
    by_parts a.0 a.1 (thread_after m.program (code_of m.program t) a.0 e) (take_entry m.objects t e) refl refl a.2
  where
    by_parts : (s : ThreadState) → slice_get m.threads t ≡ Some s
        → (r : Option ThreadState) (o : Option (List PlainObject)) → thread_after m.program (code_of m.program t) s e ≡ r
        → take_entry m.objects t e ≡ o → together m t r o ≡ Some n → (take m t e ≡ Some (with_made made n)) × (n.program ≡ m.program)
    by_parts s at None o f g k = absurd (none-some n k)
    by_parts s at (Some after) None f g k = absurd (none-some n k)
    by_parts s at (Some after) (Some objects) f g k =
        let same = same_Some _ n k in (
          rw (at, f, makes, g) (ap (λ (x : PlainMachine). Some (with_made made x)) same),
          ap (λ (x : PlainMachine). x.program) (sym same),
        )

pub all_taken : (m last : PlainMachine) (xs : List (ℕ × Logged)) (made : List (List ℕ)) → run_all take_together m xs ≡ Some last
    → run_all (take_made (numbering_of m.program)) m.made xs ≡ Some made → after_all m xs ≡ Some (with_made made last)
all_taken m last [] made h g = ap (λ (x : List (List ℕ)). Some (with_made x m)) (same_Some m.made made g)
    ∙ ap (λ (x : PlainMachine). Some (with_made made x)) (same_Some m last h)
all_taken m last (x ∷ xs) made h g =
    let a = first_some (λ n. run_all take_together n xs) (take_together m x.0 x.1.entry) last h in
    let b = first_some (λ k. run_all (take_made (numbering_of m.program)) k xs) (take_made (numbering_of m.program) m.made x.0 x.1.entry) made g in
    let step = taken_together m a.0 b.0 x.0 x.1.entry a.1 b.1 in
    let rest : run_all (take_made (numbering_of a.0.program)) b.0 xs ≡ Some made = ap (λ p. run_all (take_made (numbering_of p)) b.0 xs) step.1 ∙ b.2 in
    rw step.0 (all_taken (with_made b.0 a.0) (with_made b.0 last) xs made (all_alike b.0 a.0 last xs a.2) rest)

-- one thread's log leads to the same state with the code beside it
run_coded : (p : ProgramText) (t : ℕ) (log : List Logged) (s final : ThreadState)
    → run_log (thread_after p (code_of p t)) s log ≡ Some final
    → run_log coded_step (with_code p t s) log ≡ Some (with_code p t final)
run_coded p t [] s final h = ap (option_map (with_code p t)) h
run_coded p t (l ∷ log) s final h =
    let step = thread_after p (code_of p t) in
    let a = first_some (λ n. run_log step n log) (step s l.entry) final h in
    rw a.1 (run_coded p t log a.0 final a.2)

-- what a value that a function made came from
record Came {A B : Type 0} (f : A → B) (r : Option A) (y : B) : Type 0 where
  from : A
  here : r ≡ Some from
  is : f from ≡ y

came : {A B : Type 0} (f : A → B) (r : Option A) (y : B) → option_map f r ≡ Some y → Came f r y
came f None y e = absurd (none-some y e)
came f (Some x) y e = record { from = x; here = refl; is = same_Some (f x) y e }

-- a list whose elements are told by their places, from place k on
record IsListOf {A : Type 0} (P : ℕ → A → Type 0) (k n : ℕ) : Type 0 where
  items : List A
  count : length items ≡ n
  each : (i : ℕ) (x : A) → slice_get items i ≡ Some x → P (k + i) x

list_of : {A : Type 0} (P : ℕ → A → Type 0) (k n : ℕ) → ((i : ℕ) → i < k + n → (x : A) × P i x) → IsListOf P k n
list_of P k zero f = record { items = []; count = refl; each = λ i x e. absurd (none-some x e) }
list_of P k (suc n) f =
    let here = f k (omega arith) in
    let rest = list_of P (k + 1) n (λ i l. f i (omega (arith, l))) in
    let count = rest.count in
    record { items = here.0 ∷ rest.items; count = omega (arith, count); each = each here.0 here.1 rest }
  where
    each : (y : _) → P k y → (rest : IsListOf P (k + 1) n) → (i : ℕ) (x : _) → slice_get (y ∷ rest.items) i ≡ Some x
        → P (k + i) x
    each y h rest zero x e =
        let z : k ≡ k + 0 = omega arith in
        subst (λ (j : ℕ). P j x) z (subst (P k) (same_Some y x e) h)
    each y h rest (suc i) x e =
        let z : k + 1 + i ≡ k + suc i = omega arith in
        subst (λ (j : ℕ). P j x) z (rest.each i x e)

module _ (p : ProgramText) (fuel : ℕ) (logs : List (List Logged)) (h : HaveFollowed p fuel logs) where
  abbrev threads : List ThreadState
  threads = (new_machine p fuel).threads

  abbrev IsFinal : ℕ → ThreadState → Type 0
  IsFinal t s = FollowsCode p fuel t (log_of logs t) s

  finals : IsListOf IsFinal 0 (length p.threads)
  finals = list_of IsFinal 0 (length p.threads) (λ t l. let f = h.each t (omega (arith, l)) in (f.now, f.follows))

  final_at : (t : ℕ) (s : ThreadState) → slice_get finals.items t ≡ Some s → IsFinal t s
  final_at t s e = let z : 0 + t ≡ t = omega arith in subst (λ (k : ℕ). IsFinal k s) z (finals.each t s e)

  abbrev states : List Coded
  states = coded p 0 threads

  lasts : List Coded
  lasts = coded p 0 finals.items

  as_many : length states ≡ length p.threads
  as_many = length_coded p 0 threads ∙ length-map p.threads _

  enough : length logs ≤ length states
  enough = omega (arith, h.count, as_many)

  own : (t : ℕ) (s final : Coded) → slice_get states t ≡ Some s → slice_get lasts t ≡ Some final
      → run_log coded_step s (log_of logs t) ≡ Some final
  unfolding lasts
  own t s final e f =
      let a = came (with_code p t) (slice_get threads t) s (sym (get_first p t threads) ∙ e) in
      let b = came (with_code p t) (slice_get finals.items t) final (sym (get_first p t finals.items) ∙ f) in
      let last = final_at t b.from b.here in
      let first : last.first ≡ a.from = same_Some _ _ (sym last.there ∙ a.here) in
      let leads = ap (λ x. run_log (thread_after p (code_of p t)) x (log_of logs t)) (sym first) ∙ last.leads in
      let runs = run_coded p t (log_of logs t) a.from b.from leads in
      ap (λ x. run_log coded_step x (log_of logs t)) (sym a.is) ∙ runs ∙ ap Some b.is

  takes : EachTakesItsLog coded_step states lasts logs
  unfolding lasts
  takes = record { threads = length_coded p 0 finals.items ∙ finals.count ∙ sym as_many; own = own }

  -- the machine under the logs
  record IsAfter : Type 0 where
    machine : PlainMachine
    is : run_all take_together (new_machine p fuel) (order logs) ≡ Some machine
    objects : objects_after (shape_of p) logs ≡ Some machine.objects
    threads_are : machine.threads ≡ finals.items

  is_after : (after : List PlainObject) → objects_after (shape_of p) logs ≡ Some after
      → take_all_joined coded_step (new_objects (shape_of p)) states (order logs) ≡ Some (after, lasts) → IsAfter
  unfolding lasts
  is_after after o e =
      let both_there = sym (after_parts (new_machine p fuel) (order logs)) ∙ e in
      let c = came parts (run_all take_together (new_machine p fuel) (order logs)) (after, lasts) both_there in
      let m = c.from in
      let same : coded m.program 0 m.threads ≡ coded p 0 finals.items =
      ap (λ (x : List PlainObject × List Coded). x.1) c.is in
      let states_same = ap (map (λ (c : Coded). c.state)) same in
      record {
        machine = m;
        is = c.here;
        objects = o ∙ ap (λ (x : List PlainObject × List Coded). Some x.0) (sym c.is);
        threads_are = sym (states_of m.program 0 m.threads) ∙ states_same ∙ states_of p 0 finals.items;
      }

-- the law by which objects and threads that take all take it together
abbrev pub Law : Type 0
Law =
    (shape : List (ℕ × ℕ)) (logs : List (List Logged)) (after : List PlainObject) (before finals : List Coded)
    → AllByRecursion (RisesAbove 0) logs → length logs ≤ length before → objects_after shape logs ≡ Some after
    → EachTakesItsLog coded_step before finals logs
    → take_all_joined coded_step (new_objects shape) before (order logs) ≡ Some (after, finals)

module _ (law : Law) (p : ProgramText) (fuel : ℕ) (logs : List (List Logged)) where
  there : (h : HaveFollowed p fuel logs) (r : Option (List PlainObject)) → objects_after (shape_of p) logs ≡ r
      → IsSome r → IsAfter p fuel logs h
  there h None e s = absurd (cc s)
  there h (Some after) e s =
      let by_logs = law (shape_of p) logs after (states p fuel logs h) (lasts p fuel logs h) h.objects.rises in
      is_after p fuel logs h after e (by_logs (enough p fuel logs h) e (takes p fuel logs h))

  now : (h : HaveFollowed p fuel logs) → IsAfter p fuel logs h
  now h = there h (objects_after (shape_of p) logs) refl h.objects.taken

  by_made : (h : HaveFollowed p fuel logs) (r : Option (List (List ℕ))) → made_after (numbering_of p) logs ≡ r → IsSome r → IsSome (machine_after p fuel logs)
  by_made h None e s = absurd (cc s)
  by_made h (Some made) e s = subst IsSome (sym (all_taken (new_machine p fuel) (now h).machine (order logs) made (now h).is e)) refl

  pub legal : IsProgram p → HaveFollowed p fuel logs → IsLegal p fuel logs
  legal valid h = record { rises = h.objects.rises; taken = by_made h (made_after (numbering_of p) logs) refl h.made }

  module _ (m : PlainMachine) (h : HaveFollowed p fuel logs) (at : machine_after p fuel logs ≡ Some m) where
    same : (now h).machine ≡ with_made (new_machine p fuel).made m
    same = same_Some _ _ (sym (now h).is ∙ all_together (new_machine p fuel).made (new_machine p fuel) m (order logs) at)

    pub objects_are : objects_after (shape_of p) logs ≡ Some m.objects
    objects_are = (now h).objects ∙ ap (λ (x : PlainMachine). Some x.objects) same

    finals_are : m.threads ≡ (finals p fuel logs h).items
    finals_are = ap (λ (x : PlainMachine). x.threads) (sym same) ∙ (now h).threads_are

    pub threads_count : length m.threads ≡ length p.threads
    threads_count = ap length finals_are ∙ (finals p fuel logs h).count

    pub each_follows : (t : ℕ) (s : ThreadState) → slice_get m.threads t ≡ Some s → FollowsCode p fuel t (log_of logs t) s
    each_follows t s e =
        let there = ap (λ (xs : List ThreadState). slice_get xs t) (sym finals_are) in
        final_at p fuel logs h t s (there ∙ e)
