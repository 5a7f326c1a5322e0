-- After every history that the objects take, a thread stands among those who wait on an object or were called from it
-- exactly where by its own log it waits there.
use Rattle.std.proofs.Common.{◌≡◌, ℕ, zero, suc, ◌==◌, ◌&&◌, ◌||◌, not, eq-eqb, ne_eqb, cond, Bool, true, false, List, [], ◌∷◌}
use Rattle.std.proofs.Common.{slice_get, slice_set, slice_index_or, Option, Some, None, refl, sym, ap, ◌∙◌, subst, inl, inr}
use Rattle.std.proofs.Math.Bool.{or-true, or-false, and-true, and-false}
use Rattle.std.proofs.lemmas.Bool.{cases_eq}
use Rattle.std.proofs.lemmas.List.{get_or-set_same, get_or-set_other}
use Rattle.std.proofs.lemmas.Option.{same_Some, get_or_from_slice_get}
use Rattle.plain_monitor.specs.declared.entry.Entry.{Entry}
use Rattle.plain_monitor.specs.declared.entry.Entry.TheVariants as entry
use Rattle.plain_monitor.specs.declared.entry.Logged.{Logged}
use Rattle.plain_monitor.specs.Monitor.{PlainMonitor, enter, exit, wait, resume, notify, notify_all}
use Rattle.plain_monitor.specs.Objects.{PlainObject, new_object, new_objects, take_at, take_named, take_entry, named, hashed}
use Rattle.plain_monitor.specs.Order.{order, of_thread}
use Rattle.plain_monitor.specs.History.{LegalObjects, take_all, objects_after, log_of}
use Rattle.plain_monitor.proofs.Threads.{thread_kept}
use Rattle.plain_history.specs.Sound.{IsSound}
use Rattle.plain_history.proofs.HeldByLog.{there}
use Rattle.plain_history.proofs.Inserting.{first_taken}
use Rattle.plain_history.proofs.SoundHistories.{monitor_kept, only_kept, hash_kept, AllSound, named_sound, new_sound, sound_at}
use Rattle.plain_history.proofs.Swaps.{taken_at}
use Rattle.wait_history.specs.WaitsByLog.{waits_after, waits_by}
use Rattle.wait_history.proofs.WaitSteps.{awaits, enter_awaits, exit_awaits, wait_awaits, resume_awaits, notify_awaits, notify_all_awaits}

-- the plain objects by number
abbrev object_of : List PlainObject → ℕ → PlainObject
object_of objects i = slice_index_or objects i (new_object 0)

-- thread t waits on object i or was called from it
abbrev awaits_at : List PlainObject → ℕ → ℕ → Bool
awaits_at objects i t = awaits (object_of objects i).monitor t

-- ENTRIES. Whether the thread of an entry waits on the object that the entry names.
abbrev waits_here : Entry → Bool → Bool
waits_here (entry.Wait o) a = true
waits_here (entry.Resume o) a = false
waits_here _ a = a

abbrev Waits : ℕ → ℕ → Entry → Bool → Bool → Type 0
Waits u t e a b = b ≡ cond (u == t) (waits_here e a) a

same_waits : (c a b : Bool) → b ≡ a → b ≡ cond c a a
same_waits true a b e = e
same_waits false a b e = e

begun : (c a b : Bool) → b ≡ (a || c) → b ≡ cond c true a
begun true true b e = e
begun true false b e = e
begun false true b e = e
begun false false b e = e

ended : (c a b : Bool) → b ≡ (a && not c) → b ≡ cond c false a
ended true true b e = e
ended true false b e = e
ended false true b e = e
ended false false b e = e

module _ (x y : PlainObject) (u t : ℕ) where
  -- at this monitor the thread waits as this entry says; and as before
  abbrev Told : Entry → PlainMonitor → Type 0
  Told e n = Waits u t e (awaits x.monitor t) (awaits n t)

  abbrev Unchanged : PlainMonitor → Type 0
  Unchanged n = awaits n t ≡ awaits x.monitor t

  at_object : (e : Entry) → IsSound x.monitor → take_at x u e ≡ Some y → Waits u t e (awaits x.monitor t) (awaits y.monitor t)
  at_object (entry.Enter o p) s h = same_waits (u == t) _ _ (monitor_kept Unchanged x y (enter x.monitor u) (λ n. enter_awaits x.monitor n u t) h)
  at_object (entry.Exit o) s h = same_waits (u == t) _ _ (monitor_kept Unchanged x y (exit x.monitor u) (λ n. exit_awaits x.monitor n u t) h)
  at_object (entry.Wait o) s h =
      monitor_kept (Told (entry.Wait o)) x y (wait x.monitor u) (λ n g. begun (u == t) _ _ (wait_awaits x.monitor n u t g)) h
  at_object (entry.Resume o) s h =
      monitor_kept (Told (entry.Resume o)) x y (resume x.monitor u) (λ n g. ended (u == t) _ _ (resume_awaits x.monitor n u t s g)) h
  at_object (entry.Notify o w) s h = same_waits (u == t) _ _ (monitor_kept Unchanged x y (notify x.monitor u w) (λ n. notify_awaits x.monitor n u t w) h)
  at_object (entry.NotifyAll o w) s h =
      same_waits (u == t) _ _ (monitor_kept Unchanged x y (notify_all x.monitor u w) (λ n. notify_all_awaits x.monitor n u t w) h)
  at_object (entry.Get o i v) s h = same_waits (u == t) _ _ (only_kept Unchanged x x y _ refl refl h)
  at_object (entry.Put o i v) s h = same_waits (u == t) _ _ (only_kept Unchanged x (record x { slots = slice_set x.slots i v }) y _ refl refl h)
  at_object (entry.Hash o v d) s h = same_waits (u == t) _ _ (hash_kept Unchanged x y (hashed x.hash v) refl h)
  at_object _ s h = same_waits (u == t) _ _ (subst (λ z. Unchanged z.monitor) (same_Some x y h) refl)

-- by the log, at the object that an entry names, and elsewhere
log_here : (e : Entry) (a : Bool) (o : ℕ) → named e ≡ Some o → waits_after e a o ≡ waits_here e a
log_here (entry.Wait i) a o h = ap (λ b. a || b) (eq-eqb i o (same_Some i o h)) ∙ or-true a
log_here (entry.Resume i) a o h = ap (λ b. a && not b) (eq-eqb i o (same_Some i o h)) ∙ and-false a
log_here _ a o h = refl

log_else : (e : Entry) (a : Bool) (o : ℕ) → (named e ≡ Some o → ⊥) → waits_after e a o ≡ a
log_else (entry.Wait i) a o h = ap (λ b. a || b) (ne_eqb i o (λ s. h (ap Some s))) ∙ or-false a
log_else (entry.Resume i) a o h = ap (λ b. a && not b) (ne_eqb i o (λ s. h (ap Some s))) ∙ and-true a
log_else _ a o h = refl

-- an entry of u changes u's own waits alone, as its log says
step_awaits : (P Q : List PlainObject) (u t : ℕ) (e : Entry) → AllSound P → take_entry P u e ≡ Some Q → (i : ℕ)
    → awaits_at Q i t ≡ cond (u == t) (waits_after e (awaits_at P i t) i) (awaits_at P i t)
step_awaits P Q u t e sound h i = by_name (named e) refl h
  where
    -- where the entry doesn't name the object, nothing changes there
    unnamed : (named e ≡ Some i → ⊥) → awaits_at P i t ≡ cond (u == t) (waits_after e (awaits_at P i t) i) (awaits_at P i t)
    unnamed other = same_waits (u == t) _ _ refl ∙ ap (λ x. cond (u == t) x (awaits_at P i t)) (sym (log_else e (awaits_at P i t) i other))

    by_name : (a : Option ℕ) → named e ≡ a → take_named P u e a ≡ Some Q
        → awaits_at Q i t ≡ cond (u == t) (waits_after e (awaits_at P i t) i) (awaits_at P i t)
    by_name None n g = ap (λ (R : List PlainObject). awaits_at R i t) (sym (same_Some P Q g)) ∙ unnamed (λ s. absurd (cc (n, s)))
    by_name (Some o) n g =
        let k = taken_at P Q u e o g in
        let was : object_of P o ≡ k.x = get_or_from_slice_get P o k.x (new_object 0) k.was in
        elim (cases_eq i o) [
          | inl s ↦ subst (λ j. awaits_at Q j t ≡ cond (u == t) (waits_after e (awaits_at P j t) j) (awaits_at P j t)) (sym s)
              (ap (λ (R : List PlainObject). awaits_at R o t) k.is
              ∙ ap (λ (z : PlainObject). awaits z.monitor t) (get_or-set_same P o k.y (new_object 0) (there P o k.x k.was))
              ∙ at_object k.x k.y u t e (sound_at P o k.x k.was sound) k.step
              ∙ ap (λ (z : PlainObject). cond (u == t) (waits_here e (awaits z.monitor t)) (awaits z.monitor t)) (sym was)
              ∙ ap (λ x. cond (u == t) x (awaits_at P o t)) (sym (log_here e (awaits_at P o t) o n)))
          | inr d ↦ ap (λ (R : List PlainObject). awaits_at R i t) k.is
              ∙ ap (λ (z : PlainObject). awaits z.monitor t) (get_or-set_other P o i k.y (new_object 0) d)
              ∙ unnamed (λ s. d (sym (same_Some o i (sym n ∙ s))))
        ]

-- and entries of all threads, as t's own say
all_await : (xs : List (ℕ × Logged)) (P Q : List PlainObject) (t : ℕ) → AllSound P → take_all P xs ≡ Some Q → (i : ℕ)
    → awaits_at Q i t ≡ waits_by (awaits_at P i t) (of_thread t xs) i
all_await [] P Q t sound h i = ap (λ (R : List PlainObject). awaits_at R i t) (sym (same_Some P Q h))
all_await (x ∷ xs) P Q t sound h i =
    let k = first_taken (take_entry P x.0 x.1.entry) xs Q h in
    let step = step_awaits P k.0 x.0 t x.1.entry sound k.1 i in
    all_await xs k.0 Q t (named_sound P k.0 x.0 x.1.entry (named x.1.entry) sound k.1) k.2 i
    ∙ ap (λ a. waits_by a (of_thread t xs) i) step ∙ by_test (x.0 == t)
  where
    by_test : (b : Bool) → waits_by (cond b (waits_after x.1.entry (awaits_at P i t) i) (awaits_at P i t)) (of_thread t xs) i
        ≡ waits_by (awaits_at P i t) (cond b (x.1 ∷ of_thread t xs) (of_thread t xs)) i
    by_test true = refl
    by_test false = refl

-- at first nobody waits
new_awaits : (shape : List (ℕ × ℕ)) (t o : ℕ) → awaits_at (new_objects shape) o t ≡ false
new_awaits [] t o = refl
new_awaits (x ∷ shape) t zero = refl
new_awaits (x ∷ shape) t (suc o) = new_awaits shape t o

-- at all object numbers, where one that isn't there is new
pub waits_by_log : (shape : List (ℕ × ℕ)) (logs : List (List Logged)) (objects : List PlainObject) (t o : ℕ)
    → LegalObjects shape logs → objects_after shape logs ≡ Some objects
    → waits_by false (log_of logs t) o ≡ awaits (slice_index_or objects o (new_object 0)).monitor t
waits_by_log shape logs objects t o legal h =
    sym (all_await (order logs) (new_objects shape) objects t (new_sound shape) h o
    ∙ ap (λ a. waits_by a (of_thread t (order logs)) o) (new_awaits shape t o)
    ∙ ap (λ (log : List Logged). waits_by false log o) (thread_kept logs t legal.rises))

pub object_waits_by_log : (shape : List (ℕ × ℕ)) (logs : List (List Logged)) (objects : List PlainObject) (t o : ℕ) (x : PlainObject)
    → LegalObjects shape logs → objects_after shape logs ≡ Some objects → slice_get objects o ≡ Some x → waits_by false (log_of logs t) o ≡ awaits x.monitor t
object_waits_by_log shape logs objects t o x legal h is =
    waits_by_log shape logs objects t o legal h ∙ ap (λ (z : PlainObject). awaits z.monitor t) (get_or_from_slice_get objects o x (new_object 0) is)
