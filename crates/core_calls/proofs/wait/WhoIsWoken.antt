-- Whom a notify wakes, by the words that it loads.
use Rattle.std.proofs.Common.{◌≡◌, ℕ, zero, suc, ◌+◌, ◌==◌, List, [], ◌∷◌, length, Option, Some, Ok, refl, ap, ◌∙◌, sym, inl, inr, arith}
use Rattle.mark_word.specs.declared.mark.MarkForm.{MarkForm}
use Rattle.mark_word.specs.declared.mark.MarkForm.TheVariants.{Locked, Inflated}
use Rattle.mark_word.specs.Mark.{read_mark}
use Rattle.core_world.specs.declared.word_id.WordId.TheVariants.{Mark, Waiting}
use Rattle.core_world.specs.declared.heap_call.Operation.TheVariants as op
use Rattle.core_world.specs.declared.heap_call.HeapCall.TheVariants as task
use Rattle.core_world.specs.declared.answer.Progress.{Progress}
use Rattle.core_world.specs.declared.answer.Progress.TheVariants.{Done, Pending}
use Rattle.core_world.specs.Threads.ThreadView.{Local, Start, StepMade}
use Rattle.core_world.specs.Locks.{hold_count}
use Rattle.core_world.specs.Trees.Plans.{CallContext, call_context, load, done_with}
use Rattle.core_world.specs.Words.Shape.{Shape}
use Rattle.core_world.specs.Trees.StepTree.{StepTree, done, unreachable, step, ◌>>=◌, ask, each_from}
use Rattle.core_world.specs.Trees.WaitSteps.{look_steps, waiters, by_age, notify_first, monitor_notify_steps}
use Rattle.core_world.specs.Trees.WaitSteps.{notify_each, notify_listed, monitor_notify_all_steps}
use Rattle.core_world.specs.Trees.Operations.{and_then, answer, no_bias, unbias_steps, notify_at, notify_going}
use Rattle.core_world.specs.Trees.Operations.{notify_steps, notify_all_at, notify_all_going, notify_all_steps}
use Rattle.core_calls.specs.Paths.{made, Always, Says}
use Rattle.core_calls.specs.Causes.{Loaded}
use Rattle.core_calls.specs.Woken.{AllLoaded, IsLookedOver, oldest, WakesOldest, WakesEach, Wakes, WakesAll, IfDone}
use Rattle.core_calls.proofs.Paths.{always_then, either_way}
use Rattle.core_calls.proofs.OperationsSay.{then_says}
use Rattle.core_calls.proofs.wait.Waiters.{as_many}

-- what was found stays found
all_stay : (m : StepMade) (ms : List StepMade) (t : ℕ) (words : List ℕ) → AllLoaded t words ms → AllLoaded t words (m ∷ ms)
all_stay m ms t [] h = tt
all_stay m ms t (word ∷ words) h = (inr h.0, all_stay m ms (t + 1) words h.1)

-- What stays, holds at the end too.
pub always_keeps : {A : Type 0} (F : List StepMade → Type 0) (P : List StepMade → A → Type 0) (d : StepTree A) (ms : List StepMade)
    → ((m : StepMade) (ms : List StepMade) → F ms → F (m ∷ ms)) → F ms → Always P ms d → Always (λ ms a. F ms × P ms a) ms d
always_keeps F P (done a) ms stays f h = (f, h)
always_keeps F P unreachable ms stays f h = tt
always_keeps F P (step p g) ms stays f h = λ n. always_keeps F P (g n) (made p n ∷ ms) stays (stays (made p n) ms f) (h n)

-- The waiting words of n threads are loaded, from thread t on.
abbrev Looked : ℕ → ℕ → List StepMade → List ℕ → Type 0
Looked n t ms words = (length words ≡ n) × AllLoaded t words ms

looks : (e : CallContext) (n t : ℕ) (ms : List StepMade) → Always (Looked n t) ms (each_from t n (λ u. ask (load e (Waiting u))))
looks e zero t ms = (refl, tt)
looks e (suc n) t ms = λ word.
    always_then (λ ms words. Loaded (Waiting t) word ms × Looked n (t + 1) ms words) (Looked (suc n) t)
    (each_from (t + 1) n (λ u. ask (load e (Waiting u)))) (λ words. done (word ∷ words)) (made (load e (Waiting t)) word ∷ ms)
    (always_keeps (Loaded (Waiting t) word) (Looked n (t + 1)) (each_from (t + 1) n (λ u. ask (load e (Waiting u))))
    (made (load e (Waiting t)) word ∷ ms) (λ m ms h. inr h) (inl (refl, refl, refl)) (looks e n (t + 1) (made (load e (Waiting t)) word ∷ ms)))
    (λ ms words h. (omega (arith, h.1.0), (h.0, h.1.1)))

-- every tree keeps what stays
pub always_stays : {A : Type 0} (F : List StepMade → Type 0) (d : StepTree A) (ms : List StepMade)
    → ((m : StepMade) (ms : List StepMade) → F ms → F (m ∷ ms)) → F ms → Always (λ ms _. F ms) ms d
always_stays F (done a) ms stays f = f
always_stays F unreachable ms stays f = tt
always_stays F (step p g) ms stays f = λ n. always_stays F (g n) (made p n ∷ ms) stays (stays (made p n) ms f)

abbrev looked_stays : (s : Shape) (o : ℕ) (m : StepMade) (ms : List StepMade) → IsLookedOver s o ms → IsLookedOver s o (m ∷ ms)
looked_stays s o m ms l =
    record { mark = l.mark; monitor = l.monitor; says = l.says; loaded = inr l.loaded; words = l.words; all = l.all; each = all_stay m ms 0 l.words l.each }

module _ (s : Shape) (e : CallContext) (k : Local) (o : ℕ) where
  -- a part that is done has this answer
  abbrev pub DoneWith : {A : Type 0} → (List StepMade → A → Type 0) → List StepMade → Progress A → Type 0
  DoneWith P ms (Done a) = P ms a
  DoneWith P ms (Pending why) = Unit {0}

  first_wakes : (waiting : List (ℕ × ℕ)) (ms : List StepMade) (l : IsLookedOver s o ms)
      → waiting ≡ by_age (waiters o 0 l.words) → Always (WakesOldest s o) ms (notify_first waiting e k o)
  first_wakes [] ms l is = λ n. (looked_stays s o _ ms l, ap oldest is)
  first_wakes (p ∷ ps) ms l is = λ n. (looked_stays s o _ ms l, ap oldest is)

  -- the words of all threads are loaded after the mark
  abbrev After : ℕ → List StepMade → List ℕ → Type 0
  After mark ms words = Loaded (Mark o) mark ms × Looked s.threads 0 ms words

  later_looks : (mark : ℕ) (ms : List StepMade) → Loaded (Mark o) mark ms → Always (After mark) ms (look_steps e s.threads)
  later_looks mark ms loaded =
      always_keeps (Loaded (Mark o) mark) (Looked s.threads 0) (look_steps e s.threads) ms (λ m ms h. inr h) loaded (looks e s.threads 0 ms)

  abbrev over : (mark monitor : ℕ) (ms : List StepMade) (words : List ℕ) → read_mark mark ≡ Some (Inflated monitor) → After mark ms words → IsLookedOver s o ms
  over mark monitor ms words is h = record { mark = mark; monitor = monitor; says = is; loaded = h.0; words = words; all = h.1.0; each = h.1.1 }

  -- after a mark that names a monitor
  pub monitor_wakes : (mark monitor : ℕ) (ms : List StepMade) → read_mark mark ≡ Some (Inflated monitor)
      → Loaded (Mark o) mark ms → Always (WakesOldest s o) ms (monitor_notify_steps e k s.threads o)
  monitor_wakes mark monitor ms is loaded =
      always_then (After mark) (WakesOldest s o) (look_steps e s.threads)
      (λ words. notify_first (by_age (waiters o 0 words)) e k o) ms (later_looks mark ms loaded)
      (λ ms words h. first_wakes (by_age (waiters o 0 words)) ms (over mark monitor ms words is h) refl)

  at_wakes : (form : Option MarkForm) (mark : ℕ) (ms : List StepMade) → read_mark mark ≡ form
      → Loaded (Mark o) mark ms → Always (DoneWith (Wakes s o)) ms (notify_at form s e k o)
  at_wakes (Some (Locked thread place)) mark ms is loaded =
      λ n. inl (record { mark = mark; thread = thread; place = place; says = is; loaded = inr loaded }, refl)
  at_wakes (Some (Inflated monitor)) mark ms is loaded =
      always_then (WakesOldest s o) (DoneWith (Wakes s o)) (monitor_notify_steps e k s.threads o) (λ woken. done_with woken) ms
      (monitor_wakes mark monitor ms is loaded) (λ ms woken h. inr h)
  at_wakes _ mark ms is loaded = tt

  listed_wakes : (waiting : List (ℕ × ℕ)) (ms : List StepMade) (l : IsLookedOver s o ms)
      → waiting ≡ by_age (waiters o 0 l.words) → Always (WakesEach s o) ms (notify_listed waiting e k o)
  listed_wakes [] ms l is = λ n. (looked_stays s o _ ms l, ap length is ∙ as_many (waiters o 0 l.words))
  listed_wakes (p ∷ ps) ms l is =
      always_then (λ ms _. (r : IsLookedOver s o ms) × (r.words ≡ l.words)) (WakesEach s o) (notify_each (p ∷ ps) e o 0) (λ _. done (length (p ∷ ps))) ms
      (always_stays (λ ms. (r : IsLookedOver s o ms) × (r.words ≡ l.words))
      (notify_each (p ∷ ps) e o 0) ms (λ m ms h. (looked_stays s o m ms h.0, h.1)) (l, refl))
      (λ ms _ h. (h.0, ap length is ∙ as_many (waiters o 0 l.words) ∙ ap (λ words. length (waiters o 0 words)) (sym h.1)))

  pub monitor_wakes_all : (mark monitor : ℕ) (ms : List StepMade) → read_mark mark ≡ Some (Inflated monitor)
      → Loaded (Mark o) mark ms → Always (WakesEach s o) ms (monitor_notify_all_steps e k s.threads o)
  monitor_wakes_all mark monitor ms is loaded =
      always_then (After mark) (WakesEach s o) (look_steps e s.threads)
      (λ words. notify_listed (by_age (waiters o 0 words)) e k o) ms (later_looks mark ms loaded)
      (λ ms words h. listed_wakes (by_age (waiters o 0 words)) ms (over mark monitor ms words is h) refl)

  all_at_wakes : (form : Option MarkForm) (mark : ℕ) (ms : List StepMade) → read_mark mark ≡ form
      → Loaded (Mark o) mark ms → Always (DoneWith (WakesAll s o)) ms (notify_all_at form s e k o)
  all_at_wakes (Some (Locked thread place)) mark ms is loaded =
      λ n. inl (record { mark = mark; thread = thread; place = place; says = is; loaded = inr loaded }, refl)
  all_at_wakes (Some (Inflated monitor)) mark ms is loaded =
      always_then (WakesEach s o) (DoneWith (WakesAll s o)) (monitor_notify_all_steps e k s.threads o) (λ woken. done_with woken) ms
      (monitor_wakes_all mark monitor ms is loaded) (λ ms woken h. inr h)
  all_at_wakes _ mark ms is loaded = tt

module _ (s : Shape) (k : Start) (o now : ℕ) where
  abbrev notifying : CallContext
  notifying = call_context (task.Notify o now) op.Notify o

  abbrev calling : CallContext
  calling = call_context (task.NotifyAll o now) op.NotifyAll o

  -- what is looked at once the object has no bias
  abbrev then_notify : Unit {0} → StepTree (Progress (Option ℕ))
  then_notify _ = ask (load notifying (Mark o)) >>= λ mark. notify_at (read_mark mark) s notifying k.local o

  abbrev then_notify_all : Unit {0} → StepTree (Progress ℕ)
  then_notify_all _ = ask (load calling (Mark o)) >>= λ mark. notify_all_at (read_mark mark) s calling k.local o

  going_wakes : Always (DoneWith s notifying k.local o (Wakes s o)) [] (notify_going s notifying k o now)
  going_wakes =
      always_then (λ ms _. Unit {0}) (DoneWith s notifying k.local o (Wakes s o))
      (unbias_steps s notifying k (no_bias o now)) (λ progress. and_then progress then_notify) []
      (always_stays (λ ms. Unit {0}) (unbias_steps s notifying k (no_bias o now)) [] (λ m ms h. tt) tt)
      (λ ms progress _. then_says (λ ms _. Unit {0}) (DoneWith s notifying k.local o (Wakes s o)) progress then_notify ms tt
      (λ _ _ mark. at_wakes s notifying k.local o (read_mark mark) mark _ refl (inl (refl, refl, refl))) (λ why _. tt))

  pub notify_wakes : Says (notify_steps s k o now) (IfDone (Wakes s o))
  notify_wakes = record {
    by = either_way (IfDone (Wakes s o)) [] (hold_count o k.local.holds == 0) _ _ (λ none. tt)
        (λ some. always_then (DoneWith s notifying k.local o (Wakes s o)) (IfDone (Wakes s o))
        (notify_going s notifying k o now) answer [] going_wakes by_progress);
  }
    where
      by_progress : (ms : List StepMade) (progress : Progress (Option ℕ))
          → DoneWith s notifying k.local o (Wakes s o) ms progress → IfDone (Wakes s o) ms (Ok progress)
      by_progress ms (Done woken) h = h
      by_progress ms (Pending why) h = tt

  all_going_wakes : Always (DoneWith s calling k.local o (WakesAll s o)) [] (notify_all_going s calling k o now)
  all_going_wakes =
      always_then (λ ms _. Unit {0}) (DoneWith s calling k.local o (WakesAll s o))
      (unbias_steps s calling k (no_bias o now)) (λ progress. and_then progress then_notify_all) []
      (always_stays (λ ms. Unit {0}) (unbias_steps s calling k (no_bias o now)) [] (λ m ms h. tt) tt)
      (λ ms progress _. then_says (λ ms _. Unit {0}) (DoneWith s calling k.local o (WakesAll s o)) progress then_notify_all ms tt
      (λ _ _ mark. all_at_wakes s calling k.local o (read_mark mark) mark _ refl (inl (refl, refl, refl))) (λ why _. tt))

  pub notify_all_wakes : Says (notify_all_steps s k o now) (IfDone (WakesAll s o))
  notify_all_wakes = record {
    by = either_way (IfDone (WakesAll s o)) [] (hold_count o k.local.holds == 0) _ _ (λ none. tt)
        (λ some. always_then (DoneWith s calling k.local o (WakesAll s o)) (IfDone (WakesAll s o))
        (notify_all_going s calling k o now) answer [] all_going_wakes by_progress);
  }
    where
      by_progress : (ms : List StepMade) (progress : Progress ℕ)
          → DoneWith s calling k.local o (WakesAll s o) ms progress → IfDone (WakesAll s o) ms (Ok progress)
      by_progress ms (Done woken) h = h
      by_progress ms (Pending why) h = tt
