-- Whether any thread can go on, by the words that a check loads.
use Rattle.std.proofs.Common.{◌≡◌, ℕ, zero, suc, ◌+◌, ◌&&◌, Bool, true, false, List, [], ◌∷◌, length, Option, Some, None, refl, inl, inr, arith}
use Rattle.mark_word.specs.declared.mark.MarkForm.{MarkForm}
use Rattle.mark_word.specs.declared.mark.MarkForm.TheVariants.{Inflated}
use Rattle.mark_word.specs.declared.wait.WaitForm.{WaitForm}
use Rattle.mark_word.specs.declared.wait.WaitForm.TheVariants as wait
use Rattle.mark_word.specs.Mark.{read_mark}
use Rattle.mark_word.specs.Wait.{read_wait}
use Rattle.core_world.specs.declared.word_id.WordId.TheVariants.{Mark, Waiting}
use Rattle.core_world.specs.declared.heap_call.HeapCall.TheVariants as task
use Rattle.core_world.specs.declared.answer.Progress.{Progress}
use Rattle.core_world.specs.Threads.ThreadView.{Start, StepMade}
use Rattle.core_world.specs.declared.stage.Stage.TheVariants.{Settled}
use Rattle.core_world.specs.Trees.DeflateSteps.{deflate_steps}
use Rattle.core_world.specs.Trees.LookSteps.{some_live, none_goes_on, look_at_monitor, look_at_object, look_at_wait, stands_still_steps}
use Rattle.core_world.specs.Trees.Operations.{check_ending, check_steps, and_then}
use Rattle.core_world.specs.Trees.Plans.{CallContext, load, done_with}
use Rattle.core_world.specs.Trees.SafepointSteps.{safepoint_steps, halt_steps, release_safepoint}
use Rattle.core_world.specs.Words.Shape.{Shape}
use Rattle.core_world.specs.Trees.StepTree.{StepTree, done, ◌>>=◌, ask, each_from}
use Rattle.core_calls.specs.Paths.{made, Always, Says}
use Rattle.core_calls.specs.Causes.{Loaded}
use Rattle.core_calls.specs.Stuck.{GoesByOwner, GoesByWait, Goes, AllGo, Finds, CheckFinds}
use Rattle.core_calls.proofs.Paths.{always_then, always_so}
use Rattle.core_calls.proofs.wait.WhoIsWoken.{always_keeps, always_stays}
use Rattle.core_calls.proofs.OperationsSay.{then_says}

-- WHAT WAS FOUND STAYS FOUND
owner_stays : (o t : ℕ) (on : Option Bool) (m : StepMade) (ms : List StepMade) → GoesByOwner o t ms on → GoesByOwner o t (m ∷ ms) on
owner_stays o t on m ms g = record {
  mark = g.mark;
  monitor = g.monitor;
  owner = g.owner;
  names = g.names;
  mark_loaded = inr g.mark_loaded;
  owner_loaded = inr g.owner_loaded;
  so = g.so;
}

wait_stays : (form : Option WaitForm) (t : ℕ) (on : Option Bool) (m : StepMade) (ms : List StepMade) → GoesByWait form t ms on → GoesByWait form t (m ∷ ms) on
wait_stays (Some (wait.Entering object)) t on m ms g = owner_stays object t on m ms g
wait_stays (Some (wait.Notified object)) t on m ms g = owner_stays object t on m ms g
wait_stays _ t on m ms g = g

goes_stays : (t : ℕ) (on : Option Bool) (m : StepMade) (ms : List StepMade) → Goes t ms on → Goes t (m ∷ ms) on
goes_stays t on m ms g = (g.0, inr g.1, wait_stays (read_wait g.0) t on m ms g.2)

all_stay : (t : ℕ) (ons : List (Option Bool)) (m : StepMade) (ms : List StepMade) → AllGo t ons ms → AllGo t ons (m ∷ ms)
all_stay t [] m ms h = tt
all_stay t (on ∷ ons) m ms h = (goes_stays t on m ms h.0, all_stay (t + 1) ons m ms h.1)

-- WHAT IS FOUND
module _ (e : CallContext) where
  monitor_goes : (form : Option MarkForm) (o t mark : ℕ) (ms : List StepMade) → read_mark mark ≡ form
      → Loaded (Mark o) mark ms → Always (GoesByOwner o t) ms (look_at_monitor form e t)
  monitor_goes (Some (Inflated monitor)) o t mark ms is loaded = λ owner.
      record { mark = mark; monitor = monitor; owner = owner; names = is; mark_loaded = inr loaded; owner_loaded = inl (refl, refl, refl); so = refl }
  monitor_goes _ o t mark ms is loaded = tt

  object_goes : (o t : ℕ) (ms : List StepMade) → Always (GoesByOwner o t) ms (look_at_object e t o)
  object_goes o t ms = λ mark. monitor_goes (read_mark mark) o t mark _ refl (inl (refl, refl, refl))

  wait_goes : (form : Option WaitForm) (t : ℕ) (ms : List StepMade) → Always (GoesByWait form t) ms (look_at_wait form e t)
  wait_goes (Some (wait.Entering object)) t ms = object_goes object t ms
  wait_goes (Some (wait.Notified object)) t ms = object_goes object t ms
  wait_goes None t ms = tt
  wait_goes _ t ms = refl

  -- a thread, and all of them from t on
  abbrev look_at : ℕ → StepTree (Option Bool)
  look_at t = ask (load e (Waiting t)) >>= λ word. look_at_wait (read_wait word) e t

  thread_goes : (t : ℕ) (ms : List StepMade) → Always (Goes t) ms (look_at t)
  thread_goes t ms = λ word.
      always_so (λ ms on. Loaded (Waiting t) word ms × GoesByWait (read_wait word) t ms on)
      (Goes t) (look_at_wait (read_wait word) e t) (made (load e (Waiting t)) word ∷ ms)
      (always_keeps (Loaded (Waiting t) word) (GoesByWait (read_wait word) t)
      (look_at_wait (read_wait word) e t) (made (load e (Waiting t)) word ∷ ms) (λ m ms h. inr h)
      (inl (refl, refl, refl)) (wait_goes (read_wait word) t (made (load e (Waiting t)) word ∷ ms)))
      (λ ms on h. (word, h.0, h.1))

  abbrev AllFound : ℕ → ℕ → List StepMade → List (Option Bool) → Type 0
  AllFound n t ms ons = (length ons ≡ n) × AllGo t ons ms

  threads_go : (n t : ℕ) (ms : List StepMade) → Always (AllFound n t) ms (each_from t n look_at)
  threads_go zero t ms = (refl, tt)
  threads_go (suc n) t ms =
      always_then (Goes t) (AllFound (suc n) t) (look_at t) (λ on. each_from (t + 1) n look_at >>= λ ons. done (on ∷ ons)) ms (thread_goes t ms) (λ ms on goes.
      always_then (λ ms ons. Goes t ms on × AllFound n (t + 1) ms ons) (AllFound (suc n) t) (each_from (t + 1) n look_at) (λ ons. done (on ∷ ons)) ms
      (always_keeps (λ ms. Goes t ms on) (AllFound n (t + 1)) (each_from (t + 1) n look_at) ms (goes_stays t on) goes (threads_go n (t + 1) ms))
      (λ ms ons h. (omega (arith, h.1.0), (h.0, h.1.1))))

  pub still_finds : (s : Shape) (ms : List StepMade) → Always (Finds s) ms (stands_still_steps e s)
  still_finds s ms =
      always_then (AllFound s.threads 0) (Finds s) (each_from 0 s.threads look_at)
      (λ ons. done (some_live ons && none_goes_on ons)) ms (threads_go s.threads 0 ms)
      (λ ms ons h. (ons, h.0, h.1, refl))

finds_stays : (s : Shape) (stuck : Bool) (m : StepMade) (ms : List StepMade) → Finds s ms stuck → Finds s (m ∷ ms) stuck
finds_stays s stuck m ms h = (h.0, h.1, all_stay 0 h.0 m ms h.2, h.3)

module _ (s : Shape) (k : Start) where
  abbrev checking : CallContext
  checking = record { task = task.Check; unfinished = k.unfinished; check = true }

  ending_finds : (stuck : Bool) (ms : List StepMade) → Finds s ms stuck → Always (CheckFinds s) ms (check_ending stuck checking k.local.thread)
  ending_finds true ms h =
      always_then (λ ms _. Finds s ms true) (CheckFinds s) (halt_steps checking k.local.thread) (λ _. done_with true) ms
      (always_stays (λ ms. Finds s ms true) (halt_steps checking k.local.thread) ms (finds_stays s true) h) (λ ms _ so. so)
  ending_finds false ms h =
      always_then (λ ms _. Finds s ms false) (CheckFinds s) (release_safepoint checking k.local.thread) (λ _. done_with false) ms
      (always_stays (λ ms. Finds s ms false) (release_safepoint checking k.local.thread) ms (finds_stays s false) h) (λ ms _ so. so)

  pub check_finds : Says (check_steps s k) (CheckFinds s)
  check_finds = record {
    by =
        always_then (λ ms _. Unit {0}) (CheckFinds s) (safepoint_steps checking k.local.thread k.requesting) (λ progress. and_then progress looks) []
        (always_stays (λ ms. Unit {0}) (safepoint_steps checking k.local.thread k.requesting) [] (λ m ms h. tt) tt)
        (λ ms progress _. then_says (λ ms _. Unit {0}) (CheckFinds s) progress looks ms tt
        (λ _ _. always_then (Finds s) (CheckFinds s) (stands_still_steps checking s) deflates ms (still_finds checking s ms)
        (λ ms stuck h. always_then (λ ms _. Finds s ms stuck) (CheckFinds s)
        (deflate_steps s checking Settled) (λ _. check_ending stuck checking k.local.thread) ms
        (always_stays (λ ms. Finds s ms stuck) (deflate_steps s checking Settled) ms (finds_stays s stuck) h) (λ ms _ h. ending_finds stuck ms h)))
        (λ why _. tt));
  }
    where
      deflates : Bool → StepTree (Progress Bool)
      deflates stuck = deflate_steps s checking Settled >>= λ _. check_ending stuck checking k.local.thread

      looks : Unit {0} → StepTree (Progress Bool)
      looks _ = stands_still_steps checking s >>= deflates
