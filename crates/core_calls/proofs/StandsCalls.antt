-- How a thread stands after each call.
use Rattle.std.proofs.Common.{arith, ◌≡◌, ℕ, ◌+◌, ◌<◌, ◌==◌, nat_lt, cond, not, Bool, true, false, List, [], Result, Err, refl, ap}
use Rattle.plain_monitor.specs.Limits.{most_holds, most_made}
use Rattle.plain_monitor.specs.declared.entry.Ending.{Ending}
use Rattle.plain_monitor.specs.declared.entry.Entry.TheVariants as entry
use Rattle.plain_monitor.specs.declared.entry.Path.{Path}
use Rattle.plain_monitor.specs.declared.entry.Value.{Value}
use Rattle.core_world.specs.declared.answer.BiasTry.{BiasTry}
use Rattle.core_world.specs.declared.answer.BiasTry.TheVariants.{Took, Unbiased, Valid, Raced}
use Rattle.core_world.specs.declared.answer.Progress.{Progress}
use Rattle.core_world.specs.declared.answer.Progress.TheVariants.{Pending}
use Rattle.core_world.specs.declared.answer.PendingCause.{PendingCause}
use Rattle.core_world.specs.declared.stage.Stage.TheVariants.{Settled}
use Rattle.core_world.specs.declared.heap_call.Operation.TheVariants as op
use Rattle.core_world.specs.declared.heap_call.HeapCall.TheVariants as task
use Rattle.core_world.specs.Locks.{hold_count}
use Rattle.core_world.specs.Threads.ThreadView.{Start, StepMade}
use Rattle.core_world.specs.Threads.Stages.{Revocation}
use Rattle.core_world.specs.Words.Forms.{waits_on}
use Rattle.core_world.specs.Words.Shape.{Shape}
use Rattle.core_world.specs.Trees.BiasSteps.{bias_enter_steps, bias_drop_steps, stage_after, bias_after_steps}
use Rattle.core_world.specs.Trees.Calls.{side_context}
use Rattle.core_world.specs.Trees.CreateSteps.{count_made}
use Rattle.core_world.specs.Trees.DeflateSteps.{deflate_steps}
use Rattle.core_world.specs.Trees.LookSteps.{take_shot_steps, stands_still_steps}
use Rattle.core_world.specs.Trees.Operations.{and_then, answer, goes_on_with, revocation_steps, enter_unbiased}
use Rattle.core_world.specs.Trees.Operations.{enter_revoked, enter_tried, enter_going, enter_steps, exit_going, exit_steps, revoked_steps}
use Rattle.core_world.specs.Trees.Operations.{unbias_tried, unbias_steps, no_bias, wait_going, wait_steps, notify_going, notify_steps}
use Rattle.core_world.specs.Trees.Operations.{notify_all_going, notify_all_steps, hash_steps, get_steps, put_steps, print_steps}
use Rattle.core_world.specs.Trees.Operations.{finish_steps, dump_going, dump_steps, create_steps, check_ending, check_steps}
use Rattle.core_world.specs.Trees.Plans.{CallContext, call_context, done_with, free_place}
use Rattle.core_world.specs.Trees.RevocationSteps.{RevocationOutcome, revoke_at_safepoint_steps}
use Rattle.core_world.specs.Trees.SafepointSteps.{stop_steps, resume_steps, poll_steps, safepoint_steps, release_to, release_safepoint, halt_steps}
use Rattle.core_world.specs.Trees.StepTree.{StepTree, done, ◌>>=◌}
use Rattle.core_world.specs.Trees.WaitSteps.{monitor_resume_steps, publish_steps}
use Rattle.core_calls.specs.Paths.{Always}
use Rattle.core_calls.specs.Stands.{IsGoing, IsOff, IsHeld, FoundTrue, stand_after_steps, ThreadStandsAlong, ProgressStands}
use Rattle.core_calls.specs.Stands.{ResultStands, RunsAfter, PollStands, ResumeStands, CheckStands, begun, stopped}
use Rattle.core_calls.proofs.Paths.{always_then, always_so, either_way}
use Rattle.core_calls.proofs.OperationsSay.{then_says}
use Rattle.core_calls.proofs.CallsSpend.{unbiased_spends, again_spends, exit_going_spends, waits_spends, notify_looks_spends}
use Rattle.core_calls.proofs.CallsSpend.{notify_all_looks_spends}
use Rattle.core_calls.proofs.PartsSpend.{bias_drop_spends, bias_enter_spends, monitor_resume_spends, hash_header_spends}
use Rattle.core_calls.proofs.Spends.{spend_stays}
use Rattle.core_calls.proofs.Stays.{Stay, Whatever, Aside, Known, stay_so, aside_stands}
use Rattle.core_calls.proofs.safepoint.StaysLooks.{shot_stays, still_stays, revocation_stays, deflation_stays}
use Rattle.core_calls.proofs.safepoint.StandsSafe.{So, SafeStands, safepoint_stands, release_stands, halt_stands, poll_stands, stop_stands, resume_stands}

-- OPERATIONS
module _ (k : Start) (low : k.local.thread < 32) where
  -- what is said of answers along the steps of an operation
  abbrev Turns : {A : Type 0} → List StepMade → Progress A → Type 0
  Turns = So k.local.thread low (begun k) (ProgressStands k.local.thread)

  abbrev Results : {A E : Type 0} → List StepMade → Result (Progress A) E → Type 0
  Results = So k.local.thread low (begun k) (ResultStands k.local.thread)

  abbrev Goes : List StepMade → Type 0
  Goes ms = FoundTrue k.local.thread (begun k) ms → IsGoing (stand_after_steps k.local.thread ms (begun k))

  abbrev Holds : List StepMade → Type 0
  Holds ms = FoundTrue k.local.thread (begun k) ms → IsHeld (stand_after_steps k.local.thread ms (begun k))

  going_first : k.requesting ≡ false → Goes []
  going_first none = λ _. record { runs = ap not none; asks = none }

  held_first : k.requesting ≡ true → Holds []
  held_first asks = λ _. record { runs = ap not asks; asks = asks }

  aside_goes : {A : Type 0} (d : StepTree (Progress A)) (ms : List StepMade) → Stay Aside d → Goes ms → Always Turns ms d
  aside_goes {A} d ms stay going =
      always_so (Known k.local.thread (begun k) IsGoing (Aside {A = A})) Turns d ms (stay_so k.local.thread (begun k) IsGoing (Aside {A = A}) d ms stay going)
      (λ ms progress x found. aside_stands k.local.thread (stand_after_steps k.local.thread ms (begun k)) progress x.0 (x.1 found))

  -- the same after a part that says nothing of its answer
  after_stay : {A B : Type 0} (P : List StepMade → B → Type 0) (d : StepTree A) (f : A → StepTree B) (ms : List StepMade) → Stay Whatever d → Goes ms
      → ((ms : List StepMade) (a : A) → Goes ms → Always P ms (f a)) → Always P ms (d >>= f)
  after_stay {A} P d f ms stay going more =
      always_then (Known k.local.thread (begun k) IsGoing (Whatever {A = A})) P d f ms (stay_so k.local.thread (begun k) IsGoing
      (Whatever {A = A}) d ms stay going) (λ ms a x. more ms a x.1)

  -- and where nothing is known of how the thread stands before it
  after_any : {A B : Type 0} (P : List StepMade → B → Type 0) (d : StepTree A) (f : A → StepTree B) (ms : List StepMade) → Stay Whatever d
      → ((ms : List StepMade) (a : A) → Always P ms (f a)) → Always P ms (d >>= f)
  after_any {A} P d f ms stay more =
      always_then (Known k.local.thread (begun k) (λ _. Unit {0}) (Whatever {A = A})) P d f ms (stay_so k.local.thread (begun k) (λ _. Unit {0})
      (Whatever {A = A}) d ms stay (λ _. tt)) (λ ms a _. more ms a)

  abbrev Safe : List StepMade → Progress (Unit {0}) → Type 0
  Safe = So k.local.thread low (begun k) (SafeStands k.local.thread low (begun k))

  abbrev Released : List StepMade → Unit {0} → Type 0
  Released = So k.local.thread low (begun k) (λ b _. IsGoing b)

  -- a safepoint whose steps then end it
  safely : {A : Type 0} (Q : List StepMade → Progress A → Type 0) (e : CallContext)
      (requesting : Bool) (f : Unit {0} → StepTree (Progress A)) (ms : List StepMade)
      → (requesting ≡ true → Holds ms) → (requesting ≡ false → Goes ms)
      → ((ms : List StepMade) → Always Q ms (f tt)) → ((ms : List StepMade) → (why : PendingCause) → Safe ms (Pending why) → Q ms
      (Pending why)) → Always Q ms (safepoint_steps e k.local.thread requesting >>= λ progress. and_then progress f)
  safely Q e requesting f ms held going more pends =
      always_then Safe Q (safepoint_steps e k.local.thread requesting) (λ progress. and_then progress f) ms (safepoint_stands k.local.thread low
      (begun k) e requesting ms held going)
      (λ ms progress so. then_says Safe Q progress f ms so (λ _ _. more ms) (λ why so. pends ms why so))

  -- an operation that is refused without a step, or answers
  refused_or : {A E : Type 0} (refuses : Bool) (err : E) (d : StepTree (Progress A)) → Always Turns [] d
      → Always Results [] (cond refuses (done (Err err)) (d >>= answer))
  refused_or refuses err d so = either_way Results [] refuses _ _ (λ _ _. tt) (λ _. always_then Turns Results d answer [] so (λ ms progress so. so))

  module _ (s : Shape) where
    revocation_stands : (requesting : Bool) (e : CallContext) (b : Revocation) (ms : List StepMade) → (requesting ≡ true → Holds ms)
        → (requesting ≡ false → Goes ms)
        → Always Turns ms (revocation_steps s k.local.thread requesting e b)
    revocation_stands requesting e b ms held going =
        safely Turns e requesting its_revocation ms held going
        (λ ms. after_any Turns (revoke_at_safepoint_steps s k.local.thread e b) deflates ms (revocation_stays e b s k.local.thread)
        (λ ms outcome. after_any Turns (deflate_steps s e (stage_after outcome.took b.object)) (λ _. releases outcome) ms
        (deflation_stays e s (stage_after outcome.took b.object))
        (λ ms _. always_then Released Turns (release_to (stage_after outcome.took b.object) e k.local.thread) (λ _. done_with outcome.took) ms
        (release_stands k.local.thread low (begun k) (stage_after outcome.took b.object) e ms) (λ ms _ so. so))))
        (λ ms why so. so)
      where
        releases : RevocationOutcome → StepTree (Progress Bool)
        releases outcome = release_to (stage_after outcome.took b.object) e k.local.thread >>= λ _. done_with outcome.took

        deflates : RevocationOutcome → StepTree (Progress Bool)
        deflates outcome = deflate_steps s e (stage_after outcome.took b.object) >>= λ _. releases outcome

        its_revocation : Unit {0} → StepTree (Progress Bool)
        its_revocation _ = revoke_at_safepoint_steps s k.local.thread e b >>= deflates

    -- ENTER
    module _ (e : CallContext) (b : Revocation) where
      enter_revoked_stands : (requesting : Bool) (ms : List StepMade) → (requesting ≡ true → Holds ms) → (requesting ≡ false → Goes ms)
          → Always Turns ms (enter_revoked s requesting e k b)
      enter_revoked_stands requesting ms held going =
          always_then Turns Turns (revocation_steps s k.local.thread requesting e b) (λ progress. and_then progress goes_on) ms
          (revocation_stands requesting e b ms held going)
          (λ ms progress so. then_says Turns Turns progress goes_on ms so
          (λ took go. aside_goes (goes_on took) ms (spend_stays (again_spends s e k b.object took)) go) (λ why so. so))
        where
          goes_on : Bool → StepTree (Progress Path)
          goes_on took = bias_after_steps e k.local b.object took >>= λ tried. enter_unbiased tried s e k b.object

      enter_tried_stands : (tried : BiasTry) (ms : List StepMade) → Goes ms → Always Turns ms (enter_tried tried s e k b)
      enter_tried_stands (Valid mark) ms going = enter_revoked_stands false ms (λ no. absurd (cc no)) (λ _. going)
      enter_tried_stands (Took path) ms going = aside_goes _ ms (spend_stays (unbiased_spends s e k b.object 0 (Took path))) going
      enter_tried_stands (Unbiased mark) ms going = aside_goes _ ms (spend_stays (unbiased_spends s e k b.object 0 (Unbiased mark))) going
      enter_tried_stands (Raced expected found) ms going =
          aside_goes _ ms (spend_stays (unbiased_spends s e k b.object 0 (Raced expected found))) going

      enter_going_stands : Always Turns [] (enter_going s e k b)
      enter_going_stands =
          either_way Turns [] k.requesting _ _
          (λ asks. enter_revoked_stands true [] (λ _. held_first asks) (λ no. absurd (cc no)))
          (λ none. after_stay Turns (bias_enter_steps s e k.local b.object) (λ tried. enter_tried tried s e k b) []
          (spend_stays (bias_enter_spends e k.local b.object 0 17 18 (omega arith) (omega arith) (omega arith) s)) (going_first none)
          (λ ms tried going. enter_tried_stands tried ms going))

      -- UNBIAS
      revoked_stands : (requesting : Bool) (ms : List StepMade) → (requesting ≡ true → Holds ms) → (requesting ≡ false → Goes ms)
          → Always Turns ms (revoked_steps s k.local.thread requesting e b)
      revoked_stands requesting ms held going =
          always_then Turns Turns (revocation_steps s k.local.thread requesting e b) (λ progress. and_then progress (λ _. done_with tt)) ms
          (revocation_stands requesting e b ms held going)
          (λ ms progress so. then_says Turns Turns progress (λ _. done_with tt) ms so (λ _ go. go) (λ why so. so))

      unbias_tried_stands : (tried : BiasTry) (ms : List StepMade) → Goes ms → Always Turns ms (unbias_tried tried s e k b)
      unbias_tried_stands (Took path) ms going = tt
      unbias_tried_stands (Unbiased mark) ms going = going
      unbias_tried_stands (Valid mark) ms going = revoked_stands false ms (λ no. absurd (cc no)) (λ _. going)
      unbias_tried_stands (Raced expected found) ms going = λ found. (going found, tt)

      unbias_stands : Always Turns [] (unbias_steps s e k b)
      unbias_stands =
          either_way Turns [] k.requesting _ _
          (λ asks. revoked_stands true [] (λ _. held_first asks) (λ no. absurd (cc no)))
          (λ none. after_stay Turns (bias_drop_steps s e b.object) (λ tried. unbias_tried tried s e k b) []
          (spend_stays (bias_drop_spends e b.object 1 (omega arith) s)) (going_first none)
          (λ ms tried going. unbias_tried_stands tried ms going))

      -- and what follows where it is done
      unbiased_then : {A : Type 0} (d : StepTree (Progress A)) → Stay Aside d
          → Always Turns [] (unbias_steps s e k b >>= λ progress. and_then progress (λ _. d))
      unbiased_then d stay =
          always_then Turns Turns (unbias_steps s e k b) (λ progress. and_then progress (λ _. d)) [] unbias_stands
          (λ ms progress so. then_says Turns Turns progress (λ _. d) ms so (λ _ go. aside_goes d ms stay go) (λ why so. so))

    pub enter_stands : (o now : ℕ) → ThreadStandsAlong k.local.thread (begun k) (enter_steps s k o now) (ResultStands k.local.thread)
    enter_stands o now =
        record {
          by = either_way Results [] (free_place k.local.holds == most_holds) _ _ (λ _. either_way Results []
              (goes_on_with op.Enter o k.unfinished) _ _ (λ _. tt) (λ _ _. tt)) (λ _. always_then Turns Results (enter_going s e k b) answer []
              (enter_going_stands e b) (λ ms progress so. so));
        }
      where
        e : CallContext
        e = call_context (task.Enter o now) op.Enter o

        b : Revocation
        b = record { object = o; rebias = true; now = now }

    -- a wait that has let go asks for no safepoint
    pub wait_stands : (o now : ℕ) → (waits_on k.local.wait o ≡ true → k.requesting ≡ false)
        → ThreadStandsAlong k.local.thread (begun k) (wait_steps s k o now) (ResultStands k.local.thread)
    wait_stands o now gone = record {
      by = refused_or (hold_count o k.local.holds == 0) (record {}) (wait_going s e k o now)
          (either_way Turns [] (waits_on k.local.wait o) _ _
          (λ waits. aside_goes (monitor_resume_steps e k.local.thread k.saved o) []
          (spend_stays (monitor_resume_spends e k.local.thread k.saved o)) (going_first
          (gone waits)))
          (λ _. unbiased_then e (no_bias o now) _ (spend_stays (waits_spends e k o s))));
    }
      where
        e : CallContext
        e = call_context (task.Wait o now) op.Wait o

    pub notify_call_stands : (o now : ℕ) → ThreadStandsAlong k.local.thread (begun k) (notify_steps s k o now) (ResultStands k.local.thread)
    notify_call_stands o now =
        record {
          by = refused_or (hold_count o k.local.holds == 0) (record {}) (notify_going s e k o now) (unbiased_then e (no_bias o now) _
              (spend_stays (notify_looks_spends e k o s)));
        }
      where
        e : CallContext
        e = call_context (task.Notify o now) op.Notify o

    pub notify_all_call_stands : (o now : ℕ) → ThreadStandsAlong k.local.thread (begun k) (notify_all_steps s k o now) (ResultStands k.local.thread)
    notify_all_call_stands o now =
        record {
          by = refused_or (hold_count o k.local.holds == 0) (record {}) (notify_all_going s e k o now) (unbiased_then e (no_bias o now) _
              (spend_stays (notify_all_looks_spends e k o s)));
        }
      where
        e : CallContext
        e = call_context (task.NotifyAll o now) op.NotifyAll o

    pub hash_stands : (o now : ℕ) → ThreadStandsAlong k.local.thread (begun k) (hash_steps s k o now) (ProgressStands k.local.thread)
    hash_stands o now =
        record {
          by = unbiased_then e (no_bias o now) _ (spend_stays
              (hash_header_spends s e k.local (record { number = k.draws + 1; value = k.draw }) o k.kept));
        }
      where
        e : CallContext
        e = call_context (task.Hash o now) op.Hash o

    -- DUMP AND CHECK
    pub dump_stands : ThreadStandsAlong k.local.thread (begun k) (dump_steps s k) (ResultStands k.local.thread)
    dump_stands = record {
      by = refused_or (k.shots == 4) (record {}) (dump_going s e k)
          (safely Turns e k.requesting shoots [] held_first going_first
          (λ ms. after_any Turns (take_shot_steps e s) (λ _. deflates) ms (shot_stays e s)
          (λ ms _. after_any Turns (deflate_steps s e Settled) (λ _. releases) ms (deflation_stays e s Settled)
          (λ ms _. always_then Released Turns (release_safepoint e k.local.thread) (λ _. tells) ms (release_stands k.local.thread low (begun k) Settled e ms)
          (λ ms _ so n found. so found.1))))
          (λ ms why so. so));
    }
      where
        e : CallContext
        e = call_context task.Dump op.Dump 0

        tells : StepTree (Progress ℕ)
        tells = publish_steps (entry.Dump (k.shots + 1)) e k.local >>= λ _. done_with (k.shots + 1)

        releases : StepTree (Progress ℕ)
        releases = release_safepoint e k.local.thread >>= λ _. tells

        deflates : StepTree (Progress ℕ)
        deflates = deflate_steps s e Settled >>= λ _. releases

        shoots : Unit {0} → StepTree (Progress ℕ)
        shoots _ = take_shot_steps e s >>= λ _. deflates

    abbrev Checks : List StepMade → Progress Bool → Type 0
    Checks = So k.local.thread low (begun k) (CheckStands k.local.thread)

    ending_stands : (e : CallContext) (stuck : Bool) (ms : List StepMade) → Always Checks ms (check_ending stuck e k.local.thread)
    ending_stands e true ms =
        always_then (So k.local.thread low (begun k) (λ b _. IsOff b)) Checks (halt_steps e k.local.thread) (λ _. done_with true) ms
        (halt_stands k.local.thread low (begun k) e ms) (λ ms _ so. so)
    ending_stands e false ms =
        always_then Released Checks (release_safepoint e k.local.thread) (λ _. done_with false) ms (release_stands k.local.thread low
        (begun k) Settled e ms) (λ ms _ so. so)

    pub check_stands : ThreadStandsAlong k.local.thread (begun k) (check_steps s k) (CheckStands k.local.thread)
    check_stands =
        record {
          by = safely Checks e k.requesting looks [] held_first going_first (λ ms. after_any Checks (stands_still_steps e s)
              deflates ms (still_stays e s) (λ ms stuck. after_any Checks (deflate_steps s e Settled) (λ _. check_ending stuck e k.local.thread) ms
              (deflation_stays e s Settled) (λ ms _. ending_stands e stuck ms))) (λ ms why so. so);
        }
      where
        e : CallContext
        e = record { task = task.Check; unfinished = k.unfinished; check = true }

        deflates : Bool → StepTree (Progress Bool)
        deflates stuck = deflate_steps s e Settled >>= λ _. check_ending stuck e k.local.thread

        looks : Unit {0} → StepTree (Progress Bool)
        looks _ = stands_still_steps e s >>= deflates

  -- CALLS THAT ASK FOR NO SAFEPOINT
  module _ (none : k.requesting ≡ false) where
    pub poll_call_stands : ThreadStandsAlong k.local.thread (begun k) (poll_steps (side_context task.Poll k)) (PollStands k.local.thread)
    poll_call_stands = record { by = poll_stands k.local.thread low (begun k) (side_context task.Poll k) [] (going_first none) }

    pub stop_call_stands : ThreadStandsAlong k.local.thread (begun k) (stop_steps (side_context task.Stop k) k.local) (λ b _. IsOff b)
    stop_call_stands = record { by = stop_stands (side_context task.Stop k) k.local low (begun k) [] (going_first none) }

    pub exit_stands : (o : ℕ) → ThreadStandsAlong k.local.thread (begun k) (exit_steps k o) (ResultStands k.local.thread)
    exit_stands o =
        record {
          by = refused_or (hold_count o k.local.holds == 0) (record {}) (exit_going e k.local o) (aside_goes (exit_going e k.local o) []
              (spend_stays (exit_going_spends e k o)) (going_first none));
        }
      where
        e : CallContext
        e = call_context (task.Exit o) op.Exit o

    pub get_stands : (o slot : ℕ) → ThreadStandsAlong k.local.thread (begun k) (get_steps k o slot) RunsAfter
    get_stands o slot =
        record {
          by = either_way (So k.local.thread low (begun k) RunsAfter) [] (hold_count o k.local.holds == 0) _ _ (λ _ _. tt)
              (λ _ n _. going_first none tt);
        }

    pub put_stands : (o slot : ℕ) (value : Value) → ThreadStandsAlong k.local.thread (begun k) (put_steps k o slot value) RunsAfter
    put_stands o slot value =
        record {
          by = either_way (So k.local.thread low (begun k) RunsAfter) [] (hold_count o k.local.holds == 0) _ _ (λ _ _. tt)
              (λ _ n _. going_first none tt);
        }

    pub print_stands : (value : Value) → ThreadStandsAlong k.local.thread (begun k) (print_steps k value) (λ b _. IsGoing b)
    print_stands value = record { by = λ n _. going_first none tt }

    pub finish_stands : (ending : Ending) → ThreadStandsAlong k.local.thread (begun k) (finish_steps k ending) (λ b _. IsGoing b)
    finish_stands ending = record { by = λ n w _. going_first none tt }

    pub create_stands : (s : Shape) (c : ℕ) → ThreadStandsAlong k.local.thread (begun k) (create_steps s k c) RunsAfter
    create_stands s c =
        record {
          by = either_way (So k.local.thread low (begun k) RunsAfter) [] (nat_lt (count_made k.local) most_made) _ _
              (λ _ prototype word mark _. going_first none tt) (λ _ _. tt);
        }

  pub resume_call_stands : ThreadStandsAlong k.local.thread stopped (resume_steps (side_context task.Resume k) k.local) (ResumeStands k.local.thread)
  resume_call_stands = record { by = resume_stands (side_context task.Resume k) k.local low stopped [] (λ _. record { runs = refl; asks = refl }) }
