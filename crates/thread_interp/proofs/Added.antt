-- Steps that the calls of a turn add to those of its thread, one list after the other.
use Rattle.std.proofs.Common.{◌≡◌, ◌+◌, ◌≤◌, cond, Bool, true, false, List, [], ◌∷◌, ◌++◌, length}
use Rattle.std.proofs.Common.{length-append, append_assoc, refl, sym, ap, ◌∙◌, arith, inl, inr}
use Rattle.core_calls.specs.Paths.{made, IsPath}
use Rattle.core_calls.proofs.Runs.{knows}
use Rattle.core_world.specs.declared.answer.Progress.{Progress}
use Rattle.core_world.specs.declared.answer.Progress.TheVariants.{Done, Pending}
use Rattle.core_world.specs.declared.answer.PendingCause.TheVariants.{Requested}
use Rattle.core_world.specs.declared.word_id.WordId.TheVariants.{Safepoint}
use Rattle.core_world.specs.declared.heap_call.HeapCall.{HeapCall}
use Rattle.core_world.specs.declared.heap_call.HeapCall.TheVariants as task
use Rattle.core_world.specs.Due.{Runs}
use Rattle.core_world.specs.Steps.{known_after}
use Rattle.core_world.specs.Threads.ThreadView.{ThreadView, StepMade, Start}
use Rattle.core_world.specs.Trees.Calls.{side_context}
use Rattle.core_world.specs.Trees.Plans.{load, done_with, pending_for}
use Rattle.core_world.specs.Trees.SafepointSteps.{has_requester, poll_steps}
use Rattle.core_world.specs.Trees.StepTree.{StepTree, done, unreachable, step, is_over}
use Rattle.heap_table.specs.Resting.{Rests, start_now}
use Rattle.heap_table.specs.Seen.{HeapSeen, PassSeen}
use Rattle.thread_calls.specs.Advances.{RanFrom, HasStepped, MadeCall, MakesCall}
use Rattle.thread_frame.specs.Frames.{FrameSeen}
use Rattle.thread_interp.specs.Moves.{CalledLast, polls_in}
use Rattle.thread_interp.specs.inner.Running.{HasAdded}

-- COUNTS
pub polls_both : (a b : List StepMade) → polls_in (a ++ b) ≡ polls_in a + polls_in b
polls_both [] b = omega arith
polls_both (m ∷ a) b = let rest = polls_both a b in omega (arith, rest)

-- ONE AFTER THE OTHER
abbrev pub none_added : (p : PassSeen) → HasAdded p p
none_added p = record { steps = []; added = refl }

abbrev pub some_added : (p q : PassSeen) → HasStepped p q → HasAdded p q
some_added p q s = record { steps = s.steps; added = s.added }

module _ (p q r : PassSeen) where
  pub both_added : (a b : List StepMade) → q.known.steps ≡ a ++ p.known.steps → r.known.steps ≡ b ++ q.known.steps
      → r.known.steps ≡ (b ++ a) ++ p.known.steps
  both_added a b x y = y ∙ ap (λ (l : List StepMade). b ++ l) x ∙ sym (append_assoc b a p.known.steps)

  abbrev pub stepped_then : HasStepped p q → HasAdded q r → HasStepped p r
  stepped_then a b =
      record {
        steps = b.steps ++ a.steps;
        added = both_added a.steps b.steps a.added b.added;
        some = let both = length-append b.steps a.steps in omega (arith, both, a.some);
      }

  abbrev pub then_stepped : HasAdded p q → HasStepped q r → HasStepped p r
  then_stepped a b =
      record {
        steps = b.steps ++ a.steps;
        added = both_added a.steps b.steps a.added b.added;
        some = let both = length-append b.steps a.steps in omega (arith, both, b.some);
      }

  -- a call that was begun after the later pass was begun after the earlier one
  pub called_then : (Is : PassSeen → PassSeen → HeapCall → Type 0) (h : HeapSeen) → HasAdded p q → CalledLast Is h q r → CalledLast Is h p r
  called_then Is h a c =
      record {
        before = c.before;
        rests = c.rests;
        call = c.call;
        earlier = c.earlier ++ a.steps;
        begun = c.begun ∙ ap (λ (l : List StepMade). c.earlier ++ l) a.added ∙ sym (append_assoc c.earlier a.steps p.known.steps);
      }

-- the first call, which was the last one
pub called_once : (Is : PassSeen → PassSeen → HeapCall → Type 0) (h : HeapSeen) (p q : PassSeen) → Rests h p → MadeCall Is p q → CalledLast Is h p q
called_once Is h p q rests call = record { before = p; rests = rests; call = call; earlier = []; begun = refl }

-- the steps of one instruction or entry
abbrev pub call_added : (h : HeapSeen) (p q : PassSeen) (f : FrameSeen) (turn : Progress Bool) → MakesCall h p q f turn → HasAdded p q
call_added h p q f (Done b) (inl none) = record { steps = []; added = ap (λ (x : PassSeen). x.known.steps) none.1 }
call_added h p q f (Done b) (inr one) = some_added p q one.stepped
call_added h p q f (Pending why) one = some_added p q one.stepped

-- A CALL that isn't over before its first step makes one.
path_some : {A : Type 0} (d : StepTree A) (sofar ms : List StepMade) (a : A) → IsPath d sofar ms a → length sofar ≤ length ms
path_some (done b) sofar ms a path = let same = ap length path.0 in omega (arith, same)
path_some unreachable sofar ms a path = absurd path
path_some (step p f) sofar ms a path =
    let rest = path_some (f path.0) (made p path.0 ∷ sofar) ms a path.1 in
    omega (arith, rest)

begun_some : {A : Type 0} (d : StepTree A) (ms : List StepMade) (a : A) → is_over d ≡ false → IsPath d [] ms a → 1 ≤ length ms
begun_some (done b) ms a begun path = absurd (cc begun)
begun_some unreachable ms a begun path = absurd path
begun_some (step p f) ms a begun path = path_some (f path.0) (made p path.0 ∷ []) ms a path.1

module _ (h : HeapSeen) (p q : PassSeen) where
  pub ran_added : {A : Type 0} (d : StepTree A) (a : A) → RanFrom h d p q a → HasAdded p q
  ran_added d a ran = let by = knows ran in record { steps = by.steps; added = by.added }

  pub ran_stepped : {A : Type 0} (d : StepTree A) (a : A) → is_over d ≡ false → RanFrom h d p q a → HasStepped p q
  ran_stepped d a begun ran =
      let by = knows ran in
      record { steps = by.steps; added = by.added; some = begun_some d by.steps a begun by.path }

  abbrev start : Start
  start = start_now h p

  -- A POLL is one load.
  module _ (turn : Progress (Unit {0})) (ran : RanFrom h (poll_steps (side_context task.Poll start)) p q turn) where
    abbrev loaded : StepMade
    loaded = made (load (side_context task.Poll start) Safepoint) ran.by.0

    pub polled_once : q.known.steps ≡ loaded ∷ p.known.steps
    polled_once = cases (has_requester ran.by.0) ran.by.1
      where
        cases : (b : Bool)
            → Runs h.heap.shape h.heap.start (cond b (pending_for (Requested ran.by.0)) (done_with tt))
            (known_after h.heap.shape h.heap.start (load (side_context task.Poll start) Safepoint) ran.by.0 p.known) q.known turn
            → q.known.steps ≡ loaded ∷ p.known.steps
        cases true r = ap (λ (x : ThreadView). x.steps) r.0
        cases false r = ap (λ (x : ThreadView). x.steps) r.0

    abbrev pub poll_stepped : HasStepped p q
    poll_stepped = record { steps = loaded ∷ []; added = polled_once; some = omega arith }

    pub poll_counts : polls_in poll_stepped.steps ≡ 1
    poll_counts = refl
