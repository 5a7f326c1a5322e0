-- Calls that log nothing leave a thread where it stands in its code.
use Rattle.std.proofs.Common.{◌≡◌, ℕ, zero, suc, true, false, Bool, List, [], ◌∷◌, length, Option, refl, sym, ap, ◌∙◌, subst}
use Rattle.plain_monitor.specs.declared.entry.Logged.{Logged}
use Rattle.plain_history.specs.HeldByLog.{held_by, nothing_held}
use Rattle.core_world.specs.declared.heap_call.Unfinished.{Unfinished}
use Rattle.core_world.specs.Due.{Runs}
use Rattle.core_world.specs.Locks.{hold_count}
use Rattle.core_world.specs.Threads.ThreadView.{ThreadView, StepMade}
use Rattle.core_world.specs.Trees.StepTree.{StepTree, done, unreachable, step}
use Rattle.core_world.specs.Words.Shape.{Shape}
use Rattle.core_world.specs.Steps.{known_after}
use Rattle.core_calls.specs.Paths.{Tells, Leaves, ThreadHasLogged}
use Rattle.core_calls.proofs.Runs.{did, did_none}
use Rattle.heap_table.specs.Parts.{HasMadeSteps}
use Rattle.heap_table.specs.Resting.{Rests}
use Rattle.heap_table.specs.Seen.{HeapSeen, PassSeen}
use Rattle.heap_table.proofs.Knows.{same_thread}
use Rattle.own_logs.proofs.OwnHolds.{own_number}
use Rattle.object_program.specs.Program.{ProgramText}
use Rattle.plain_machine.specs.Asking.{ask}
use Rattle.plain_machine.specs.Thread.{ThreadState}
use Rattle.thread_calls.specs.Asked.{unfinished_of, IsAtMost}
use Rattle.thread_calls.specs.Between.{IsOn, state_by}
use Rattle.thread_frame.specs.Frames.{FrameSeen, next_state, has_ended}
use Rattle.thread_frame.specs.Sights.{counts_from}
use Rattle.thread_logs.specs.Followed.{FollowsCode, HaveValues}

-- the pass was p, and is q after a call that leaves its log and its unfinished operation, and this said of a check
pub record IsBeside (h : HeapSeen) (check : Bool) (p q : PassSeen) : Type 0 where
  pub before : Rests h p
  pub rests : Rests h q
  pub thread : q.known.thread ≡ p.known.thread
  pub log : q.known.log ≡ p.known.log
  pub unfinished : q.known.unfinished ≡ p.known.unfinished
  pub checking : q.known.checking ≡ check
  pub limit : q.limit ≡ p.limit

-- A RUN is one thread's.
module _ {A : Type 0} (s : Shape) (start : ℕ) where
  runs_same_thread : (d : StepTree A) (k l : ThreadView) (a : A) → Runs s start d k l a → l.thread ≡ k.thread
  runs_same_thread (done b) k l a r = ap (λ (x : ThreadView). x.thread) r.0
  runs_same_thread unreachable k l a r = absurd r
  runs_same_thread (step p f) k l a r =
      runs_same_thread (f r.0) (known_after s start p r.0 k) l a r.1 ∙ same_thread s start p r.0 k

-- such a run leaves all this
pub beside : {A : Type 0} (h : HeapSeen) (d : StepTree A) (p q : PassSeen) (a : A) (check : Bool) → Rests h p → Rests h q → HasMadeSteps h d p q a
    → Tells p.known q.known (Leaves [] p.known.unfinished check) → IsBeside h check p q
beside h d p q a check before rests run tells =
    let done : ThreadHasLogged [] p.known.unfinished check p.known q.known = did [] p.known.unfinished check p.known q.known tells in
    record {
      before = before;
      rests = rests;
      thread = runs_same_thread h.heap.shape h.heap.start d p.known q.known a run.ran.by;
      log = did_none p.known.unfinished check p.known q.known done;
      unfinished = done.unfinished;
      checking = done.checking;
      limit = run.limit;
    }

-- what is said of steps in one way, is said of them in another
pub telling : {P Q : List StepMade → Type 0} (k l : ThreadView) → ((ms : List StepMade) → P ms → Q ms) → Tells k l P → Tells k l Q
telling k l so t =
    record {
      steps = t.steps;
      added = t.added;
      new = t.new;
      log = t.log;
      entries = t.entries;
      unfinished = t.unfinished;
      checking = t.checking;
      says = so t.steps t.says;
    }

-- WHERE IT STANDS. Its hold words count the same holds.
same_counts : (o n : ℕ) (a b : List ℕ) → ((x : ℕ) → hold_count x a ≡ hold_count x b) → counts_from o n a ≡ counts_from o n b
same_counts o zero a b same = refl
same_counts o (suc n) a b same = λ i. same o i ∷ same_counts (suc o) n a b same i

module _ (h : HeapSeen) (text : ProgramText) (check : Bool) (p q : PassSeen) (f : FrameSeen) (is : IsBeside h check p q) where
  abbrev n : ℕ
  n = length h.heap.shape.objects

  counts_kept : counts_from 0 n q.known.holds ≡ counts_from 0 n p.known.holds
  counts_kept = same_counts 0 n q.known.holds p.known.holds (λ o.
      own_number h q o is.rests ∙ ap (λ (log : List Logged). held_by nothing_held log o) is.log ∙ sym (own_number h p o is.before))

  pub state_kept : state_by h text q f ≡ state_by h text p f
  state_kept = λ i. next_state text (is.thread i) (counts_kept i) f

  -- so the pass and its frame still belong together
  pub still_on : (fuel : ℕ) → IsOn h text fuel p f
      → (q.known.requesting ≡ true → q.known.checking ≡ false → ⊥) → (q.known.checking ≡ true → has_ended f ≡ false) → IsOn h text fuel q f
  still_on fuel on asks checks =
      record {
        rests = is.rests;
        follows = subst (λ (x : ℕ × (List Logged × ThreadState)). FollowsCode text fuel x.0 x.1.0 x.1.1)
            (λ i. (sym is.thread i, (sym is.log i, sym state_kept i))) on.follows;
        values = subst (HaveValues text) (sym is.log) on.values;
        few = on.few;
        limit = is.limit ∙ on.limit;
        spent = on.spent;
        unfinished = subst (λ (x : Option Unfinished × ThreadState). IsAtMost x.0 (unfinished_of (ask x.1)))
            (λ i. (sym is.unfinished i, sym state_kept i)) on.unfinished;
        asks = λ requesting unchecked. absurd (asks requesting unchecked);
        checks = checks;
      }
