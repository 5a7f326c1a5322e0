-- A call by a thread that rests is due from its beginning, and after it the thread rests.
use Rattle.std.proofs.Common.{◌≡◌, ℕ, ◌<◌, ◌&&◌, true, Result, Ok, Err, IfOk, refl, sym, ap, ◌∙◌, subst, inr}
use Rattle.core_world.specs.declared.heap_call.HeapCall.{HeapCall}
use Rattle.core_world.specs.Steps.{is_idle}
use Rattle.core_world.specs.Threads.AtRest.{AtRest}
use Rattle.core_world.specs.Threads.ThreadView.{ThreadView}
use Rattle.core_world.specs.Threads.Stages.{is_calm}
use Rattle.core_world.specs.Trees.Calls.{steps_of, may_begin, end}
use Rattle.core_world.specs.Trees.Plans.{CallContext}
use Rattle.core_world.specs.Trees.StepTree.{StepTree, done, unreachable, step, ◌>>=◌}
use Rattle.core_world.specs.Words.Shape.{Shape}
use Rattle.core_world.proofs.CallRests.{ran_over}
use Rattle.core_law.specs.Logic.{Heap}
use Rattle.core_law.proofs.Lawful.{sound_rests}
use Rattle.heap_table.specs.Fresh.{IsFresh}
use Rattle.heap_table.specs.Parts.{IsDueOn, HasMadeSteps}
use Rattle.heap_table.specs.Resting.{Rests, MayCall, start_now}
use Rattle.heap_table.specs.Seen.{HeapSeen, PassSeen}

pub fresh_rests : (h : HeapSeen) (t : ℕ) (p : PassSeen) → IsFresh h t p → Rests h p
unfolding is_idle
fresh_rests h t p f = record { is_of = f.is_of; over = ap (is_idle h.heap.shape) f.knows }

-- by the law of the heap a thread whose call is over is at rest
pub at_rest : (h : HeapSeen) (p : PassSeen) → Rests h p → AtRest h.heap.shape p.known
at_rest h p rests =
    let r = rests.is_of.real in
    let t = p.known.thread in
    let within : t < r.world.shape.threads = subst (λ (z : Heap). t < z.shape.threads) (sym r.is_of) rests.is_of.within in
    let over : is_idle r.world.shape (r.world.known t) ≡ true = (λ i. is_idle (r.is_of i).shape (r.knew i)) ∙ rests.over in
    subst (λ (s : Shape). AtRest s p.known) (λ i. (r.is_of i).shape)
    (subst (λ (k : ThreadView). AtRest r.world.shape k) r.knew (sound_rests r.world t r.sound within over))

-- The first step is one of this call.
abbrev pub IsCallOf : {A : Type 0} → HeapCall → StepTree A → Type 0
IsCallOf t (step p f) = p.task ≡ t
IsCallOf t _ = Unit {0}

module _ {A : Type 0} (h : HeapSeen) (p : PassSeen) (t : HeapCall) (c : MayCall h p t) where
  -- all its steps are due
  pub whole_due : (d : StepTree A) → steps_of h.heap.shape t (start_now h p) ≡ (d >>= end) → IsDueOn h p t d
  whole_due d is =
      let calm : is_calm p.known.stage ≡ true = ap is_calm (at_rest h p c.rests).calm in
      record { after = end; is = inr (record { over = c.rests.over; may = λ i. calm i && c.may i; is = is }) }

  -- and after them it is over
  pub rests_after : (d : StepTree A) → steps_of h.heap.shape t (start_now h p) ≡ (d >>= end)
      → IsCallOf t d → (q : PassSeen) (a : A) → HasMadeSteps h d p q a → Rests h q
  unfolding whole_due
  rests_after (done b) is first q a run = record { is_of = run.heap; over = ap (is_idle h.heap.shape) run.ran.by.0 ∙ c.rests.over }
  rests_after unreachable is first q a run = absurd run.ran.by
  rests_after (step plan f) is first q a run = record {
    is_of = run.heap;
    over = ran_over h.heap.shape h.heap.start h.heap.biasing p.known q.known t plan f a (whole_due (step plan f) is) first run.ran.by refl;
  }

-- The same, where the code spells the call's context.
module _ {A : Type 0} (h : HeapSeen) (p : PassSeen) (rests : Rests h p) (w e : CallContext) (d : CallContext → StepTree A)
    (same : w ≡ e) (may : may_begin h.heap.shape h.heap.biasing p.known e.task ≡ true)
    (is : steps_of h.heap.shape e.task (start_now h p) ≡ (d e >>= end)) where
  call : MayCall h p e.task
  call = record { rests = rests; may = may }

  pub due_as : IsDueOn h p w.task (d w)
  due_as = subst (λ (x : CallContext). IsDueOn h p x.task (d x)) (sym same) (whole_due h p e.task call (d e) is)

  pub rests_as : IsCallOf e.task (d e) → (q : PassSeen) (a : A) → HasMadeSteps h (d w) p q a → Rests h q
  rests_as first q a run = rests_after h p e.task call (d e) is first q a (subst (λ (x : CallContext). HasMadeSteps h (d x) p q a) same run)

-- what holds of each value holds of the one that there is
pub if_ok : {A E : Type 0} {P Q : A → Type 0} (r : Result A E) → ((a : A) → P a → Q a) → IfOk r P → IfOk r Q
if_ok (Ok a) f h = f a h
if_ok (Err e) f h = tt
