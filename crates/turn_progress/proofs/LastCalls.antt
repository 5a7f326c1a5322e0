-- A turn's last call is told by its steps: where it was done, no other call is there that was pending.
use Rattle.std.proofs.Common.{◌≡◌, ◌≢◌, ◌⊎◌, ℕ, zero, suc, ◌-◌, ◌≤◌, Bool, true, false, List, [], ◌∷◌, ◌++◌, length, Ok, refl}
use Rattle.std.proofs.Common.{sym, ap, ◌∙◌, subst, arith, inl, inr, true≢false}
use Rattle.std.proofs.lemmas.List.{append_cancel_right, length-append}
use Rattle.std.specs.List.{AllByRecursion}
use Rattle.core_world.specs.declared.answer.PendingCause.{PendingCause}
use Rattle.core_world.specs.declared.answer.Progress.TheVariants.{Done, Pending}
use Rattle.core_world.specs.declared.heap_call.HeapCall.{HeapCall}
use Rattle.core_world.specs.declared.heap_call.HeapCall.TheVariants as task
use Rattle.core_world.specs.declared.plan.StepPlan.{StepPlan}
use Rattle.core_world.specs.Opening.{first_known}
use Rattle.core_world.specs.Steps.{is_idle, rest_of_call, known_along}
use Rattle.core_world.specs.Threads.ThreadView.{ThreadView, Start, StepMade, start_of}
use Rattle.core_world.specs.Trees.Calls.{steps_of, side_context, end}
use Rattle.core_world.specs.Trees.Operations.{enter_steps, exit_steps, wait_steps, notify_steps, notify_all_steps, hash_steps}
use Rattle.core_world.specs.Trees.Operations.{get_steps, put_steps, print_steps, finish_steps, dump_steps, create_steps}
use Rattle.core_world.specs.Trees.SafepointSteps.{poll_steps, stop_steps, resume_steps}
use Rattle.core_world.specs.Trees.StepTree.{StepTree, done, unreachable, step, ◌>>=◌, after_answer, is_over}
use Rattle.core_world.specs.Words.Shape.{Shape}
use Rattle.core_world.proofs.CallRests.{begun_rest, gone_rest}
use Rattle.core_calls.specs.Moments.{IsStepOf}
use Rattle.core_calls.specs.Paths.{made, IsPath}
use Rattle.core_calls.proofs.Named.{Named, named_says}
use Rattle.core_calls.proofs.NamedCalls.{call_named}
use Rattle.core_calls.proofs.Runs.{knows, on_path}
use Rattle.heap_table.specs.Resting.{Rests, start_now}
use Rattle.heap_table.specs.Ruled.{known_after_steps}
use Rattle.heap_table.specs.Seen.{HeapSeen, PassSeen}
use Rattle.thread_calls.specs.Advances.{RanFrom, DoneIn, PendedIn}
use Rattle.thread_interp.specs.Moves.{IsSetStill, LastCall}
use Rattle.turn_progress.proofs.Barred.{ran_after}
use Rattle.turn_progress.proofs.Steps.{path_longer}

-- LISTS. Of two lists that begin with such elements and go on with another one, what goes on is the same.
same_rest : {A : Type 0} (P : A → Type 0) (xs ys us vs : List A) (u v : A) → AllByRecursion P xs → AllByRecursion P ys → (P u → ⊥) → (P v → ⊥)
    → xs ++ u ∷ us ≡ ys ++ v ∷ vs → u ∷ us ≡ v ∷ vs
same_rest P [] [] us vs u v h g not_u not_v e = e
same_rest P [] (y ∷ ys) us vs u v h g not_u not_v e = let same : y ≡ u = cc e in absurd (not_u (subst P same g.0))
same_rest P (x ∷ xs) [] us vs u v h g not_u not_v e = let same : x ≡ v = cc e in absurd (not_v (subst P same h.0))
same_rest P (x ∷ xs) (y ∷ ys) us vs u v h g not_u not_v e = same_rest P xs ys us vs u v h.1 g.1 not_u not_v (cc e)

-- of two ways to cut a list one is cut later, or at the same place
record IsCutLater {A : Type 0} (xs ys us vs : List A) : Type 0 where
  between : List A
  longer : xs ≡ ys ++ between
  rest : vs ≡ between ++ us

cuts : {A : Type 0} (xs ys us vs : List A) → xs ++ us ≡ ys ++ vs → IsCutLater xs ys us vs ⊎ IsCutLater ys xs vs us
cuts [] ys us vs e = inr (record { between = ys; longer = refl; rest = e })
cuts (x ∷ xs) [] us vs e = inl (record { between = x ∷ xs; longer = refl; rest = sym e })
cuts {A} (x ∷ xs) (y ∷ ys) us vs e =
    let head : x ≡ y = cc e in
    elim (cuts xs ys us vs (cc e)) [
      | inl c ↦ inl (record { between = c.between; longer = (λ i. head i ∷ c.longer i); rest = c.rest })
      | inr c ↦ inr (record { between = c.between; longer = (λ i. sym head i ∷ c.longer i); rest = c.rest })
    ]

same_length_rest : {A : Type 0} (xs ys us vs : List A) → xs ++ us ≡ ys ++ vs → length us ≡ length vs → us ≡ vs
same_length_rest [] [] us vs e same = e
same_length_rest [] (y ∷ ys) us vs e same = let long = ap length e ∙ length-append (y ∷ ys) vs in absurd (omega (arith, long, same))
same_length_rest (x ∷ xs) [] us vs e same = let long = ap length e in let sum = length-append (x ∷ xs) us in absurd (omega (arith, long, sum, same))
same_length_rest (x ∷ xs) (y ∷ ys) us vs e same = same_length_rest xs ys us vs (cc e) same

-- PATHS. The steps tell the answer.
one_path : {A : Type 0} (d : StepTree A) (sofar ms : List StepMade) (a b : A) → IsPath d sofar ms a → IsPath d sofar ms b → a ≡ b
one_path (done x) sofar ms a b path other = path.1 ∙ sym other.1
one_path unreachable sofar ms a b path other = absurd path
one_path {A} (step p f) sofar ms a b path other =
    let one = path_longer (f path.0) (made p path.0 ∷ sofar) ms a path.1 in
    let two = path_longer (f other.0) (made p other.0 ∷ sofar) ms b other.1 in
    let same : made p path.0 ∷ sofar ≡ made p other.0 ∷ sofar =
    same_length_rest one.more two.more (made p path.0 ∷ sofar) (made p other.0 ∷ sofar) (sym one.is ∙ two.is) refl in
    let first : made p path.0 ≡ made p other.0 = cc same in
    let found : path.0 ≡ other.0 = ap (λ (m : StepMade). m.found) first in
    one_path (f path.0) (made p path.0 ∷ sofar) ms a b path.1
    (subst (λ n. IsPath {A = A} (f n) (made p n ∷ sofar) ms b) (sym found) other.1)

path_end : {A : Type 0} (d : StepTree A) (sofar ms : List StepMade) (a : A) → IsPath d sofar ms a → IsPath (d >>= end) sofar ms tt
path_end (done b) sofar ms a path = (path.0, refl)
path_end unreachable sofar ms a path = absurd path
path_end (step p f) sofar ms a path = (path.0, path_end (f path.0) (made p path.0 ∷ sofar) ms a path.1)

-- IN THE MIDDLE of a call it isn't over.
along_both : (s : Shape) (start : ℕ) (xs ys : List StepMade) (k : ThreadView)
    → known_along s start (xs ++ ys) k ≡ known_along s start xs (known_along s start ys k)
along_both s start [] ys k = refl
along_both s start (x ∷ xs) ys k = ap (λ l. known_along s start (x ∷ []) l) (along_both s start xs ys k)

module _ (s : Shape) (start : ℕ) (k : ThreadView) (calls older : List StepMade) (some : 1 ≤ length calls) where
  goes : (l : ThreadView) (p : StepPlan) (f : ℕ → StepTree (Unit {0})) → rest_of_call s l ≡ step p f → is_idle s l ≡ false
  unfolding is_idle
  goes l p f left = ap is_over left

  goes_on : (d : StepTree (Unit {0})) (sofar ms : List StepMade) → IsPath d sofar ms tt → ms ≡ calls ++ older → length sofar ≤ length older
      → rest_of_call s (known_along s start sofar k) ≡ d → is_idle s (known_along s start older k) ≡ false
  goes_on (done a) sofar ms path is few left =
      let all = sym (ap length path.0) ∙ ap length is ∙ length-append calls older in absurd (omega (arith, all, few, some))
  goes_on unreachable sofar ms path is few left = absurd path
  goes_on (step p f) sofar ms path is few left =
      by_length (length older - length sofar) refl
      (λ more. goes_on (f path.0) (made p path.0 ∷ sofar) ms path.1 is more
      (gone_rest s start (known_along s start sofar k) p path.0 (goes (known_along s start sofar k) p f left) ∙ ap (λ z. after_answer z path.0) left))
    where
      by_length : (n : ℕ) → length older - length sofar ≡ n
          → (length (made p path.0 ∷ sofar) ≤ length older → is_idle s (known_along s start older k) ≡ false)
          → is_idle s (known_along s start older k) ≡ false
      by_length zero none on =
          let l = path_longer (step p f) sofar ms tt path in
          let same : sofar ≡ older = same_length_rest l.more calls sofar older (sym l.is ∙ is) (omega (arith, none, few)) in
          subst (λ (x : List StepMade). is_idle s (known_along s start x k) ≡ false) same (goes (known_along s start sofar k) p f left)
      by_length (suc n) more on = on (omega (arith, more, few))

  midway : (job : HeapCall) → is_idle s k ≡ true → (d : StepTree (Unit {0})) → steps_of s job (start_of start k) ≡ d → (ms : List StepMade)
      → IsPath d [] ms tt → ms ≡ calls ++ older → 1 ≤ length older → is_idle s (known_along s start older k) ≡ false
  midway job idle (done a) is ms path same more =
      let all = sym (ap length path.0) ∙ ap length same ∙ length-append calls older in absurd (omega (arith, all, some))
  midway job idle unreachable is ms path same more = absurd path
  midway job idle (step p f) is ms path same more =
      let named : Named job (step p f) = subst (Named job) is (call_named s job (start_of start k)) in
      let first : p.task ≡ job = named.by.0.call in
      goes_on (f path.0) (made p path.0 ∷ []) ms path.1 same more
      (begun_rest s start k p path.0 idle
      ∙ ap (λ (x : HeapCall). after_answer (steps_of s x (start_of start k)) path.0) first
      ∙ ap (λ z. after_answer z path.0) is)

-- WHAT A CALL'S STEPS ARE
record CallSteps (h : HeapSeen) (p q : PassSeen) (job : HeapCall) : Type 0 where
  steps : List StepMade
  added : q.known.steps ≡ steps ++ p.known.steps
  thread : q.known.thread ≡ p.known.thread
  path : IsPath (steps_of h.heap.shape job (start_now h p)) [] steps tt

module _ (h : HeapSeen) (p q : PassSeen) where
  by_tree : {A : Type 0} (job : HeapCall) (d : StepTree A) (a : A) → steps_of h.heap.shape job (start_now h p) ≡ (d >>= end) → RanFrom h d p q a
      → CallSteps h p q job
  by_tree job d a is ran =
      let f = knows ran in
      record {
        steps = f.steps;
        added = f.added;
        thread = (ran_after h d p q a ran).thread;
        path = subst (λ t. IsPath t [] f.steps tt) (sym is) (path_end d [] f.steps a f.path);
      }

  by_whole : (job : HeapCall) (d : StepTree (Unit {0})) → steps_of h.heap.shape job (start_now h p) ≡ d → RanFrom h d p q tt → CallSteps h p q job
  by_whole job d is ran =
      let f = knows ran in
      record {
        steps = f.steps;
        added = f.added;
        thread = (ran_after h d p q tt ran).thread;
        path = subst (λ t. IsPath t [] f.steps tt) (sym is) f.path;
      }

  stop_steps_of : DoneIn h p q task.Stop → CallSteps h p q task.Stop
  unfolding steps_of
  stop_steps_of ran = by_whole task.Stop (stop_steps (side_context task.Stop (start_now h p)) (start_now h p).local) refl ran

  done_steps : (job : HeapCall) → DoneIn h p q job → CallSteps h p q job
  unfolding steps_of
  done_steps (task.Enter o now) ran = by_tree (task.Enter o now) (enter_steps h.heap.shape (start_now h p) o now) (Ok (Done ran.0)) refl ran.1
  done_steps (task.Exit o) ran = by_tree (task.Exit o) (exit_steps (start_now h p) o) (Ok (Done tt)) refl ran
  done_steps (task.Wait o now) ran = by_tree (task.Wait o now) (wait_steps h.heap.shape (start_now h p) o now) (Ok (Done tt)) refl ran
  done_steps (task.Notify o now) ran = by_tree (task.Notify o now) (notify_steps h.heap.shape (start_now h p) o now) (Ok (Done ran.0)) refl ran.1
  done_steps (task.NotifyAll o now) ran =
      by_tree (task.NotifyAll o now) (notify_all_steps h.heap.shape (start_now h p) o now) (Ok (Done ran.0)) refl ran.1
  done_steps (task.Hash o now) ran = by_tree (task.Hash o now) (hash_steps h.heap.shape (start_now h p) o now) (Done ran.0) refl ran.1
  done_steps (task.Get o slot) ran = by_tree (task.Get o slot) (get_steps (start_now h p) o slot) (Ok ran.0) refl ran.1
  done_steps (task.Put o slot value) ran = by_tree (task.Put o slot value) (put_steps (start_now h p) o slot value) (Ok tt) refl ran
  done_steps (task.Print value) ran = by_whole (task.Print value) (print_steps (start_now h p) value) refl ran
  done_steps task.Dump ran = by_tree task.Dump (dump_steps h.heap.shape (start_now h p)) (Ok (Done ran.0)) refl ran.1
  done_steps (task.Create c) ran = by_tree (task.Create c) (create_steps h.heap.shape (start_now h p) c) (Ok ran.0) refl ran.1
  done_steps (task.Finish ending) ran = by_whole (task.Finish ending) (finish_steps (start_now h p) ending) refl ran
  done_steps task.Poll ran = by_tree task.Poll (poll_steps (side_context task.Poll (start_now h p))) (Done tt) refl ran
  done_steps task.Stop ran = stop_steps_of ran
  done_steps task.Resume ran =
      by_tree task.Resume (resume_steps (side_context task.Resume (start_now h p)) (start_now h p).local) (Done tt) refl ran
  done_steps job ran = absurd ran

  pended_steps : (why : PendingCause) (job : HeapCall) → PendedIn h why p q job → CallSteps h p q job × (job ≢ task.Stop)
  unfolding steps_of
  pended_steps why (task.Enter o now) ran =
      (by_tree (task.Enter o now) (enter_steps h.heap.shape (start_now h p) o now) (Ok (Pending why)) refl ran, λ e. absurd (cc e))
  pended_steps why (task.Exit o) ran = (by_tree (task.Exit o) (exit_steps (start_now h p) o) (Ok (Pending why)) refl ran, λ e. absurd (cc e))
  pended_steps why (task.Wait o now) ran =
      (by_tree (task.Wait o now) (wait_steps h.heap.shape (start_now h p) o now) (Ok (Pending why)) refl ran, λ e. absurd (cc e))
  pended_steps why (task.Notify o now) ran =
      (by_tree (task.Notify o now) (notify_steps h.heap.shape (start_now h p) o now) (Ok (Pending why)) refl ran, λ e. absurd (cc e))
  pended_steps why (task.NotifyAll o now) ran =
      (by_tree (task.NotifyAll o now) (notify_all_steps h.heap.shape (start_now h p) o now) (Ok (Pending why)) refl ran, λ e. absurd (cc e))
  pended_steps why (task.Hash o now) ran =
      (by_tree (task.Hash o now) (hash_steps h.heap.shape (start_now h p) o now) (Pending why) refl ran, λ e. absurd (cc e))
  pended_steps why task.Dump ran = (by_tree task.Dump (dump_steps h.heap.shape (start_now h p)) (Ok (Pending why)) refl ran, λ e. absurd (cc e))
  pended_steps why task.Poll ran = (by_tree task.Poll (poll_steps (side_context task.Poll (start_now h p))) (Pending why) refl ran, λ e. absurd (cc e))
  pended_steps why task.Resume ran =
      (by_tree task.Resume (resume_steps (side_context task.Resume (start_now h p)) (start_now h p).local) (Pending why) refl ran, λ e. absurd (cc e))
  pended_steps why job ran = absurd ran

-- ONE CALL has one answer.
module _ (h : HeapSeen) (p q x y : PassSeen) (before : p.known ≡ x.known) (after : q.known.steps ≡ y.known.steps) where
  one_answer : {A : Type 0} (d : Start → StepTree A) (a b : A) → RanFrom h (d (start_now h p)) p q a → RanFrom h (d (start_now h x)) x y b → a ≡ b
  one_answer d a b ran other =
      let f = knows ran in
      let g = knows other in
      let same : f.steps ≡ g.steps =
      append_cancel_right f.steps g.steps p.known.steps
      (sym f.added ∙ after ∙ g.added ∙ ap (λ (k : ThreadView). g.steps ++ k.steps) (sym before)) in
      one_path (d (start_now h p)) [] f.steps a b f.path
      (subst (λ (z : ThreadView × List StepMade). IsPath (d (start_of h.heap.start z.0)) [] z.1 b) (λ i. (sym before i, sym same i)) g.path)

  not_both : (why : PendingCause) (job : HeapCall) → DoneIn h p q job → PendedIn h why x y job → ⊥
  not_both why (task.Enter o now) ran other =
      absurd (cc (one_answer (λ k. enter_steps h.heap.shape k o now) (Ok (Done ran.0)) (Ok (Pending why)) ran.1 other))
  not_both why (task.Exit o) ran other = absurd (cc (one_answer (λ k. exit_steps k o) (Ok (Done tt)) (Ok (Pending why)) ran other))
  not_both why (task.Wait o now) ran other =
      absurd (cc (one_answer (λ k. wait_steps h.heap.shape k o now) (Ok (Done tt)) (Ok (Pending why)) ran other))
  not_both why (task.Notify o now) ran other =
      absurd (cc (one_answer (λ k. notify_steps h.heap.shape k o now) (Ok (Done ran.0)) (Ok (Pending why)) ran.1 other))
  not_both why (task.NotifyAll o now) ran other =
      absurd (cc (one_answer (λ k. notify_all_steps h.heap.shape k o now) (Ok (Done ran.0)) (Ok (Pending why)) ran.1 other))
  not_both why (task.Hash o now) ran other =
      absurd (cc (one_answer (λ k. hash_steps h.heap.shape k o now) (Done ran.0) (Pending why) ran.1 other))
  not_both why task.Dump ran other =
      absurd (cc (one_answer (λ k. dump_steps h.heap.shape k) (Ok (Done ran.0)) (Ok (Pending why)) ran.1 other))
  not_both why task.Poll ran other =
      absurd (cc (one_answer (λ k. poll_steps (side_context task.Poll k)) (Done tt) (Pending why) ran other))
  not_both why task.Resume ran other =
      absurd (cc (one_answer (λ (k : Start). resume_steps (side_context task.Resume k) k.local) (Done tt) (Pending why) ran other))
  not_both why job ran other = absurd other

-- WHERE THE LAST CALL STANDS among the steps of a turn
record StepsFrom (h : HeapSeen) (q : PassSeen) (p after : PassSeen) (job : HeapCall) : Type 0 where
  stops : List StepMade
  stopping : AllByRecursion (IsStepOf task.Stop) stops
  call : CallSteps h p after job
  steps : q.known.steps ≡ stops ++ (call.steps ++ p.known.steps)
  thread : q.known.thread ≡ p.known.thread

steps_of_call : (h : HeapSeen) (p q : PassSeen) (job : HeapCall) (c : CallSteps h p q job) → AllByRecursion (IsStepOf job) c.steps
steps_of_call h p q job c =
    on_path (λ ms a. AllByRecursion (IsStepOf job) ms) (steps_of h.heap.shape job (start_now h p)) [] c.steps tt
    (named_says job (steps_of h.heap.shape job (start_now h p)) (call_named h.heap.shape job (start_now h p))).by c.path

stops_after : (h : HeapSeen) (q p after : PassSeen) (job : HeapCall) (b : Bool) → IsSetStill b h after q → CallSteps h p after job → StepsFrom h q p after job
stops_after h q p after job true ran call =
    let s = stop_steps_of h after q ran in
    record {
      stops = s.steps;
      stopping = steps_of_call h after q task.Stop s;
      call = call;
      steps = s.added ∙ ap (λ (l : List StepMade). s.steps ++ l) call.added;
      thread = s.thread ∙ call.thread;
    }
stops_after h q p after job false same call =
    record {
      stops = [];
      stopping = tt;
      call = call;
      steps = ap (λ (x : PassSeen). x.known.steps) same ∙ call.added;
      thread = ap (λ (x : PassSeen). x.known.thread) same ∙ call.thread;
    }

-- the first of a call's steps is none of a stop
first_step : (h : HeapSeen) (p q : PassSeen) (job : HeapCall) (c : CallSteps h p q job) → 1 ≤ length c.steps
    → (m : StepMade) × (ms : List StepMade) × (c.steps ≡ m ∷ ms) × (m.plan.task ≡ job)
first_step h p q job c some = by_list c.steps refl (steps_of_call h p q job c)
  where
    by_list : (ms : List StepMade) → c.steps ≡ ms → AllByRecursion (IsStepOf job) ms
        → (m : StepMade) × (ms : List StepMade) × (c.steps ≡ m ∷ ms) × (m.plan.task ≡ job)
    by_list [] is all = let none = ap length is in absurd (omega (arith, none, some))
    by_list (m ∷ ms) is all = (m, ms, is, all.0.call)

-- what a thread knew at rest later on is what the steps between tell
real_along : (h : HeapSeen) (p q : PassSeen) (between : List StepMade) → Rests h p → Rests h q → q.known.thread ≡ p.known.thread
    → q.known.steps ≡ between ++ p.known.steps → q.known ≡ known_along h.heap.shape h.heap.start between p.known
real_along h p q between was is thread steps =
    is.is_of.real.is
    ∙ (λ i. known_after_steps h.heap (thread i) (steps i))
    ∙ along_both h.heap.shape h.heap.start between p.known.steps (first_known p.known.thread)
    ∙ ap (known_along h.heap.shape h.heap.start between) (sym was.is_of.real.is)

-- two calls begun at rest, of which one is cut later among the same steps: the later one began at the same place
same_place : (h : HeapSeen) (p q after : PassSeen) (job : HeapCall) (between calls : List StepMade) (c : CallSteps h p after job) → Rests h p → Rests h q
    → q.known.thread ≡ p.known.thread → q.known.steps ≡ between ++ p.known.steps → c.steps ≡ calls ++ between → 1 ≤ length calls → between ≡ []
same_place h p q after job [] calls c was is thread steps longer some = refl
same_place h p q after job (m ∷ ms) calls c was is thread steps longer some =
    let going = midway h.heap.shape h.heap.start p.known calls (m ∷ ms) some job was.over (steps_of h.heap.shape job (start_now h p)) refl c.steps c.path
    longer (omega arith) in
    absurd (true≢false (sym is.over ∙ ap (is_idle h.heap.shape) (real_along h p q (m ∷ ms) was is thread steps) ∙ going))

module _ (h : HeapSeen) (p q : PassSeen) (why : PendingCause) (one : LastCall (DoneIn h) h p q) (two : LastCall (PendedIn h why) h p q)
    (acts : one.called.call.task ≢ task.Stop) where
  abbrev a : PassSeen
  a = one.called.before

  abbrev b : PassSeen
  b = two.called.before

  abbrev job : HeapCall
  job = one.called.call.task

  abbrev other : HeapCall
  other = two.called.call.task

  pended : CallSteps h b two.after other × (other ≢ task.Stop)
  pended = pended_steps h b two.after why other two.called.call.is

  from_one : StepsFrom h q a one.after job
  from_one = stops_after h q a one.after job one.after.known.running one.still (done_steps h a one.after job one.called.call.is)

  from_two : StepsFrom h q b two.after other
  from_two = stops_after h q b two.after other two.after.known.running two.still pended.0

  some_one : 1 ≤ length from_one.call.steps
  some_one =
      let s = one.called.call.stepped in
      subst (λ (l : List StepMade). 1 ≤ length l)
      (append_cancel_right s.steps from_one.call.steps a.known.steps (sym s.added ∙ from_one.call.added)) s.some

  some_two : 1 ≤ length from_two.call.steps
  some_two =
      let s = two.called.call.stepped in
      subst (λ (l : List StepMade). 1 ≤ length l)
      (append_cancel_right s.steps from_two.call.steps b.known.steps (sym s.added ∙ from_two.call.added)) s.some

  first_one : (m : StepMade) × (ms : List StepMade) × (from_one.call.steps ≡ m ∷ ms) × (m.plan.task ≡ job)
  first_one = first_step h a one.after job from_one.call some_one

  first_two : (m : StepMade) × (ms : List StepMade) × (from_two.call.steps ≡ m ∷ ms) × (m.plan.task ≡ other)
  first_two = first_step h b two.after other from_two.call some_two

  begun_same : first_one.0 ∷ (first_one.1 ++ a.known.steps) ≡ first_two.0 ∷ (first_two.1 ++ b.known.steps)
  begun_same =
      same_rest (IsStepOf task.Stop) from_one.stops from_two.stops (first_one.1 ++ a.known.steps) (first_two.1 ++ b.known.steps) first_one.0 first_two.0
      from_one.stopping from_two.stopping (λ is. acts (sym first_one.3 ∙ is.call)) (λ is. pended.1 (sym first_two.3 ∙ is.call))
      (ap (λ (l : List StepMade). from_one.stops ++ (l ++ a.known.steps)) (sym first_one.2)
      ∙ sym from_one.steps ∙ from_two.steps
      ∙ ap (λ (l : List StepMade). from_two.stops ++ (l ++ b.known.steps)) first_two.2)

  calls_same : from_one.call.steps ++ a.known.steps ≡ from_two.call.steps ++ b.known.steps
  calls_same =
      ap (λ (l : List StepMade). l ++ a.known.steps) first_one.2 ∙ begun_same ∙ ap (λ (l : List StepMade). l ++ b.known.steps) (sym first_two.2)

  jobs_same : job ≡ other
  jobs_same =
      let same : first_one.0 ≡ first_two.0 = cc begun_same in
      sym first_one.3 ∙ ap (λ (m : StepMade). m.plan.task) same ∙ first_two.3

  threads_same : b.known.thread ≡ a.known.thread
  threads_same = sym from_two.thread ∙ from_one.thread

  steps_same : a.known.steps ≡ b.known.steps
  steps_same = elim (cuts from_one.call.steps from_two.call.steps a.known.steps b.known.steps calls_same) [
    | inl c ↦
        let none = same_place h a b one.after job c.between from_two.call.steps from_one.call one.called.rests two.called.rests threads_same c.rest c.longer
        some_two in
        sym (c.rest ∙ ap (λ (l : List StepMade). l ++ a.known.steps) none)
    | inr c ↦
        let none = same_place h b a two.after other c.between from_one.call.steps from_two.call two.called.rests one.called.rests (sym threads_same) c.rest
        c.longer some_one in
        c.rest ∙ ap (λ (l : List StepMade). l ++ b.known.steps) none
  ]

  known_same : a.known ≡ b.known
  known_same = real_along h b a [] two.called.rests one.called.rests (sym threads_same) steps_same

  after_same : one.after.known.steps ≡ two.after.known.steps
  after_same = from_one.call.added ∙ calls_same ∙ sym from_two.call.added

  pub done_or_pended : ⊥
  done_or_pended =
      not_both h a one.after b two.after known_same after_same why job one.called.call.is
      (subst (PendedIn h why b two.after) (sym jobs_same) two.called.call.is)
