-- The steps after the look at the waiting words, by who waits, and how far the notifies of all have come.
use Rattle.std.proofs.Common.{◌≡◌, ℕ, suc, ◌+◌, ◌<◌, ◌≤◌, List, [], ◌∷◌, length, take, set, Some, None, refl, sym, ap, ◌∙◌, subst, arith, length-take}
use Rattle.mark_word.specs.declared.wait.WaitForm.TheVariants as wait
use Rattle.mark_word.specs.Wait.{wait_of}
use Rattle.plain_monitor.specs.declared.entry.Entry.TheVariants as entry
use Rattle.core_world.specs.declared.word_id.WordId.TheVariants.{Waiting}
use Rattle.core_world.specs.declared.plan.StepPlan.{StepPlan}
use Rattle.core_world.specs.declared.stage.Stage.TheVariants.{Settled, Notifies}
use Rattle.core_world.specs.Threads.ThreadView.{ThreadView, Local}
use Rattle.core_world.specs.Trees.Plans.{CallContext}
use Rattle.core_world.specs.Trees.StepTree.{StepTree, done, ◌>>=◌, ask}
use Rattle.core_world.specs.Trees.WaitSteps.{waiters, by_age, publish_steps, notify_first, notify_listed, notify_each, wake_next_plan, notify_all_plan}
use Rattle.heap_table.specs.Parts.{IsDueOn, HasMadeSteps}
use Rattle.heap_table.specs.Seen.{HeapSeen, PassSeen, IsOf}
use Rattle.heap_table.specs.StepPlans.{store_plan, log_store_plan}
use Rattle.heap_table.specs.Stepping.{CanStep, HasStepped}
use Rattle.heap_table.proofs.Loops.{HasCome, nothing_yet, comes_on, comes_as}
use Rattle.heap_table.proofs.Parts.{can, rest_due, last_step}
use Rattle.object_monitor.specs.inner.NotifyParts.{first_of, notify_one, notify_those}
use Rattle.object_monitor.proofs.Ages.{few_waiters, taken_of, first_and_others, others_than_first}

-- THE TREES, by the oldest waiter
pub first_notified : (ps : List (ℕ × ℕ)) (e : CallContext) (k : Local) (o : ℕ) → notify_first ps e k o ≡ notify_one (first_of ps) e k o
first_notified [] e k o = refl
first_notified (p ∷ ps) e k o = refl

pub some_listed : (ps : List (ℕ × ℕ)) (p : ℕ × ℕ) (e : CallContext) (k : Local) (o : ℕ) → first_of ps ≡ Some p → notify_listed ps e k o ≡ notify_those ps e o
some_listed [] p e k o some = absurd (cc some)
some_listed (q ∷ qs) p e k o some = refl

-- what is to do where nobody waits
abbrev pub none_to_notify : CallContext → Local → ℕ → StepTree ℕ
none_to_notify e k o = do
  _ ← publish_steps (entry.NotifyAll o 0) e k
  done 0

pub none_listed : (ps : List (ℕ × ℕ)) (e : CallContext) (k : Local) (o : ℕ) → first_of ps ≡ None → notify_listed ps e k o ≡ none_to_notify e k o
none_listed [] e k o none = refl
none_listed (q ∷ qs) e k o none = absurd (cc none)

-- THE LOOP. The waiters of o, by the waiting words of the first n threads
abbrev pub waiting : ℕ → ℕ → List ℕ → List (ℕ × ℕ)
waiting o n words = by_age (waiters o 0 (take n words))

pub few_waiting : (o n : ℕ) (words : List ℕ) → n ≤ length words → length (waiting o n words) ≤ n
few_waiting o n words fits =
    let few = few_waiters o 0 (take n words) in
    let all : length (take n words) ≡ n = length-take n words ∙ omega (arith, fits) in
    omega (arith, few, all)

-- the first is one of the first n threads, and without it there is one waiter fewer
pub one_less : (o n : ℕ) (words : List ℕ) (p : ℕ × ℕ) → n ≤ length words → first_of (waiting o n words) ≡ Some p
    → (p.0 < n) × (length (waiting o n words) ≡ suc (length (waiting o n (set words p.0 0))))
one_less o n words p fits some =
    let split = first_and_others (waiting o n words) p some in
    let r = taken_of o n words p (others_than_first (waiting o n words)) fits split in
    (r.within, ap (λ (l : List (ℕ × ℕ)). length l) split ∙ ap (λ (l : List (ℕ × ℕ)). suc (length l)) (sym r.left))

-- this one is on its way, after so many others, and these are left
abbrev pub wakes_left : CallContext → ℕ → ℕ → ℕ → ℕ × ℕ → List (ℕ × ℕ) → StepTree ℕ
wakes_left e o total before p ps = notify_each (p ∷ ps) e o before >>= (λ _. done total)

pub record Waking (h : HeapSeen) (e : CallContext) (d : StepTree ℕ) (from p : PassSeen) (o n total : ℕ) (words : List ℕ) (thread woken : ℕ) : Type 0 where
  pub since : ℕ
  pub before : ℕ
  pub count : woken ≡ before + 1
  pub all : woken + length (waiting o n words) ≡ total
  pub heap : IsOf h p
  pub room : length p.known.log < p.limit
  pub due : IsDueOn h p e.task (wakes_left e o total before (thread, since) (waiting o n words))
  pub come : HasCome h d from (wakes_left e o total before (thread, since) (waiting o n words)) p

pub first_on_its_way : (h : HeapSeen) (e : CallContext) (from : PassSeen) (o n : ℕ) (words : List ℕ) (p : ℕ × ℕ)
    → n ≤ length words → first_of (waiting o n words) ≡ Some p → IsOf h from
    → length from.known.log < from.limit → IsDueOn h from e.task (notify_those (waiting o n words) e o)
    → Waking h e (notify_those (waiting o n words) e o) from from o n (length (waiting o n words)) (set words p.0 0) p.0 1
first_on_its_way h e from o n words p fits some is_of room due =
    let d = notify_those (waiting o n words) e o in
    let total = length (waiting o n words) in
    let split = first_and_others (waiting o n words) p some in
    let r = taken_of o n words p (others_than_first (waiting o n words)) fits split in
    let less = one_less o n words p fits some in
    let same : d ≡ wakes_left e o total 0 p (waiting o n (set words p.0 0)) =
    (λ j. notify_each (split j) e o 0 >>= (λ _. done total)) ∙ (λ j. wakes_left e o total 0 p (sym r.left j)) in
    record {
      since = p.1;
      before = 0;
      count = refl;
      all = omega (arith, less.1);
      heap = is_of;
      room = room;
      due = subst (λ x. IsDueOn h from e.task x) same due;
      come = comes_as h d from d (wakes_left e o total 0 p (waiting o n (set words p.0 0))) from same (nothing_yet h d from);
    }

module _ (h : HeapSeen) (e : CallContext) (d : StepTree ℕ) (from p : PassSeen) (o n total : ℕ) (words : List ℕ) (thread woken word : ℕ)
    (w : Waking h e d from p o n total words thread woken) (notified : word ≡ wait_of (wait.Notified o)) where
  abbrev left : List (ℕ × ℕ)
  left = waiting o n words

  -- where one is left, the one that is on its way is notified, and the next one is on its way
  module _ (next : ℕ × ℕ) (ps : List (ℕ × ℕ)) (split : left ≡ next ∷ ps) where
    abbrev waking_plan : StepPlan
    waking_plan = wake_next_plan e o thread (w.before + 1)

    abbrev after : ℕ → StepTree ℕ
    after x = wakes_left e o total (w.before + 1) next ps

    due_now : IsDueOn h p e.task (ask waking_plan >>= after)
    due_now = subst (λ (l : List (ℕ × ℕ)). IsDueOn h p e.task (wakes_left e o total w.before (thread, w.since) l)) split w.due

    come_now : HasCome h d from (ask waking_plan >>= after) p
    come_now = subst (λ (l : List (ℕ × ℕ)). HasCome h d from (wakes_left e o total w.before (thread, w.since) l) p) split w.come

    as_stored : store_plan e (Notifies o woken) (Waiting thread) word ≡ waking_plan
    as_stored = λ j. store_plan e (Notifies o (w.count j)) (Waiting thread) (notified j)

    can_wake_by : CanStep h p (store_plan e (Notifies o woken) (Waiting thread) word)
    can_wake_by = subst (CanStep h p) (sym as_stored) (can h p e.task waking_plan after due_now refl w.heap tt refl)

    woken_by : (q : PassSeen) (x : ℕ) → HasStepped h p q (store_plan e (Notifies o woken) (Waiting thread) word) x → n ≤ length words
        → Waking h e d from q o n total (set words next.0 0) next.0 (woken + 1)
    woken_by q x stored fits =
        let s : HasStepped h p q waking_plan x = subst (λ (y : StepPlan). HasStepped h p q y x) as_stored stored in
        let r = taken_of o n words next ps fits split in
        let count = w.count in
        let all = w.all in
        let fewer : length left ≡ suc (length ps) = ap (λ (l : List (ℕ × ℕ)). length l) split in
        let same : length (waiting o n (set words next.0 0)) ≡ length ps = ap (λ (l : List (ℕ × ℕ)). length l) r.left in
        let logs : length q.known.log ≡ length p.known.log = ap (λ (k : ThreadView). length k.log) s.known in
        let limit = s.limit in
        let room = w.room in
        let goes : after x ≡ wakes_left e o total (w.before + 1) next (waiting o n (set words next.0 0)) =
        λ j. wakes_left e o total (w.before + 1) next (sym r.left j) in
        let run : HasMadeSteps h (ask waking_plan) p q x = last_step h p q waking_plan done x x s refl refl in
        record {
          since = next.1;
          before = w.before + 1;
          count = omega (arith, count);
          all = omega (arith, all, fewer, same);
          heap = s.heap;
          room = omega (arith, logs, limit, room);
          due = subst (λ y. IsDueOn h q e.task y) goes (rest_due h p e.task waking_plan after due_now refl q x s);
          come = comes_as h d from (after x) (wakes_left e o total (w.before + 1) next (waiting o n (set words next.0 0))) q goes
              (comes_on h d from (ask waking_plan) after p q x come_now run);
        }

  pub can_wake : (next : ℕ × ℕ) → first_of left ≡ Some next → CanStep h p (store_plan e (Notifies o woken) (Waiting thread) word)
  can_wake next some = can_wake_by next (others_than_first left) (first_and_others left next some)

  pub woken_on : (next : ℕ × ℕ) → first_of left ≡ Some next → (q : PassSeen) (x : ℕ)
      → HasStepped h p q (store_plan e (Notifies o woken) (Waiting thread) word) x
      → n ≤ length words → Waking h e d from q o n total (set words next.0 0) next.0 (woken + 1)
  woken_on next some = woken_by next (others_than_first left) (first_and_others left next some)

  -- where none is left, it is the last one, and the log says how many there were
  module _ (none : left ≡ []) where
    abbrev last_plan : StepPlan
    last_plan = notify_all_plan e o thread (w.before + 1)

    abbrev at_end : ℕ → StepTree ℕ
    at_end x = done total

    due_at_last : IsDueOn h p e.task (ask last_plan >>= at_end)
    due_at_last = subst (λ (l : List (ℕ × ℕ)). IsDueOn h p e.task (wakes_left e o total w.before (thread, w.since) l)) none w.due

    come_at_last : HasCome h d from (ask last_plan >>= at_end) p
    come_at_last = subst (λ (l : List (ℕ × ℕ)). HasCome h d from (wakes_left e o total w.before (thread, w.since) l) p) none w.come

    as_logged : log_store_plan e Settled (Waiting thread) word (entry.NotifyAll o woken) ≡ last_plan
    as_logged = λ j. log_store_plan e Settled (Waiting thread) (notified j) (entry.NotifyAll o (w.count j))

    all_woken : total ≡ woken
    all_woken =
        let all = w.all in
        let nobody : length left ≡ 0 = ap (λ (l : List (ℕ × ℕ)). length l) none in
        omega (arith, all, nobody)

    pub can_end : CanStep h p (log_store_plan e Settled (Waiting thread) word (entry.NotifyAll o woken))
    can_end = subst (CanStep h p) (sym as_logged) (can h p e.task last_plan at_end due_at_last refl w.heap w.room refl)

    pub ended : (q : PassSeen) (x : ℕ)
        → HasStepped h p q (log_store_plan e Settled (Waiting thread) word (entry.NotifyAll o woken)) x → HasMadeSteps h d from q woken
    ended q x logged =
        let s : HasStepped h p q last_plan x = subst (λ (y : StepPlan). HasStepped h p q y x) as_logged logged in
        let run : HasMadeSteps h (ask last_plan >>= at_end) p q total = last_step h p q last_plan at_end x total s refl refl in
        subst (λ m. HasMadeSteps h d from q m) all_woken (come_at_last.through q total run)

pub fewer : (o n : ℕ) (words : List ℕ) (p : ℕ × ℕ) → n ≤ length words → first_of (waiting o n words) ≡ Some p
    → length (waiting o n (set words p.0 0)) < length (waiting o n words)
fewer o n words p fits some = let less = one_less o n words p fits some in omega (arith, less.1)

pub nobody : (o n : ℕ) (words : List ℕ) → ((t since : ℕ) → first_of (waiting o n words) ≡ Some (t, since) → ⊥) → waiting o n words ≡ []
nobody o n words none = nobody_in (waiting o n words) none
  where
    nobody_in : (ps : List (ℕ × ℕ)) → ((t since : ℕ) → first_of ps ≡ Some (t, since) → ⊥) → ps ≡ []
    nobody_in [] none = refl
    nobody_in (p ∷ ps) none = absurd (none p.0 p.1 refl)
