-- A thread that by its own log has a hold on an object, and isn't waiting on it, is its plain owner. So a mark that it loads there while it runs, and
-- that says that a lock record has the lock, names this thread.
use Rattle.std.proofs.Common.{◌≡◌, ◌⊎◌, ℕ, ◌<◌, ◌≤◌, ◌==◌, ◌||◌, cond, Bool, true, false, List, []}
use Rattle.std.proofs.Common.{◌∷◌, ◌++◌, Some, Ok, refl, sym, ap, ◌∙◌, subst, arith, inl, inr}
use Rattle.std.proofs.lemmas.Option.{same_Some}
use Rattle.mark_word.specs.declared.mark.MarkForm.TheVariants.{Locked}
use Rattle.mark_word.specs.Mark.{read_mark}
use Rattle.plain_history.specs.HeldByLog.{held_by, nothing_held}
use Rattle.plain_history.proofs.HeldByLog.{holds_by_log}
use Rattle.plain_monitor.specs.declared.entry.Entry.{Entry}
use Rattle.plain_monitor.specs.declared.entry.Logged.{Logged}
use Rattle.plain_monitor.specs.History.{log_of}
use Rattle.plain_monitor.specs.Objects.{PlainObject}
use Rattle.core_world.specs.declared.answer.Progress.{Progress}
use Rattle.core_world.specs.declared.answer.Progress.TheVariants.{Done, Pending}
use Rattle.core_world.specs.declared.word_id.WordId.TheVariants.{Mark}
use Rattle.core_world.specs.declared.plan.LogEffect.{LogEffect}
use Rattle.core_world.specs.declared.plan.LogEffect.TheVariants.{Quiet, Log, LogGet, LogHash}
use Rattle.core_world.specs.declared.heap_call.Operation.TheVariants as op
use Rattle.core_world.specs.declared.heap_call.Unfinished.{Unfinished}
use Rattle.core_world.specs.Clauses.Safepoints.{IsUnfinished}
use Rattle.core_world.specs.Locks.{Lock, lock, holder, hold_count, holds_by_monitor, marks, monitor_of, owner_at, OnRecord, who}
use Rattle.core_world.specs.Steps.{known_hit, known_miss, log_after, unfinished_after, known_along}
use Rattle.core_world.specs.Threads.ThreadView.{ThreadView, StepMade}
use Rattle.core_world.specs.Threads.Stages.{bears}
use Rattle.core_world.specs.Trees.Plans.{CallContext, load}
use Rattle.core_world.specs.Trees.WaitSteps.{publish_plan}
use Rattle.core_world.specs.Valid.{Fits}
use Rattle.core_world.specs.Words.Acts.{hits}
use Rattle.core_world.specs.Words.Forms.{hash_in}
use Rattle.core_world.specs.Words.Shape.{Shape}
use Rattle.core_world.specs.World.{World, logs}
use Rattle.core_world.proofs.KnowledgeParts.{log_at}
use Rattle.core_world.proofs.bias.LookWhileRevoking.{forgotten}
use Rattle.core_world.proofs.enter_exit.ObjectHolds.{thread_is, holds_by_monitor_is}
use Rattle.core_world.proofs.enter_exit.OwnersShown.{lock_by_form, fits_running}
use Rattle.core_law.specs.WholeLaw.{LawsHold}
use Rattle.core_law.specs.Logic.{Heap}
use Rattle.core_calls.specs.Paths.{made, noted, entries_of, left_unfinished, Tells}
use Rattle.core_calls.specs.Woken.{IfDone}
use Rattle.core_calls.proofs.StandsKnown.{thread_along}
use Rattle.heap_table.specs.Ruled.{known_after_steps, Stepped, WereMade}
use Rattle.heap_table.specs.Seen.{HeapSeen, PassSeen, IsOf}
use Rattle.lock_runtime.specs.Locking.{IsOwnLocked}
use Rattle.lock_runtime.specs.Standing.{StandsAfterTurn}
use Rattle.lock_runtime.proofs.LockedPaths.{LoadsLocked}
use Rattle.lock_runtime.proofs.Stands.{after_along}

-- a notify isn't a wait
pub notify_goes : (o : ℕ) → IsUnfinished (Some (record { op = op.Notify; object = o })) op.Wait o → ⊥
notify_goes o waits = cc (ap (λ (x : Unfinished). x.op) (same_Some _ _ waits))

pub notify_all_goes : (o : ℕ) → IsUnfinished (Some (record { op = op.NotifyAll; object = o })) op.Wait o → ⊥
notify_all_goes o waits = cc (ap (λ (x : Unfinished). x.op) (same_Some _ _ waits))

-- IN A WORLD where every clause holds
module _ (w : World) (P : List PlainObject) (t o : ℕ) (fits : Fits w P) (held : 1 ≤ holds_by_monitor (monitor_of P o) t)
    (goes : IsUnfinished (w.known t).unfinished op.Wait o → ⊥) where
  owns_it : owner_at P o t ≡ true
  owns_it = elim (holds_by_monitor_is (monitor_of P o) t held) [
    | inl owns ↦ owns
    | inr listed ↦ absurd (goes (fits.waits.unfinished t o listed))
  ]

  has_it : who w o ≡ Some t
  has_it = thread_is (who w o) t (fits.owners.same o t ∙ ap (λ (b : Bool). b || bears (w.known t).stage o) owns_it)

  locked_by : (u place : ℕ) → read_mark (marks w o) ≡ Some (Locked u place) → u ≡ t
  locked_by u place says =
      let on : lock w o ≡ OnRecord u place = lock_by_form w o (Locked u place) says in
      let shown : who w o ≡ Some u = ap (λ (l : Lock). holder l (λ v. hold_count o (w.known v).holds)) on in
      same_Some u t (sym shown ∙ has_it)

-- ALONG STEPS that log nothing the log stays, and what is unfinished is what they leave so.
none_before : (es fs : List Entry) → es ++ fs ≡ [] → es ≡ []
none_before [] fs h = refl
none_before (e ∷ es) fs h = absurd (cc h)

none_after : (es fs : List Entry) → es ++ fs ≡ [] → fs ≡ []
none_after [] fs h = h
none_after (e ∷ es) fs h = absurd (cc h)

drawn_only : (e : Entry) (b : Bool) (log more : List Logged) → cond b [] (e ∷ []) ≡ [] → cond b log more ≡ log
drawn_only e true log more none = refl
drawn_only e false log more none = absurd (cc none)

note_stays : (note : LogEffect) (n : ℕ) (log : List Logged) → noted note n ≡ [] → log_after note n log ≡ log
note_stays Quiet n log none = refl
note_stays (Log e) n log none = absurd (cc none)
note_stays (LogGet on slot) n log none = absurd (cc none)
note_stays (LogHash on) n log none = drawn_only _ (hash_in n == 0) log _ none

module _ (s : Shape) (start : ℕ) where
  step_log : (m : StepMade) (k : ThreadView) (b : Bool) → cond b (noted m.plan.note m.found) [] ≡ []
      → (cond b (known_hit s start m.plan m.found k) (known_miss s start m.plan m.found k)).log ≡ k.log
  step_log m k true none = note_stays m.plan.note m.found k.log none
  step_log m k false none = refl

  log_along : (ms : List StepMade) (k : ThreadView) → entries_of ms ≡ [] → (known_along s start ms k).log ≡ k.log
  log_along [] k none = refl
  log_along (m ∷ ms) k none =
      step_log m (known_along s start ms k) (hits m.plan.act m.found) (none_after (entries_of ms) _ none)
      ∙ log_along ms k (none_before (entries_of ms) _ none)

  step_unfinished : (m : StepMade) (k : ThreadView) (b : Bool)
      → (cond b (known_hit s start m.plan m.found k) (known_miss s start m.plan m.found k)).unfinished
      ≡ cond b (unfinished_after m.plan.note m.found m.plan.after) k.unfinished
  step_unfinished m k true = refl
  step_unfinished m k false = refl

  unfinished_along : (ms : List StepMade) (k : ThreadView) → (known_along s start ms k).unfinished ≡ left_unfinished ms k.unfinished
  unfinished_along [] k = refl
  unfinished_along (m ∷ ms) k =
      step_unfinished m (known_along s start ms k) (hits m.plan.act m.found)
      ∙ ap (cond (hits m.plan.act m.found) (unfinished_after m.plan.note m.found m.plan.after)) (unfinished_along ms k)

-- THE STEP that loads the mark was made in a sound world.
module _ (heap : Heap) (k : ThreadView) (within : k.thread < heap.shape.threads) (o : ℕ) (held : 1 ≤ held_by nothing_held k.log o)
    (goes : IsUnfinished k.unfinished op.Wait o → ⊥) (runs : k.running ≡ true)
    (e : CallContext) (mark : ℕ) (s : Stepped heap k (load e (Mark o)) mark) where
  abbrev w : World
  w = s.world

  abbrev P : List PlainObject
  P = s.sound.valid.objects

  fits : Fits w P
  fits = fits_running w P k.thread (ap (λ (x : ThreadView). x.running) s.knew ∙ runs) (forgotten LawsHold w P s.sound.valid.is)

  log_there : log_of (logs w) k.thread ≡ k.log
  log_there =
      let there : k.thread < w.shape.threads = subst (λ (x : Heap). k.thread < x.shape.threads) (sym s.is_of) within in
      log_at 0 w.shape.threads k.thread k.thread w.known (omega arith) there ∙ ap (λ (x : ThreadView). x.log) s.knew

  stood_at : 1 ≤ holds_by_monitor (monitor_of P o) k.thread
  stood_at =
      subst (λ n. 1 ≤ n) (sym (holds_by_log w.shape.objects (logs w) P fits.legal fits.taken k.thread o
      ∙ ap (λ (log : List Logged). held_by nothing_held log o) log_there)) held

  found_own : (u place : ℕ) → read_mark mark ≡ Some (Locked u place) → u ≡ k.thread
  found_own u place says =
      locked_by w P k.thread o fits stood_at (λ waits. goes (sym (ap (λ (x : ThreadView). x.unfinished) s.knew) ∙ waits)) u place
      (ap read_mark s.was_there ∙ says)

module _ (h : HeapSeen) (p q : PassSeen) (of_p : IsOf h p) (of_q : IsOf h q) (same : q.known.thread ≡ p.known.thread) (o : ℕ)
    (held : 1 ≤ held_by nothing_held p.known.log o) where
  abbrev heap : Heap
  heap = h.heap

  abbrev t : ℕ
  t = p.known.thread

  -- all steps up to this pass were made in sound worlds, and it knows what they told
  were_made : (ms : List StepMade) → q.known.steps ≡ ms ++ p.known.steps → WereMade heap t (ms ++ p.known.steps)
  were_made ms added = subst (λ (x : List StepMade). WereMade heap t x) added (subst (λ u. WereMade heap u q.known.steps) same of_q.real.made)

  knows_them : (ms : List StepMade) → q.known.steps ≡ ms ++ p.known.steps → q.known ≡ known_along heap.shape heap.start ms p.known
  knows_them ms added =
      of_q.real.is ∙ ap (λ u. known_after_steps heap u q.known.steps) same ∙ ap (known_after_steps heap t) added
      ∙ after_along heap t p.known refl p.known.steps (sym of_p.real.is) ms

  -- so where it runs at the end, the lock record is its own
  pub own_lock : (e : CallContext) → (IsUnfinished e.unfinished op.Wait o → ⊥) → q.known.running ≡ true
      → (ms : List StepMade) → q.known.steps ≡ ms ++ p.known.steps → LoadsLocked e t o ms → IsOwnLocked t o ms
  own_lock e goes runs ms added l =
      let k = known_along heap.shape heap.start l.before p.known in
      let last = made (publish_plan e t l.logged l.published) l.found in
      let loads = made (load e (Mark o)) l.mark in
      let all = last ∷ loads ∷ l.before in
      let were = subst (λ (x : List StepMade). WereMade heap t (x ++ p.known.steps)) l.are (were_made ms added) in
      let s =
      subst (λ (x : ThreadView). Stepped heap x (load e (Mark o)) l.mark)
      (after_along heap t p.known refl p.known.steps (sym of_p.real.is) l.before) were.1.0 in
      let thread : k.thread ≡ t = thread_along heap.shape heap.start l.before p.known in
      let log : k.log ≡ p.known.log = log_along heap.shape heap.start l.before p.known l.silent.entries in
      let unfinished : k.unfinished ≡ e.unfinished =
      unfinished_along heap.shape heap.start l.before p.known ∙ l.silent.unfinished p.known.unfinished in
      let ran_to : q.known ≡ known_along heap.shape heap.start all p.known =
      knows_them ms added ∙ ap (λ (x : List StepMade). known_along heap.shape heap.start x p.known) l.are in
      let goes_there : k.running ≡ true = sym (ap (λ (x : ThreadView). x.running) ran_to) ∙ runs in
      let own : l.thread ≡ k.thread =
      found_own heap k (subst (λ u. u < heap.shape.threads) (sym thread) of_p.within) o
      (subst (λ (x : List Logged). 1 ≤ held_by nothing_held x o) (sym log) held) (λ waits. goes (sym unfinished ∙ waits)) goes_there e l.mark s
      l.thread l.place l.says in
      subst (λ (x : List StepMade). IsOwnLocked t o x) (sym l.are)
      (record { mark = l.mark; thread = l.thread; place = l.place; says = l.says; loaded = inr (inl (refl, refl, refl)) }, own ∙ thread)

  -- what is said of the paths of a call that wakes nobody since a lock record has the lock, or else does what Rest says
  pub owner_tells : {A : Type 0} (e : CallContext) → (IsUnfinished e.unfinished op.Wait o → ⊥) → (nobody : A)
      → (Rest : List StepMade → A → Type 0) (progress : Progress A)
      → StandsAfterTurn q.known progress
      → Tells p.known q.known (λ ms. IfDone (λ ms a. (LoadsLocked e t o ms × (a ≡ nobody)) ⊎ Rest ms a) ms (Ok progress))
      → Tells p.known q.known (λ ms. IfDone (λ ms a. (IsOwnLocked t o ms × (a ≡ nobody)) ⊎ Rest ms a) ms (Ok progress))
  owner_tells e goes nobody Rest (Done a) so tells =
      record {
        steps = tells.steps;
        added = tells.added;
        new = tells.new;
        log = tells.log;
        entries = tells.entries;
        unfinished = tells.unfinished;
        checking = tells.checking;
        says = elim tells.says [
          | inl l ↦ inl (own_lock e goes so.runs tells.steps tells.added l.0, l.1)
          | inr rest ↦ inr rest
        ];
      }
  owner_tells e goes nobody Rest (Pending why) so tells = tells
