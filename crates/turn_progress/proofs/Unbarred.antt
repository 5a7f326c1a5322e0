-- Turns that are not barred, and worlds in which the others don't stand.
use Rattle.std.proofs.Common.{◌≡◌, ◌≢◌, ◌⊎◌, ℕ, ◌+◌, ◌*◌, ◌<◌, ◌≤◌, Bool, true, false, List, ◌++◌, length}
use Rattle.std.proofs.Common.{refl, sym, ap, ◌∙◌, subst, arith, inl, inr, true≢false}
use Rattle.std.proofs.lemmas.List.{append_cancel_left, length-append}
use Rattle.mark_word.specs.Owner.{read_owner}
use Rattle.plain_monitor.specs.Objects.{PlainObject}
use Rattle.plain_monitor.specs.declared.entry.Path.{Path}
use Rattle.core_world.specs.declared.answer.Progress.TheVariants.{Pending}
use Rattle.core_world.specs.declared.answer.PendingCause.{PendingCause}
use Rattle.core_world.specs.declared.answer.PendingCause.TheVariants as why
use Rattle.core_world.specs.declared.heap_call.HeapCall.{HeapCall}
use Rattle.core_world.specs.declared.heap_call.HeapCall.TheVariants as task
use Rattle.core_world.specs.declared.word_id.WordId.TheVariants.{Safepoint, Waiting}
use Rattle.core_world.specs.Locks.{monitor_of}
use Rattle.core_world.specs.Opening.{opening}
use Rattle.core_world.specs.Threads.ThreadView.{ThreadView}
use Rattle.core_world.specs.Words.Forms.{waits_on, is_halted}
use Rattle.core_world.specs.Words.Shape.{IsInLimits}
use Rattle.core_world.specs.World.{World}
use Rattle.core_law.specs.Reached.{IsReachable, opens}
use Rattle.core_steps.specs.SmallWorlds.{small}
use Rattle.heap_table.specs.Seen.{HeapSeen}
use Rattle.solo_progress.specs.Answers.{is_other, is_told, PendsWhere, WaitsWhere, LetsGo}
use Rattle.thread_calls.specs.Advances.{DoneIn}
use Rattle.thread_frame.specs.Frames.{unspent, has_ended}
use Rattle.thread_interp.specs.declared.moved.Moved.{Moved}
use Rattle.thread_interp.specs.declared.moved.RunState.TheVariants.{Live, Blocked}
use Rattle.thread_interp.specs.Moves.{HasMoved, IsState, LastCall}
use Rattle.thread_interp.specs.Runners.{RunnerSeen}
use Rattle.turn_progress.specs.Barred.{Bars, WaitBars, named_by, IsBarred}
use Rattle.turn_progress.specs.Turns.{LiveTurns, OthersStand}
use Rattle.turn_progress.proofs.Barred.{stop_after}
use Rattle.turn_progress.proofs.LastCalls.{done_or_pended}
use Rattle.turn_progress.proofs.Lone.{own_bars}
use Rattle.turn_progress.proofs.Beginning.{heap, runner, limits}
use Rattle.turn_progress.proofs.Steps.{moved_steps}
use Rattle.turn_progress.proofs.Turned.{live_spend}

-- WHERE
-- a barred turn made a step at least, in its last call
steps_grow : {A : Type 0} (stop call earlier own q after before : List A) → q ≡ stop ++ after → after ≡ call ++ before → before ≡ earlier ++ own
    → 1 ≤ length call → length own < length q
steps_grow stop call earlier own q after before a b c some =
    let stopped = ap length a ∙ length-append stop after in
    let called = ap length b ∙ length-append call before in
    let begun = ap length c ∙ length-append earlier own in
    omega (arith, stopped, called, begun, some)

module _ (h : HeapSeen) (w : World) (t : ℕ) (cause : PendingCause) (r q : RunnerSeen) where
  pub still_unbarred : q.pass.known.steps ≡ r.pass.known.steps → IsBarred h w t cause r q → ⊥
  still_unbarred same b =
      let stop = stop_after h b.last.after.known.running b.last.after q.pass b.last.still in
      let s = b.last.called.call.stepped in
      let more = steps_grow stop.steps s.steps b.last.called.earlier r.pass.known.steps q.pass.known.steps b.last.after.known.steps
      b.last.called.before.known.steps stop.added s.added b.last.called.begun s.some in
      let equal = ap length same in
      absurd (omega (arith, more, equal))

  pub elsewhere_unbarred : (w.known t).steps ≢ r.pass.known.steps → IsBarred h w t cause r q → ⊥
  elsewhere_unbarred differ b =
      differ (append_cancel_left b.last.called.earlier (w.known t).steps r.pass.known.steps
      (sym (moved_steps w t b.last.called.earlier b.world b.moves) ∙ ap (λ (k : ThreadView). k.steps) b.knew ∙ b.last.called.begun))

pub not_each_reached : ((h : HeapSeen) (w : World) (t : ℕ) (r q : RunnerSeen) → IsInLimits h.heap.shape → IsReachable h.heap w
    → (why : PendingCause) × IsBarred h w t why r q) → ⊥
not_each_reached each =
    let b = each heap (opening small.shape small.start small.biasing) 0 runner runner limits opens in
    still_unbarred heap (opening small.shape small.start small.biasing) 0 b.0 runner runner refl b.1

pub not_each : ((h : HeapSeen) (w : World) (t : ℕ) (r q : RunnerSeen) → (why : PendingCause) × IsBarred h w t why r q) → ⊥
not_each each = not_each_reached (λ h w t r q limits comes. each h w t r q)

-- BY WHAT, call by call
unowned : (cause : PendingCause) → PendsWhere {A = Path} false (Pending cause) → ⊥
unowned (why.Owned word) h = true≢false (sym h)
unowned cause h = h

told_and_unowned : (cause : PendingCause) → WaitsWhere {A = Unit {0}} true false (Pending cause) → ⊥
told_and_unowned (why.NotNotified word) h = true≢false h
told_and_unowned (why.Owned word) h = true≢false (sym h.1)
told_and_unowned cause h = h

enter_free : (w : World) (P : List PlainObject) (t o now : ℕ) (cause : PendingCause) → is_other (monitor_of P o).owner t ≡ false
    → Bars w P t (task.Enter o now) cause → ⊥
enter_free w P t o now cause free bars = unowned cause (subst (λ b. PendsWhere {A = Path} b (Pending cause)) free bars.0)

wait_free : (waits told owned : Bool) (cause : PendingCause) → waits ≡ true → told ≡ true → owned ≡ false → WaitBars waits told owned cause → ⊥
wait_free waits told owned cause waiting notified free bars =
    told_and_unowned cause
    (subst (λ (x : Bool). WaitsWhere {A = Unit {0}} true x (Pending cause)) free
    (subst (λ (x : Bool). WaitsWhere {A = Unit {0}} x owned (Pending cause)) notified (subst (λ (x : Bool). WaitBars x told owned cause) waiting bars)))

-- only an enter, a wait and a resume have a bar
another_free : (w : World) (P : List PlainObject) (t : ℕ) (job : HeapCall) (cause : PendingCause) → Bars w P t job cause
    → ((o now : ℕ) → job ≢ task.Enter o now) → ((o now : ℕ) → job ≢ task.Wait o now) → job ≢ task.Resume → ⊥
another_free w P t (task.Enter o now) cause bars enters waits resumes = enters o now refl
another_free w P t (task.Wait o now) cause bars enters waits resumes = waits o now refl
another_free w P t task.Resume cause bars enters waits resumes = resumes refl
another_free w P t job cause bars enters waits resumes = bars

-- the bar of the call that was the turn's last
bar_of : (h : HeapSeen) (w : World) (t : ℕ) (cause : PendingCause) (r q : RunnerSeen) (b : IsBarred h w t cause r q) (job : HeapCall)
    → b.last.called.call.task ≡ job → Bars b.world b.objects t job cause
bar_of h w t cause r q b job is = subst (λ (x : HeapCall). Bars b.world b.objects t x cause) is b.bars

module _ (h : HeapSeen) (w : World) (t o now : ℕ) (cause : PendingCause) (r q : RunnerSeen) (b : IsBarred h w t cause r q) where
  pub enter_goes_on : b.last.called.call.task ≡ task.Enter o now → is_other (monitor_of b.objects o).owner t ≡ false → ⊥
  enter_goes_on is free = enter_free b.world b.objects t o now cause free (bar_of h w t cause r q b (task.Enter o now) is)

  pub wait_goes_on : b.last.called.call.task ≡ task.Wait o now → waits_on (b.world.known t).wait o ≡ true
      → is_told (b.world.words (Waiting t)) ≡ true → is_other (monitor_of b.objects o).owner t ≡ false → ⊥
  wait_goes_on is waits told free =
      wait_free (waits_on (b.world.known t).wait o) (is_told (b.world.words (Waiting t))) (is_other (monitor_of b.objects o).owner t) cause
      waits told free (bar_of h w t cause r q b (task.Wait o now) is).0

module _ (h : HeapSeen) (w : World) (t : ℕ) (cause : PendingCause) (r q : RunnerSeen) (b : IsBarred h w t cause r q) where
  pub resume_goes_on : b.last.called.call.task ≡ task.Resume → is_halted (b.world.words Safepoint) ≡ false → ⊥
  resume_goes_on is on = true≢false (sym (bar_of h w t cause r q b task.Resume is).1 ∙ on)

  pub another_goes_on : ((o now : ℕ) → b.last.called.call.task ≢ task.Enter o now) → ((o now : ℕ) → b.last.called.call.task ≢ task.Wait o now)
      → b.last.called.call.task ≢ task.Resume → ⊥
  another_goes_on enters waits resumes = another_free b.world b.objects t b.last.called.call.task cause b.bars enters waits resumes

-- FOR WHAT. These causes bar no call.
abbrev is_bar : PendingCause → Bool
is_bar (why.Owned word) = true
is_bar (why.NotNotified word) = true
is_bar why.Halted = true
is_bar cause = false

pends_bar : (cause : PendingCause) (owned : Bool) → PendsWhere {A = Path} owned (Pending cause) → is_bar cause ≡ true
pends_bar (why.Owned word) owned h = refl
pends_bar cause owned h = absurd h

waits_bar : (cause : PendingCause) (told owned : Bool) → WaitsWhere {A = Unit {0}} told owned (Pending cause) → is_bar cause ≡ true
waits_bar (why.NotNotified word) told owned h = refl
waits_bar (why.Owned word) told owned h = refl
waits_bar cause told owned h = absurd h

lets_go_bar : (cause : PendingCause) → LetsGo {A = Unit {0}} (Pending cause) → is_bar cause ≡ true
lets_go_bar (why.NotNotified word) h = refl
lets_go_bar cause h = absurd h

wait_bar : (cause : PendingCause) (waits told owned : Bool) → WaitBars waits told owned cause → is_bar cause ≡ true
wait_bar cause false told owned h = lets_go_bar cause h
wait_bar cause true told owned h = waits_bar cause told owned h

only_bars : (w : World) (P : List PlainObject) (t : ℕ) (job : HeapCall) (cause : PendingCause) → Bars w P t job cause → is_bar cause ≡ true
only_bars w P t (task.Enter o now) cause bars = pends_bar cause (is_other (monitor_of P o).owner t) bars.0
only_bars w P t (task.Wait o now) cause bars =
    wait_bar cause (waits_on (w.known t).wait o) (is_told (w.words (Waiting t))) (is_other (monitor_of P o).owner t) bars.0
only_bars w P t task.Resume cause bars = ap is_bar bars.0
only_bars w P t job cause bars = absurd bars

no_bar : (h : HeapSeen) (w : World) (t : ℕ) (cause : PendingCause) (r q : RunnerSeen) → is_bar cause ≡ false → IsBarred h w t cause r q → ⊥
no_bar h w t cause r q none b = true≢false (sym (only_bars b.world b.objects t b.last.called.call.task cause b.bars) ∙ none)

pub never_raced : (h : HeapSeen) (w : World) (t expected found : ℕ) (r q : RunnerSeen) → IsBarred h w t (why.Raced expected found) r q → ⊥
never_raced h w t expected found r q = no_bar h w t (why.Raced expected found) r q refl

pub never_inflating : (h : HeapSeen) (w : World) (t : ℕ) (r q : RunnerSeen) → IsBarred h w t why.Inflating r q → ⊥
never_inflating h w t r q = no_bar h w t why.Inflating r q refl

pub never_stopping : (h : HeapSeen) (w : World) (t word : ℕ) (r q : RunnerSeen) → IsBarred h w t (why.Stopping word) r q → ⊥
never_stopping h w t word r q = no_bar h w t (why.Stopping word) r q refl

pub never_requested : (h : HeapSeen) (w : World) (t word : ℕ) (r q : RunnerSeen) → IsBarred h w t (why.Requested word) r q → ⊥
never_requested h w t word r q = no_bar h w t (why.Requested word) r q refl

pub never_begins : (h : HeapSeen) (w : World) (t o now word : ℕ) (r q : RunnerSeen) (b : IsBarred h w t (why.Owned word) r q)
    → b.last.called.call.task ≡ task.Wait o now → waits_on (b.world.known t).wait o ≡ false → ⊥
never_begins h w t o now word r q b is begins =
    subst (λ (x : Bool). WaitBars x (is_told (b.world.words (Waiting t))) (is_other (monitor_of b.objects o).owner t) (why.Owned word)) begins
    (bar_of h w t (why.Owned word) r q b (task.Wait o now) is).0

-- an owner word that names another thread than the plain owner
pub never_enters : (h : HeapSeen) (w : World) (t o now word : ℕ) (r q : RunnerSeen) (b : IsBarred h w t (why.Owned word) r q)
    → b.last.called.call.task ≡ task.Enter o now → named_by (read_owner word) ≢ (monitor_of b.objects o).owner → ⊥
never_enters h w t o now word r q b is differ = differ (bar_of h w t (why.Owned word) r q b (task.Enter o now) is).1

pub never_waits : (h : HeapSeen) (w : World) (t o now word : ℕ) (r q : RunnerSeen) (b : IsBarred h w t (why.Owned word) r q)
    → b.last.called.call.task ≡ task.Wait o now → named_by (read_owner word) ≢ (monitor_of b.objects o).owner → ⊥
never_waits h w t o now word r q b is differ = differ (bar_of h w t (why.Owned word) r q b (task.Wait o now) is).1

-- WHOSE LAST CALL was done
pub did_its_call : (h : HeapSeen) (w : World) (t : ℕ) (cause : PendingCause) (r q : RunnerSeen) (last : LastCall (DoneIn h) h r.pass q.pass)
    → last.called.call.task ≢ task.Stop → IsBarred h w t cause r q → ⊥
did_its_call h w t cause r q last acts b = done_or_pended h r.pass q.pass cause last b.last acts

-- LIVE TURNS
pub live_goes_on : (h : HeapSeen) (quantum t : ℕ) (w : World) (r q : RunnerSeen) (m : Moved) → HasMoved h quantum r q m → m.state ≡ Live
    → (has_ended q.frame ≡ true) ⊎ ((why : PendingCause) × (m.state ≡ Blocked why) × IsBarred h w t why r q) → ⊥
live_goes_on h quantum t w r q m moved live ends = elim ends [
  | inl ended ↦ true≢false (sym ended ∙ (subst (IsState h quantum m.instructions r.pass q) live moved.state).1)
  | inr barred ↦ other barred.0 (sym live ∙ barred.1)
]
  where
    other : (cause : PendingCause) → Live ≡ Blocked cause → ⊥
    other cause e = absurd (cc e)

pub fewer_spend_less : (h : HeapSeen) (quantum : ℕ) (r q : RunnerSeen) (m : Moved) → HasMoved h quantum r q m → m.instructions < quantum
    → unspent r.frame ≡ unspent q.frame + 1 * quantum → ⊥
fewer_spend_less h quantum r q m moved few spent = absurd (omega (arith, few, spent, moved.spent))

pub more_need_fuel : (h : HeapSeen) (quantum n : ℕ) (r q : RunnerSeen) → unspent r.frame < n * quantum → LiveTurns h quantum r n q → ⊥
more_need_fuel h quantum n r q few turns = let spent = live_spend h quantum r n q turns in absurd (omega (arith, few, spent))

-- THE OTHERS
pub no_other_runs : (w : World) (t u : ℕ) → u ≢ t → (w.known u).running ≡ true → OthersStand w t → ⊥
no_other_runs w t u differ runs o = true≢false (sym runs ∙ o.stopped u differ)

pub no_other_asks : (w : World) (t u : ℕ) → u ≢ t → (w.known u).requesting ≡ true → OthersStand w t → ⊥
no_other_asks w t u differ asks o = true≢false (sym asks ∙ o.unasked u differ)

pub no_thread : (w : World) (t : ℕ) → w.shape.threads ≤ t → OthersStand w t → ⊥
no_thread w t out o = absurd (omega (arith, out, o.within))

-- BY ITSELF
by_no_owner : (word safe : ℕ) → LetsGo {A = Unit {0}} (Pending (why.Owned word)) ⊎ ((why.Owned word ≡ why.Halted) × (is_halted safe ≡ true)) → ⊥
by_no_owner word safe h = elim h [
  | inl none ↦ none
  | inr halt ↦ absurd (cc halt.0)
]

pub no_owner_bars : (h : HeapSeen) (w : World) (word : ℕ) (r q : RunnerSeen) → IsInLimits h.heap.shape → h.heap.shape.threads ≡ 1 → IsReachable h.heap w
    → IsBarred h w 0 (why.Owned word) r q → ⊥
no_owner_bars h w word r q limits one comes b =
    by_no_owner word (b.world.words Safepoint) (own_bars h w (why.Owned word) r q b limits one comes)

-- the halt bars only a resume, where the run is halted
wait_unhalted : (waits told owned : Bool) → WaitBars waits told owned why.Halted → ⊥
wait_unhalted false told owned bars = bars
wait_unhalted true told owned bars = bars

halts_only : (w : World) (P : List PlainObject) (t : ℕ) (job : HeapCall) → Bars w P t job why.Halted → is_halted (w.words Safepoint) ≡ true
halts_only w P t (task.Enter o now) bars = absurd bars.0
halts_only w P t (task.Wait o now) bars =
    absurd (wait_unhalted (waits_on (w.known t).wait o) (is_told (w.words (Waiting t))) (is_other (monitor_of P o).owner t) bars.0)
halts_only w P t task.Resume bars = bars.1
halts_only w P t job bars = absurd bars

pub no_halt_bars : (h : HeapSeen) (w : World) (r q : RunnerSeen) (b : IsBarred h w 0 why.Halted r q)
    → is_halted (b.world.words Safepoint) ≡ false → ⊥
no_halt_bars h w r q b on = true≢false (sym (halts_only b.world b.objects 0 b.last.called.call.task b.bars) ∙ on)
