-- A heap of one thread: in each world to which it comes there is no other thread that runs, asks or owns an object.
use Rattle.std.proofs.Common.{◌≡◌, ◌≢◌, ◌⊎◌, ℕ, not, Bool, true, false, List, Option, Some, None}
use Rattle.std.proofs.Common.{refl, sym, ap, ◌∙◌, subst, arith, inl, inr, eq-eqb, true≢false}
use Rattle.std.proofs.lemmas.Option.{same_Some}
use Rattle.plain_monitor.specs.History.{objects_after}
use Rattle.plain_monitor.specs.Limits.{most_holds}
use Rattle.plain_monitor.specs.Monitor.{is_thread, owns}
use Rattle.plain_monitor.specs.Objects.{PlainObject}
use Rattle.plain_monitor.specs.declared.entry.Path.{Path}
use Rattle.core_world.specs.declared.answer.Progress.TheVariants.{Pending}
use Rattle.core_world.specs.declared.answer.PendingCause.{PendingCause}
use Rattle.core_world.specs.declared.answer.PendingCause.TheVariants.{Owned, NotNotified, Halted}
use Rattle.core_world.specs.declared.word_id.WordId.TheVariants.{Safepoint, Waiting}
use Rattle.core_world.specs.declared.heap_call.HeapCall.{HeapCall}
use Rattle.core_world.specs.declared.heap_call.HeapCall.TheVariants as task
use Rattle.core_world.specs.Locks.{monitor_of, hold_count}
use Rattle.core_world.specs.Opening.{first_known}
use Rattle.core_world.specs.Steps.{known_after}
use Rattle.core_world.specs.Threads.ThreadView.{ThreadView}
use Rattle.core_world.specs.Valid.{Fits, IsValid}
use Rattle.core_world.specs.Words.Forms.{waits_on, is_halted}
use Rattle.core_world.specs.Words.Shape.{Shape, IsInLimits}
use Rattle.core_world.specs.World.{World, logs}
use Rattle.core_world.proofs.Counting.{named_none}
use Rattle.core_world.proofs.KnowledgeParts.{by_equal, with_known_else}
use Rattle.core_world.proofs.bias.LookWhileRevoking.{forgotten}
use Rattle.core_world.proofs.enter_exit.ObjectHolds.{sound, owner_stands}
use Rattle.core_world.proofs.RefusedWorlds.{revoking_logs}
use Rattle.core_law.specs.Logic.{Heap}
use Rattle.core_law.specs.Reached.{IsReachable, opens, moves}
use Rattle.core_law.specs.WholeLaw.{LawsHold}
use Rattle.core_steps.proofs.ReachedWorlds.{reached_worlds_valid}
use Rattle.heap_table.specs.Seen.{HeapSeen}
use Rattle.thread_interp.specs.Runners.{RunnerSeen}
use Rattle.solo_progress.specs.Answers.{is_other, is_told, PendsWhere, WaitsWhere, LetsGo}
use Rattle.solo_progress.proofs.Mids.{moved_comes}
use Rattle.turn_progress.specs.Barred.{Bars, WaitBars, IsBarred}
use Rattle.turn_progress.specs.Turns.{OthersStand}
use Rattle.turn_progress.proofs.Steps.{same_heap}

threads_in : (heap : Heap) (w : World) → IsReachable heap w → heap.shape.threads ≡ 1 → w.shape.threads ≡ 1
threads_in heap w c one = ap (λ (h : Heap). h.shape.threads) (same_heap heap w c) ∙ one

no_other : (heap : Heap) (w : World) → heap.shape.threads ≡ 1 → IsReachable heap w → (u : ℕ) → u ≢ 0 → w.known u ≡ first_known u
no_other heap w one opens u d = refl
no_other heap w one (moves v t p before within next) u d =
    let few = threads_in heap v before one in
    let only : t ≡ 0 = omega (arith, within, few) in
    with_known_else t (known_after v.shape v.start p (v.words p.at) (v.known t)) v.known u (λ e. d (e ∙ only))
    ∙ no_other heap v one before u d

pub lone_others : (heap : Heap) (w : World) → heap.shape.threads ≡ 1 → IsReachable heap w → OthersStand w 0
lone_others heap w one c =
    let few = threads_in heap w c one in
    record {
      within = omega (arith, few);
      stopped = λ u d. ap (λ (k : ThreadView). k.running) (no_other heap w one c u d);
      unasked = λ u d. ap (λ (k : ThreadView). k.requesting) (no_other heap w one c u d);
    }

-- who owns an object holds it, so that it isn't another thread
unowned_else : (w : World) (P : List PlainObject) → Fits w P → w.shape.threads ≡ 1 → (o : ℕ) → is_other (monitor_of P o).owner 0 ≡ false
unowned_else w P fits one o = by_owner (monitor_of P o).owner refl
  where
    by_owner : (a : Option ℕ) → (monitor_of P o).owner ≡ a → is_other a 0 ≡ false
    by_owner None is = refl
    by_owner (Some u) is =
        by_equal u 0 (λ e. ap not (eq-eqb u 0 e))
        (λ d.
        let has : owns (monitor_of P o) u ≡ true = ap (λ a. is_thread a u) is ∙ eq-eqb u u refl in
        let stands = owner_stands (monitor_of P o) u (sound w P fits o) has in
        let none : hold_count o (w.known u).holds ≡ 0 =
        ap (λ (k : ThreadView). hold_count o k.holds) (fits.absent u (omega (arith, one, d))) ∙ named_none o most_holds in
        let number = fits.holds.number u o in
        absurd (omega (arith, stands, none, number)))

-- so it is in each valid world
module _ (w : World) (P : List PlainObject) (valid : IsValid w P) where
  taken_of : objects_after w.shape.objects (logs w) ≡ Some P
  taken_of = elim valid [
    | inl fits ↦ fits.taken
    | inr s ↦ (λ i. objects_after (s.shape i).objects (revoking_logs w P s i)) ∙ s.fits.taken
  ]

  unowned_valid : w.shape.threads ≡ 1 → (o : ℕ) → is_other (monitor_of P o).owner 0 ≡ false
  unowned_valid one o = elim valid [
    | inl fits ↦ unowned_else w P fits one o
    | inr s ↦ unowned_else s.before P s.fits (ap (λ (x : Shape). x.threads) (sym s.shape) ∙ one) o
  ]

-- WHAT BARS such a thread
no_owner : (why : PendingCause) → PendsWhere {A = Path} false (Pending why) → ⊥
no_owner (Owned word) h = true≢false (sym h)
no_owner why h = h

for_notify : (why : PendingCause) (told owned : Bool) → owned ≡ false → WaitsWhere {A = Unit {0}} told owned (Pending why) → LetsGo {A = Unit {0}} (Pending why)
for_notify (NotNotified word) told owned free h = tt
for_notify (Owned word) told owned free h = absurd (true≢false (sym h.1 ∙ free))
for_notify why told owned free h = absurd h

own_wait : (waits told owned : Bool) (why : PendingCause) → owned ≡ false → WaitBars waits told owned why → LetsGo {A = Unit {0}} (Pending why)
own_wait false told owned why free h = h
own_wait true told owned why free h = for_notify why told owned free h

own_bar : (x : World) (P : List PlainObject) (job : HeapCall) (why : PendingCause) → ((o : ℕ) → is_other (monitor_of P o).owner 0 ≡ false) → Bars x P 0 job why
    → LetsGo {A = Unit {0}} (Pending why) ⊎ ((why ≡ Halted) × (is_halted (x.words Safepoint) ≡ true))
own_bar x P (task.Enter o now) why free bars = absurd (no_owner why (subst (λ b. PendsWhere {A = Path} b (Pending why)) (free o) bars.0))
own_bar x P (task.Wait o now) why free bars =
    inl (own_wait (waits_on (x.known 0).wait o) (is_told (x.words (Waiting 0))) (is_other (monitor_of P o).owner 0) why (free o) bars.0)
own_bar x P task.Resume why free bars = inr bars
own_bar x P job why free bars = absurd bars

pub own_bars : (h : HeapSeen) (w : World) (why : PendingCause) (r q : RunnerSeen) (b : IsBarred h w 0 why r q) → IsInLimits h.heap.shape
    → h.heap.shape.threads ≡ 1 → IsReachable h.heap w
    → LetsGo {A = Unit {0}} (Pending why) ⊎ ((why ≡ Halted) × (is_halted (b.world.words Safepoint) ≡ true))
own_bars h w why r q b limits one c =
    let few = threads_in h.heap w c one in
    let comes_x : IsReachable h.heap b.world = moved_comes h.heap w 0 b.last.called.earlier b.world (omega (arith, few)) c b.moves in
    let v = reached_worlds_valid h.heap b.world limits comes_x in
    let valid : IsValid b.world v.objects = forgotten LawsHold b.world v.objects v.is in
    let same : v.objects ≡ b.objects = same_Some v.objects b.objects (sym (taken_of b.world v.objects valid) ∙ b.history) in
    own_bar b.world b.objects b.last.called.call.task why
    (λ o. subst (λ P. is_other (monitor_of P o).owner 0 ≡ false) same (unowned_valid b.world v.objects valid (threads_in h.heap b.world comes_x one) o))
    b.bars
