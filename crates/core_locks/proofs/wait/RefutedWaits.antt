-- Steps that would notify, resume or halt, and lead to no valid world.
use Rattle.core_locks.proofs.Prelude.{◌≡◌, ◌≢◌, ℕ, ◌+◌, ◌<◌, ◌==◌, ◌&&◌, ◌||◌, ne_eqb, nat_tests, Bool, true, false, cond, List, [], ◌∷◌, ◌++◌}
use Rattle.core_locks.proofs.Prelude.{length, Option, Some, None, refl, sym, ap, ◌∙◌, subst, arith, inl, inr, is_listed, owns, PlainObject, Logged}
use Rattle.core_locks.proofs.Prelude.{Safepoint, Mark, Stamp, Waiting, Length, Recursions, StepPlan, Settled, Resumes, waits_on, stamp_in, is_halted}
use Rattle.core_locks.proofs.Prelude.{monitor_in, bears, recursions_ahead, recursions_lowered, ThreadView, World, with_word_and_known, logs}
use Rattle.core_locks.proofs.Prelude.{OnRecord, OwnedBy, lock, displaced_words, owner_words, who, holder, hold_count, recursion_count, monitor_of}
use Rattle.core_locks.proofs.Prelude.{owner_at, waits_at, CallContext, swap, logging_plan, world_after, Fits, IsValid, by_equal, with_known_here}
use Rattle.core_locks.proofs.Prelude.{each_with_known, same_Some, thread_is, word_after, or-true, max, OwnerForm, Free, ByThread, ByRecord, Notified}
use Rattle.core_locks.proofs.Prelude.{read_owner, wait_of, read_safe-safe_of, Wait, Notify, NotifyAll, Resume, calls, only_if, with_monitor}
use Rattle.core_locks.proofs.Prelude.{objects_after, last_stamp, Load, Store, halted_form, local_of, owner_lock, next_stamp, IsHeldUp, ends}
use Rattle.core_locks.proofs.Prelude.{reached_word, halted_word, known_miss, SafepointFits, Valid, is_older, WaitsLongerThan, StandByStamps}
use Rattle.core_locks.proofs.Prelude.{last_entry, AllByRecursion, logs_stay, running_fits, with_word_there, same_number}
use Rattle.plain_monitor.specs.Monitor.{notify, notify_all}
use Rattle.core_world.proofs.RefusedWorlds.{revoking_logs}
use Rattle.core_locks.proofs.Logging.{last_entry_more}
use Rattle.core_locks.proofs.monitor.OwnerTurns.{rest_again}
use Rattle.core_locks.proofs.monitor.RefutedOwners.{lock_by_owner}
use Rattle.core_locks.proofs.enter_exit.RefutedOwning.{owns_it, takes_it}
use Rattle.core_locks.proofs.RefutedSteps.{knows, hit, swap_hits, hit_fits}
use Rattle.core_locks.proofs.RefutedTaken.{taken_here, object_before, object_after}
use Rattle.core_locks.proofs.wait.TellLists.{in_tail}

-- NOTIFY. A monitor's owner calls the first of those who wait.
called_first : (x y : PlainObject) (t u : ℕ) → owns x.monitor t ≡ true → with_monitor x (notify x.monitor t (Some u)) ≡ Some y
    → (p : ℕ × ℕ) × (ps : List (ℕ × ℕ)) × (x.monitor.waits ≡ p ∷ ps) × (p.0 ≡ u)
called_first x y t u owner taken =
    by_waits x.monitor.waits refl (ap (λ (b : Bool). with_monitor x (cond b (calls x.monitor x.monitor.waits (Some u)) None)) (sym owner) ∙ taken)
  where
    by_waits : (ps : List (ℕ × ℕ)) → x.monitor.waits ≡ ps → with_monitor x (calls x.monitor ps (Some u)) ≡ Some y
        → (p : ℕ × ℕ) × (qs : List (ℕ × ℕ)) × (x.monitor.waits ≡ p ∷ qs) × (p.0 ≡ u)
    by_waits [] e h = absurd (cc h)
    by_waits (p ∷ ps) e h = by_test (p.0 == u) refl h
      where
        by_test : (b : Bool) → (p.0 == u) ≡ b → with_monitor x (only_if b (record x.monitor { waits = ps; called = x.monitor.called ++ p ∷ [] })) ≡ Some y
            → (p : ℕ × ℕ) × (qs : List (ℕ × ℕ)) × (x.monitor.waits ≡ p ∷ qs) × (p.0 ≡ u)
        by_test true f g = (p, ps, e, grind (arith, nat_tests))
        by_test false f g = absurd (cc g)

-- each further one that waits has waited less long than the first
younger : (f : ℕ → ℕ) (o : ℕ) (p : ℕ × ℕ) (ps : List (ℕ × ℕ)) (z : ℕ) → AllByRecursion (WaitsLongerThan f o p) ps
    → is_listed ps z ≡ true → waits_on (f p.0) o ≡ true → waits_on (f z) o ≡ true
    → is_older (p.0, stamp_in (f p.0)) (z, stamp_in (f z)) ≡ true
younger f o p [] z a listed waits also = absurd (cc listed)
younger f o p (q ∷ qs) z a listed waits also = by_equal q.0 z
    (λ e. subst (λ i. is_older (p.0, stamp_in (f p.0)) (i, stamp_in (f i)) ≡ true) e (a.0 waits (ap (λ i. waits_on (f i) o) e ∙ also)))
    (λ d. younger f o p qs z a.1 (in_tail q qs z d listed) waits also)

one_is_older : (a b s r : ℕ) → is_older (a, s) (b, r) ≡ true → is_older (b, r) (a, s) ≡ true → ⊥
one_is_older a b s r h k = grind (arith, nat_tests)

none_is_older : (f : ℕ → ℕ) (o u z : ℕ) (ps qs : List (ℕ × ℕ)) (p : ℕ × ℕ) → ps ≡ p ∷ qs → p.0 ≡ u
    → StandByStamps f o ps → is_listed ps z ≡ true → waits_on (f u) o ≡ true → waits_on (f z) o ≡ true
    → is_older (z, stamp_in (f z)) (u, stamp_in (f u)) ≡ true → ⊥
none_is_older f o u z ps qs p is first sorted listed waits also older = by_equal p.0 z
    (λ e. (let same : u ≡ z = sym first ∙ e in
    let self = subst (λ i. is_older (z, stamp_in (f z)) (i, stamp_in (f i)) ≡ true) same older in one_is_older z z (stamp_in (f z)) (stamp_in (f z)) self self))
    (λ d.
    let stands = subst (StandByStamps f o) is sorted in
    let tail = in_tail p qs z d (ap (λ xs. is_listed xs z) (sym is) ∙ listed) in
    let young = subst (λ i. is_older (i, stamp_in (f i)) (z, stamp_in (f z)) ≡ true) first
    (younger f o p qs z stands.0 tail (ap (λ i. waits_on (f i) o) first ∙ waits) also) in
    one_is_older z u (stamp_in (f z)) (stamp_in (f u)) older young)

pub no_notify_of_a_later_waiter : (w : World) (o t u z : ℕ) (e : CallContext) (v : Valid w)
    → (w.known t).running ≡ true → waits_on (w.words (Waiting u)) o ≡ true
    → waits_on (w.words (Waiting z)) o ≡ true → is_older (z, stamp_in (w.words (Waiting z))) (u, stamp_in (w.words (Waiting u))) ≡ true
    → Valid (world_after (logging_plan (Notify o (Some u)) e (Waiting u) (Store (wait_of (Notified o)))) t w) → ⊥
no_notify_of_a_later_waiter w o t u z e v runs waits also older valid =
    let plan : StepPlan = logging_plan (Notify o (Some u)) e (Waiting u) (Store (wait_of (Notified o))) in
    let before = running_fits w v t runs in
    let a = hit_fits plan t w refl runs valid in
    let y : Logged = record { stamp = next_stamp (local_of (w.known t)); entry = Notify o (Some u) } in
    let owner = owns_it w v.objects a.0 (Waiting u) (wait_of (Notified o)) t o (knows plan t w) y runs refl refl (same_number o) before a.1 in
    let taken = takes_it w v.objects a.0 (Waiting u) (wait_of (Notified o)) t o (knows plan t w) y runs refl refl (same_number o) before a.1 in
    let here = taken_here v.objects a.0 t o (Notify o (Some u)) refl taken in
    let is = object_before v.objects a.0 t o (Notify o (Some u)) here in
    let first = called_first here.x here.y t u (ap (λ k. owns k.monitor t) (sym is) ∙ owner) here.step in
    none_is_older (λ i. w.words (Waiting i)) o u z (waits_at v.objects o) first.1 first.0
    (ap (λ k. k.monitor.waits) is ∙ first.2) first.3 (before.waits.sorted o) (before.waits.waiter z o also) waits also older

-- It calls nobody only where nobody waits.
nobody_called : (x y : PlainObject) (t : ℕ) → owns x.monitor t ≡ true → with_monitor x (notify x.monitor t None) ≡ Some y → x.monitor.waits ≡ []
nobody_called x y t owner taken =
    by_waits x.monitor.waits refl (ap (λ (b : Bool). with_monitor x (cond b (calls x.monitor x.monitor.waits None) None)) (sym owner) ∙ taken)
  where
    by_waits : (ps : List (ℕ × ℕ)) → x.monitor.waits ≡ ps → with_monitor x (calls x.monitor ps None) ≡ Some y → x.monitor.waits ≡ []
    by_waits [] e h = e
    by_waits (p ∷ ps) e h = absurd (cc h)

pub no_notify_of_nobody : (w : World) (o t z n : ℕ) (e : CallContext) → Valid w → (w.known t).running ≡ true
    → waits_on (w.words (Waiting z)) o ≡ true → Valid (world_after (logging_plan (Notify o None) e (Length t) (Store n)) t w) → ⊥
no_notify_of_nobody w o t z n e v runs waits valid =
    let plan : StepPlan = logging_plan (Notify o None) e (Length t) (Store n) in
    let before = running_fits w v t runs in
    let a = hit_fits plan t w refl runs valid in
    let y : Logged = record { stamp = next_stamp (local_of (w.known t)); entry = Notify o None } in
    let owner = owns_it w v.objects a.0 (Length t) n t o (knows plan t w) y runs refl refl (same_number o) before a.1 in
    let taken = takes_it w v.objects a.0 (Length t) n t o (knows plan t w) y runs refl refl (same_number o) before a.1 in
    let here = taken_here v.objects a.0 t o (Notify o None) refl taken in
    let is = object_before v.objects a.0 t o (Notify o None) here in
    let empty = ap (λ k. k.monitor.waits) is ∙ nobody_called here.x here.y t (ap (λ k. owns k.monitor t) (sym is) ∙ owner) here.step in
    absurd (cc (sym (before.waits.waiter z o waits) ∙ ap (λ ps. is_listed ps z) empty))

-- NOTIFYALL. After it nobody waits.
nobody_left : (x y : PlainObject) (t n : ℕ) → with_monitor x (notify_all x.monitor t n) ≡ Some y → y.monitor.waits ≡ []
nobody_left x y t n taken = by_test (owns x.monitor t && (length x.monitor.waits == n)) taken
  where
    by_test : (b : Bool) → with_monitor x (only_if b (record x.monitor { waits = []; called = x.monitor.called ++ x.monitor.waits }))
        ≡ Some y → y.monitor.waits ≡ []
    by_test true h = ap (λ k. k.monitor.waits) (sym (same_Some _ _ h))
    by_test false h = absurd (cc h)

pub no_notify_all_that_misses_one : (w : World) (o t u z n : ℕ) (e : CallContext) (v : Valid w)
    → (w.known t).running ≡ true → z ≢ u → waits_on (w.words (Waiting z)) o ≡ true
    → Valid (world_after (logging_plan (NotifyAll o n) e (Waiting u) (Store (wait_of (Notified o)))) t w) → ⊥
no_notify_all_that_misses_one w o t u z n e v runs other waits valid =
    let plan : StepPlan = logging_plan (NotifyAll o n) e (Waiting u) (Store (wait_of (Notified o))) in
    let before = running_fits w v t runs in
    let a = hit_fits plan t w refl runs valid in
    let y : Logged = record { stamp = next_stamp (local_of (w.known t)); entry = NotifyAll o n } in
    let taken = takes_it w v.objects a.0 (Waiting u) (wait_of (Notified o)) t o (knows plan t w) y runs refl refl (same_number o) before a.1 in
    let here = taken_here v.objects a.0 t o (NotifyAll o n) refl taken in
    let empty : waits_at a.0 o ≡ [] =
    ap (λ k. k.monitor.waits) (object_after v.objects a.0 t o (NotifyAll o n) here) ∙ nobody_left here.x here.y t n here.step in
    let word : (hit plan t w).words (Waiting z) ≡ w.words (Waiting z) =
    ap (λ (b : Bool). cond b (wait_of (Notified o)) (w.words (Waiting z))) (ne_eqb z u other) in
    let listed = a.1.waits.waiter z o (ap (λ k. waits_on k o) word ∙ waits) in
    absurd (cc (sym listed ∙ ap (λ ps. is_listed ps z) empty))

pub no_notify_all_of_nobody : (w : World) (o t z n m : ℕ) (e : CallContext) → Valid w → (w.known t).running ≡ true → waits_on (w.words (Waiting z)) o ≡ true
    → Valid (world_after (logging_plan (NotifyAll o m) e (Length t) (Store n)) t w) → ⊥
no_notify_all_of_nobody w o t z n m e v runs waits valid =
    let plan : StepPlan = logging_plan (NotifyAll o m) e (Length t) (Store n) in
    let before = running_fits w v t runs in
    let a = hit_fits plan t w refl runs valid in
    let y : Logged = record { stamp = next_stamp (local_of (w.known t)); entry = NotifyAll o m } in
    let taken = takes_it w v.objects a.0 (Length t) n t o (knows plan t w) y runs refl refl (same_number o) before a.1 in
    let here = taken_here v.objects a.0 t o (NotifyAll o m) refl taken in
    let empty : waits_at a.0 o ≡ [] =
    ap (λ k. k.monitor.waits) (object_after v.objects a.0 t o (NotifyAll o m) here) ∙ nobody_left here.x here.y t m here.step in
    absurd (cc (sym (a.1.waits.waiter z o waits) ∙ ap (λ ps. is_listed ps z) empty))

-- RESUME. The recursions are those that the wait saved.
module _ (w : World) (P Q : List PlainObject) (o m n t : ℕ) (l : ThreadView) (stage : (w.known t).stage ≡ Resumes o)
    (calm : l.stage ≡ Settled) (own : l.holds ≡ (w.known t).holds) (names : monitor_in (w.words (Mark o)) ≡ Some m) (before : Fits w P)
    (afterwards : Fits (with_word_and_known (Stamp o) n t l w) Q) where
  abbrev x : World
  x = with_word_and_known (Stamp o) n t l w

  here : x.known t ≡ l
  here = with_known_here t l w.known

  saved_is : (w.known t).saved ≡ recursion_count o (displaced_words x t) (x.known t).holds
  saved_is = before.recursions.waiting o t (inr (before.waits.resuming t o stage))
      ∙ ap (recursion_count o (displaced_words w t)) (sym own) ∙ ap (λ k. recursion_count o (displaced_words w t) k.holds) (sym here)

  has : who w o ≡ Some t
  has = thread_is (who w o) t (before.owners.same o t ∙ ap (λ s. owner_at P o t || bears s o) stage
      ∙ ap (λ b. owner_at P o t || b) (same_number o) ∙ or-true (owner_at P o t))

  now_calm : (x.known t).stage ≡ Settled
  now_calm = ap (λ k. k.stage) here ∙ calm

  count_is : w.words (Recursions m) ≡ (w.known t).saved
  count_is = by_form (read_owner (owner_words w m)) refl
    where
      who_is : (f : Option OwnerForm) → read_owner (owner_words w m) ≡ f → holder (owner_lock f) (λ z. hold_count o (w.known z).holds) ≡ Some t
      who_is f r = ap (λ k. holder k (λ z. hold_count o (w.known z).holds)) (sym (lock_by_owner w o m names ∙ ap owner_lock r)) ∙ has

      by_form : (f : Option OwnerForm) → read_owner (owner_words w m) ≡ f → w.words (Recursions m) ≡ (w.known t).saved
      by_form None r = absurd (cc (who_is None r))
      by_form (Some Free) r = absurd (cc (who_is (Some Free) r))
      by_form (Some (ByThread u)) r =
          let same : u ≡ t = same_Some _ _ (who_is (Some (ByThread u)) r) in
          let takes_over : lock x o ≡ OwnedBy t = lock_by_owner x o m names ∙ ap owner_lock r ∙ ap OwnedBy same in
          let is = afterwards.recursions.owned o m t names takes_over (λ s. cc (now_calm, s)) (λ s. cc (now_calm, s)) in
          let even_lowered = ap (λ s. recursions_lowered s o) now_calm in
          let even_ahead = ap (λ s. recursions_ahead s o) now_calm in
          omega (arith, is, even_lowered, even_ahead, saved_is)
      by_form (Some (ByRecord u p)) r =
          let same : u ≡ t = same_Some _ _ (who_is (Some (ByRecord u p)) r) in
          let rests : lock x o ≡ OnRecord t p = lock_by_owner x o m names ∙ ap owner_lock r ∙ ap (λ k. OnRecord k p) same in
          omega (arith, afterwards.recursions.on_record o m t p names rests, rest_again x Q t o p afterwards rests now_calm, saved_is)

pub no_resume_with_another_count : (w : World) (o m t : ℕ) (e : CallContext) → Valid w
    → (w.known t).running ≡ true → (w.known t).stage ≡ Resumes o → monitor_in (w.words (Mark o)) ≡ Some m
    → w.words (Recursions m) ≢ (w.known t).saved → Valid (world_after (logging_plan (Resume o) e (Stamp o) Load) t w) → ⊥
no_resume_with_another_count w o m t e v runs stage names other valid =
    let plan : StepPlan = logging_plan (Resume o) e (Stamp o) Load in
    let a = hit_fits plan t w refl runs valid in
    other (count_is w v.objects a.0 o m (w.words (Stamp o)) t (knows plan t w) stage refl refl names (running_fits w v t runs) a.1)

-- The last entry of a thread whose waiting word says that it waits is its Wait.
pub no_resume_untold : (w : World) (o i t : ℕ) (e : CallContext) → (w.known t).running ≡ true
    → waits_on (w.words (Waiting t)) i ≡ true → Valid (world_after (logging_plan (Resume o) e (Stamp o) Load) t w) → ⊥
no_resume_untold w o i t e runs waits valid =
    let plan : StepPlan = logging_plan (Resume o) e (Stamp o) Load in
    let a = hit_fits plan t w refl runs valid in
    let l = knows plan t w in
    let last = ap (λ k. last_entry k.log) (sym (with_known_here t l w.known)) ∙ a.1.waits.stamped t i waits in
    let resume = last_entry_more (w.known t).log (record { stamp = max (w.words (Stamp o)) (last_stamp (w.known t).log) + 1; entry = Resume o }) in
    let entry : Resume o ≡ Wait i = ap (λ k. k.entry) (same_Some _ _ (sym resume ∙ last)) in
    absurd (cc entry)

-- HALT. The plain objects of a valid world are those after its logs, also while a bias is being revoked, and the safepoint word is what threads know.
objects_of : (w : World) (P : List PlainObject) → IsValid w P → objects_after w.shape.objects (logs w) ≡ Some P
objects_of w P (inl fits) = fits.taken
objects_of w P (inr s) = ap (λ k. objects_after k.objects (logs w)) s.shape ∙ ap (objects_after s.before.shape.objects) (revoking_logs w P s) ∙ s.fits.taken

safe_of_valid : (w : World) (P : List PlainObject) → IsValid w P → SafepointFits w P
safe_of_valid w P (inl fits) = fits.safe
safe_of_valid w P (inr s) = s.safe

halted_says : is_halted halted_word ≡ true
halted_says = ap halted_form (read_safe-safe_of (record { running = 0; requester = None; halted = true }) (omega arith, tt))

pub no_halt_while_one_can_go_on : (w : World) (t u : ℕ) (e : CallContext) (v : Valid w) → w.words Safepoint ≡ reached_word t
    → e.unfinished ≡ (w.known t).unfinished → u < w.shape.threads → ends (w.known u).log ≡ false
    → (IsHeldUp (monitor_of v.objects) u (w.known u).unfinished → ⊥) → Valid (world_after (swap e Safepoint (reached_word t) halted_word) t w) → ⊥
no_halt_while_one_can_go_on w t u e v found goes_on within live free valid =
    let plan : StepPlan = swap e Safepoint (reached_word t) halted_word in
    let test = swap_hits (w.words Safepoint) (reached_word t) halted_word found in
    let l = knows plan t w in
    let x = hit plan t w in
    let same : world_after plan t w ≡ x = ap (λ (b : Bool). with_word_and_known plan.at (word_after plan.act (w.words plan.at)) t
    (cond b l (known_miss w.shape w.start plan (w.words plan.at) (w.known t))) w) test.0 in
    let now : Valid x = subst Valid same valid in
    let objects : now.objects ≡ v.objects = same_Some _ _ (sym (objects_of x now.objects now.is)
    ∙ ap (objects_after w.shape.objects) (logs_stay 0 w.shape.threads t l w.known refl) ∙ objects_of w v.objects v.is) in
    let halted : is_halted (x.words Safepoint) ≡ true =
    ap is_halted (with_word_there Safepoint (word_after plan.act (w.words Safepoint)) w.words ∙ test.1) ∙ halted_says in
    let stuck = ((safe_of_valid x now.objects now.is).still halted).2 in
    let unended : ends (x.known u).log ≡ false = each_with_known (λ i k. ends k.log ≡ ends (w.known i).log) t l w.known u refl (λ d. refl) ∙ live in
    let unfinished : (x.known u).unfinished ≡ (w.known u).unfinished =
    each_with_known (λ i k. k.unfinished ≡ (w.known i).unfinished) t l w.known u goes_on (λ d. refl) in
    free (subst (λ (y : List PlainObject). IsHeldUp (monitor_of y) u (w.known u).unfinished) objects
    (subst (IsHeldUp (monitor_of now.objects) u) unfinished (stuck.1 u within unended)))
