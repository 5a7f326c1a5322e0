-- A thread is on the list of those who were notified until it logs its own Resume: others' entries leave it there. So a Resume isn't taken from a
-- thread that nobody called, wherever in the order its stamp puts it.
use Rattle.core_locks.proofs.Prelude.{◌≡◌, ◌≢◌, ℕ, ◌+◌, ◌-◌, ◌<◌, ◌==◌, ◌&&◌, ◌||◌, nat_le, nat_lt, Bool, true, false, if◌then◌else◌, List}
use Rattle.core_locks.proofs.Prelude.{[], ◌∷◌, ◌++◌, length, slice_get, slice_set, Option, Some, None, is_none, refl, sym, ap, ◌∙◌, arith}
use Rattle.core_locks.proofs.Prelude.{inl, inr, same_Some, max, Entry, Enter, Exit, Get, Put, Wait, Resume, Notify, NotifyAll, Hash, Logged}
use Rattle.core_locks.proofs.Prelude.{owns, is_listed, count_of, only_if, calls, without, resumed, PlainObject, take_at, take_entry, take_named}
use Rattle.core_locks.proofs.Prelude.{with_monitor, hashed, taken_at, last_stamp, log_of, objects_after, Stamp, Waiting, StepPlan, Resumes}
use Rattle.core_locks.proofs.Prelude.{World, logs, notified_at, says_notified, CallContext, logging_plan, Load, world_after, Valid, by_equal}
use Rattle.core_locks.proofs.Prelude.{logs_length, log_at, logs_grow, running_fits, PlainMonitor, enter, exit, is_outside}
use Rattle.plain_monitor.specs.Objects.{named, has_value}
use Rattle.plain_history.proofs.Swaps.{elsewhere, hash_taken}
use Rattle.plain_history.proofs.Without.{without_others}
use Rattle.core_locks.proofs.enter_exit.RefutedOwning.{holds_where_legal, same_got}
use Rattle.core_locks.proofs.RefutedSteps.{knows, hit_fits}
use Rattle.core_locks.proofs.RefutedTaken.{taken_here, object_before, object_after}
use Rattle.core_locks.proofs.wait.TellLists.{listed_join}

-- ONE ENTRY of another
module _ (x y : PlainObject) (t u : ℕ) (other : u ≢ t) (listed : is_listed x.monitor.called t ≡ true) where
  abbrev m : PlainMonitor
  m = x.monitor

  abbrev Still : PlainMonitor → Type 0
  Still n = is_listed n.called t ≡ true

  -- it makes some monitor of it, of which this holds
  by_monitor : (a : Option PlainMonitor) → ((n : PlainMonitor) → a ≡ Some n → Still n) → with_monitor x a ≡ Some y → Still y.monitor
  by_monitor None h e = absurd (cc e)
  by_monitor (Some n) h e = ap (λ (z : PlainObject). is_listed z.monitor.called t) (sym (same_Some _ _ e)) ∙ h n refl

  by_test : (b : Bool) (k : PlainMonitor) → Still k → (n : PlainMonitor) → only_if b k ≡ Some n → Still n
  by_test true k h n e = ap (λ (z : PlainMonitor). is_listed z.called t) (sym (same_Some _ _ e)) ∙ h
  by_test false k h n e = absurd (cc e)

  joined : (ps : List (ℕ × ℕ)) → is_listed (m.called ++ ps) t ≡ true
  joined ps = listed_join m.called ps t ∙ ap (λ b. b || is_listed ps t) listed

  entered : (a b : Bool) (n : PlainMonitor)
      → (if a then Some (record m { count = m.count + 1 }) else only_if b (record m { owner = Some u; count = 1 })) ≡ Some n → Still n
  entered true b n e = ap (λ (z : PlainMonitor). is_listed z.called t) (sym (same_Some _ _ e)) ∙ listed
  entered false b n e = by_test b (record m { owner = Some u; count = 1 }) listed n e

  left : (b : Bool) → Still (if b then record m { owner = None; count = 0 } else record m { count = m.count - 1 })
  left true = listed
  left false = listed

  has_again : (c : Option ℕ) (n : PlainMonitor) → resumed m u c ≡ Some n → Still n
  has_again None n e = absurd (cc e)
  has_again (Some k) n e =
      by_test (is_none m.owner) (record m { owner = Some u; count = k; called = without m.called u })
      ((without_others m.called u t (λ s. other (sym s))).0 ∙ listed) n e

  notified : (ps : List (ℕ × ℕ)) (woken : Option ℕ) (n : PlainMonitor) → calls m ps woken ≡ Some n → Still n
  notified [] None n e = ap (λ (z : PlainMonitor). is_listed z.called t) (sym (same_Some _ _ e)) ∙ listed
  notified [] (Some v) n e = absurd (cc e)
  notified (p ∷ ps) None n e = absurd (cc e)
  notified (p ∷ ps) (Some v) n e = by_test (p.0 == v) (record m { waits = ps; called = m.called ++ p ∷ [] }) (joined (p ∷ [])) n e

  by_owner : (b : Bool) (woken : Option ℕ) (n : PlainMonitor) → (if b then calls m m.waits woken else None) ≡ Some n → Still n
  by_owner true woken n e = notified m.waits woken n e
  by_owner false woken n e = absurd (cc e)

  same_if : (b : Bool) (z : PlainObject) → z.monitor ≡ m → only_if b z ≡ Some y → Still y.monitor
  same_if true z same e = ap (λ (k : PlainObject). is_listed k.monitor.called t) (sym (same_Some _ _ e))
      ∙ ap (λ (k : PlainMonitor). is_listed k.called t) same ∙ listed
  same_if false z same e = absurd (cc e)

  still_called : (e : Entry) → take_at x u e ≡ Some y → Still y.monitor
  still_called (Enter o path) k = by_monitor (enter m u) (entered (owns m u) (is_none m.owner && is_outside m u)) k
  still_called (Exit o) k = by_monitor (exit m u) (by_test (owns m u) _ (left (nat_le m.count 1))) k
  still_called (Wait o) k = by_monitor _ (by_test (owns m u) (record m { owner = None; count = 0; waits = m.waits ++ (u, m.count) ∷ [] }) listed) k
  still_called (Resume o) k = by_monitor _ (has_again (count_of m.called u)) k
  still_called (Notify o woken) k = by_monitor _ (by_owner (owns m u) woken) k
  still_called (NotifyAll o n) k =
      by_monitor _ (by_test (owns m u && (length m.waits == n)) (record m { waits = []; called = m.called ++ m.waits }) (joined m.waits)) k
  still_called (Get o slot value) k = same_if (owns m u && has_value (slice_get x.slots slot) value) x refl k
  still_called (Put o slot value) k = same_if (owns m u && nat_lt slot (length x.slots)) (record x { slots = slice_set x.slots slot value }) refl k
  still_called (Hash o value drawn) k = ap (λ (z : PlainObject). is_listed z.monitor.called t) (sym (hash_taken x y (hashed x.hash value) k).2) ∙ listed
  still_called _ k = ap (λ (z : PlainObject). is_listed z.monitor.called t) (sym (same_Some _ _ k)) ∙ listed

called_stays : (P Q : List PlainObject) (t u o : ℕ) (e : Entry) → u ≢ t → take_entry P u e ≡ Some Q
    → is_listed (notified_at P o) t ≡ true → is_listed (notified_at Q o) t ≡ true
called_stays P Q t u o e other taken listed = by_named (named e) refl
  where
    by_named : (n : Option ℕ) → named e ≡ n → is_listed (notified_at Q o) t ≡ true
    by_named None f = ap (λ R. is_listed (notified_at R o) t) (sym (same_Some _ _ (ap (take_named P u e) (sym f) ∙ taken))) ∙ listed
    by_named (Some i) f = by_equal o i
        (λ s.
        let here = taken_at P Q u e o (ap (take_named P u e) (ap Some s ∙ sym f) ∙ taken) in
        let was : is_listed here.x.monitor.called t ≡ true =
        ap (λ (k : PlainObject). is_listed k.monitor.called t) (sym (object_before P Q u o e here)) ∙ listed in
        ap (λ (k : PlainObject). is_listed k.monitor.called t) (object_after P Q u o e here) ∙ still_called here.x here.y t u other was e here.step)
        (λ d. ap (λ (k : PlainObject). is_listed k.monitor.called t) (same_got P Q o (elsewhere P Q u e i o taken f (λ s. d (sym s)))) ∙ listed)

-- A RESUME is taken from one who was notified
counted_listed : (ps : List (ℕ × ℕ)) (t n : ℕ) → count_of ps t ≡ Some n → is_listed ps t ≡ true
counted_listed [] t n e = absurd (cc e)
counted_listed (p ∷ ps) t n e = at_head (p.0 == t) e (counted_listed ps t n)
  where
    at_head : (b : Bool) → (if b then Some p.1 else count_of ps t) ≡ Some n → (count_of ps t ≡ Some n → is_listed ps t ≡ true) → (b || is_listed ps t) ≡ true
    at_head true h ih = refl
    at_head false h ih = ih h

resumes_called : (P Q : List PlainObject) (t o : ℕ) → take_entry P t (Resume o) ≡ Some Q → is_listed (notified_at P o) t ≡ true
resumes_called P Q t o taken =
    let here = taken_here P Q t o (Resume o) refl taken in
    ap (λ (k : PlainObject). is_listed k.monitor.called t) (object_before P Q t o (Resume o) here)
    ∙ by_count here.x here.y (count_of here.x.monitor.called t) refl here.step
  where
    by_count : (x y : PlainObject) (c : Option ℕ) → count_of x.monitor.called t ≡ c
        → with_monitor x (resumed x.monitor t c) ≡ Some y → is_listed x.monitor.called t ≡ true
    by_count x y None e h = absurd (cc h)
    by_count x y (Some n) e h = counted_listed x.monitor.called t n e

-- WORLDS
pub no_resume_uncalled : (w : World) (o t : ℕ) (e : CallContext) (v : Valid w) → (w.known t).running ≡ true
    → is_listed (notified_at v.objects o) t ≡ false → Valid (world_after (logging_plan (Resume o) e (Stamp o) Load) t w) → ⊥
no_resume_uncalled w o t e v runs uncalled valid =
    let plan : StepPlan = logging_plan (Resume o) e (Stamp o) Load in
    let before = running_fits w v t runs in
    let a = hit_fits plan t w refl runs valid in
    let l = knows plan t w in
    let y : Logged = record { stamp = max (w.words (Stamp o)) (last_stamp (w.known t).log) + 1; entry = Resume o } in
    let within = before.safe.few t runs in
    let many : t < length (logs w) = omega (arith, within, logs_length 0 w.shape.threads w.known) in
    let its : log_of (logs w) t ≡ (w.known t).log = log_at 0 w.shape.threads t t w.known (omega arith) within in
    let up : last_stamp (log_of (logs w) t) < y.stamp = omega (arith, ap last_stamp its) in
    let listed = holds_where_legal (λ R. is_listed (notified_at R o) t ≡ true) w.shape.objects
    (logs w) t y v.objects a.0 (λ R S u f other. called_stays R S t u o f other) (λ R S. resumes_called R S t o)
    before.legal.rises many up before.taken (ap (objects_after w.shape.objects) (sym (logs_grow w.shape.threads t y l w.known within refl)) ∙ a.1.taken) in
    absurd (cc (listed, uncalled))

-- who was notified has a waiting word that says so, or has the lock again
pub no_resume_unless_told : (w : World) (o t : ℕ) (e : CallContext) → Valid w → (w.known t).running ≡ true
    → says_notified (w.words (Waiting t)) o ≡ false → (w.words (Waiting t) ≡ 0 → (w.known t).stage ≢ Resumes o)
    → Valid (world_after (logging_plan (Resume o) e (Stamp o) Load) t w) → ⊥
no_resume_unless_told w o t e v runs untold out = no_resume_uncalled w o t e v runs (by_list (is_listed (notified_at v.objects o) t) refl)
  where
    by_list : (b : Bool) → is_listed (notified_at v.objects o) t ≡ b → is_listed (notified_at v.objects o) t ≡ false
    by_list false listed = listed
    by_list true listed = elim ((running_fits w v t runs).waits.notified t o listed) [
      | inl told ↦ absurd (cc (told, untold))
      | inr again ↦ absurd (out again.0 again.1)
    ]
