-- How a thread stands at an object's plain monitor, by the entries alone: whether it waits or was notified, and whether it was notified. With one entry more,
-- wherever it stands in the order, a thread stays notified, unless the entry is its own Resume.
use Rattle.std.proofs.Common.{◌≡◌, ℕ, ◌==◌, ◌&&◌, ◌||◌, ◌+◌, ◌-◌, nat_le, not, eq-eqb, ne_eqb, eqb-true, cond, is_none, Bool, true}
use Rattle.std.proofs.Common.{false, List, [], ◌∷◌, ◌++◌, slice_set, Option, Some, None, refl, sym, ap, ◌∙◌, subst, inl, inr}
use Rattle.std.proofs.Math.Bool.{or-true, or-false, and-true, and-false}
use Rattle.std.proofs.lemmas.Bool.{cases_eq}
use Rattle.std.proofs.lemmas.List.{get_or-set_same, get_or-set_other}
use Rattle.std.proofs.lemmas.Option.{cond_some, same_Some, get_or_from_slice_get}
use Rattle.plain_monitor.specs.declared.entry.Entry.{Entry}
use Rattle.plain_monitor.specs.declared.entry.Entry.TheVariants as entry
use Rattle.plain_monitor.specs.declared.entry.Logged.{Logged}
use Rattle.plain_monitor.specs.Monitor.{PlainMonitor, is_thread, is_listed, only_if, owns, count_of, without}
use Rattle.plain_monitor.specs.Monitor.{is_outside, enter, exit, wait, resumed, resume, calls, notify, notify_all}
use Rattle.plain_monitor.specs.Objects.{PlainObject, new_object, take_at, take_named, take_entry, named}
use Rattle.plain_monitor.specs.Order.{is_before, insert_ordered}
use Rattle.plain_monitor.specs.History.{take_all}
use Rattle.plain_history.specs.Sound.{IsSound}
use Rattle.plain_history.proofs.HeldByLog.{there}
use Rattle.plain_history.proofs.Inserting.{first_taken}
use Rattle.plain_history.proofs.SoundHistories.{monitor_kept, only_kept, hash_kept, AllSound, named_sound, sound_at}
use Rattle.plain_history.proofs.Swaps.{taken_at}
use Rattle.plain_history.proofs.Without.{without_unlisted, without_others}
use Rattle.wait_history.proofs.WaitSteps.{awaits, enter_awaits, exit_awaits, wait_awaits, resume_awaits, notify_awaits, notify_all_awaits}
use Rattle.core_world.specs.Locks.{object_of}
use Rattle.wake_ups.specs.WakeUps.{is_resume}

-- WHO WAS NOTIFIED, step by step on a monitor
listed_joined : (ps qs : List (ℕ × ℕ)) (t : ℕ) → is_listed (ps ++ qs) t ≡ (is_listed ps t || is_listed qs t)
listed_joined [] qs t = refl
listed_joined (p ∷ ps) qs t = at_head (p.0 == t) (listed_joined ps qs t)
  where
    at_head : (b : Bool) → is_listed (ps ++ qs) t ≡ (is_listed ps t || is_listed qs t)
        → (b || is_listed (ps ++ qs) t) ≡ ((b || is_listed ps t) || is_listed qs t)
    at_head true ih = refl
    at_head false ih = ih

enter_called : (m n : PlainMonitor) (u : ℕ) → enter m u ≡ Some n → n.called ≡ m.called
enter_called m n u h = by_owner (owns m u) h
  where
    by_owner : (b : Bool) → cond b (Some (record m { count = m.count + 1 }))
        (only_if (is_none m.owner && is_outside m u) (record m { owner = Some u; count = 1 })) ≡ Some n → n.called ≡ m.called
    by_owner true g = ap (λ (k : PlainMonitor). k.called) (sym (same_Some (record m { count = m.count + 1 }) n g))
    by_owner false g = ap (λ (k : PlainMonitor). k.called) (sym (cond_some (is_none m.owner && is_outside m u) _ n g).1)

exit_called : (m n : PlainMonitor) (u : ℕ) → exit m u ≡ Some n → n.called ≡ m.called
exit_called m n u h = ap (λ (k : PlainMonitor). k.called) (sym (cond_some (owns m u) _ n h).1) ∙ by_count (nat_le m.count 1)
  where
    by_count : (b : Bool) → (cond b (record m { owner = None; count = 0 }) (record m { count = m.count - 1 })).called ≡ m.called
    by_count true = refl
    by_count false = refl

wait_called : (m n : PlainMonitor) (u : ℕ) → wait m u ≡ Some n → n.called ≡ m.called
wait_called m n u h = ap (λ (k : PlainMonitor). k.called) (sym (cond_some (owns m u) _ n h).1)

resumed_called : (m n : PlainMonitor) (u t : ℕ) (c : Option ℕ) → resumed m u c ≡ Some n
    → is_listed n.called t ≡ (is_listed m.called t && not (u == t))
resumed_called m n u t None h = absurd (cc h)
resumed_called m n u t (Some k) h =
    ap (λ (x : PlainMonitor). is_listed x.called t) (sym (cond_some (is_none m.owner) _ n h).1)
    ∙ elim (cases_eq t u) [
      | inl same ↦ subst (λ v. is_listed (without m.called u) v ≡ (is_listed m.called v && not (u == v))) (sym same)
          (without_unlisted m.called u ∙ sym (ap (λ b. is_listed m.called u && not b) (eq-eqb u u refl) ∙ and-false (is_listed m.called u)))
      | inr other ↦ (without_others m.called u t other).0
          ∙ sym (ap (λ b. is_listed m.called t && not b) (ne_eqb u t (λ q. other (sym q))) ∙ and-true (is_listed m.called t))
    ]

-- of the tests whether the thread is the one that is woken, whether it waits after it, and whether it was notified before
woken_now : (a b c : Bool) → (c || (a || false)) ≡ (c || (((a || b) || c) && a))
woken_now true b c = refl
woken_now false b true = refl
woken_now false true false = refl
woken_now false false false = refl

calls_called : (m n : PlainMonitor) (t : ℕ) (ws : List (ℕ × ℕ)) (woken : Option ℕ) → m.waits ≡ ws → calls m ws woken ≡ Some n
    → is_listed n.called t ≡ (is_listed m.called t || (awaits m t && is_thread woken t))
calls_called m n t [] None e h =
    ap (λ (k : PlainMonitor). is_listed k.called t) (sym (same_Some m n h))
    ∙ sym (ap (λ b. is_listed m.called t || b) (and-false (awaits m t)) ∙ or-false (is_listed m.called t))
calls_called m n t [] (Some u) e h = absurd (cc h)
calls_called m n t (p ∷ ps) None e h = absurd (cc h)
calls_called m n t (p ∷ ps) (Some u) e h =
    let c = cond_some (p.0 == u) (record m { waits = ps; called = m.called ++ p ∷ [] }) n h in
    ap (λ (k : PlainMonitor). is_listed k.called t) (sym c.1)
    ∙ listed_joined m.called (p ∷ []) t
    ∙ woken_now (p.0 == t) (is_listed ps t) (is_listed m.called t)
    ∙ ap (λ ws. is_listed m.called t || ((is_listed ws t || is_listed m.called t) && (p.0 == t))) (sym e)
    ∙ ap (λ v. is_listed m.called t || (awaits m t && (v == t))) (eqb-true p.0 u c.0)

notify_called : (m n : PlainMonitor) (u t : ℕ) (woken : Option ℕ) → notify m u woken ≡ Some n
    → is_listed n.called t ≡ (is_listed m.called t || (awaits m t && is_thread woken t))
notify_called m n u t woken h = by_owner (owns m u) h
  where
    by_owner : (b : Bool) → cond b (calls m m.waits woken) None ≡ Some n
        → is_listed n.called t ≡ (is_listed m.called t || (awaits m t && is_thread woken t))
    by_owner true g = calls_called m n t m.waits woken refl g
    by_owner false g = absurd (cc g)

all_woken : (a c : Bool) → (c || a) ≡ (c || (a || c))
all_woken true c = refl
all_woken false true = refl
all_woken false false = refl

notify_all_called : (m n : PlainMonitor) (u t k : ℕ) → notify_all m u k ≡ Some n
    → is_listed n.called t ≡ (is_listed m.called t || awaits m t)
notify_all_called m n u t k h =
    ap (λ (x : PlainMonitor). is_listed x.called t) (sym (cond_some _ (record m { waits = []; called = m.called ++ m.waits }) n h).1)
    ∙ listed_joined m.called m.waits t ∙ all_woken (is_listed m.waits t) (is_listed m.called t)

-- HOW A THREAD STANDS at a monitor: whether it waits or was notified, and whether it was notified
abbrev pub Standing : Type 0
Standing = Bool × Bool

abbrev pub at_monitor : ℕ → PlainMonitor → Standing
at_monitor t m = (awaits m t, is_listed m.called t)

-- and after an entry of u that names this object
abbrev pub here : ℕ → ℕ → Entry → Standing → Standing
here t u (entry.Wait i) s = (s.0 || (u == t), s.1)
here t u (entry.Resume i) s = (s.0 && not (u == t), s.1 && not (u == t))
here t u (entry.Notify i woken) s = (s.0, s.1 || (s.0 && is_thread woken t))
here t u (entry.NotifyAll i woken) s = (s.0, s.1 || s.0)
here t u _ s = s

module _ (x y : PlainObject) (u t : ℕ) where
  abbrev So : Entry → PlainMonitor → Type 0
  So e n = at_monitor t n ≡ here t u e (at_monitor t x.monitor)

  abbrev Same : PlainMonitor → Type 0
  Same n = at_monitor t n ≡ at_monitor t x.monitor

  pair : {a b c d : Bool} → a ≡ b → c ≡ d → ◌≡◌ {A = Standing} (a, c) (b, d)
  pair h g = λ i. (h i, g i)

  at_object : (e : Entry) → IsSound x.monitor → take_at x u e ≡ Some y → So e y.monitor
  at_object (entry.Enter o p) s h =
      monitor_kept Same x y (enter x.monitor u)
      (λ n g. pair (enter_awaits x.monitor n u t g) (ap (λ ps. is_listed ps t) (enter_called x.monitor n u g))) h
  at_object (entry.Exit o) s h =
      monitor_kept Same x y (exit x.monitor u)
      (λ n g. pair (exit_awaits x.monitor n u t g) (ap (λ ps. is_listed ps t) (exit_called x.monitor n u g))) h
  at_object (entry.Wait o) s h =
      monitor_kept (So (entry.Wait o)) x y (wait x.monitor u)
      (λ n g. pair (wait_awaits x.monitor n u t g) (ap (λ ps. is_listed ps t) (wait_called x.monitor n u g))) h
  at_object (entry.Resume o) s h =
      monitor_kept (So (entry.Resume o)) x y (resume x.monitor u)
      (λ n g. pair (resume_awaits x.monitor n u t s g) (resumed_called x.monitor n u t (count_of x.monitor.called u) g)) h
  at_object (entry.Notify o w) s h =
      monitor_kept (So (entry.Notify o w)) x y (notify x.monitor u w)
      (λ n g. pair (notify_awaits x.monitor n u t w g) (notify_called x.monitor n u t w g)) h
  at_object (entry.NotifyAll o w) s h =
      monitor_kept (So (entry.NotifyAll o w)) x y (notify_all x.monitor u w)
      (λ n g. pair (notify_all_awaits x.monitor n u t w g) (notify_all_called x.monitor n u t w g)) h
  at_object (entry.Get o i v) s h = only_kept Same x x y _ refl refl h
  at_object (entry.Put o i v) s h = only_kept Same x (record x { slots = slice_set x.slots i v }) y _ refl refl h
  at_object (entry.Hash o v d) s h = hash_kept Same x y _ refl h
  at_object _ s h = subst (λ (z : PlainObject). Same z.monitor) (same_Some x y h) refl

module _ (t o : ℕ) where
  -- after any entry, and after these
  abbrev pub after_entry : ℕ → Entry → Option ℕ → Standing → Standing
  after_entry u e None s = s
  after_entry u e (Some i) s = cond (i == o) (here t u e s) s

  abbrev pub after_all : List (ℕ × Logged) → Standing → Standing
  after_all [] s = s
  after_all (x ∷ xs) s = after_all xs (after_entry x.0 x.1.entry (named x.1.entry) s)

  abbrev pub stands_at : List PlainObject → Standing
  stands_at objects = at_monitor t (object_of objects o).monitor

  step_stands : (P Q : List PlainObject) (u : ℕ) (e : Entry) → AllSound P → take_entry P u e ≡ Some Q
      → stands_at Q ≡ after_entry u e (named e) (stands_at P)
  step_stands P Q u e sound h = by_name (named e) h
    where
      by_name : (a : Option ℕ) → take_named P u e a ≡ Some Q → stands_at Q ≡ after_entry u e a (stands_at P)
      by_name None g = ap stands_at (sym (same_Some P Q g))
      by_name (Some i) g =
          let k = taken_at P Q u e i g in
          let was : object_of P i ≡ k.x = get_or_from_slice_get P i k.x (new_object 0) k.was in
          elim (cases_eq i o) [
            | inl s ↦ ap stands_at k.is
                ∙ ap (λ j. at_monitor t (object_of (slice_set P i k.y) j).monitor) (sym s)
                ∙ ap (λ (z : PlainObject). at_monitor t z.monitor) (get_or-set_same P i k.y (new_object 0) (there P i k.x k.was))
                ∙ at_object k.x k.y u t e (sound_at P i k.x k.was sound) k.step
                ∙ ap (λ (z : PlainObject). here t u e (at_monitor t z.monitor)) (sym was)
                ∙ ap (λ j. here t u e (at_monitor t (object_of P j).monitor)) s
                ∙ ap (λ (b : Bool). cond b (here t u e (stands_at P)) (stands_at P)) (sym (eq-eqb i o s))
            | inr d ↦ ap stands_at k.is
                ∙ ap (λ (z : PlainObject). at_monitor t z.monitor) (get_or-set_other P i o k.y (new_object 0) (λ s. d (sym s)))
                ∙ ap (λ (b : Bool). cond b (here t u e (stands_at P)) (stands_at P)) (sym (ne_eqb i o d))
          ]

  pub all_stand : (xs : List (ℕ × Logged)) (P Q : List PlainObject) → AllSound P → take_all P xs ≡ Some Q
      → stands_at Q ≡ after_all xs (stands_at P)
  all_stand [] P Q sound h = ap stands_at (sym (same_Some P Q h))
  all_stand (x ∷ xs) P Q sound h =
      let k = first_taken (take_entry P x.0 x.1.entry) xs Q h in
      all_stand xs k.0 Q (named_sound P k.0 x.0 x.1.entry (named x.1.entry) sound k.1) k.2
      ∙ ap (after_all xs) (step_stands P k.0 x.0 x.1.entry sound k.1)

  -- ONE MAY STAND AHEAD of the other: it waits or was notified where that does, and was notified where that was
  pub record Ahead (s r : Standing) : Type 0 where
    pub first : s.0 ≡ true → r.0 ≡ true
    pub second : s.1 ≡ true → r.1 ≡ true

  or_up : (a b c d : Bool) → (a ≡ true → b ≡ true) → (c ≡ true → d ≡ true) → (a || c) ≡ true → (b || d) ≡ true
  or_up true b c d f g h = ap (λ x. x || d) (f refl)
  or_up false b c d f g h = ap (λ x. b || x) (g h) ∙ or-true b

  and_up : (a b c : Bool) → (a ≡ true → b ≡ true) → (a && c) ≡ true → (b && c) ≡ true
  and_up true b c f h = ap (λ x. x && c) (f refl) ∙ h
  and_up false b c f h = absurd (cc h)

  -- what stands ahead stays so at each entry
  here_ahead : (u : ℕ) (e : Entry) (s r : Standing) → Ahead s r → Ahead (here t u e s) (here t u e r)
  here_ahead u (entry.Wait i) s r h = record { first = or_up s.0 r.0 (u == t) (u == t) h.first (λ e. e); second = h.second }
  here_ahead u (entry.Resume i) s r h =
      record { first = and_up s.0 r.0 (not (u == t)) h.first; second = and_up s.1 r.1 (not (u == t)) h.second }
  here_ahead u (entry.Notify i w) s r h =
      record {
        first = h.first;
        second = or_up s.1 r.1 (s.0 && is_thread w t) (r.0 && is_thread w t) h.second (and_up s.0 r.0 (is_thread w t) h.first);
      }
  here_ahead u (entry.NotifyAll i n) s r h = record { first = h.first; second = or_up s.1 r.1 s.0 r.0 h.second h.first }
  here_ahead u _ s r h = h

  entry_ahead : (u : ℕ) (e : Entry) (a : Option ℕ) (s r : Standing) → Ahead s r → Ahead (after_entry u e a s) (after_entry u e a r)
  entry_ahead u e None s r h = h
  entry_ahead u e (Some i) s r h = by_test (i == o)
    where
      by_test : (b : Bool) → Ahead (cond b (here t u e s) s) (cond b (here t u e r) r)
      by_test true = here_ahead u e s r h
      by_test false = h

  all_ahead : (xs : List (ℕ × Logged)) (s r : Standing) → Ahead s r → Ahead (after_all xs s) (after_all xs r)
  all_ahead [] s r h = h
  all_ahead (x ∷ xs) s r h = all_ahead xs _ _ (entry_ahead x.0 x.1.entry (named x.1.entry) s r h)

  -- an entry that isn't t's Resume of o puts nobody back
  or_more : (a b : Bool) → a ≡ true → (a || b) ≡ true
  or_more a b h = ap (λ x. x || b) h

  kept_with : (a b : Bool) → b ≡ false → a ≡ true → (a && not b) ≡ true
  kept_with a b e h = (λ i. h i && not (e i))

  ahead_here : (u i : ℕ) (e : Entry) (s : Standing) → named e ≡ Some i → (i == o) ≡ true → (is_resume o e && (u == t)) ≡ false → Ahead s (here t u e s)
  ahead_here u i (entry.Wait j) s n same other = record { first = or_more s.0 (u == t); second = λ h. h }
  ahead_here u i (entry.Resume j) s n same other =
      let e : j ≡ i = same_Some j i n in
      let not_mine : (u == t) ≡ false = ap (λ b. b && (u == t)) (sym (ap (λ k. k == o) e ∙ same)) ∙ other in
      record { first = kept_with s.0 (u == t) not_mine; second = kept_with s.1 (u == t) not_mine }
  ahead_here u i (entry.Notify j w) s n same other = record { first = λ h. h; second = or_more s.1 (s.0 && is_thread w t) }
  ahead_here u i (entry.NotifyAll j k) s n same other = record { first = λ h. h; second = or_more s.1 s.0 }
  ahead_here u i _ s n same other = record { first = λ h. h; second = λ h. h }

  ahead_entry : (u : ℕ) (e : Entry) (s : Standing) → (is_resume o e && (u == t)) ≡ false → Ahead s (after_entry u e (named e) s)
  ahead_entry u e s other = by_name (named e) refl
    where
      by_name : (a : Option ℕ) → named e ≡ a → Ahead s (after_entry u e a s)
      by_name None n = record { first = λ h. h; second = λ h. h }
      by_name (Some i) n = by_test (i == o) refl
        where
          by_test : (b : Bool) → (i == o) ≡ b → Ahead s (cond b (here t u e s) s)
          by_test true same = ahead_here u i e s n same other
          by_test false same = record { first = λ h. h; second = λ h. h }

  pub inserted_ahead : (x : ℕ × Logged) (ys : List (ℕ × Logged)) (s : Standing) → (is_resume o x.1.entry && (x.0 == t)) ≡ false
      → Ahead (after_all ys s) (after_all (insert_ordered x ys) s)
  inserted_ahead x [] s other = ahead_entry x.0 x.1.entry s other
  inserted_ahead x (y ∷ ys) s other =
      by_test (is_before x y) (inserted_ahead x ys (after_entry y.0 y.1.entry (named y.1.entry) s) other)
    where
      by_test : (b : Bool)
          → Ahead (after_all (y ∷ ys) s) (after_all (insert_ordered x ys) (after_entry y.0 y.1.entry (named y.1.entry) s))
          → Ahead (after_all (y ∷ ys) s) (after_all (cond b (x ∷ y ∷ ys) (y ∷ insert_ordered x ys)) s)
      by_test true later = all_ahead (y ∷ ys) s _ (ahead_entry x.0 x.1.entry s other)
      by_test false later = later
